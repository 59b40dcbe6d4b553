-- The key of a unique index, added to a table.
use Rattle.std.proofs.Common.{◌≡◌, ℕ, ◌<◌, ◌+◌, Bool, true, false, cond, ◌||◌, List, [], ◌∷◌, ◌++◌, length, Option, Some, None, option_and_then, refl, sym, ap, subst, ◌∙◌, true≢false, inl, inr, arith}
use Rattle.std.specs.Prelude.{position}
use Rattle.std.specs.List.{list_any, position_or_len}
use Rattle.std.proofs.lemmas.Bool.{cases_Bool, lt-ltb, or_left, or_right}
use Rattle.std.proofs.lemmas.Option.{none-some, same_Some}
use Rattle.std.proofs.lemmas.List.{map-append}
use Rattle.std.proofs.lemmas.List.Folds.{list_any-append}
use Rattle.sql_model.specs.declared.schema.Table.{Table}
use Rattle.sql_model.specs.Syntax.{Name}
use Rattle.schema_read.specs.Keys.{KeyRule, same_set, has_key, stands_for, keys_from, keys_of, primary_of, place_of_key}
use Rattle.schema_read.specs.Tables.{table_of}
use Rattle.schema_read.specs.Building.{with_key, with_unique}
use Rattle.schema_read.proofs.built.KeyLaws.{set_sym, set_self, among, kept_has, keys_push, sets}

-- ---- places of what stands already
pub found_below : {X : Type 0} (p : X → Bool) (xs : List X) → list_any p xs ≡ true → position_or_len p xs < length xs
found_below p [] h = absurd (true≢false (sym h))
found_below p (x ∷ xs) h = elim (cases_Bool (p x)) [
  | inl is ↦ rw is (omega arith)
  | inr isnt ↦ let later : position_or_len p xs < length xs = found_below p xs (rw isnt at h) in rw isnt (omega (arith, later))
]

found_first : {X : Type 0} (p : X → Bool) (xs ys : List X) → list_any p xs ≡ true → position_or_len p (xs ++ ys) ≡ position_or_len p xs
found_first p [] ys h = absurd (true≢false (sym h))
found_first p (x ∷ xs) ys h = elim (cases_Bool (p x)) [ inl is ↦ rw is refl | inr isnt ↦ rw isnt (ap (λ n. 1 + n) (found_first p xs ys (rw isnt at h))) ]

-- the first place that passes stays where more follows
pub found_place : {X : Type 0} (p : X → Bool) (xs : List X) → list_any p xs ≡ true → position p xs ≡ Some (position_or_len p xs)
found_place p xs h = rw (lt-ltb (position_or_len p xs) (length xs) (found_below p xs h)) refl

found_stays : {X : Type 0} (p : X → Bool) (xs ys : List X) → list_any p xs ≡ true → position p (xs ++ ys) ≡ position p xs
found_stays p xs ys h =
    found_place p (xs ++ ys) (list_any-append p xs ys ∙ ap (λ b. b || list_any p ys) h)
    ∙ ap Some (found_first p xs ys h) ∙ sym (found_place p xs h)

-- ---- the primary key among the keys
primary_among : (rules : List KeyRule) (q : List ℕ) → primary_of rules ≡ Some q → has_key (sets rules) q ≡ true
primary_among [] q h = absurd (none-some q h)
primary_among (r ∷ rules) q h = elim (cases_Bool r.is_primary) [
  | inl is ↦ or_left (same_set q r.columns) (has_key (sets rules) q) (subst (λ k. same_set q k ≡ true) (sym (same_Some r.columns q (rw is at h))) (set_self q))
  | inr isnt ↦ or_right (same_set q r.columns) (has_key (sets rules) q) (primary_among rules q (rw isnt at h))
]

pub primary_kept : (rules : List KeyRule) (q : List ℕ) → primary_of rules ≡ Some q → has_key (keys_of rules) q ≡ true
primary_kept rules q h = kept_has q (primary_of rules) (sets rules) ∙ primary_among rules q h

-- ---- a further key
abbrev pub unique_rule : List ℕ → KeyRule
unique_rule key = record { is_primary = false; columns = key }

primary_push : (rules : List KeyRule) (key : List ℕ) → primary_of (rules ++ unique_rule key ∷ []) ≡ primary_of rules
primary_push [] key = refl
primary_push (r ∷ rules) key = elim (cases_Bool r.is_primary) [ inl is ↦ rw is refl | inr isnt ↦ rw isnt (primary_push rules key) ]

-- a key that is new stands for itself
new_stands : (rules : List KeyRule) (key : List ℕ) (p : Option (List ℕ)) → primary_of rules ≡ p → has_key (keys_of rules) key ≡ false → stands_for p key ≡ key
new_stands rules key None is new = refl
new_stands rules key (Some q) is new = elim (cases_Bool (same_set q key)) [
  | inl same ↦ absurd (true≢false (sym (among key q (keys_of rules) (primary_kept rules q is) (set_sym q key same)) ∙ new))
  | inr other ↦ rw other refl
]

place_stays : (rules : List KeyRule) (others : List (List ℕ)) (p : Option (List ℕ)) → primary_of rules ≡ p
    → option_and_then (place_of_key (keys_of rules ++ others)) p ≡ option_and_then (place_of_key (keys_of rules)) p
place_stays rules others None is = refl
place_stays rules others (Some q) is = found_stays (same_set q) (keys_of rules) others (primary_kept rules q is)

abbrev table_at : ℕ → List Name → List (List ℕ) → Option ℕ → Table
table_at number columns keys primary = record { number = number; columns = columns; keys = keys; primary = primary }

module _ (number : ℕ) (columns : List Name) (rules : List KeyRule) (key : List ℕ) where
  abbrev table : Table
  table = table_of number columns rules

  abbrev chosen : Bool → List (List ℕ)
  chosen b = cond b (keys_of rules) (keys_of rules ++ stands_for (primary_of rules) key ∷ [])

  abbrev pushed : List (List ℕ)
  pushed = with_key (primary_of rules) (keys_of rules) key

  keys-pushed : keys_of (rules ++ unique_rule key ∷ []) ≡ pushed
  keys-pushed =
      ap (λ p. keys_from p (sets (rules ++ unique_rule key ∷ []))) (primary_push rules key)
      ∙ ap (keys_from (primary_of rules)) (map-append (λ r. r.columns) rules (unique_rule key ∷ []))
      ∙ keys_push (primary_of rules) (sets rules) key

  pub unique_added : table_of number columns (rules ++ unique_rule key ∷ []) ≡ with_unique (table_of number columns rules) key
  unique_added =
      ap (λ keys. table_at number columns keys (option_and_then (place_of_key keys) (primary_of (rules ++ unique_rule key ∷ [])))) keys-pushed
      ∙ ap (λ p. table_at number columns pushed (option_and_then (place_of_key pushed) p)) (primary_push rules key)
      ∙ by (has_key (keys_of rules) key) refl
    where
      by : (b : Bool) → has_key (keys_of rules) key ≡ b
          → table_at number columns (chosen b) (option_and_then (place_of_key (chosen b)) (primary_of rules))
          ≡ cond b table (record table { keys = keys_of rules ++ key ∷ [] })
      by true e = refl
      by false e =
          ap (λ k. table_at number columns (keys_of rules ++ k ∷ []) (option_and_then (place_of_key (keys_of rules ++ k ∷ [])) (primary_of rules)))
          (new_stands rules key (primary_of rules) refl e)
          ∙ ap (table_at number columns (keys_of rules ++ key ∷ [])) (place_stays rules (key ∷ []) (primary_of rules) refl)
