-- Keys as sets, and the keys of rules that are added one by one.
use Rattle.std.proofs.Common.{◌≡◌, ℕ, nat_eq, Bool, true, false, cond, ◌||◌, List, [], ◌∷◌, ◌++◌, map, Option, Some, None, refl, sym, ap, subst, ◌∙◌, append_assoc, true≢false, inl, inr, fold}
use Rattle.std.specs.List.{list_any}
use Rattle.std.proofs.lemmas.Bool.{and_from, and_parts, cases_Bool, cond_both, eq-eqb, or_cases, or_left, or_right}
use Rattle.std.proofs.lemmas.List.{append-nil, map-append}
use Rattle.std.proofs.lemmas.List.Folds.{list_any-append}
use Rattle.std.proofs.lemmas.Map.Views.{exact_unsigned_eq}
use Rattle.sql_model.specs.declared.statement.TableRule.{TableRule}
use Rattle.sql_model.specs.declared.statement.TableRule.TheVariants as rule
use Rattle.sql_model.specs.Syntax.{Name}
use Rattle.schema_read.specs.Keys.{KeyRule, is_part, same_set, has_key, if_new, first_of_each, stands_for, keys_from, primary_of, places_in}
use Rattle.schema_read.specs.Tables.{written_keys, table_of}
use Rattle.schema_read.specs.Building.{with_key, with_rule, first_primary, table_with, built_table}

-- ---- sets
abbrev pub is_in : ℕ → List ℕ → Bool
is_in x ys = list_any (λ y. nat_eq y x) ys

pub iff : (a b : Bool) → (a ≡ true → b ≡ true) → (b ≡ true → a ≡ true) → a ≡ b
iff true b f g = sym (f refl)
iff false true f g = g refl
iff false false f g = refl

-- what is in a part is in the whole
pub in_whole : (x : ℕ) (xs ys : List ℕ) → is_part xs ys ≡ true → is_in x xs ≡ true → is_in x ys ≡ true
in_whole x [] ys part member = absurd (true≢false (sym member))
in_whole x (z ∷ xs) ys part member =
    let parts = and_parts (is_in z ys) (is_part xs ys) part in
    elim (or_cases (nat_eq z x) (is_in x xs) member) [ inl is ↦ subst (λ n. is_in n ys ≡ true) (exact_unsigned_eq z x is) parts.0 | inr later ↦ in_whole x xs ys parts.1 later ]

part_part : (xs ys zs : List ℕ) → is_part xs ys ≡ true → is_part ys zs ≡ true → is_part xs zs ≡ true
part_part [] ys zs p q = refl
part_part (x ∷ xs) ys zs p q =
    let parts = and_parts (is_in x ys) (is_part xs ys) p in
    and_from (is_in x zs) (is_part xs zs) (in_whole x ys zs q parts.0) (part_part xs ys zs parts.1 q)

pub set_sym : (xs ys : List ℕ) → same_set xs ys ≡ true → same_set ys xs ≡ true
set_sym xs ys e = let p = and_parts (is_part xs ys) (is_part ys xs) e in and_from (is_part ys xs) (is_part xs ys) p.1 p.0

pub set_trans : (xs ys zs : List ℕ) → same_set xs ys ≡ true → same_set ys zs ≡ true → same_set xs zs ≡ true
set_trans xs ys zs e f =
    let p = and_parts (is_part xs ys) (is_part ys xs) e in
    let q = and_parts (is_part ys zs) (is_part zs ys) f in
    and_from (is_part xs zs) (is_part zs xs) (part_part xs ys zs p.0 q.0) (part_part zs ys xs q.1 p.1)

pub part_self : (xs ys : List ℕ) → ((x : ℕ) → is_in x xs ≡ true → is_in x ys ≡ true) → is_part xs ys ≡ true
part_self [] ys within = refl
part_self (x ∷ xs) ys within =
    and_from (is_in x ys) (is_part xs ys) (within x (or_left (nat_eq x x) (is_in x xs) (eq-eqb x x refl)))
    (part_self xs ys (λ z m. within z (or_right (nat_eq x z) (is_in z xs) m)))

pub set_self : (xs : List ℕ) → same_set xs xs ≡ true
set_self xs = let whole = part_self xs xs (λ x m. m) in and_from (is_part xs xs) (is_part xs xs) whole whole

set_congr : (k xs ys : List ℕ) → same_set xs ys ≡ true → same_set k xs ≡ same_set k ys
set_congr k xs ys e =
    iff (same_set k xs) (same_set k ys) (λ p. set_trans k xs ys p e) (λ p. set_trans k ys xs p (set_sym xs ys e))

-- ---- the first key of each set
if_new-append : (e : List (List ℕ)) (x : List ℕ) (xs ys : List (List ℕ)) → if_new e x (xs ++ ys) ≡ if_new e x xs ++ ys
if_new-append e x xs ys = elim (cases_Bool (has_key e x)) [ inl old ↦ rw old refl | inr new ↦ rw new refl ]

first_push : (e ks : List (List ℕ)) (k : List ℕ) → first_of_each e (ks ++ k ∷ []) ≡ first_of_each e ks ++ if_new (e ++ ks) k []
first_push e [] k = ap (λ es. if_new es k []) (sym (append-nil e))
first_push e (x ∷ ks) k =
    ap (if_new e x) (first_push (e ++ x ∷ []) ks k ∙ ap (λ es. first_of_each (e ++ x ∷ []) ks ++ if_new es k []) (append_assoc e (x ∷ []) ks))
    ∙ if_new-append e x (first_of_each (e ++ x ∷ []) ks) (if_new (e ++ x ∷ ks) k [])

pub among : (k x : List ℕ) (e : List (List ℕ)) → has_key e x ≡ true → same_set k x ≡ true → has_key e k ≡ true
among k x [] h t = h
among k x (y ∷ e) h t = elim (or_cases (same_set x y) (has_key e x) h) [
  | inl same ↦ or_left (same_set k y) (has_key e k) (set_trans k x y t same)
  | inr later ↦ or_right (same_set k y) (has_key e k) (among k x e later t)
]

when_new : (a t f r : Bool) → ((a || (t || false)) || f) ≡ ((a || (t || false)) || r) → (a || (t || f)) ≡ (a || (t || r))
when_new true t f r h = refl
when_new false true f r h = refl
when_new false false f r h = h

when_old : (a t f r : Bool) → (t ≡ true → a ≡ true) → ((a || (t || false)) || f) ≡ ((a || (t || false)) || r) → (a || f) ≡ (a || (t || r))
when_old true t f r p h = refl
when_old false true f r p h = absurd (true≢false (sym (p refl)))
when_old false false f r p h = h

first_has : (k : List ℕ) (e xs : List (List ℕ)) → (has_key e k || has_key (first_of_each e xs) k) ≡ (has_key e k || has_key xs k)
first_has k e [] = refl
first_has k e (x ∷ xs) =
    let others = first_of_each (e ++ x ∷ []) xs in
    let rest = subst (λ (b : Bool). (b || has_key others k) ≡ (b || has_key xs k)) (list_any-append (same_set k) e (x ∷ [])) (first_has k (e ++ x ∷ []) xs) in
    cond_both (has_key e x) others (x ∷ others) (λ z. (has_key e k || has_key z k) ≡ (has_key e k || has_key (x ∷ xs) k))
    (λ old. when_old (has_key e k) (same_set k x) (has_key others k) (has_key xs k) (λ t. among k x e old t) rest)
    (λ new. when_new (has_key e k) (same_set k x) (has_key others k) (has_key xs k) rest)

-- ---- the primary key in place of another
standing_set : (k : List ℕ) (p : Option (List ℕ)) (x : List ℕ) → same_set k (stands_for p x) ≡ same_set k x
standing_set k None x = refl
standing_set k (Some p) x = cond_both (same_set p x) p x (λ z. same_set k z ≡ same_set k x) (λ is. set_congr k p x is) (λ isnt. refl)

standing_has : (k : List ℕ) (p : Option (List ℕ)) (xs : List (List ℕ)) → has_key (map (stands_for p) xs) k ≡ has_key xs k
standing_has k p [] = refl
standing_has k p (x ∷ xs) = rw (standing_set k p x, standing_has k p xs) refl

pub kept_has : (k : List ℕ) (p : Option (List ℕ)) (ks : List (List ℕ)) → has_key (keys_from p ks) k ≡ has_key ks k
kept_has k p ks = standing_has k p (first_of_each [] ks) ∙ first_has k [] ks

-- a further key
pub keys_push : (p : Option (List ℕ)) (ks : List (List ℕ)) (k : List ℕ) → keys_from p (ks ++ k ∷ []) ≡ with_key p (keys_from p ks) k
keys_push p ks k =
    ap (map (stands_for p)) (first_push [] ks k) ∙ map-append (stands_for p) (first_of_each [] ks) (if_new ks k [])
    ∙ by (has_key ks k) ∙ ap (λ b. cond b (keys_from p ks) (keys_from p ks ++ stands_for p k ∷ [])) (sym (kept_has k p ks))
  where
    by : (b : Bool) → keys_from p ks ++ map (stands_for p) (cond b [] (k ∷ [])) ≡ cond b (keys_from p ks) (keys_from p ks ++ stands_for p k ∷ [])
    by true = append-nil (keys_from p ks)
    by false = refl

-- ---- the rules of a table
abbrev pub sets : List KeyRule → List (List ℕ)
sets rules = map (λ r. r.columns) rules

keys_after-from : (columns : List Name) (p : Option (List ℕ)) (ks : List (List ℕ)) (rules : List TableRule)
    → fold (with_rule columns p) (keys_from p ks) rules ≡ keys_from p (ks ++ sets (written_keys columns rules))
keys_after-from columns p ks [] = ap (keys_from p) (sym (append-nil ks))
keys_after-from columns p ks (rule.Key primary names at ∷ rules) =
    let key = places_in columns names in
    ap (λ keys. fold (with_rule columns p) keys rules) (sym (keys_push p ks key))
    ∙ keys_after-from columns p (ks ++ key ∷ []) rules ∙ ap (keys_from p) (append_assoc ks (key ∷ []) (sets (written_keys columns rules)))
keys_after-from columns p ks (rule.Foreign names table target ∷ rules) = keys_after-from columns p ks rules

primary_first : (columns : List Name) (rules : List TableRule) → first_primary columns rules ≡ primary_of (written_keys columns rules)
primary_first columns [] = refl
primary_first columns (rule.Key true names at ∷ rules) = refl
primary_first columns (rule.Key false names at ∷ rules) = primary_first columns rules
primary_first columns (rule.Foreign names table target ∷ rules) = primary_first columns rules

-- the table that is built is the one that is declared
pub built_table-is : (number : ℕ) (columns : List Name) (rules : List TableRule) → built_table number columns rules ≡ table_of number columns (written_keys columns rules)
built_table-is number columns rules =
    ap (λ keys. table_with number columns (first_primary columns rules) keys) (keys_after-from columns (first_primary columns rules) [] rules)
    ∙ ap (λ p. table_with number columns p (keys_from p (sets (written_keys columns rules)))) (primary_first columns rules)
