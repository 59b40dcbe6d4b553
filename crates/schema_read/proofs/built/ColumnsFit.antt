-- The columns of keys that pass the checks are columns of their table.
use Rattle.std.proofs.Common.{◌≡◌, ℕ, zero, suc, ◌<◌, true, ◌||◌, List, [], ◌∷◌, ◌++◌, map, length, slice_get, Option, Some, None, refl, sym, subst, unwrap_or, inl, inr}
use Rattle.std.specs.Prelude.{not}
use Rattle.std.specs.List.{list_any}
use Rattle.std.proofs.lemmas.Bool.{cases_Bool, cond_both, not-false, or_left, or_right}
use Rattle.std.proofs.lemmas.Option.{none-some, same_Some}
use Rattle.data_model.specs.Lists.{Each}
use Rattle.sql_model.specs.declared.statement.NameAt.{NameAt}
use Rattle.sql_model.specs.declared.statement.TableRule.{TableRule}
use Rattle.sql_model.specs.declared.statement.TableRule.TheVariants as rule
use Rattle.sql_model.specs.declared.schema.Table.{Table}
use Rattle.sql_model.specs.Columns.{same_name}
use Rattle.sql_model.specs.Syntax.{Name}
use Rattle.schema_read.specs.declared.fault.SchemaCode.TheVariants as code
use Rattle.schema_read.specs.Faults.{Relations, repeated_fault, column_fault, columns_fault, is_primary_rule, rule_fault}
use Rattle.schema_read.specs.Keys.{KeyRule, is_among, place_in, places_in, has_key, first_of_each, stands_for, same_set, keys_of, primary_of}
use Rattle.schema_read.specs.Order.{fault_if, or_else, first_along}
use Rattle.schema_read.specs.Tables.{written_keys}
use Rattle.schema_read.proofs.built.KeyLaws.{sets, set_self}
use Rattle.schema_read.proofs.built.Links.{both_pass, no_fault}
use Rattle.schema_read.proofs.built.UniqueKeys.{found_below, found_place}

-- ---- names of columns
abbrev pub Within : List Name → List ℕ → Type 0
Within columns places = Each (λ place. place < length columns) places

place_within : (columns : List Name) (name : Name) → is_among name columns ≡ true → place_in columns name < length columns
place_within columns name h =
    subst (λ o. unwrap_or o (length columns) < length columns) (sym (found_place (λ other. same_name other name) columns h))
    (found_below (λ other. same_name other name) columns h)

along_within : (columns : List Name) (e names : List NameAt) → first_along (column_fault columns) e names ≡ None → Within columns (places_in columns names)
along_within columns e [] h = tt
along_within columns e (n ∷ names) h =
    let checks = both_pass (column_fault columns e n) (first_along (column_fault columns) (e ++ n ∷ []) names) h in
    let first = both_pass (fault_if (not (is_among n.name columns)) code.UnknownColumn n.at) (or_else (repeated_fault e n) None) checks.0 in
    (place_within columns n.name (not-false (is_among n.name columns) (no_fault _ _ _ first.0)), along_within columns (e ++ n ∷ []) names checks.1)

pub places_within : (columns : List Name) (names : List NameAt) → columns_fault columns names ≡ None → Within columns (places_in columns names)
places_within columns names h = along_within columns [] names h

-- ---- what holds of each key as it is written holds of each key
module _ (P : List ℕ → Type 0) where
  each_first : (e ks : List (List ℕ)) → Each P ks → Each P (first_of_each e ks)
  each_first e [] each = tt
  each_first e (k ∷ ks) each =
      let rest = each_first (e ++ k ∷ []) ks each.1 in
      cond_both (has_key e k) (first_of_each (e ++ k ∷ []) ks) (k ∷ first_of_each (e ++ k ∷ []) ks) (λ z. Each P z) (λ old. rest) (λ new. (each.0, rest))

  each_standing : (p : Option (List ℕ)) (ks : List (List ℕ)) → ((q : List ℕ) → p ≡ Some q → P q) → Each P ks → Each P (map (stands_for p) ks)
  each_standing p [] primary each = tt
  each_standing p (k ∷ ks) primary each = (standing p primary, each_standing p ks primary each.1)
    where
      standing : (p : Option (List ℕ)) → ((q : List ℕ) → p ≡ Some q → P q) → P (stands_for p k)
      standing None primary = each.0
      standing (Some q) primary = cond_both (same_set q k) q k P (λ is. primary q refl) (λ isnt. each.0)

  primary_holds : (rules : List KeyRule) → Each P (sets rules) → (q : List ℕ) → primary_of rules ≡ Some q → P q
  primary_holds [] each q h = absurd (none-some q h)
  primary_holds (r ∷ rules) each q h = elim (cases_Bool r.is_primary) [
    | inl is ↦ subst P (same_Some r.columns q (rw is at h)) each.0
    | inr isnt ↦ primary_holds rules each.1 q (rw isnt at h)
  ]

  pub each_key : (rules : List KeyRule) → Each P (sets rules) → Each P (keys_of rules)
  each_key rules each = each_standing (primary_of rules) (first_of_each [] (sets rules)) (primary_holds rules each) (each_first [] (sets rules) each)

-- a key at a place is a key, and what holds of each holds of it
pub at_place : (P : List ℕ → Type 0) (keys : List (List ℕ)) (i : ℕ) (key : List ℕ) → slice_get keys i ≡ Some key → Each P keys → P key × (has_key keys key ≡ true)
at_place P [] i key h each = absurd (none-some key h)
at_place P (k ∷ keys) zero key h each =
    let is : k ≡ key = same_Some k key h in
    (subst P is each.0, subst (λ x. (same_set x k || has_key keys x) ≡ true) is (or_left (same_set k k) (has_key keys k) (set_self k)))
at_place P (k ∷ keys) (suc i) key h each = let rest = at_place P keys i key h each.1 in (rest.0, or_right (same_set key k) (has_key keys key) rest.1)

-- ---- the rules of a table
pub rules_within : (relations : Relations) (name : Name) (own : Table) (e rules : List TableRule)
    → first_along (λ earlier r. rule_fault relations name own (list_any is_primary_rule earlier) r) e rules ≡ None
    → Each (Within own.columns) (sets (written_keys own.columns rules))
rules_within relations name own e [] h = tt
rules_within relations name own e (rule.Key primary columns at ∷ rules) h =
    let checks = both_pass (rule_fault relations name own (list_any is_primary_rule e) (rule.Key primary columns at)) _ h in
    let first = both_pass (columns_fault own.columns columns) _ checks.0 in
    (places_within own.columns columns first.0, rules_within relations name own (e ++ rule.Key primary columns at ∷ []) rules checks.1)
rules_within relations name own e (rule.Foreign columns to target ∷ rules) h =
    let checks = both_pass (rule_fault relations name own (list_any is_primary_rule e) (rule.Foreign columns to target)) _ h in
    rules_within relations name own (e ++ rule.Foreign columns to target ∷ []) rules checks.1
