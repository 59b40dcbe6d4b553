-- Names that code lends, and columns of them.
use Rattle.std.proofs.Common.{◌≡◌, ℕ, ◌+◌, ◌<◌, Bool, true, false, ◌||◌, List, [], ◌∷◌, ◌++◌, Option, Some, map, length, get_or, take, option_map, refl, ap, sym, ◌∙◌, arith}
use Rattle.std.specs.Borrow.{Bor}
use Rattle.std.specs.List.{list_any}
use Rattle.std.proofs.lemmas.List.{map-append, take_more}
use Rattle.std.proofs.lemmas.List.Folds.{list_any-append}
use Rattle.sql_model.specs.Syntax.{Name}
use Rattle.sql_model.specs.Columns.{is_called, same_name}
use Rattle.scope_core.specs.Directed.{Widens}
use Rattle.scope_core.specs.Names.{is_one_of, names_of}
use Rattle.scope_core.proofs.basics.Booleans.{no, or-of-left, or-of-right}

pub Widens-trans : (before between after : Name → Bool) → Widens before between → Widens between after → Widens before after
Widens-trans before between after h g = λ name e. g name (h name e)

-- a column for each of these names
pub any-lent : (name : Name) (lent : List (Bor Name)) → list_any (is_called name) (map (λ n. Some n.now) lent) ≡ is_one_of lent name
any-lent name [] = refl
any-lent name (own ∷ lent) = ap (λ b. same_name name own.now || b) (any-lent name lent)

-- no names
pub none-lent : (names : List (Bor Name)) → length names ≡ 0 → names ≡ []
none-lent [] empty = refl
none-lent (own ∷ names) empty = absurd (omega (arith, empty))

module _ (names : List (Bor Name)) (own : Bor Name) where
  any-end : (name : Name) → is_one_of (names ++ own ∷ []) name ≡ (is_one_of names name || (same_name name own.now || false))
  any-end name = list_any-append (λ n. same_name name n.now) names (own ∷ [])

  pub one-more : Widens (is_one_of names) (is_one_of (names ++ own ∷ []))
  one-more = λ name e. any-end name ∙ or-of-left _ (same_name name own.now || false) e

  pub one-of-end : (name : Name) → same_name name own.now ≡ true → is_one_of (names ++ own ∷ []) name ≡ true
  one-of-end name e = any-end name ∙ or-of-right (is_one_of names name) _ (or-of-left _ false e)

  -- of a name that one of some columns has, or this one
  pub one-of-more : (name : Name) (a : Bool) → (a ≡ true → is_one_of names name ≡ true) → (a || (same_name name own.now || false)) ≡ true
      → is_one_of (names ++ own ∷ []) name ≡ true
  one-of-more name true h e = one-more name (h refl)
  one-of-more name false h e = by (same_name name own.now) refl e
    where
      by : (b : Bool) → same_name name own.now ≡ b → (b || false) ≡ true → is_one_of (names ++ own ∷ []) name ≡ true
      by true is e = one-of-end name is
      by false is e = absurd (no (sym e))

-- a column without a name is called by none
pub but-unnamed : (a : Bool) → (a || (false || false)) ≡ true → a ≡ true
but-unnamed true e = refl
but-unnamed false e = e

-- ---- a walk along columns
module _ (items : List (Option (Bor Name))) (i : ℕ) (item : Option (Bor Name)) (h : i < length items) (is : item ≡ get_or items i item) where
  pub names-more : names_of (take (i + 1) items) ≡ names_of (take i items) ++ option_map (λ n. n.now) item ∷ []
  names-more =
      ap (λ xs. names_of xs) (take_more items i item h ∙ ap (λ x. take i items ++ x ∷ []) (sym is)) ∙ map-append (option_map (λ n. n.now)) (take i items) (item ∷ [])

  pub any-more : (name : Name) → list_any (is_called name) (names_of (take (i + 1) items))
      ≡ (list_any (is_called name) (names_of (take i items)) || (is_called name (option_map (λ n. n.now) item) || false))
  any-more name =
      ap (λ cs. list_any (is_called name) cs) names-more ∙ list_any-append (is_called name) (names_of (take i items)) (option_map (λ n. n.now) item ∷ [])
