-- The free names of a term in which other values were put at places and names, and those of a list of values.
use Rattle.std.proofs.Common.{◌≡◌, ℕ, ◌+◌, List, [], ◌∷◌, refl, ap}
use Rattle.data_model.specs.Lists.{Each}
use Rattle.u_terms.specs.Syntax.{U, Zero, One, Add, Mul, Squash, Not, Sum, Rel, Eq, Pred, Val, Bound, Free, Lit, Fun, Agg, Vals, NoVals, ValThen, row_of, constructors}
use Rattle.u_terms.specs.Names.{EachName, EachNameValue, EachNameRow}
use Rattle.u_terms.specs.Binding.{mapped, mapped_value, mapped_row}

-- where Q holds of the names in what is put
module _ (P Q : ℕ → Type 0) (f g : ℕ → ℕ → Val) (place : (k i : ℕ) → EachNameValue Q (f k i)) (name : (k x : ℕ) → P x → EachNameValue Q (g k x)) where
  mutual
    unfolding mapped EachName

    pub names-mapped : (u : U) (k : ℕ) → EachName P u → EachName Q (mapped f g k u)
    names-mapped Zero k each = tt
    names-mapped One k each = tt
    names-mapped (Add a b) k each = (names-mapped a k each.0, names-mapped b k each.1)
    names-mapped (Mul a b) k each = (names-mapped a k each.0, names-mapped b k each.1)
    names-mapped (Squash a) k each = names-mapped a k each
    names-mapped (Not a) k each = names-mapped a k each
    names-mapped (Sum body) k each = names-mapped body (k + 1) each
    names-mapped (Rel table shape arguments) k each = row_names-mapped arguments k each
    names-mapped (Eq a b) k each = (value_names-mapped a k each.0, value_names-mapped b k each.1)
    names-mapped (Pred symbol shape arguments) k each = row_names-mapped arguments k each

    pub value_names-mapped : (value : Val) (k : ℕ) → EachNameValue P value → EachNameValue Q (mapped_value f g k value)
    value_names-mapped (Bound i) k each = place k i
    value_names-mapped (Free x) k each = name k x each
    value_names-mapped (Lit literal) k each = tt
    value_names-mapped (Fun symbol shape arguments) k each = row_names-mapped arguments k each
    value_names-mapped (Agg aggregate body) k each = names-mapped body (k + 1) each

    pub row_names-mapped : {m : _} (row : Vals m) (k : ℕ) → EachNameRow P row → EachNameRow Q (mapped_row f g k row)
    row_names-mapped NoVals k each = tt
    row_names-mapped (ValThen value rest) k each = (value_names-mapped value k each.0, row_names-mapped rest k each.1)

module _ (P : ℕ → Type 0) where
  pub EachNameRow-list : (vs : List Val) → EachNameRow P (row_of vs) ≡ Each (EachNameValue P) vs
  unfolding EachName constructors
  EachNameRow-list [] = refl
  EachNameRow-list (v ∷ vs) = ap (λ (T : Type 0). EachNameValue P v × T) (EachNameRow-list vs)
