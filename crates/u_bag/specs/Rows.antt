-- Factors that a product gains. Contracts of private functions alone cite this.
use Rattle.std.specs.Prelude.{◌≡◌, ℕ, List, [], ◌∷◌, ◌++◌, Option, Some, None, slice_get, IsPermutation}
use Rattle.u_terms.specs.Syntax.{U}
use Rattle.u_terms.specs.Products.{product_of}
use Rattle.u_terms.specs.declared.facts.Facts.{Facts}
use Rattle.u_rules.specs.Terms.{mul_leaves, terms}
use Rattle.u_equal.specs.Standing.{IsIn}
use Rattle.u_moves.specs.Derivations.{Derivation}
use Rattle.u_congruence.specs.Congruence.{IsFromTo}
use Rattle.u_simple.specs.Passes.{IsFrom}
use Rattle.u_entail.specs.Gaining.{Begins}
use Rattle.shape_entails.specs.Matched.{EntailsFactor, HasMark, SayTheSame}
use Rattle.u_bag.specs.declared.differences.Differences.{Differences}
use Rattle.u_bag.specs.declared.gaining.Row.{Row}

-- from the product to its factors and more behind them, in a row
pub record LeadsToRow (F : Facts) (names : ℕ) (product : U) (row : Row) : Type 0 where
  pub facts : row.deriv.facts ≡ F
  pub outs : row.deriv.outs ≡ names
  pub from : row.deriv.from ≡ product
  pub to : row.deriv.to ≡ product_of (terms row.factors.items)
  pub begins : Begins product (terms row.factors.items)

-- both lists have some members in common, each as often, and these beside them, of which none is beside them in both
pub record AreDifferences (left right : List U) (apart : Differences) : Type 0 where
  pub common : List U
  pub left_is : IsPermutation left (common ++ terms apart.left.items)
  pub right_is : IsPermutation right (common ++ terms apart.right.items)
  pub disjoint : (factor : U) → IsIn factor (terms apart.left.items) → IsIn factor (terms apart.right.items) → ⊥

-- where it stands
abbrev pub IsPlaceOf : U → List U → Option ℕ → Type 0
IsPlaceOf factor others None = IsIn factor others → ⊥
IsPlaceOf factor others (Some place) = slice_get others place ≡ Some factor

-- no product of others
abbrev pub IsSingle : U → Type 0
IsSingle u = mul_leaves u ≡ u ∷ []

-- ---- what is gained; there is no derivation only where not all that is wanted is entailed
-- the product entails each of these
abbrev pub EntailsFactors : U → List U → Type 0
EntailsFactors product wanted = (factor : U) → IsIn factor wanted → EntailsFactor product factor

-- from the product of the factors to that with the wanted one behind them
abbrev pub IsFactorGained : Facts → ℕ → U → List U → U → Option Derivation → Type 0
IsFactorGained F names product factors wanted None = EntailsFactor product wanted → ⊥
IsFactorGained F names product factors wanted (Some d) = IsFromTo F names (product_of factors) (product_of (factors ++ wanted ∷ [])) d

abbrev pub IsMarkGained : Facts → ℕ → U → List U → U → Option Derivation → Type 0
IsMarkGained F names product factors wanted None = HasMark product wanted → ⊥
IsMarkGained F names product factors wanted (Some d) = IsFromTo F names (product_of factors) (product_of (factors ++ wanted ∷ [])) d

-- from the product to a row of these factors and then the wanted ones
pub record GoesOn (F : Facts) (names : ℕ) (product : U) (before wanted : List U) (row : Row) : Type 0 where
  pub leads : LeadsToRow F names product row
  pub are : terms row.factors.items ≡ before ++ wanted

abbrev pub IsRowWith : Facts → ℕ → U → List U → List U → Option Row → Type 0
IsRowWith F names product before wanted None = EntailsFactors product wanted → ⊥
IsRowWith F names product before wanted (Some row) = GoesOn F names product before wanted row

-- from the product to one with the wanted factors too
pub record Gains (F : Facts) (names : ℕ) (product : U) (wanted : List U) (d : Derivation) : Type 0 where
  pub from : IsFrom F names product d
  pub to : IsPermutation (mul_leaves d.to) (mul_leaves product ++ wanted)

abbrev pub IsGaining : Facts → ℕ → U → List U → Option Derivation → Type 0
IsGaining F names product wanted None = EntailsFactors product wanted → ⊥
IsGaining F names product wanted (Some d) = Gains F names product wanted d

-- from the one product to the other, unless they do not say the same
abbrev pub AreMet : Facts → ℕ → U → U → Option Derivation → Type 0
AreMet F names left right None = SayTheSame left right → ⊥
AreMet F names left right (Some d) = IsFromTo F names left right d
