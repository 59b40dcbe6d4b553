-- When two products say the same.
use Rattle.std.specs.Prelude.{◌≡◌, ℕ, false, List, ◌++◌, IsPermutation}
use Rattle.u_terms.specs.Syntax.{U, Eq, Not, Pred, Val}
use Rattle.u_rules.specs.Terms.{◌≐◌, P, neg, mul_leaves}
use Rattle.u_equal.specs.Standing.{IsIn}
use Rattle.u_equal.specs.Entails.{Entails, EntailsEach}
use Rattle.shapes.specs.Shapes.{Point, Shape, IsPoint}
use Rattle.shapes.specs.Alike.{moved}
use Rattle.shape_entails.specs.Values.{IsFactor, is_atom, atoms, point_value}

-- each point of the shape has the value that its image has in the other product
abbrev pub SameValues : Shape → (ℕ → ℕ) → U → U → Type 0
SameValues s forth left right = (p : Point) → IsPoint s.entries p → point_value right (moved forth p) ≡ point_value left p

-- the same mark of values that the product entails to be equal; those of a negated equality in either order
pub data Repeats (product : U) : U → U → Type 0 where
  holds : (symbol : ℕ) (xs ys : List Val) → EntailsEach product xs ys → Repeats product (P symbol xs) (P symbol ys)
  fails : (symbol : ℕ) (xs ys : List Val) → EntailsEach product xs ys → Repeats product (neg (P symbol xs)) (neg (P symbol ys))
  differ : (a b c d : Val) → Entails product a c → Entails product b d → Repeats product (neg (a ≐ b)) (neg (c ≐ d))
  turned : (a b c d : Val) → Entails product b c → Entails product a d → Repeats product (neg (a ≐ b)) (neg (c ≐ d))

-- one of the product's factors is such a mark
pub record HasMark (product wanted : U) : Type 0 where
  pub mark : U
  pub is_factor : IsFactor mark product
  pub repeats : Repeats product mark wanted

-- what the product entails of a factor that is no atom: an equality of its values, or a mark; of another one nothing
unfoldable pub EntailsFactor : U → U → Type 0
EntailsFactor product (Eq a b) = Entails product a b
EntailsFactor product (Pred symbol shape arguments) = HasMark product (Pred symbol shape arguments)
EntailsFactor product (Not part) = HasMark product (Not part)
EntailsFactor product _ = ⊥

-- whatever the other product has beside its atoms
abbrev pub Says : U → U → Type 0
Says product other = (factor : U) → IsFactor factor other → is_atom factor ≡ false → EntailsFactor product factor

pub record SayTheSame (left right : U) : Type 0 where
  pub atoms_are : IsPermutation (atoms left) (atoms right)
  pub forth : Says left right
  pub back : Says right left

-- what both products have in common, and the factors that each has beside it: no factor is beside it in both
pub record AreApart (left right : U) (common only_left only_right : List U) : Type 0 where
  pub left_is : IsPermutation (mul_leaves left) (common ++ only_left)
  pub right_is : IsPermutation (mul_leaves right) (common ++ only_right)
  pub apart : (factor : U) → IsIn factor only_left → IsIn factor only_right → ⊥
