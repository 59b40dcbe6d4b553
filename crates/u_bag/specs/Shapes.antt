-- Two terms that have shapes, and the search for a pairing of their entries.
use Rattle.std.specs.Prelude.{ℕ, ◌<◌, ◌≤◌, List, Contains}
use Rattle.u_terms.specs.Syntax.{U}
use Rattle.shapes.specs.Shapes.{Shape}
use Rattle.shapes.specs.Alike.{Alike}
use Rattle.shapes.specs.Tried.{IsPairing, tried}
use Rattle.term_shapes.specs.Factors.{sum_count}
use Rattle.term_shapes.specs.TermShape.{HasShape}

-- the terms have these shapes
pub record HaveShapes (outs : ℕ) (left right : U) (s t : Shape) : Type 0 where
  pub left_has : HasShape outs left s
  pub right_has : HasShape outs right t

-- the terms have shapes that are alike
pub record AreAlike (outs : ℕ) (left right : U) : Type 0 where
  pub s : Shape
  pub t : Shape
  pub shapes : HaveShapes outs left right s t
  pub alike : Alike s t

-- the search for a pairing tries more lists of entries than the budget has
pub record PassesBudget (outs : ℕ) (left right : U) (budget : ℕ) : Type 0 where
  pub s : Shape
  pub t : Shape
  pub shapes : HaveShapes outs left right s t
  pub above : budget < tried s t

-- it does not, whatever shapes the terms have
pub record StaysWithinBudget (outs : ℕ) (left right : U) (budget : ℕ) : Type 0 where
  pub within : (s t : Shape) → HaveShapes outs left right s t → tried s t ≤ budget

-- there are more sums around it than a step exchanges
abbrev pub HasTooManySums : U → Type 0
HasTooManySums u = 2048 < sum_count u

-- around one of these
pub record SomeHasTooManySums (us : List U) : Type 0 where
  pub block : U
  pub is_in : Contains us block
  pub many : HasTooManySums block

-- ---- contracts of private functions alone cite this
-- the terms have shapes whose entries the list pairs
pub record ArePairedBy (list : List ℕ) (left right : U) : Type 0 where
  pub outs : ℕ
  pub s : Shape
  pub t : Shape
  pub shapes : HaveShapes outs left right s t
  pub pairing : IsPairing s t list
