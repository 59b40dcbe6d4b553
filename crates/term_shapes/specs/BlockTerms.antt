-- Terms made of terms that have shapes: of a block under DISTINCT, and of the blocks of a UNION ALL.
use Rattle.std.specs.Prelude.{◌≡◌, ℕ, List, [], ◌∷◌, ◌++◌}
use Rattle.u_terms.specs.Syntax.{U}
use Rattle.u_terms.specs.declared.term.U.TheVariants as u
use Rattle.shapes.specs.Shapes.{Shape}
use Rattle.term_shapes.specs.TermShape.{HasShape}

-- one squash of a term of this shape
pub record IsSquashed (outs : ℕ) (term : U) (s : Shape) : Type 0 where
  pub inside : U
  pub is : term ≡ u.Squash inside
  pub shape : HasShape outs inside s

-- a sum of terms of these shapes in order
pub data HaveShapes (outs : ℕ) : U → List Shape → Type 0 where
  one_block : {term : U} {s : Shape} → HasShape outs term s → HaveShapes outs term (s ∷ [])
  two_sums : {a b : U} {ss ts : List Shape} → HaveShapes outs a ss → HaveShapes outs b ts → HaveShapes outs (u.Add a b) (ss ++ ts)
