use Rattle.std.proofs.Common.{◌≡◌, ℕ, ◌<◌, Some}
use Rattle.std.specs.Prelude.{slice_get}
use Rattle.u_terms.specs.Syntax.{U}
use Rattle.u_rules.specs.Terms.{terms}
use Rattle.u_entail.specs.Carrying.{Follows}
use Rattle.u_entail.specs.Marks.{IsMark}
use Rattle.u_bag.proofs.gaining.mark_gained.Given as goal

-- the wanted mark follows from none of the marks so far
abbrev pub invariant-loop-place : goal.invariant-loop-place
invariant-loop-place l = (k : ℕ) → k < l.place → (mark : U) → slice_get (terms l.factors) k ≡ Some mark → IsMark mark → Follows l.classes mark l.wanted → ⊥
