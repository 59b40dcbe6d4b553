use Rattle.std.proofs.Common.{refl, sym, subst}
use Rattle.u_entail.specs.Marks.{IsMark, holds, fails}
use Rattle.u_bag.proofs.gaining.is_mark.Goals as goal

pub returns-in-Pred : goal.returns-in-Pred
returns-in-Pred c = (λ h. subst IsMark (sym c.in-Pred.is) (holds _ _), λ h. refl)

pub returns-in-Not : goal.returns-in-Not
returns-in-Not c = (λ h. subst IsMark (sym c.in-Not.is) (fails _), λ h. refl)
