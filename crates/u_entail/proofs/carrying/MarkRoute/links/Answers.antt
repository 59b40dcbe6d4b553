use Rattle.std.proofs.Common.{length, subst}
use Rattle.u_entail.specs.Carrying.{AreFew, MarkCourse, points}
use Rattle.u_entail.proofs.carrying.MarkRoute.links.Goals as goal

pub returns-clause-few : goal.returns-clause-few
returns-clause-few c = subst (λ (r : MarkCourse). AreFew r.product (length (points r.wanted)) c.self.inside.links) c.self.view_is c.self.invariant.few
