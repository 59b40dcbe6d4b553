use Rattle.std.proofs.Common.{sym, subst}
use Rattle.u_terms.specs.Syntax.{U}
use Rattle.u_normal.specs.Values.{StandsWithBody}
use Rattle.u_simple.proofs.StandingBodies.{body-in_relation, body-in_predicate}
use Rattle.u_simple.proofs.bodies.has_body.Goals as goal

pub returns-in-Rel : goal.returns-in-Rel
returns-in-Rel c =
    λ h. body-in_relation c.args.body.now c.args.u.now c.args.path.now c.in-Rel.field-0 c.in-Rel.values c.as_slice.result.now c.in-Rel.is c.as_slice.ensures (c.row_has_body.ensures h)

pub returns-in-Pred : goal.returns-in-Pred
returns-in-Pred c =
    λ h. body-in_predicate c.args.body.now c.args.u.now c.args.path.now c.in-Pred.field-0 c.in-Pred.values c.as_slice-in-Pred.result.now c.in-Pred.is c.as_slice-in-Pred.ensures (c.row_has_body-in-Pred.ensures h)

pub returns-in-Eq : goal.returns-in-Eq
returns-in-Eq c = λ h. subst (λ (u : U). StandsWithBody c.args.path.now c.args.body.now u) (sym c.in-Eq.is) (c.sides_have_body.ensures h)
