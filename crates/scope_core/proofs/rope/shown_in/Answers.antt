use Rattle.std.proofs.Common.{ap, sym, ◌∙◌}
use Rattle.scope_core.specs.Ropes.{shown_in}
use Rattle.scope_core.proofs.basics.Ropes.{shown-Joined, shown-Relation}
use Rattle.scope_core.proofs.rope.shown_in.Goals as goal

pub returns-in-Relation : goal.returns-in-Relation
returns-in-Relation c = ap (λ e. e.shown) c.get.ensures ∙ sym (ap shown_in c.in-Relation.is ∙ shown-Relation c.in-Relation.inside c.in-Relation.number c.in-Relation.extent)

pub returns-in-Joined : goal.returns-in-Joined
returns-in-Joined c = ap (λ e. e.shown) c.get-in-Joined.ensures ∙ sym (ap shown_in c.in-Joined.is ∙ shown-Joined c.in-Joined.parts c.in-Joined.extent)
