use Rattle.std.proofs.Common.{length, ap, sym, ◌∙◌}
use Rattle.scope_core.specs.Ropes.{columns_in}
use Rattle.scope_core.proofs.basics.Ropes.{columns-Named, columns-One, joined-width, relation-width}
use Rattle.scope_core.proofs.rope.width_in.Goals as goal

pub returns-in-One : goal.returns-in-One
returns-in-One c = sym (ap (λ cs. length cs) (ap columns_in c.in-One.is ∙ columns-One c.in-One.name))

pub returns-in-Named : goal.returns-in-Named
returns-in-Named c = c.len.ensures ∙ ap (λ cs. length cs) (c.get.ensures ∙ sym (ap columns_in c.in-Named.is ∙ columns-Named c.in-Named.names))

pub returns-in-Relation : goal.returns-in-Relation
returns-in-Relation c =
    ap (λ e. e.width) c.get-in-Relation.ensures
    ∙ relation-width c.args.rope.now c.in-Relation.inside c.in-Relation.number c.in-Relation.extent c.in-Relation.is c.requires

pub returns-in-Joined : goal.returns-in-Joined
returns-in-Joined c =
    ap (λ e. e.width) c.get-in-Joined.ensures ∙ joined-width c.args.rope.now c.in-Joined.parts c.in-Joined.extent c.in-Joined.is c.requires
