use Rattle.std.proofs.Common.{◌≡◌, IfOk, ap, sym, subst, ◌∙◌}
use Rattle.scope_core.specs.Faults.{name_twice}
use Rattle.scope_core.specs.Ropes.{columns_in}
use Rattle.scope_core.proofs.basics.Occurring.{one-once}
use Rattle.scope_core.proofs.basics.Ropes.{columns-Named, columns-One, relation-columns}
use Rattle.scope_core.proofs.rope.+twice.Goals as goal

pub returns-in-One : goal.returns-in-One
returns-in-One t c = sym (ap name_twice (ap columns_in c.in-One.is ∙ columns-One _) ∙ one-once _)

pub returns-in-Named : goal.returns-in-Named
returns-in-Named t c = c.has_name_twice.ensures ∙ ap name_twice (c.get.ensures ∙ sym (ap columns_in c.in-Named.is ∙ columns-Named c.in-Named.names))

pub returns-in-Relation : goal.returns-in-Relation
returns-in-Relation t c =
    let w = c.in-Relation in
    subst (λ cs. IfOk c.has_name_twice-in-Relation.result (λ twice. twice ≡ name_twice cs))
    (ap columns_in c.get-in-Relation.ensures ∙ sym (relation-columns c.args.rope.now w.inside w.number w.extent w.is)) c.has_name_twice-in-Relation.ensures
