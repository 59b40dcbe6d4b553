use Rattle.std.proofs.Common.{◌≡◌, IfSome, ap, sym, subst, ◌∙◌}
use Rattle.scope_core.specs.Names.{occurrences}
use Rattle.scope_core.specs.Ropes.{columns_in}
use Rattle.scope_core.proofs.basics.Ropes.{columns-Named, columns-One, relation-columns}
use Rattle.scope_core.proofs.rope.+single.Goals as goal

pub returns-in-One : goal.returns-in-One
returns-in-One t c =
    c.find_alone.ensures ∙ ap (λ cs. occurrences c.args.name.now cs) (sym (ap columns_in c.in-One.is ∙ columns-One c.in-One.own))

pub returns-in-Named : goal.returns-in-Named
returns-in-Named t c =
    c.find.ensures
    ∙ ap (λ cs. occurrences c.args.name.now cs) (c.get.ensures ∙ sym (ap columns_in c.in-Named.is ∙ columns-Named c.in-Named.names))

pub returns-in-Relation : goal.returns-in-Relation
returns-in-Relation t c =
    let w = c.in-Relation in
    subst (λ cs. IfSome c.find_single.result (λ found. found ≡ occurrences c.args.name.now cs))
    (ap columns_in c.get-in-Relation.ensures ∙ sym (relation-columns c.args.rope.now w.inside w.number w.extent w.is)) c.find_single.ensures
