use Rattle.std.proofs.Common.{◌≡◌, ◌+◌, ◌++◌, OnOk, drop, ap, sym, subst, ◌∙◌}
use Rattle.scope_core.specs.Ropes.{columns_in, columns_listed}
use Rattle.scope_core.proofs.basics.Lists.{walk-end, walk-step}
use Rattle.scope_core.proofs.basics.Ropes.{columns-Named, columns-One, columns_listed-cons, columns_listed-nil, joined-columns, relation-columns}
use Rattle.scope_core.proofs.rope.+all.Goals as goal

pub add_names-returns-in-One : goal.add_names-returns-in-One
add_names-returns-in-One t c =
    subst (λ cs. OnOk c.push.result (c.push.new.self ≡ c.args.names.now ++ cs)) (sym (ap columns_in c.in-One.is ∙ columns-One c.in-One.name)) c.push.ensures.ok

pub add_names-returns-in-Named : goal.add_names-returns-in-Named
add_names-returns-in-Named t c =
    subst (λ cs. OnOk c.append.result (c.append.new.self ≡ c.args.names.now ++ cs))
    (c.get.ensures ∙ sym (ap columns_in c.in-Named.is ∙ columns-Named c.in-Named.own)) c.append.ensures

pub add_names-returns-in-Relation : goal.add_names-returns-in-Relation
add_names-returns-in-Relation t c =
    subst (λ cs. OnOk c.add_names.result (c.add_names.new.names ≡ c.args.names.now ++ cs))
    (ap columns_in c.get-in-Relation.ensures ∙ sym (relation-columns c.args.rope.now c.in-Relation.inside c.in-Relation.number c.in-Relation.extent c.in-Relation.is))
    c.add_names.ensures

pub add_names-returns-in-Joined : goal.add_names-returns-in-Joined
add_names-returns-in-Joined t c =
    subst (λ cs. OnOk c.add_names_of.result (c.add_names_of.new.names ≡ c.args.names.now ++ cs))
    (ap columns_listed c.as_slice.ensures ∙ sym (joined-columns c.args.rope.now c.in-Joined.parts c.in-Joined.extent c.in-Joined.is)) c.add_names_of.ensures

pub add_names_of-loop-part-preserved : goal.add_names_of-loop-part-preserved
add_names_of-loop-part-preserved t c =
    let ps = c.args.parts.now in
    let i = c.loop-part.part-index in
    let part = c.part-item.result in
    walk-step columns_listed ps i part c.loop-part.names c.add_names.new.names (columns_in part.rope) (c.args.names.now ++ columns_listed ps)
    c.loop-part-test.true c.part-item.is (columns_listed-cons part (drop (i + 1) ps))
    (c.in_ok-add_names.ensures {u = tt} ∙ ap (λ r. c.loop-part.names ++ columns_in r) c.get.ensures) c.loop-part.invariant

pub add_names_of-returns : goal.add_names_of-returns
add_names_of-returns t c =
    let ps = c.args.parts.now in
    walk-end columns_listed ps c.loop-part.part-index c.loop-part.names (c.args.names.now ++ columns_listed ps) c.loop-part-test.false columns_listed-nil
    c.loop-part.invariant
