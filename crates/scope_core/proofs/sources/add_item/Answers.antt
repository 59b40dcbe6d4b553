use Rattle.std.proofs.Common.{◌≡◌, ◌++◌, ◌∙◌, ap, sym, subst}
use Rattle.std.proofs.lemmas.List.{append-nil}
use Rattle.std.proofs.lemmas.Result.{on_ok_weaker}
use Rattle.sql_model.specs.Headings.{item_columns}
use Rattle.scope_core.specs.Directed.{AreDirected, headings_in}
use Rattle.scope_core.specs.Names.{is_one_of, names_of}
use Rattle.scope_core.specs.Ropes.{columns_listed}
use Rattle.scope_core.proofs.basics.Directed.{entries-grow, stays}
use Rattle.scope_core.proofs.sources.add_item.Goals as goal

pub returns-in_ok-all-in-Star-clause-columns : goal.returns-in_ok-all-in-Star-clause-columns
returns-in_ok-all-in-Star-clause-columns c =
    let from = headings_in c.args.sources.now in
    let before = columns_listed c.args.parts.now ++ names_of c.args.values.now.items in
    on_ok_weaker c.push.result
    (λ is.
    ap (λ vs. columns_listed c.push.new.self ++ vs) c.in_ok-add_values-in-Star.ensures.taken
    ∙ (append-nil (columns_listed c.push.new.self)
    ∙ (is
    ∙ ((λ i. c.in_ok-add_values-in-Star.ensures.columns i ++ c.in_ok-all-in-Star.ensures.columns i)
    ∙ sym (ap (λ item. before ++ item_columns item from) c.in-Star.is)))))
    c.push.ensures.columns

pub returns-in_ok-all-in-Star-clause-made : goal.returns-in_ok-all-in-Star-clause-made
returns-in_ok-all-in-Star-clause-made c =
    let before = is_one_of c.args.outside.now.items in
    let outside = is_one_of c.add_values.new.outside.items in
    on_ok_weaker c.push.result
    (λ directs. λ declared entries parts.
    directs declared outside (c.in_ok-add_values-in-Star.ensures.directed declared parts)
    (c.in_ok-all-in-Star.ensures.made declared outside
    (entries-grow declared declared before outside (stays declared) c.in_ok-add_values-in-Star.ensures.kept c.args.sources.now entries)))
    c.push.ensures.directed

pub returns-in_ok-add_values-in-AliasStar-clause-made : goal.returns-in_ok-add_values-in-AliasStar-clause-made
returns-in_ok-add_values-in-AliasStar-clause-made c =
    let before = is_one_of c.args.outside.now.items in
    let outside = is_one_of c.add_values-in-AliasStar.new.outside.items in
    let lent : c.as_slice.result.now ≡ c.args.sources.now = c.as_slice.ensures.value ∙ c.sources.view_is in
    on_ok_weaker c.add_called.result
    (λ makes. λ declared entries parts.
    makes declared outside
    (subst (AreDirected declared outside) (sym lent)
    (entries-grow declared declared before outside (stays declared) c.in_ok-add_values-in-AliasStar.ensures.kept c.args.sources.now entries))
    (c.in_ok-add_values-in-AliasStar.ensures.directed declared parts))
    c.add_called.ensures.made
