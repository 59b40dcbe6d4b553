use Rattle.std.proofs.Common.{◌≡◌, ◌++◌, ◌+◌, [], true, cond, drop, find, Some, option_map, unwrap_or, ap, sym, subst, ◌∙◌}
use Rattle.std.proofs.lemmas.List.{append-nil}
use Rattle.std.proofs.lemmas.Result.{on_ok_weaker}
use Rattle.sql_model.specs.Columns.{same_name}
use Rattle.sql_model.specs.Headings.{columns_of}
use Rattle.scope_core.specs.Directed.{heading_in, headings_in}
use Rattle.scope_core.specs.Ropes.{AreDirectedParts, IsDirected, columns_listed, columns_within}
use Rattle.scope_core.proofs.basics.Each.{Each-at}
use Rattle.scope_core.proofs.basics.Lists.{at-end, at-head}
use Rattle.scope_core.proofs.sources.add_called.Goals as goal

pub returns-then-eq-clause-columns : goal.returns-then-eq-clause-columns
returns-then-eq-clause-columns c =
    let alias = c.args.alias.now in
    let entry = c.entry-item.result in
    let rest = drop (c.loop-entry.entry-index + 1) c.args.entries.now in
    let same : same_name alias entry.alias.now ≡ true = sym c.eq.ensures ∙ c.if-eq.true in
    let here : columns_of alias (headings_in c.args.entries.now) ≡ columns_within entry.columns =
    c.loop-entry.invariant.1
    ∙ (at-head (λ es. columns_of alias (headings_in es)) c.args.entries.now c.loop-entry.entry-index entry c.loop-entry-test.true c.entry-item.is
    ∙ ap (λ b. unwrap_or (option_map (λ h. h.columns) (cond b (Some (heading_in entry)) (find (λ h. same_name alias h.alias) (headings_in rest)))) []) same) in
    on_ok_weaker c.push.result
    (λ is. is ∙ λ i. columns_listed (c.loop-entry.invariant.0 i) ++ (ap columns_within c.in_ok-share.ensures ∙ sym here) i)
    c.push.ensures.columns

pub returns-then-eq-clause-made : goal.returns-then-eq-clause-made
returns-then-eq-clause-made c =
    let entry = c.entry-item.result in
    on_ok_weaker c.push.result
    (λ directs. λ declared outside are parts. directs declared outside (subst (AreDirectedParts declared outside) (sym c.loop-entry.invariant.0) parts)
    (subst (IsDirected declared outside) (sym c.in_ok-share.ensures)
    (Each-at (λ e. IsDirected declared outside e.columns) c.args.entries.now c.loop-entry.entry-index entry are c.loop-entry-test.true c.entry-item.is)))
    c.push.ensures.directed

pub returns-clause-columns : goal.returns-clause-columns
returns-clause-columns c =
    let alias = c.args.alias.now in
    ap columns_listed c.loop-entry.invariant.0
    ∙ (sym (append-nil (columns_listed c.args.parts.now))
    ∙ ap (λ cs. columns_listed c.args.parts.now ++ cs)
    (sym (c.loop-entry.invariant.1
    ∙ at-end (λ es. columns_of alias (headings_in es)) c.args.entries.now c.loop-entry.entry-index c.loop-entry-test.false)))

pub returns-clause-made : goal.returns-clause-made
returns-clause-made c = λ declared outside are parts. subst (AreDirectedParts declared outside) (sym c.loop-entry.invariant.0) parts
