use Rattle.std.proofs.Common.{◌++◌, ◌≡◌, ◌+◌, ◌∷◌, [], true, false, drop, ◌∙◌, ap, sym, subst}
use Rattle.std.proofs.lemmas.List.{append-nil, map-append}
use Rattle.std.proofs.lemmas.Result.{IfOk-weaker, on_ok_weaker}
use Rattle.sql_model.specs.Headings.{source_columns}
use Rattle.scope_core.specs.Catalogs.{declared_by}
use Rattle.scope_core.specs.Directed.{AreDirected, Widens, heading_in, headings_in, is_shown}
use Rattle.scope_core.specs.Lent.{entries_headings, headings_of, list_columns}
use Rattle.scope_core.specs.Names.{is_one_of}
use Rattle.scope_core.specs.Ropes.{IsDirected}
use Rattle.scope_core.proofs.basics.Directed.{entries-grow, stays}
use Rattle.scope_core.proofs.basics.Each.{Each-end}
use Rattle.scope_core.proofs.basics.Lists.{walk-step, walk-end}
use Rattle.scope_core.proofs.basics.NamedColumns.{Widens-trans}
use Rattle.scope_core.proofs.resolving.Outputs.{entries_headings-nil, list-shown, where-cons, where_alias}
use Rattle.scope_core.proofs.sources.+directed.Goals as goal
use Rattle.scope_core.proofs.sources.+directed.Goals.{directed_entries-else-is_shown, directed_entries-then-is_shown+in_ok-columns+in_ok-push}

pub directed_block-returns-in-Some-clause-directed : goal.directed_block-returns-in-Some-clause-directed
directed_block-returns-in-Some-clause-directed t c =
    IfOk-weaker c.columns_of_values.result _ _ (λ d directed. directed (declared_by c.args.known.now)) c.columns_of_values.ensures.directed

pub directed_block-returns-in_ok-entries-in-None-clause-directed : goal.directed_block-returns-in_ok-entries-in-None-clause-directed
directed_block-returns-in_ok-entries-in-None-clause-directed t c =
    IfOk-weaker c.directed_items.result _ _ (λ d made. made (declared_by c.args.known.now) c.in_ok-entries-in-None.ensures.directed) c.directed_items.ensures.made

pub directed_block-returns-in_ok-entries-in-None-clause-kept : goal.directed_block-returns-in_ok-entries-in-None-clause-kept
directed_block-returns-in_ok-entries-in-None-clause-kept t c =
    on_ok_weaker c.directed_items.result
    (Widens-trans (is_one_of c.args.outside.now.items) (is_one_of c.directed_entries.new.outside.items) (is_one_of c.directed_items.new.outside.items)
    c.in_ok-entries-in-None.ensures.kept)
    c.directed_items.ensures.kept

pub directed_entries-loop-entry-preserved : goal.directed_entries-loop-entry-preserved
directed_entries-loop-entry-preserved t c =
    let relations = headings_of c.args.known.now in
    let declared = declared_by c.args.known.now in
    let test = is_shown c.args.items.now in
    let entry = c.entry-item.result in
    let rest = drop (c.loop-entry.entry-index + 1) c.args.entries.now in
    let parts = c.loop-entry.shown.items in
    let before = is_one_of c.loop-entry.outside.items in
    elim c.if-is_shown.branch [
      | directed_entries-then-is_shown+in_ok-columns+in_ok-push w ↦
          let outside = is_one_of w.directed_source.new.outside.items in
          subst
          (λ shown. (headings_in shown.items ++ where_alias test (entries_headings rest relations) ≡ where_alias test (entries_headings c.args.entries.now relations))
          × AreDirected declared (is_one_of c.if-is_shown.outside.items) shown.items
          × Widens (is_one_of c.args.outside.now.items) (is_one_of c.if-is_shown.outside.items))
          (sym w.shown-is)
          (subst
          (λ names. (headings_in w.push.new.self.items ++ where_alias test (entries_headings rest relations)
          ≡ where_alias test (entries_headings c.args.entries.now relations))
          × AreDirected declared (is_one_of names.items) w.push.new.self.items × Widens (is_one_of c.args.outside.now.items) (is_one_of names.items))
          (sym w.outside-is) (
            walk-step (λ es. where_alias test (entries_headings es relations)) _ _ _ (headings_in parts) _
                (record { alias = entry.alias; columns = source_columns entry.source relations } ∷ []) _ c.loop-entry-test.true c.entry-item.is
                (where-cons test entry rest relations true (sym c.is_shown.ensures ∙ w.if-is_shown.true))
                (ap headings_in w.in_ok-push.ensures.items
                ∙ (map-append heading_in parts _
                ∙ ap (λ cs. headings_in parts ++ record { alias = entry.alias; columns = cs } ∷ []) w.in_ok-columns.ensures.columns))
                c.loop-entry.invariant.0,
            subst (AreDirected declared outside) (sym w.in_ok-push.ensures.items)
                (Each-end (λ e. IsDirected declared outside e.columns) parts _
                (entries-grow declared declared before outside (stays declared) w.in_ok-columns.ensures.kept parts c.loop-entry.invariant.1)
                w.in_ok-columns.ensures.directed),
            Widens-trans (is_one_of c.args.outside.now.items) before outside c.loop-entry.invariant.2 w.in_ok-columns.ensures.kept,
          ))
      | directed_entries-else-is_shown w ↦
          subst
          (λ shown. (headings_in shown.items ++ where_alias test (entries_headings rest relations) ≡ where_alias test (entries_headings c.args.entries.now relations))
          × AreDirected declared (is_one_of c.if-is_shown.outside.items) shown.items
          × Widens (is_one_of c.args.outside.now.items) (is_one_of c.if-is_shown.outside.items))
          (sym w.shown-is)
          (subst
          (λ names. (headings_in parts ++ where_alias test (entries_headings rest relations) ≡ where_alias test (entries_headings c.args.entries.now relations))
          × AreDirected declared (is_one_of names.items) parts × Widens (is_one_of c.args.outside.now.items) (is_one_of names.items))
          (sym w.outside-is) (
            walk-step (λ es. where_alias test (entries_headings es relations)) _ _ _ (headings_in parts) _ [] _ c.loop-entry-test.true c.entry-item.is
                (where-cons test entry rest relations false (sym c.is_shown.ensures ∙ w.if-is_shown.false)) (sym (append-nil (headings_in parts)))
                c.loop-entry.invariant.0,
            c.loop-entry.invariant.1,
            c.loop-entry.invariant.2,
          ))
    ]

pub directed_entries-returns-clause-columns : goal.directed_entries-returns-clause-columns
directed_entries-returns-clause-columns t c =
    let relations = headings_of c.args.known.now in
    let items = c.args.items.now in
    let test = is_shown items in
    ap (λ hs. list_columns items hs)
    (walk-end (λ es. where_alias test (entries_headings es relations)) _ _ _ _ c.loop-entry-test.false
    (ap (λ hs. where_alias test hs) (entries_headings-nil relations)) c.loop-entry.invariant.0)
    ∙ list-shown test items (entries_headings c.args.entries.now relations) (λ alias e. e)

pub directed_source-returns-in-Named-clause-directed : goal.directed_source-returns-in-Named-clause-directed
directed_source-returns-in-Named-clause-directed t c =
    IfOk-weaker c.directed_relation.result _ _ (λ d directed. directed (is_one_of c.args.outside.now.items)) c.directed_relation.ensures.directed
