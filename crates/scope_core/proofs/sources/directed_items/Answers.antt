use Rattle.std.proofs.Common.{◌≡◌, ◌++◌, ◌+◌, drop, refl, ◌∙◌, ap, sym, subst}
use Rattle.std.proofs.lemmas.Result.{IfOk-weaker}
use Rattle.sql_model.specs.Headings.{item_columns}
use Rattle.scope_core.specs.Directed.{AreDirected, headings_in}
use Rattle.scope_core.specs.Lent.{list_columns}
use Rattle.scope_core.specs.Names.{is_one_of, names_of}
use Rattle.scope_core.specs.Ropes.{AreDirectedParts, columns_listed}
use Rattle.scope_core.proofs.basics.Directed.{directed-no-parts, entries-grow, stays}
use Rattle.scope_core.proofs.basics.Lists.{walk-end, walk-step}
use Rattle.scope_core.proofs.basics.NamedColumns.{Widens-trans}
use Rattle.scope_core.proofs.basics.Ropes.{columns_listed-nil}
use Rattle.scope_core.proofs.resolving.Outputs.{list_columns-cons, list_columns-nil}
use Rattle.scope_core.proofs.sources.directed_items.Goals as goal

pub loop-item-init : goal.loop-item-init
loop-item-init c = (
  refl,
  λ i.
      ((ap columns_listed c.in_ok-parts.ensures ∙ columns_listed-nil) i ++ names_of (c.new-values.ensures.items i))
      ++ list_columns c.args.items.now (headings_in c.new-sources.result),
  λ declared entries. subst (AreDirectedParts declared _) (sym c.in_ok-parts.ensures) (directed-no-parts declared _),
  λ name e. e,
)

pub loop-item-preserved : goal.loop-item-preserved
loop-item-preserved c =
    let items = c.args.items.now in
    let at = c.loop-item.item-index in
    let from = headings_in c.loop-item.sources in
    let first = is_one_of c.args.outside.now.items in
    let before = is_one_of c.loop-item.outside.items in
    let kept = c.in_ok-add_item.ensures.sources in (
      kept ∙ c.loop-item.invariant.0,
      subst
          (λ sources. ((columns_listed c.add_item.new.parts ++ names_of c.add_item.new.values.items) ++ list_columns (drop (at + 1) items) (headings_in sources))
          ≡ list_columns items (headings_in sources))
          (sym kept)
          (walk-step (λ items. list_columns items from) _ _ _ (columns_listed c.loop-item.parts ++ names_of c.loop-item.values.items) _ (item_columns c.item-item.result from) _
          c.loop-item-test.true c.item-item.is (list_columns-cons c.item-item.result _ from) c.in_ok-add_item.ensures.columns c.loop-item.invariant.1),
      λ declared entries.
          let directed = subst (AreDirected declared first) kept entries in
          c.in_ok-add_item.ensures.made declared
          (entries-grow declared declared first before (stays declared) c.loop-item.invariant.3 c.loop-item.sources directed)
          (c.loop-item.invariant.2 declared directed),
      Widens-trans first before (is_one_of c.add_item.new.outside.items) c.loop-item.invariant.3 c.in_ok-add_item.ensures.kept,
    )

pub returns-clause-columns : goal.returns-clause-columns
returns-clause-columns c =
    let from = headings_in c.loop-item.sources in
    IfOk-weaker c.joined.result _ _
    (λ d is.
    is
    ∙ (c.in_ok-add_values.ensures.columns
    ∙ (walk-end (λ items. list_columns items from) _ _ (columns_listed c.loop-item.parts ++ names_of c.loop-item.values.items) _ c.loop-item-test.false
    (list_columns-nil from) c.loop-item.invariant.1
    ∙ ap (λ sources. list_columns c.args.items.now (headings_in sources)) (c.loop-item.invariant.0 ∙ c.new-sources.ensures))))
    c.joined.ensures.columns

pub returns-clause-made : goal.returns-clause-made
returns-clause-made c =
    IfOk-weaker c.joined.result _ _
    (λ d directs. λ declared entries.
    directs declared (is_one_of c.add_values.new.outside.items)
    (c.in_ok-add_values.ensures.directed declared
    (c.loop-item.invariant.2 declared
    (subst (AreDirected declared (is_one_of c.args.outside.now.items)) (sym (c.loop-item.invariant.0 ∙ c.new-sources.ensures)) entries))))
    c.joined.ensures.directed

pub returns-clause-kept : goal.returns-clause-kept
returns-clause-kept c =
    IfOk-weaker c.joined.result _ _
    (λ d is.
    Widens-trans (is_one_of c.args.outside.now.items) (is_one_of c.loop-item.outside.items) (is_one_of c.add_values.new.outside.items)
    c.loop-item.invariant.3 c.in_ok-add_values.ensures.kept)
    c.joined.ensures.columns
