use Rattle.std.proofs.Common.{[], ◌∷◌, ◌++◌, ◌∙◌, option_map, ap, sym}
use Rattle.std.proofs.lemmas.List.{map-append}
use Rattle.sql_model.specs.Headings.{item_columns}
use Rattle.scope_core.specs.Lent.{list_columns}
use Rattle.scope_core.specs.Names.{names_of}
use Rattle.scope_core.proofs.basics.Lists.{walk-end, walk-step}
use Rattle.scope_core.proofs.resolving.Outputs.{list_columns-cons, list_columns-nil}
use Rattle.scope_core.proofs.sources.values_alone.Goals as goal

pub loop-item-preserved : goal.loop-item-preserved
loop-item-preserved c =
    let names = c.loop-item.names.items in λ from.
    walk-step (λ items. list_columns items from) _ _ _ (names_of names) _ (item_columns c.item-item.result from) _ c.loop-item-test.true c.item-item.is
    (list_columns-cons c.item-item.result _ from)
    (ap (λ ns. names_of ns) c.in_ok-push-in-Value.ensures.items
    ∙ (map-append (option_map (λ n. n.now)) names (c.item_name.result ∷ [])
    ∙ (ap (λ name. names_of names ++ name ∷ []) c.item_name.ensures ∙ ap (λ cs. names_of names ++ cs) (sym (ap (λ item. item_columns item from) c.in-Value.is)))))
    (c.loop-item.invariant from)

pub returns : goal.returns
returns c = λ from.
    walk-end (λ items. list_columns items from) _ _ (names_of c.loop-item.names.items) _ c.loop-item-test.false (list_columns-nil from) (c.loop-item.invariant from)
