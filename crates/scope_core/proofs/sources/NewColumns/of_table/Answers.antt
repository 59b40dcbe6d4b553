use Rattle.std.proofs.Common.{Some, map, ap, sym, subst, ◌∙◌}
use Rattle.std.specs.List.{list_any}
use Rattle.sql_model.specs.Columns.{is_called}
use Rattle.scope_core.specs.Directed.{Widens}
use Rattle.scope_core.specs.Names.{is_one_of}
use Rattle.scope_core.specs.Ropes.{IsDirected, columns_within}
use Rattle.scope_core.proofs.basics.Directed.{directed-Named}
use Rattle.scope_core.proofs.basics.Ropes.{columns-Named}
use Rattle.scope_core.proofs.sources.NewColumns.of_table.Goals as goal

pub returns-clause-columns : goal.returns-clause-columns
returns-clause-columns c =
    ap columns_within c.in_ok-columns.ensures
    ∙ (columns-Named c.in_ok-names.names ∙ (c.in_ok-names.ensures ∙ ap (λ names. map (λ name. Some name) names) c.as_slice.ensures))

pub returns-clause-directed : goal.returns-clause-directed
returns-clause-directed c =
    let names = c.in_ok-names.names in
    let outside = is_one_of c.gather.new.outside.items in
    λ declared. subst (IsDirected declared outside) (sym c.in_ok-columns.ensures)
    (directed-Named declared outside names
    (subst (λ columns. Widens (λ name. list_any (is_called name) columns) outside) c.names-2.ensures c.in_ok-gather.ensures.gathered))
