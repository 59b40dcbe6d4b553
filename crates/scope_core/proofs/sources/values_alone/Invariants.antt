use Rattle.std.proofs.Common.{◌≡◌, List, ◌++◌, drop}
use Rattle.sql_model.specs.Headings.{Heading}
use Rattle.scope_core.specs.Lent.{list_columns}
use Rattle.scope_core.specs.Names.{names_of}
use Rattle.scope_core.proofs.sources.values_alone.Given as goal

abbrev pub invariant-loop-item : goal.invariant-loop-item
invariant-loop-item l = (from : List Heading) → names_of l.names.items ++ list_columns (drop l.item-index l.items) from ≡ list_columns l.items from
