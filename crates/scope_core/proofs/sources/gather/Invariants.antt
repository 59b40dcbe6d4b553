use Rattle.std.proofs.Common.{take}
use Rattle.std.specs.List.{list_any}
use Rattle.sql_model.specs.Columns.{is_called}
use Rattle.scope_core.specs.Directed.{Widens}
use Rattle.scope_core.specs.Names.{is_one_of, names_of}
use Rattle.scope_core.proofs.sources.gather.Given as goal

abbrev pub invariant-loop-name : goal.invariant-loop-name
invariant-loop-name l =
    Widens (is_one_of l.fn.outside.items) (is_one_of l.outside.items)
    × Widens (λ name. list_any (is_called name) (names_of (take l.name-index l.columns))) (is_one_of l.outside.items)
