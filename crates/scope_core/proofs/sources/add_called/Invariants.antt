use Rattle.std.proofs.Common.{◌≡◌, drop}
use Rattle.sql_model.specs.Headings.{columns_of}
use Rattle.scope_core.specs.Directed.{headings_in}
use Rattle.scope_core.proofs.sources.add_called.Given as goal

abbrev pub invariant-loop-entry : goal.invariant-loop-entry
invariant-loop-entry l =
    (l.parts ≡ l.fn.parts) × (columns_of l.alias (headings_in l.entries) ≡ columns_of l.alias (headings_in (drop l.entry-index l.entries)))
