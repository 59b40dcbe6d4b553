use Rattle.std.proofs.Common.{◌≡◌, ◌++◌, drop}
use Rattle.scope_core.specs.Catalogs.{declared_by}
use Rattle.scope_core.specs.Directed.{AreDirected, Widens, headings_in, is_shown}
use Rattle.scope_core.specs.Lent.{entries_headings, headings_of}
use Rattle.scope_core.specs.Names.{is_one_of}
use Rattle.scope_core.proofs.resolving.Outputs.{where_alias}
use Rattle.scope_core.proofs.sources.+directed.Given as goal

abbrev pub invariant-directed_entries-loop-entry : goal.invariant-directed_entries-loop-entry
invariant-directed_entries-loop-entry l =
    (headings_in l.shown.items ++ where_alias (is_shown l.items) (entries_headings (drop l.entry-index l.entries) (headings_of l.known))
    ≡ where_alias (is_shown l.items) (entries_headings l.entries (headings_of l.known)))
    × AreDirected (declared_by l.known) (is_one_of l.outside.items) l.shown.items
    × Widens (is_one_of l.initial.outside.items) (is_one_of l.outside.items)
