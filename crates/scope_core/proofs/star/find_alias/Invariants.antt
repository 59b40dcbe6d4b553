use Rattle.std.proofs.Common.{◌≡◌, drop}
use Rattle.std.specs.Prelude.{find}
use Rattle.sql_model.specs.Columns.{same_name}
use Rattle.scope_core.specs.Resolving.{alias_star}
use Rattle.scope_core.proofs.star.find_alias.Given as goal

abbrev pub invariant-loop-entry : goal.invariant-loop-entry
invariant-loop-entry l =
    (alias_star l.alias 0 l.headings ≡ alias_star l.alias l.entry (drop l.entry l.headings))
    × (find (λ h. same_name l.alias h.alias) l.headings ≡ find (λ h. same_name l.alias h.alias) (drop l.entry l.headings))
