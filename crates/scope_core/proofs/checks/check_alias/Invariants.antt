use Rattle.std.proofs.Common.{◌≡◌, drop, map}
use Rattle.std.specs.List.{list_any}
use Rattle.sql_model.specs.Columns.{same_name}
use Rattle.scope_core.proofs.checks.check_alias.Given as goal

abbrev pub invariant-loop-heading : goal.invariant-loop-heading
invariant-loop-heading l =
    list_any (same_name l.alias) (map (λ h. h.alias) l.before) ≡ list_any (same_name l.alias) (map (λ h. h.alias) (drop l.heading-index l.before))
