use Rattle.std.proofs.Common.{◌≡◌, drop}
use Rattle.std.specs.List.{list_any}
use Rattle.sql_model.specs.Columns.{is_called}
use Rattle.scope_core.specs.Ropes.{columns_listed}
use Rattle.scope_core.proofs.basics.Ropes.{size, size_listed}
use Rattle.scope_core.proofs.rope.+has.Given as goal

abbrev pub decreases-has_among : goal.decreases-has_among
decreases-has_among l = size l.rope.now

abbrev pub decreases-has_in_parts : goal.decreases-has_in_parts
decreases-has_in_parts l = size_listed l.parts.now

abbrev pub invariant-has_in_parts-loop-part : goal.invariant-has_in_parts-loop-part
invariant-has_in_parts-loop-part l =
    list_any (is_called l.sought.name.now) (columns_listed l.parts) ≡ list_any (is_called l.sought.name.now) (columns_listed (drop l.part-index l.parts))
