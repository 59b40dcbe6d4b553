use Rattle.std.proofs.Common.{◌≡◌, ◌++◌, drop}
use Rattle.scope_core.specs.Ropes.{columns_listed}
use Rattle.scope_core.proofs.rope.+all.Given as goal

abbrev pub invariant-add_names_of-loop-part : goal.invariant-add_names_of-loop-part
invariant-add_names_of-loop-part l =
    l.names ++ columns_listed (drop l.part-index l.parts) ≡ l.initial.names ++ columns_listed l.parts
