use Rattle.std.proofs.Common.{◌≡◌, ◌++◌, take}
use Rattle.scope_core.proofs.directed.Joining.push_all.Given as goal

abbrev pub invariant-loop-part : goal.invariant-loop-part
invariant-loop-part l = l.self ≡ l.initial.self ++ take l.part-index l.parts
