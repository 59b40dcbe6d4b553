use Rattle.std.proofs.Common.{◌≡◌, drop}
use Rattle.scope_core.specs.Written.{written}
use Rattle.scope_core.proofs.items.Items.first.Given as goal

abbrev pub invariant-loop-part : goal.invariant-loop-part
invariant-loop-part g l = written (drop l.part-index l.part-items) l.self-inside.last ≡ l.self
