use Rattle.std.proofs.Common.{length}
use Rattle.u_bag.specs.Order.{IsRowSent}
use Rattle.u_bag.proofs.order.send_row.Given as goal

abbrev pub invariant-loop-from : goal.invariant-loop-from
invariant-loop-from l = IsRowSent l.row l.other (length l.yielded) l.initial.sources l.sources
