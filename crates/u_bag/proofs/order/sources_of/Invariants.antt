use Rattle.std.proofs.Common.{length}
use Rattle.u_bag.specs.Order.{AreSent, lent_rows}
use Rattle.u_bag.proofs.order.sources_of.Given as goal

abbrev pub invariant-loop-row : goal.invariant-loop-row
invariant-loop-row l = AreSent (lent_rows l.left.rows.items) (lent_rows l.right.rows.items) l.entries (length l.yielded) l.right.sums l.sources.items
