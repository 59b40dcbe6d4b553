use Rattle.std.proofs.Common.{◌≡◌, take}
use Rattle.u_rules.specs.Terms.{terms}
use Rattle.u_bag.specs.Order.{lent_rows, rows_among}
use Rattle.u_bag.proofs.order.rows_of.Given as goal

abbrev pub invariant-loop-factor : goal.invariant-loop-factor
invariant-loop-factor l = lent_rows l.rows.items ≡ rows_among (terms (take l.factor-index l.factors))
