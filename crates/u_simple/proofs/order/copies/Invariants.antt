use Rattle.std.proofs.Common.{◌≡◌, take}
use Rattle.u_rules.specs.Terms.{terms}
use Rattle.u_simple.specs.Order.{chosen}
use Rattle.u_simple.proofs.order.copies.Given as goal

abbrev pub invariant-loop-place : goal.invariant-loop-place
invariant-loop-place l = l.parts.items ≡ chosen (terms l.all) (take l.place-index l.places)
