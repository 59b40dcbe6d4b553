use Rattle.std.proofs.Common.{◌≡◌, length, take}
use Rattle.u_rules.specs.Terms.{terms}
use Rattle.u_simple.specs.Order.{AreThere, chosen}
use Rattle.u_simple.proofs.order.sorted_places.Given as goal

abbrev pub invariant-loop-index : goal.invariant-loop-index
invariant-loop-index l = record {
  there : AreThere (length l.all) l.places.items;
  order : chosen (terms l.all) l.places.items ≡ take l.index (terms l.all);
}
