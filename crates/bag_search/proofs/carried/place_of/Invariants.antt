use Rattle.std.proofs.Common.{◌≡◌, drop}
use Rattle.shapes.specs.Tests.{place_of}
use Rattle.bag_search.proofs.carried.place_of.Given as goal

abbrev pub invariant-loop-y : goal.invariant-loop-y
invariant-loop-y l = record {
  at : l.place ≡ l.y-index;
  rest : place_of l.x 0 l.list ≡ place_of l.x l.place (drop l.y-index l.list);
}
