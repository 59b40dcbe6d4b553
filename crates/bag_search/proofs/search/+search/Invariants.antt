use Rattle.std.proofs.Common.{◌≡◌, ◌+◌, ◌-◌, ◌*◌, length}
use Rattle.bag_search.specs.Answers.{choice}
use Rattle.bag_search.specs.Known.{AreKnown}
use Rattle.bag_search.proofs.Budget.{Behind}
use Rattle.bag_search.proofs.search.+search.Given as goal

abbrev pub decreases-further : goal.decreases-further
decreases-further l = 2 * (length l.sides.now.left.shape.now.entries - length l.chosen.now.items) + 1

abbrev pub decreases-go : goal.decreases-go
decreases-go l = 2 * (length l.sides.now.left.shape.now.entries - length l.chosen.now.items)

abbrev pub invariant-go-loop-x : goal.invariant-go-loop-x
invariant-go-loop-x l = record {
  same : l.chosen.items ≡ l.fn.chosen.items;
  known : AreKnown l.sides l.known;
  behind : Behind
      (choice l.sides.left.shape.now l.sides.right.shape.now (length l.sides.left.shape.now.entries - length l.fn.chosen.items - 1) l.fn.chosen.items)
      (length l.sides.right.shape.now.entries) l.x l.left l.fn.left;
}
