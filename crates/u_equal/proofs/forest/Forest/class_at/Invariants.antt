use Rattle.std.proofs.Common.{◌≡◌, ◌<◌, length}
use Rattle.u_equal.specs.Joined.{label_at, place_at}
use Rattle.u_equal.proofs.edges.Trees.{age}
use Rattle.u_equal.proofs.forest.Forest.class_at.Given as goal

abbrev pub invariant-loop-place : goal.invariant-loop-place
invariant-loop-place l = record {
  within : l.at < length l.self.values.keys;
  same : label_at l.self.edges.items l.upto l.at ≡ label_at l.self.edges.items l.upto l.place;
}

abbrev pub decreases-loop-place : goal.decreases-loop-place
decreases-loop-place l = age (length l.self.edges.items) (place_at l.self.places.items l.at)
