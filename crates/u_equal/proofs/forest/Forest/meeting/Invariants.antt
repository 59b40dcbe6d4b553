use Rattle.std.proofs.Common.{◌≡◌, ◌-◌, ◌<◌, ◌≤◌}
use Rattle.u_equal.specs.Joined.{label_at}
use Rattle.u_equal.proofs.forest.Forest.meeting.Given as goal

abbrev pub invariant-loop-joined : goal.invariant-loop-joined
invariant-loop-joined l = record {
  less : l.apart < l.joined;
  within : l.joined ≤ l.upto;
  differ : label_at l.self.edges.items l.apart l.from ≡ label_at l.self.edges.items l.apart l.to → ⊥;
  same : label_at l.self.edges.items l.joined l.from ≡ label_at l.self.edges.items l.joined l.to;
}

abbrev pub decreases-loop-joined : goal.decreases-loop-joined
decreases-loop-joined l = l.joined - l.apart
