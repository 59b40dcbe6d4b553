use Rattle.std.proofs.Common.{◌≡◌, ◌-◌, length}
use Rattle.indexmap.specs.IndexMap.{get}
use Rattle.u_equal.specs.Joined.{label_now, seen, IsTree, IsProgress}
use Rattle.u_equal.specs.Tables.{IsKnown, same_signature}
use Rattle.u_equal.specs.Agendas.{AreSettled, EachUses}
use Rattle.u_equal.proofs.forest.Forest.join_calls.Given as goal

abbrev pub invariant-loop-agenda : goal.invariant-loop-agenda
invariant-loop-agenda l = record {
  tree : IsTree l.self;
  progress : IsProgress l.initial.self.values.keys (seen l.initial.self) (seen l.self);
  known : IsKnown l.self.values.keys (seen l.self) (get same_signature l.known);
  long : length l.agenda.users.items ≡ length l.self.values.keys;
  uses : EachUses (label_now (seen l.self)) l.agenda.users.items l.calls;
  settled : AreSettled l.calls l.agenda.waiting (seen l.self) (get same_signature l.known);
}

abbrev pub decreases-loop-agenda : goal.decreases-loop-agenda
decreases-loop-agenda l = length l.self.values.keys - length l.self.edges.items
