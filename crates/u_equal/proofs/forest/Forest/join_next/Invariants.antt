use Rattle.std.proofs.Common.{◌≡◌, length}
use Rattle.indexmap.specs.IndexMap.{get}
use Rattle.u_equal.specs.Joined.{seen, IsTree}
use Rattle.u_equal.specs.Tables.{IsKnown, same_signature}
use Rattle.u_equal.specs.Agendas.{AreSettled}
use Rattle.u_equal.proofs.forest.Forest.join_next.Given as goal

-- nothing was joined
abbrev pub invariant-loop-number : goal.invariant-loop-number
invariant-loop-number l = record {
  tree : IsTree l.self;
  same : seen l.self ≡ seen l.initial.self;
  known : IsKnown l.self.values.keys (seen l.self) (get same_signature l.known);
  users : l.agenda.users ≡ l.initial.agenda.users;
  settled : AreSettled l.calls l.agenda.waiting (seen l.self) (get same_signature l.known);
}

abbrev pub decreases-loop-number : goal.decreases-loop-number
decreases-loop-number l = length l.agenda.waiting
