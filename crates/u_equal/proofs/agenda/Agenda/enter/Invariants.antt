use Rattle.std.proofs.Common.{◌≡◌, ℕ, ◌<◌, length, get_or}
use Rattle.u_equal.specs.Standing.{IsIn}
use Rattle.u_equal.specs.Joined.{label_now, seen}
use Rattle.u_equal.specs.Agendas.{StillUse, users_at}
use Rattle.u_equal.proofs.agenda.Agenda.enter.Given as goal

abbrev pub invariant-loop-place : goal.invariant-loop-place
invariant-loop-place l = record {
  long : length l.self.users.items ≡ length l.initial.self.users.items;
  still : StillUse l.initial.self.users.items l.self.users.items;
  uses : (m : ℕ) → m < l.place-index → IsIn l.number (users_at l.self.users.items (label_now (seen l.forest) (get_or l.call.arguments m 0)));
  waiting : l.self.waiting ≡ l.initial.self.waiting;
}
