use Rattle.std.proofs.Common.{◌≡◌, ℕ, ◌<◌, length, get_or}
use Rattle.u_equal.specs.Standing.{IsIn}
use Rattle.u_equal.specs.Agendas.{users_at}
use Rattle.u_equal.proofs.agenda.Agenda.move_users.Given as goal

abbrev pub invariant-loop-number : goal.invariant-loop-number
invariant-loop-number l = record {
  long : length l.self.users.items ≡ length l.fn.self.users.items;
  still : (class number : ℕ) → (class ≡ l.from → ⊥) → IsIn number (users_at l.fn.self.users.items class) → IsIn number (users_at l.self.users.items class);
  moved : (m : ℕ) → m < l.number-index → IsIn (get_or l.number-items m 0) (users_at l.self.users.items l.to);
  waiting : l.self.waiting ≡ l.fn.self.waiting;
}
