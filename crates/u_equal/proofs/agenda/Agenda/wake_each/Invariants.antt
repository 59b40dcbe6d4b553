use Rattle.std.proofs.Common.{◌≡◌, ℕ, ◌<◌, get_or}
use Rattle.std.specs.Prelude.{Some, slice_get}
use Rattle.indexmap.specs.IndexMap.{get}
use Rattle.u_equal.specs.declared.calls.Call.{Call}
use Rattle.u_equal.specs.Joined.{seen}
use Rattle.u_equal.specs.Tables.{same_signature}
use Rattle.u_equal.specs.Agendas.{IsForgotten, StillWait, WaitsOrKeeps}
use Rattle.u_equal.proofs.agenda.Agenda.wake_each.Given as goal

-- of the first numbers
abbrev pub invariant-loop-number : goal.invariant-loop-number
invariant-loop-number l = record {
  users : l.self.users ≡ l.initial.self.users;
  waits : (m : ℕ) → m < l.number-index → (c : Call) → slice_get l.calls (get_or l.numbers m 0) ≡ Some c → WaitsOrKeeps (seen l.forest) (get_or l.numbers m 0) c l.self.waiting;
  others : StillWait l.initial.self.waiting l.self.waiting;
  forgotten : IsForgotten (seen l.forest) (get same_signature l.initial.known) (get same_signature l.known);
}
