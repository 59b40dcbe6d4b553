use Rattle.std.proofs.Common.{◌≡◌, ℕ, ◌<◌, length}
use Rattle.std.specs.Prelude.{Some, slice_get}
use Rattle.u_equal.specs.declared.calls.Call.{Call}
use Rattle.u_equal.specs.Standing.{IsIn}
use Rattle.u_equal.specs.Joined.{label_now, seen}
use Rattle.u_equal.specs.Agendas.{Uses}
use Rattle.u_equal.proofs.agenda.Agenda.new.Given as goal

-- of the first calls
abbrev pub invariant-loop-number : goal.invariant-loop-number
invariant-loop-number l = record {
  long : length l.agenda.users.items ≡ length l.forest.values.keys;
  uses : (k : ℕ) (c : Call) → k < l.number → slice_get l.calls k ≡ Some c → Uses (label_now (seen l.forest)) l.agenda.users.items k c;
  waits : (k : ℕ) (c : Call) → k < l.number → slice_get l.calls k ≡ Some c → IsIn k l.agenda.waiting;
}
