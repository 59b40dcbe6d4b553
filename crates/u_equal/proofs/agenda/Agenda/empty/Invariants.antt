use Rattle.std.proofs.Common.{◌≡◌, length}
use Rattle.u_equal.proofs.agenda.Agenda.empty.Given as goal

abbrev pub invariant-loop-place : goal.invariant-loop-place
invariant-loop-place l = length l.users.items ≡ l.«_place»
