use Rattle.std.proofs.Common.{◌≤◌, ◌-◌, length, take}
use Rattle.udp_io.specs.Writing.{Grows}
use Rattle.udp_io.proofs.writing.write_all.Given as goal

abbrev pub invariant-loop-done : goal.invariant-loop-done
invariant-loop-done g l = record {
  within : l.done ≤ length l.bytes;
  later : g.K.Sink.faults l.initial.out ≤ g.K.Sink.faults l.out;
  so_far : Grows (g.K.Sink.written l.initial.out) (g.K.Sink.written l.out) (take l.done l.bytes);
}

abbrev pub decreases-loop-done : goal.decreases-loop-done
decreases-loop-done g l = length l.bytes - l.done
