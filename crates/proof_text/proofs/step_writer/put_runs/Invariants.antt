use Rattle.std.proofs.Common.{take}
use Rattle.std.specs.List.{flat_map}
use Rattle.data_model.specs.Lists.{Each}
use Rattle.u_deriv.specs.StepText.{run_text}
use Rattle.proof_text.specs.Sent.{Writes}
use Rattle.proof_text.specs.Words.{RunHasWord}
use Rattle.proof_text.proofs.step_writer.put_runs.Given as goal

abbrev pub invariant-loop-run : goal.invariant-loop-run
invariant-loop-run g l = record {
  writes : Writes (g.K.Sink.written l.initial.out) (g.K.Sink.written l.out) (g.K.Sink.faults l.initial.out) (g.K.Sink.faults l.out)
      l.initial.pending (flat_map run_text (take l.run-index l.runs)) l.pending;
  words : Each RunHasWord (take l.run-index l.runs);
}
