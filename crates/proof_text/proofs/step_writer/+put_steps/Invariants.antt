use Rattle.std.proofs.Common.{take}
use Rattle.std.specs.List.{flat_map}
use Rattle.data_model.specs.Lists.{Each}
use Rattle.u_deriv.specs.StepText.{step_text}
use Rattle.proof_text.specs.Sent.{Writes}
use Rattle.proof_text.specs.Written.{IsWritable}
use Rattle.proof_text.proofs.step_writer.+put_steps.Given as goal

abbrev pub invariant-put_steps-loop-step : goal.invariant-put_steps-loop-step
invariant-put_steps-loop-step g l = record {
  writes : Writes (g.K.Sink.written l.initial.out) (g.K.Sink.written l.out) (g.K.Sink.faults l.initial.out) (g.K.Sink.faults l.out)
      l.initial.pending (flat_map step_text (take l.step-index l.steps)) l.pending;
  writable : Each IsWritable (take l.step-index l.steps);
}
