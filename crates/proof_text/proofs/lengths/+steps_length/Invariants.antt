use Rattle.std.proofs.Common.{◌≡◌, ◌-◌, ◌^◌, length, min, take}
use Rattle.std.specs.Prelude.{sum_by}
use Rattle.data_model.specs.Lists.{Each}
use Rattle.u_deriv.specs.StepText.{step_text}
use Rattle.proof_text.specs.Written.{IsWritable}
use Rattle.proof_text.proofs.lengths.+steps_length.Given as goal

abbrev pub invariant-steps_length-loop-step : goal.invariant-steps_length-loop-step
invariant-steps_length-loop-step l = record {
  sum : l.sum ≡ min (sum_by (λ s. length (step_text s)) (take l.step-index l.steps)) (2 ^ 64 - 1);
  writable : Each IsWritable (take l.step-index l.steps);
}
