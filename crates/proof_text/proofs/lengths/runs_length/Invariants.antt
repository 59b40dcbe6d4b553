use Rattle.std.proofs.Common.{◌≡◌, ◌-◌, ◌^◌, length, min, take}
use Rattle.std.specs.Prelude.{sum_by}
use Rattle.data_model.specs.Lists.{Each}
use Rattle.u_deriv.specs.StepText.{run_text}
use Rattle.proof_text.specs.Words.{RunHasWord}
use Rattle.proof_text.proofs.lengths.runs_length.Given as goal

abbrev pub invariant-loop-run : goal.invariant-loop-run
invariant-loop-run l = record {
  sum : l.sum ≡ min (sum_by (λ run. length (run_text run)) (take l.run-index l.runs)) (2 ^ 64 - 1);
  words : Each RunHasWord (take l.run-index l.runs);
}
