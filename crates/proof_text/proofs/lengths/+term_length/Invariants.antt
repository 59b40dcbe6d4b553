use Rattle.std.proofs.Common.{◌≡◌, ◌+◌, ◌-◌, ◌^◌, min, take}
use Rattle.std.specs.Prelude.{sum_by}
use Rattle.data_model.specs.Lists.{Each}
use Rattle.proof_text.specs.Words.{ValueHasWords}
use Rattle.proof_text.proofs.writing.LongTexts.{apart_length}
use Rattle.proof_text.proofs.lengths.+term_length.Given as goal

abbrev pub invariant-values_length-loop-value : goal.invariant-values_length-loop-value
invariant-values_length-loop-value l = record {
  sum : l.sum ≡ min (1 + sum_by apart_length (take l.value-index l.values)) (2 ^ 64 - 1);
  words : Each ValueHasWords (take l.value-index l.values);
}
