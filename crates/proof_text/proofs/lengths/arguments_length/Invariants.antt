use Rattle.std.proofs.Common.{◌≡◌, ◌-◌, ◌^◌, min, take}
use Rattle.std.specs.Prelude.{sum_by}
use Rattle.data_model.specs.Lists.{Each}
use Rattle.proof_text.specs.Words.{ArgumentHasWords}
use Rattle.proof_text.proofs.writing.LongTexts.{argument_length}
use Rattle.proof_text.proofs.lengths.arguments_length.Given as goal

abbrev pub invariant-loop-argument : goal.invariant-loop-argument
invariant-loop-argument l = record {
  sum : l.sum ≡ min (sum_by argument_length (take l.argument-index l.arguments)) (2 ^ 64 - 1);
  words : Each ArgumentHasWords (take l.argument-index l.arguments);
}
