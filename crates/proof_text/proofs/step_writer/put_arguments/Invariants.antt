use Rattle.std.proofs.Common.{take}
use Rattle.std.specs.List.{flat_map}
use Rattle.data_model.specs.Lists.{Each}
use Rattle.proof_text.specs.Sent.{Writes}
use Rattle.proof_text.specs.Words.{ArgumentHasWords}
use Rattle.proof_text.proofs.writing.TextsAt.{behind_space}
use Rattle.proof_text.proofs.step_writer.put_arguments.Given as goal

abbrev pub invariant-loop-argument : goal.invariant-loop-argument
invariant-loop-argument g l = record {
  writes : Writes (g.K.Sink.written l.initial.out) (g.K.Sink.written l.out) (g.K.Sink.faults l.initial.out) (g.K.Sink.faults l.out)
      l.initial.pending (flat_map behind_space (take l.argument-index l.arguments)) l.pending;
  words : Each ArgumentHasWords (take l.argument-index l.arguments);
}
