use Rattle.std.proofs.Common.{◌≡◌, take}
use Rattle.data_model.specs.Lists.{Each}
use Rattle.proof_text.specs.Sent.{Writes}
use Rattle.proof_text.specs.Words.{ValueHasWords}
use Rattle.proof_text.proofs.writing.TextsAt.{opening_at, opened_values}
use Rattle.proof_text.proofs.term_writer.+put_term.Given as goal

abbrev pub invariant-put_values-loop-value : goal.invariant-put_values-loop-value
invariant-put_values-loop-value g l = record {
  opening : l.opening ≡ opening_at l.value-index;
  writes : Writes (g.K.Sink.written l.initial.out) (g.K.Sink.written l.out) (g.K.Sink.faults l.initial.out) (g.K.Sink.faults l.out) l.initial.pending (opened_values (take l.value-index l.values)) l.pending;
  words : Each ValueHasWords (take l.value-index l.values);
}
