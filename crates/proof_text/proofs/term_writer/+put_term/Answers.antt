use Rattle.std.proofs.Common.{arith}
use Rattle.proof_text.specs.Words.{ValueHasWords}
use Rattle.proof_text.proofs.writing.Sending.{writes-as, writes-then}
use Rattle.proof_text.proofs.writing.TextsAt.{all-values, each-next, opening-next, no_values, opened-next, text-Zero, text-One, text-Add, text-Mul, text-Squash, text-Not, text-Sum, text-Rel, text-Eq, text-Pred, text-Bound, text-Free, text-Lit, text-Fun, text-Agg, words-Zero, words-One, words-Add, words-Mul, words-Squash, words-Not, words-Sum, words-Rel, words-Eq, words-Pred, words-Bound, words-Free, words-Lit, words-Fun, words-Agg}
use Rattle.proof_text.proofs.term_writer.+put_term.Goals as goal

pub put_between-returns-clause-writes : goal.put_between-returns-clause-writes
put_between-returns-clause-writes g t c = writes-then c.put.ensures (writes-then c.put_term.ensures.writes c.put-2.ensures)

-- ---- terms
pub put_term-returns-in-Zero-clause-writes : goal.put_term-returns-in-Zero-clause-writes
put_term-returns-in-Zero-clause-writes g t c = writes-as (text-Zero _ c.in-Zero.is) c.put.ensures

pub put_term-returns-in-Zero-clause-words : goal.put_term-returns-in-Zero-clause-words
put_term-returns-in-Zero-clause-words g t c = words-Zero _ c.in-Zero.is

pub put_term-returns-in-One-clause-writes : goal.put_term-returns-in-One-clause-writes
put_term-returns-in-One-clause-writes g t c = writes-as (text-One _ c.in-One.is) c.put-in-One.ensures

pub put_term-returns-in-One-clause-words : goal.put_term-returns-in-One-clause-words
put_term-returns-in-One-clause-words g t c = words-One _ c.in-One.is

pub put_term-returns-in-Add-clause-writes : goal.put_term-returns-in-Add-clause-writes
put_term-returns-in-Add-clause-writes g t c =
    writes-as (text-Add _ _ _ _ _ c.in-Add.is c.get.ensures c.get-in-Add.ensures) (writes-then c.put_between.ensures.writes c.put_between-in-Add.ensures.writes)

pub put_term-returns-in-Add-clause-words : goal.put_term-returns-in-Add-clause-words
put_term-returns-in-Add-clause-words g t c = words-Add _ _ _ _ _ c.in-Add.is c.get.ensures c.get-in-Add.ensures c.put_between.ensures.words c.put_between-in-Add.ensures.words

pub put_term-returns-in-Mul-clause-writes : goal.put_term-returns-in-Mul-clause-writes
put_term-returns-in-Mul-clause-writes g t c =
    writes-as (text-Mul _ _ _ _ _ c.in-Mul.is c.get-in-Mul.ensures c.get-in-Mul-2.ensures) (writes-then c.put_between-in-Mul.ensures.writes c.put_between-in-Mul-2.ensures.writes)

pub put_term-returns-in-Mul-clause-words : goal.put_term-returns-in-Mul-clause-words
put_term-returns-in-Mul-clause-words g t c = words-Mul _ _ _ _ _ c.in-Mul.is c.get-in-Mul.ensures c.get-in-Mul-2.ensures c.put_between-in-Mul.ensures.words c.put_between-in-Mul-2.ensures.words

pub put_term-returns-in-Squash-clause-writes : goal.put_term-returns-in-Squash-clause-writes
put_term-returns-in-Squash-clause-writes g t c = writes-as (text-Squash _ _ _ c.in-Squash.is c.get-in-Squash.ensures) c.put_between-in-Squash.ensures.writes

pub put_term-returns-in-Squash-clause-words : goal.put_term-returns-in-Squash-clause-words
put_term-returns-in-Squash-clause-words g t c = words-Squash _ _ _ c.in-Squash.is c.get-in-Squash.ensures c.put_between-in-Squash.ensures.words

pub put_term-returns-in-Not-clause-writes : goal.put_term-returns-in-Not-clause-writes
put_term-returns-in-Not-clause-writes g t c = writes-as (text-Not _ _ _ c.in-Not.is c.get-in-Not.ensures) c.put_between-in-Not.ensures.writes

pub put_term-returns-in-Not-clause-words : goal.put_term-returns-in-Not-clause-words
put_term-returns-in-Not-clause-words g t c = words-Not _ _ _ c.in-Not.is c.get-in-Not.ensures c.put_between-in-Not.ensures.words

pub put_term-returns-in-Sum-clause-writes : goal.put_term-returns-in-Sum-clause-writes
put_term-returns-in-Sum-clause-writes g t c = writes-as (text-Sum _ _ _ c.in-Sum.is c.get-in-Sum.ensures) c.put_between-in-Sum.ensures.writes

pub put_term-returns-in-Sum-clause-words : goal.put_term-returns-in-Sum-clause-words
put_term-returns-in-Sum-clause-words g t c = words-Sum _ _ _ c.in-Sum.is c.get-in-Sum.ensures c.put_between-in-Sum.ensures.words

pub put_term-returns-in-Rel-clause-writes : goal.put_term-returns-in-Rel-clause-writes
put_term-returns-in-Rel-clause-writes g t c = writes-as (text-Rel _ _ _ _ c.in-Rel.is c.as_slice.ensures) (writes-then c.put_numbered.ensures.writes c.put_values.ensures.writes)

pub put_term-returns-in-Rel-clause-words : goal.put_term-returns-in-Rel-clause-words
put_term-returns-in-Rel-clause-words g t c = words-Rel _ _ _ _ c.in-Rel.is c.as_slice.ensures c.put_numbered.ensures.word c.put_values.ensures.words

pub put_term-returns-in-Eq-clause-writes : goal.put_term-returns-in-Eq-clause-writes
put_term-returns-in-Eq-clause-writes g t c =
    writes-as (text-Eq _ _ _ c.in-Eq.is)
    (writes-then c.put-in-Eq.ensures (writes-then c.put_value.ensures.writes (writes-then c.put-in-Eq-2.ensures (writes-then c.put_value-in-Eq.ensures.writes c.put-in-Eq-3.ensures))))

pub put_term-returns-in-Eq-clause-words : goal.put_term-returns-in-Eq-clause-words
put_term-returns-in-Eq-clause-words g t c = words-Eq _ _ _ c.in-Eq.is c.put_value.ensures.words c.put_value-in-Eq.ensures.words

pub put_term-returns-in-Pred-clause-writes : goal.put_term-returns-in-Pred-clause-writes
put_term-returns-in-Pred-clause-writes g t c =
    writes-as (text-Pred _ _ _ _ c.in-Pred.is c.as_slice-in-Pred.ensures) (writes-then c.put_numbered-in-Pred.ensures.writes c.put_values-in-Pred.ensures.writes)

pub put_term-returns-in-Pred-clause-words : goal.put_term-returns-in-Pred-clause-words
put_term-returns-in-Pred-clause-words g t c =
    words-Pred _ _ _ _ c.in-Pred.is c.as_slice-in-Pred.ensures c.put_numbered-in-Pred.ensures.word c.put_values-in-Pred.ensures.words

-- ---- values
pub put_value-returns-in-Bound-clause-writes : goal.put_value-returns-in-Bound-clause-writes
put_value-returns-in-Bound-clause-writes g t c = writes-as (text-Bound _ _ c.in-Bound.is) c.put_numbered.ensures.writes

pub put_value-returns-in-Bound-clause-words : goal.put_value-returns-in-Bound-clause-words
put_value-returns-in-Bound-clause-words g t c = words-Bound _ _ c.in-Bound.is c.put_numbered.ensures.word

pub put_value-returns-in-Free-clause-writes : goal.put_value-returns-in-Free-clause-writes
put_value-returns-in-Free-clause-writes g t c = writes-as (text-Free _ _ c.in-Free.is) c.put_numbered-in-Free.ensures.writes

pub put_value-returns-in-Free-clause-words : goal.put_value-returns-in-Free-clause-words
put_value-returns-in-Free-clause-words g t c = words-Free _ _ c.in-Free.is c.put_numbered-in-Free.ensures.word

pub put_value-returns-in-Lit-clause-writes : goal.put_value-returns-in-Lit-clause-writes
put_value-returns-in-Lit-clause-writes g t c = writes-as (text-Lit _ _ c.in-Lit.is) c.put_numbered-in-Lit.ensures.writes

pub put_value-returns-in-Lit-clause-words : goal.put_value-returns-in-Lit-clause-words
put_value-returns-in-Lit-clause-words g t c = words-Lit _ _ c.in-Lit.is c.put_numbered-in-Lit.ensures.word

pub put_value-returns-in-Fun-clause-writes : goal.put_value-returns-in-Fun-clause-writes
put_value-returns-in-Fun-clause-writes g t c =
    writes-as (text-Fun _ _ _ _ c.in-Fun.is c.as_slice.ensures) (writes-then c.put_numbered-in-Fun.ensures.writes c.put_values.ensures.writes)

pub put_value-returns-in-Fun-clause-words : goal.put_value-returns-in-Fun-clause-words
put_value-returns-in-Fun-clause-words g t c = words-Fun _ _ _ _ c.in-Fun.is c.as_slice.ensures c.put_numbered-in-Fun.ensures.word c.put_values.ensures.words

pub put_value-returns-in-Agg-clause-writes : goal.put_value-returns-in-Agg-clause-writes
put_value-returns-in-Agg-clause-writes g t c =
    writes-as (text-Agg _ _ _ _ c.in-Agg.is c.get.ensures) (writes-then c.put_numbered-in-Agg.ensures.writes c.put_between.ensures.writes)

pub put_value-returns-in-Agg-clause-words : goal.put_value-returns-in-Agg-clause-words
put_value-returns-in-Agg-clause-words g t c = words-Agg _ _ _ _ c.in-Agg.is c.get.ensures c.put_numbered-in-Agg.ensures.word c.put_between.ensures.words

pub put_values-returns-then-is_empty-clause-writes : goal.put_values-returns-then-is_empty-clause-writes
put_values-returns-then-is_empty-clause-writes g t c = writes-as (no_values c.args.values.now (grind arith)) c.put.ensures

pub put_values-loop-value-preserved : goal.put_values-loop-value-preserved
put_values-loop-value-preserved g t c = record {
  opening = opening-next c.loop-value.value-index;
  writes =
      writes-as (opened-next c.args.values.now c.loop-value.value-index _ _ _ c.loop-value.invariant.opening c.value-item.is c.loop-value-test.true)
      (writes-then c.loop-value.invariant.writes (writes-then c.put-in-loop-value.ensures c.put_value.ensures.writes));
  words = each-next ValueHasWords c.args.values.now c.loop-value.value-index _ _ c.value-item.is c.loop-value-test.true c.loop-value.invariant.words c.put_value.ensures.words;
}

pub put_values-returns-clause-writes : goal.put_values-returns-clause-writes
put_values-returns-clause-writes g t c =
    writes-as (all-values c.args.values.now c.loop-value.value-index (omega arith) (λ e. grind (arith, e))) (writes-then c.loop-value.invariant.writes c.put-2.ensures)
