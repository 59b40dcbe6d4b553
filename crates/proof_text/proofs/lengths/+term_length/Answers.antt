use Rattle.std.proofs.Common.{arith, inl, inr}
use Rattle.proof_text.proofs.writing.LongTexts.{capped_more, values-some}
use Rattle.proof_text.proofs.writing.TextsAt.{words-Zero, words-One, words-Add, words-Mul, words-Squash, words-Not, words-Sum, words-Rel, words-Eq, words-Pred, words-Bound, words-Free, words-Lit, words-Fun, words-Agg}
use Rattle.proof_text.proofs.lengths.+term_length.Goals as goal

pub values_length-returns-clause-length : goal.values_length-returns-clause-length
values_length-returns-clause-length t c =
    capped_more _ c.args.values.now c.loop-value.value-index _ _ _ c.loop-value.invariant.sum (omega arith) (values-some c.args.values.now (λ e. grind (arith, e)))

pub term_length-returns-in-Eq-clause-words : goal.term_length-returns-in-Eq-clause-words
term_length-returns-in-Eq-clause-words t c = words-Eq _ _ _ c.in-Eq.is c.value_length.ensures.words c.value_length-in-Eq.ensures.words

pub term_length-returns-in-Zero-clause-words : goal.term_length-returns-in-Zero-clause-words
term_length-returns-in-Zero-clause-words t c = elim c.in-Zero.is [ inl e ↦ words-Zero _ e | inr e ↦ words-One _ e ]

pub term_length-returns-in-Zero-2-clause-words : goal.term_length-returns-in-Zero-2-clause-words
term_length-returns-in-Zero-2-clause-words t c = elim c.in-Zero.is [ inl e ↦ words-Zero _ e | inr e ↦ words-One _ e ]

pub term_length-returns-in-Rel-clause-words : goal.term_length-returns-in-Rel-clause-words
term_length-returns-in-Rel-clause-words t c = elim c.in-Rel.is [
  | inl e ↦ words-Rel _ _ _ _ e c.as_slice.ensures c.digits.ensures.word c.values_length.ensures.words
  | inr e ↦ words-Pred _ _ _ _ e c.as_slice.ensures c.digits.ensures.word c.values_length.ensures.words
]

pub term_length-returns-in-Squash-clause-words : goal.term_length-returns-in-Squash-clause-words
term_length-returns-in-Squash-clause-words t c = elim c.in-Squash.is [
  | inl e ↦ words-Squash _ _ _ e c.get.ensures c.term_length.ensures.words
  | inr (inl e) ↦ words-Not _ _ _ e c.get.ensures c.term_length.ensures.words
  | inr (inr e) ↦ words-Sum _ _ _ e c.get.ensures c.term_length.ensures.words
]

pub term_length-returns-in-Add-clause-words : goal.term_length-returns-in-Add-clause-words
term_length-returns-in-Add-clause-words t c = elim c.in-Add.is [
  | inl e ↦ words-Add _ _ _ _ _ e c.get-in-Add.ensures c.get-in-Add-2.ensures c.term_length-in-Add.ensures.words c.term_length-in-Add-2.ensures.words
  | inr e ↦ words-Mul _ _ _ _ _ e c.get-in-Add.ensures c.get-in-Add-2.ensures c.term_length-in-Add.ensures.words c.term_length-in-Add-2.ensures.words
]

pub value_length-returns-in-Fun-clause-words : goal.value_length-returns-in-Fun-clause-words
value_length-returns-in-Fun-clause-words t c = words-Fun _ _ _ _ c.in-Fun.is c.as_slice.ensures c.digits.ensures.word c.values_length.ensures.words

pub value_length-returns-in-Agg-clause-words : goal.value_length-returns-in-Agg-clause-words
value_length-returns-in-Agg-clause-words t c = words-Agg _ _ _ _ c.in-Agg.is c.get.ensures c.digits-in-Agg.ensures.word c.term_length.ensures.words

pub value_length-returns-in-Bound-clause-words : goal.value_length-returns-in-Bound-clause-words
value_length-returns-in-Bound-clause-words t c = elim c.in-Bound.is [
  | inl e ↦ words-Bound _ _ e c.digits-in-Bound.ensures.word
  | inr (inl e) ↦ words-Free _ _ e c.digits-in-Bound.ensures.word
  | inr (inr e) ↦ words-Lit _ _ e c.digits-in-Bound.ensures.word
]
