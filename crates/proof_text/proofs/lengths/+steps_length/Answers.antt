use Rattle.std.proofs.Common.{rules, arith, subst, sym}
use Rattle.data_model.specs.Lists.{Each}
use Rattle.proof_text.specs.Written.{IsWritable}
use Rattle.proof_text.proofs.writing.LongTexts.{capped_all, length-steps}
use Rattle.proof_text.proofs.writing.TextsAt.{fits_of, writable}
use Rattle.proof_text.proofs.lengths.+steps_length.Goals as goal

pub steps_length-returns-clause-length : goal.steps_length-returns-clause-length
steps_length-returns-clause-length t c = capped_all _ c.args.steps.now c.loop-step.step-index _ _ _ c.loop-step.invariant.sum (omega arith) (length-steps c.args.steps.now)

pub step_length-head_length-head-requires : goal.step_length-head_length-head-requires
step_length-head_length-head-requires t c = (fits_of c.args.step.now c.requires.fits).kinds

pub step_length-returns-then-has_inner-clause-writable : goal.step_length-returns-then-has_inner-clause-writable
step_length-returns-then-has_inner-clause-writable t c =
    writable c.args.step.now c.head_length-head.ensures.line (fits_of c.args.step.now c.requires.fits).none (subst (Each IsWritable) c.inner_of.ensures.lent c.steps_length.ensures.writable)

pub step_length-returns-else-has_inner-clause-writable : goal.step_length-returns-else-has_inner-clause-writable
step_length-returns-else-has_inner-clause-writable t c =
    let none = (fits_of c.args.step.now c.requires.fits).none in
    writable c.args.step.now c.head_length-head.ensures.line none (subst (Each IsWritable) (sym (none (search rules))) tt)
