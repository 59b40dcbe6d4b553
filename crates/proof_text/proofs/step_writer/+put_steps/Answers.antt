use Rattle.std.proofs.Common.{rules, subst, sym}
use Rattle.data_model.specs.Lists.{Each}
use Rattle.u_deriv.specs.StepText.{step_text}
use Rattle.proof_text.specs.Written.{IsWritable}
use Rattle.proof_text.proofs.writing.Sending.{writes-as, writes-then}
use Rattle.proof_text.proofs.writing.TextsAt.{flat_map-next, each-next, fits_of, opens-parts, whole-parts, writable}
use Rattle.proof_text.proofs.step_writer.+put_steps.Goals as goal

pub put_step-put_head-requires : goal.put_step-put_head-requires
put_step-put_head-requires g t c = (fits_of c.args.step.now c.requires.fits).kinds

pub put_step-returns-then-has_inner-clause-writes : goal.put_step-returns-then-has_inner-clause-writes
put_step-returns-then-has_inner-clause-writes g t c =
    writes-as (opens-parts c.args.step.now _ c.inner_of.ensures.lent (search rules))
    (writes-then c.put_head.ensures.writes (writes-then c.put.ensures (writes-then c.put_steps.ensures.writes c.put-then-has_inner.ensures)))

pub put_step-returns-else-has_inner-clause-writes : goal.put_step-returns-else-has_inner-clause-writes
put_step-returns-else-has_inner-clause-writes g t c =
    writes-as (whole-parts c.args.step.now (search rules)) (writes-then c.put_head.ensures.writes c.put-else-has_inner.ensures)

pub put_step-returns-then-has_inner-clause-writable : goal.put_step-returns-then-has_inner-clause-writable
put_step-returns-then-has_inner-clause-writable g t c =
    writable c.args.step.now c.put_head.ensures.line (fits_of c.args.step.now c.requires.fits).none (subst (Each IsWritable) c.inner_of.ensures.lent c.put_steps.ensures.writable)

pub put_step-returns-else-has_inner-clause-writable : goal.put_step-returns-else-has_inner-clause-writable
put_step-returns-else-has_inner-clause-writable g t c =
    let none = (fits_of c.args.step.now c.requires.fits).none in
    writable c.args.step.now c.put_head.ensures.line none (subst (Each IsWritable) (sym (none (search rules))) tt)

pub put_steps-loop-step-preserved : goal.put_steps-loop-step-preserved
put_steps-loop-step-preserved g t c = record {
  writes = writes-as (flat_map-next step_text c.args.steps.now c.loop-step.step-index _ _ c.step-item.is c.loop-step-test.true) (writes-then c.loop-step.invariant.writes c.put_step.ensures.writes);
  writable = each-next IsWritable c.args.steps.now c.loop-step.step-index _ _ c.step-item.is c.loop-step-test.true c.loop-step.invariant.writable c.put_step.ensures.writable;
}
