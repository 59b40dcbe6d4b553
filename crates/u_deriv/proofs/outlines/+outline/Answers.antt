use Rattle.std.proofs.Common.{sym, arith}
use Rattle.u_deriv.proofs.steps.OutlinesAt.{outline-taken}
use Rattle.u_deriv.proofs.outlines.+outline.Goals as goal

pub outline_all-loop-value-preserved : goal.outline_all-loop-value-preserved
outline_all-loop-value-preserved t c =
    rw (c.and-all.ensures, c.outline_value.ensures, c.loop-value.invariant)
    (sym (outline-taken c.args.values.now c.loop-value.value-index c.value-item.result (omega arith) c.value-item.is))
