use Rattle.u_prover.proofs.Fitting.{count-passed, short-told}
use Rattle.u_prover.proofs.limits.keeps_limits.Goals as goal

pub returns-then-keeps_counts : goal.returns-then-keeps_counts
returns-then-keeps_counts c = record {
  exact = short-told c.args.d.now c.keeps_counts.ensures.sound (c.keeps_counts.ensures.exact.0 c.if-keeps_counts.true) c.has_short_text.result c.has_short_text.ensures.exact c.has_short_text.ensures.writable;
  sound = c.keeps_counts.ensures.sound;
}

pub returns-else-keeps_counts : goal.returns-else-keeps_counts
returns-else-keeps_counts c = record {
  exact = count-passed c.args.d.now c.keeps_counts.result c.if-keeps_counts.false c.keeps_counts.ensures.exact;
  sound = c.keeps_counts.ensures.sound;
}
