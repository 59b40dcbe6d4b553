use Rattle.std.proofs.Common.{List, sym, subst}
use Rattle.data_model.specs.Lists.{Each}
use Rattle.u_deriv.specs.declared.step.Step.{Step}
use Rattle.proof_text.specs.Written.{FitsRule}
use Rattle.u_prover.proofs.Fitting.{steps-written}
use Rattle.u_prover.proofs.limits.has_short_text.Goals as goal

pub proof_bytes-requires : goal.proof_bytes-requires
proof_bytes-requires c = record {
  fit = subst (λ (steps : List Step). Each FitsRule steps) (sym c.steps.ensures.lent) (steps-written c.args.d.now c.steps.ensures.sound c.requires);
}
