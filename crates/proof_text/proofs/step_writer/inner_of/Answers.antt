use Rattle.std.proofs.Common.{subst, sym}
use Rattle.data_model.specs.Lists.{Each}
use Rattle.proof_text.specs.Written.{FitsRule}
use Rattle.proof_text.proofs.writing.TextsAt.{fits_of}
use Rattle.proof_text.proofs.step_writer.inner_of.Goals as goal

pub returns-clause-fit : goal.returns-clause-fit
returns-clause-fit c = subst (Each FitsRule) (sym c.as_slice.ensures) (fits_of c.args.step.now c.requires).inner
