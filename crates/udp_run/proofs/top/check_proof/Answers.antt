use Rattle.std.proofs.Common.{rules}
use Rattle.udp_run.proofs.Fed.{selected-found, unselected-found}
use Rattle.udp_run.proofs.top.check_proof.Goals as goal

pub returns-then-is_err-clause-found : goal.returns-then-is_err-clause-found
returns-then-is_err-clause-found g c = unselected-found _ _ _ (search rules) c.select.ensures.left

pub returns-clause-found : goal.returns-clause-found
returns-clause-found g c = selected-found _ _ _ c.select.ensures.left _ _ _ (c.select.ensures.cause.later c.args.name.now) _ _ c.check_selected.ensures.found
