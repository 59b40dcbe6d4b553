use Rattle.udp_run.specs.Runs.{no_memory}
use Rattle.udp_run.proofs.top.check_selected.Goals as goal

pub returns-in_default-clause-found : goal.returns-in_default-clause-found
returns-in_default-clause-found g c = no_memory
