use Rattle.udp_run.proofs.OneRefusal.{one_refusal}
use Rattle.udp_run.proofs.Unrefused.{memory_alone}
use Rattle.udp_run.proofs.laws.one_refusal.Goals as goal

pub returns-clause-none : goal.returns-clause-none
returns-clause-none c text schema written spells = memory_alone text schema written spells.numbers spells.has_schema

pub returns-clause-one : goal.returns-clause-one
returns-clause-one c = one_refusal
