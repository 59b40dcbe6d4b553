use Rattle.alike_unions.proofs.Found.{unknown-of}
use Rattle.alike_unions.proofs.laws.unions_are_unknown_for_a_cause.Goals as goal

pub returns : goal.returns
returns c = unknown-of
