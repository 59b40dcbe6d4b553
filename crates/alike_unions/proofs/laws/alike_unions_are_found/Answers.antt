use Rattle.alike_unions.proofs.Found.{alike-sums, only-limits}
use Rattle.alike_unions.proofs.laws.alike_unions_are_found.Goals as goal

pub returns-clause-terms : goal.returns-clause-terms
returns-clause-terms c = alike-sums

pub returns-clause-limits : goal.returns-clause-limits
returns-clause-limits c = only-limits
