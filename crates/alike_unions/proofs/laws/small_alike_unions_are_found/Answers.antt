use Rattle.alike_unions.proofs.Found.{most-never, never-unknown}
use Rattle.alike_unions.proofs.laws.small_alike_unions_are_found.Goals as goal

pub returns-clause-enough : goal.returns-clause-enough
returns-clause-enough c = never-unknown

pub returns-clause-most : goal.returns-clause-most
returns-clause-most c = most-never
