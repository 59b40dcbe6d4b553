use Rattle.schema_read.proofs.built.ReadLaws.{builds, refuses}
use Rattle.schema_read.proofs.read.read_schema.Goals as goal

pub returns-clause-built : goal.returns-clause-built
returns-clause-built c = builds c.args.statements.now c.build_schema.result (rw c.as_slice.ensures at c.build_schema.ensures)

pub returns-clause-refused : goal.returns-clause-refused
returns-clause-refused c = refuses c.args.statements.now c.build_schema.result (rw c.as_slice.ensures at c.build_schema.ensures)
