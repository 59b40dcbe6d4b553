use Rattle.schema_read.proofs.builder.Builder.add.Goals as goal

pub returns-in-Table : goal.returns-in-Table
returns-in-Table c = rw c.in-Table.is c.add_table.ensures
