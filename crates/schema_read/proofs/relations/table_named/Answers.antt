use Rattle.std.proofs.Common.{sym, subst}
use Rattle.sql_model.specs.Columns.{same_name}
use Rattle.schema_read.specs.Building.{IsNarrowRelation}
use Rattle.schema_read.proofs.built.Entries.{found_each}
use Rattle.schema_read.proofs.relations.table_named.Goals as goal

pub returns-in-Table-clause-narrow : goal.returns-in-Table-clause-narrow
returns-in-Table-clause-narrow c =
    subst IsNarrowRelation c.in-Table.is
    (found_each (same_name c.args.name.now) IsNarrowRelation c.args.relations.now.entries c.in_ok-table.field-0.now (sym c.in_ok-table.ensures.value) c.requires)
