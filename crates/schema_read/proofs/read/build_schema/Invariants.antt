use Rattle.std.proofs.Common.{◌≡◌, ◌≤◌, drop}
use Rattle.data_model.specs.Lists.{Each}
use Rattle.schema_read.specs.Declarations.{IsSmall}
use Rattle.schema_read.specs.Building.{AreNarrow, no_statements, fault_from, built_from}
use Rattle.schema_read.specs.Views.{seen}
use Rattle.schema_read.proofs.read.build_schema.Given as goal

abbrev pub invariant-loop-statement : goal.invariant-loop-statement
invariant-loop-statement l = record {
  fault : fault_from (seen l.builder) (drop l.statement-index l.statements) ≡ fault_from no_statements l.statements;
  built : built_from (seen l.builder) (drop l.statement-index l.statements) ≡ built_from no_statements l.statements;
  narrow : AreNarrow l.builder.relations.entries;
  few : l.builder.tables ≤ l.statement-index;
  small : Each IsSmall (drop l.statement-index l.statements);
}
