-- The schema that statements build, and their first fault.
use Rattle.std.specs.Prelude.{◌≡◌, List, [], Option, None}
use Rattle.sql_model.specs.declared.schema.Schema.{Schema}
use Rattle.sql_model.specs.declared.statement.Statement.{Statement}
use Rattle.schema_read.specs.Order.{Fault, first_along}
use Rattle.schema_read.specs.Faults.{statement_fault}
use Rattle.schema_read.specs.Declarations.{count_tables, relations_of, fkeys_of}

-- the fault of a statement after those before it
abbrev pub fault_after : List Statement → Statement → Option Fault
fault_after earlier s = statement_fault (relations_of earlier) (count_tables earlier) s

abbrev pub schema_fault : List Statement → Option Fault
schema_fault statements = first_along fault_after [] statements

-- none of the statements is refused, and they build this schema
pub record Builds (statements : List Statement) (schema : Schema) : Type 0 where
  pub faultless : schema_fault statements ≡ None
  pub relations : schema.relations.entries ≡ relations_of statements
  pub fkeys : schema.fkeys ≡ fkeys_of statements
