-- The fault of an inner call as one of the whole: want of memory is `NoMemory` alone.
use Rattle.sql_cursor.specs.declared.fault.ReadFault.{ReadFault}
use Rattle.sql_cursor.specs.declared.fault.ReadFault.TheVariants as read_refusal
use Rattle.schema_read.specs.declared.fault.SchemaFault.{SchemaFault}
use Rattle.schema_read.specs.declared.fault.SchemaFault.TheVariants as schema_refusal
use Rattle.scope_core.specs.declared.fault.ScopeFault.{ScopeFault}
use Rattle.scope_core.specs.declared.fault.ScopeFault.TheVariants as scope_refusal
use Rattle.case_core.specs.declared.fault.CaseFault.{CaseFault}
use Rattle.case_core.specs.declared.fault.CaseFault.TheVariants.{Read, Schema, Scope, NoMemory}

abbrev pub of_read : ReadFault → CaseFault
of_read (read_refusal.Lex fault) = Read (read_refusal.Lex fault)
of_read (read_refusal.Unexpected at) = Read (read_refusal.Unexpected at)
of_read (read_refusal.LeftOut word at) = Read (read_refusal.LeftOut word at)
of_read (read_refusal.TooDeep at) = Read (read_refusal.TooDeep at)
of_read (read_refusal.Limit what) = Read (read_refusal.Limit what)
of_read read_refusal.NoMemory = NoMemory

abbrev pub of_schema : SchemaFault → CaseFault
of_schema (schema_refusal.Refused code at) = Schema (schema_refusal.Refused code at)
of_schema schema_refusal.NoMemory = NoMemory

abbrev pub of_scope : ScopeFault → CaseFault
of_scope (scope_refusal.Refused code at first second) = Scope (scope_refusal.Refused code at first second)
of_scope (scope_refusal.TooWide width) = Scope (scope_refusal.TooWide width)
of_scope scope_refusal.NoMemory = NoMemory
