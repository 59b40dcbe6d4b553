-- What private contracts see of the answers of the builder.
use Rattle.std.specs.Prelude.{◌≡◌, List, Option, None, Result, Ok, Err}
use Rattle.schema_read.specs.declared.fault.SchemaFault.{SchemaFault}
use Rattle.schema_read.specs.declared.builder.Builder.{Builder}
use Rattle.sql_model.specs.declared.schema.Schema.{Schema}
use Rattle.sql_model.specs.declared.schema.Fkey.{Fkey}
use Rattle.schema_read.specs.Order.{Fault, Refuses}
use Rattle.schema_read.specs.Faults.{Relations}
use Rattle.schema_read.specs.Building.{State}

-- What a function returned, seen by view, where there is no such fault.
abbrev pub Gives : {X Y : Type 0} → (X → Y) → Result X SchemaFault → Option Fault → Y → Type 0
Gives view (Ok x) found value = (found ≡ None) × (view x ≡ value)
Gives view (Err f) found value = Refuses f found

abbrev pub Passes : {X : Type 0} → Result X SchemaFault → Option Fault → Type 0
Passes (Ok x) found = found ≡ None
Passes (Err f) found = Refuses f found

abbrev pub seen : Builder → State
seen b = record { relations = b.relations.entries; tables = b.tables; fkeys = b.fkeys }

abbrev pub seen_schema : Schema → Relations × List Fkey
seen_schema schema = (schema.relations.entries, schema.fkeys)

abbrev pub shown : State → Relations × List Fkey
shown state = (state.relations, state.fkeys)
