-- The keys of the tables that a statement has referenced so far, as numbers. Only contracts of private functions cite this form.
use Rattle.std.specs.Prelude.{ℕ, ◌≡◌, nat_eq, ◌⊎◌, List, map, Some}
use Rattle.std.specs.List.{list_any}
use Rattle.std.specs.Map.{lookup}
use Rattle.sql_model.specs.declared.schema.Table.{Table}
use Rattle.sql_model.specs.Syntax.{Name}
use Rattle.sql_model.specs.Columns.{same_name}
use Rattle.schema_read.specs.declared.sets.KeySets.{KeySets}
use Rattle.schema_read.specs.Faults.{Relations, referenced}
use Rattle.schema_read.specs.Sets.{column_set}

-- the numbers are those of the keys
abbrev pub AreSetsOf : List (List ℕ) → List ℕ → Type 0
AreSetsOf keys numbers = (set : ℕ) → list_any (nat_eq set) numbers ≡ list_any (nat_eq set) (map column_set keys)

-- whatever is known of the table of this name is true
abbrev pub IsKnown : List (Name × KeySets) → Name → Table → Type 0
IsKnown known to table = (sets : KeySets) → lookup (same_name to) known ≡ Some sets → AreSetsOf table.keys sets.sets.keys

-- whatever is known of a table that a rule of `own`, the table of this name, may reference is true
abbrev pub AreKnown : Relations → Name → Table → List (Name × KeySets) → Type 0
AreKnown relations name own known = (to : Name) (table : Table) → referenced relations name own to ≡ Some table → IsKnown known to table

-- what is known stays, and at most this table is added to it
abbrev pub Learns : List (Name × KeySets) → List (Name × KeySets) → Name → Table → Type 0
Learns known new to table = (name : Name) (sets : KeySets) → lookup (same_name name) new ≡ Some sets
    → (lookup (same_name name) known ≡ Some sets) ⊎ ((name ≡ to) × AreSetsOf table.keys sets.sets.keys)
