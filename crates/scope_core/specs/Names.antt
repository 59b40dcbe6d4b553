-- Where a name stands among columns, and what an index of names has for it.
use Rattle.std.specs.Prelude.{◌≡◌, ℕ, nat_lt, Bool, true, false, List, Option, Some, None, map, position, option_map}
use Rattle.std.specs.Borrow.{Bor}
use Rattle.std.specs.List.{list_any}
use Rattle.std.specs.Map.{lookup}
use Rattle.sql_model.specs.Syntax.{Name}
use Rattle.sql_model.specs.Frames.{ColumnName}
use Rattle.sql_model.specs.Columns.{same_name, is_called}
use Rattle.scope_core.specs.declared.names.Occurrences.{Occurrences}
use Rattle.scope_core.specs.Faults.{count_called}

-- names as code lends them
abbrev pub names_of : List (Option (Bor Name)) → List ColumnName
names_of names = map (option_map (λ name. name.now)) names

-- whether a name is one of those that code lends
abbrev pub is_one_of : List (Bor Name) → Name → Bool
is_one_of names name = list_any (λ own. same_name name own.now) names

-- the place of the first column of this name, and whether another has it too
abbrev pub occurrences : Name → List ColumnName → Option Occurrences
occurrences name columns =
    option_map (λ first. record { first = first; twice = nat_lt 1 (count_called name columns) }) (position (is_called name) columns)

-- what an index has for a name
abbrev pub indexed : Name → List (Bor Name × Occurrences) → Option Occurrences
indexed name entries = lookup (λ key. same_name name key.now) entries

-- an index of these columns
abbrev pub IsIndexOf : List (Bor Name × Occurrences) → List ColumnName → Type 0
IsIndexOf entries columns = (name : Name) → indexed name entries ≡ occurrences name columns

-- what an index has for a name after one column more of this name, at this place
abbrev pub noted : ℕ → Option Occurrences → Occurrences
noted place None = record { first = place; twice = false }
noted place (Some before) = record { first = before.first; twice = true }
