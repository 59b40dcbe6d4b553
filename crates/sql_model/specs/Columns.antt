-- The value of a column (SQL, ISO/IEC 9075-2, 6.6 identifier chain and 6.7 column reference). A name is sought in the innermost block first,
-- and then outwards. Names are compared as bytes: those that were written without quotes have been folded, to lower case where the standard
-- folds to upper case. A column that is nowhere has value 0, and so has one that the entry of its qualifier lacks; no well-formed query reads
-- either.
use Rattle.std.specs.Prelude.{ℕ, nat_eq, Bool, false, [], ◌∷◌, get_or, Option, Some, None, find, position, option_map, unwrap_or}
use Rattle.std.specs.Option.{option_or}
use Rattle.std.specs.Cmp.Lexicographic.{pointwise}
use Rattle.sql_model.specs.Syntax.{Name}
use Rattle.sql_model.specs.Frames.{ColumnName, BoundEntry, Combination, Environment}

abbrev pub same_name : Name → Name → Bool
same_name = pointwise nat_eq

abbrev pub is_called : Name → ColumnName → Bool
is_called name None = false
is_called name (Some n) = same_name name n

-- the value in the first column of this name, if the entry has one
abbrev pub value_in_entry : Name → BoundEntry → Option ℕ
value_in_entry name entry = option_map (λ place. get_or entry.row place 0) (position (is_called name) entry.columns)

-- the same in the first of the entries that has such a column
abbrev pub value_in_some : Name → Combination → Option ℕ
value_in_some name [] = None
value_in_some name (entry ∷ rest) = option_or (value_in_entry name entry) (value_in_some name rest)

abbrev pub entry_with_alias : Name → Combination → Option BoundEntry
entry_with_alias alias entries = find (λ entry. same_name alias entry.alias) entries

-- The value of `name` in one block's entries if some entry has that column, and of `alias.name` if some entry has that alias.
abbrev pub value_among : Option Name → Name → Combination → Option ℕ
value_among None name entries = value_in_some name entries
value_among (Some alias) name entries = option_map (λ entry. unwrap_or (value_in_entry name entry) 0) (entry_with_alias alias entries)

-- the value in the innermost block that has one
abbrev pub column_value : Option Name → Name → Environment → ℕ
column_value qual name [] = 0
column_value qual name (frame ∷ outer) = unwrap_or (value_among qual name frame.entries) (column_value qual name outer)
