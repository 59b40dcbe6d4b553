-- Databases, and what it is for one to meet the widths, keys and foreign keys that a schema asks for
-- (SQL, ISO/IEC 9075-2, 4.18.3 and 11.7 to 11.8, over columns without nulls).
use Rattle.std.specs.Prelude.{ℕ, ◌≡◌, ◌≢◌, nat_eq, if◌then◌else◌, List, [], ◌∷◌, map, length, get_or}
use Rattle.data_model.specs.Lists.{Each, Has, EachPair}
use Rattle.data_model.specs.Rows.{Row, AllBelow}

-- the rows of a base table, which is known by its number
pub record StoredTable : Type 0 where
  pub table : ℕ
  pub rows : List Row

abbrev pub Database : Type 0
Database = List StoredTable

-- A table has the rows of its first entry, and an absent table is empty.
abbrev pub table_rows : Database → ℕ → List Row
table_rows [] number = []
table_rows (s ∷ rest) number = if nat_eq s.table number then s.rows else table_rows rest number

-- what is asked of one table: its width and its keys, each a list of columns
pub record TableConstraints : Type 0 where
  pub number : ℕ
  pub width : ℕ
  pub keys : List (List ℕ)

-- what is asked of two tables: each row of the one refers to a row of the other
pub record ReferentialConstraint : Type 0 where
  pub from : ℕ
  pub columns : List ℕ
  pub to : ℕ
  pub key : List ℕ

-- the values in some columns of a row, in the order of the columns
abbrev pub at_columns : List ℕ → Row → List ℕ
at_columns columns row = map (λ c. get_or row c 0) columns

-- no two places of the table agree on all columns of the key
abbrev pub IsKey : List Row → List ℕ → Type 0
IsKey rows key = EachPair (λ r s. at_columns key r ≢ at_columns key s) rows

-- each row of the referencing table has a row of the referenced one with the same values, pair by pair
abbrev pub Refers : Database → ReferentialConstraint → Type 0
Refers db c =
    Each (λ r. Has (λ s. at_columns c.key s ≡ at_columns c.columns r) (table_rows db c.to)) (table_rows db c.from)

pub record MeetsConstraints (n : ℕ) (db : Database) (tables : List TableConstraints) (references : List ReferentialConstraint) : Type 0 where
  pub widths : Each (λ t. Each (λ row. length row ≡ t.width) (table_rows db t.number)) tables
  pub values : Each (λ t. Each (AllBelow n) (table_rows db t.number)) tables
  pub keys : Each (λ t. Each (IsKey (table_rows db t.number)) t.keys) tables
  pub foreign_keys : Each (Refers db) references
