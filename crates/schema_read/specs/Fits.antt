-- Keys and foreign keys that fit the tables of their schema.
use Rattle.std.specs.Prelude.{ℕ, ◌≡◌, ◌<◌, true, List, length, IfSome}
use Rattle.data_model.specs.Lists.{Each, Has}
use Rattle.sql_model.specs.declared.schema.Fkey.{Fkey}
use Rattle.sql_model.specs.declared.schema.Table.{Table}
use Rattle.schema_read.specs.Keys.{has_key}

-- these are places of columns of the table
abbrev pub AreColumns : Table → List ℕ → Type 0
AreColumns table columns = Each (λ column. column < length table.columns) columns

abbrev pub KeysFit : Table → Type 0
KeysFit table = Each (AreColumns table) table.keys

abbrev pub PrimaryFits : Table → Type 0
PrimaryFits table = IfSome table.primary (λ place. place < length table.keys)

-- P holds of a table of this number
abbrev pub HasTable : List Table → ℕ → (Table → Type 0) → Type 0
HasTable tables number P = Has (λ table. (table.number ≡ number) × P table) tables

-- columns of the referencing table, and as many of the referenced table, which are as a set a key of it
pub record FkeyFits (tables : List Table) (fkey : Fkey) : Type 0 where
  pub columns : HasTable tables fkey.from (λ table. AreColumns table fkey.cols)
  pub key : HasTable tables fkey.to (λ table. AreColumns table fkey.key × (has_key table.keys fkey.key ≡ true))
  pub counts : length fkey.cols ≡ length fkey.key
