-- The facts of a schema: the widths and keys of its base tables in order of declaration, and its foreign keys.
use Rattle.std.specs.Prelude.{◌≡◌, map, length}
use Rattle.sql_model.specs.declared.schema.Fkey.{Fkey}
use Rattle.sql_model.specs.declared.schema.Schema.{Schema}
use Rattle.sql_model.specs.Meets.{base_tables}
use Rattle.u_terms.specs.declared.facts.Facts.{Facts}
use Rattle.u_terms.specs.declared.facts.Fkey.{Fkey as FactsFkey}

abbrev pub by_numbers : Fkey → FactsFkey
by_numbers fkey = record { from = fkey.from; cols = fkey.cols; to = fkey.to; key = fkey.key }

pub record AreFactsOf (schema : Schema) (facts : Facts) : Type 0 where
  pub widths : facts.widths ≡ map (λ table. length table.columns) (base_tables schema)
  pub keys : facts.keys ≡ map (λ table. table.keys) (base_tables schema)
  pub fkeys : facts.fkeys ≡ map by_numbers schema.fkeys
