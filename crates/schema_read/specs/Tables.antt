-- Base tables with the keys that they write themselves.
use Rattle.std.specs.Prelude.{ℕ, List, map, Option, Some, None}
use Rattle.std.specs.List.{filter_map}
use Rattle.sql_model.specs.declared.statement.NameAt.{NameAt}
use Rattle.sql_model.specs.declared.statement.TableRule.{TableRule}
use Rattle.sql_model.specs.declared.statement.TableRule.TheVariants as rule
use Rattle.sql_model.specs.declared.schema.Table.{Table}
use Rattle.sql_model.specs.Syntax.{Name}
use Rattle.schema_read.specs.Keys.{KeyRule, places_in, keys_of, primary_place}

abbrev pub names_of : List NameAt → List Name
names_of names = map (λ n. n.name) names

-- ---- keys
abbrev pub key_rule : List Name → TableRule → Option KeyRule
key_rule columns (rule.Key primary names at) = Some (record { is_primary = primary; columns = places_in columns names })
key_rule columns (rule.Foreign names table target) = None

-- the keys that a table writes itself
abbrev pub written_keys : List Name → List TableRule → List KeyRule
written_keys columns rules = filter_map (key_rule columns) rules

-- ---- tables
abbrev pub table_of : ℕ → List Name → List KeyRule → Table
table_of number columns rules = record { number = number; columns = columns; keys = keys_of rules; primary = primary_place rules }
