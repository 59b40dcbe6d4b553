-- When two queries always return the same bag of rows.
use Rattle.std.specs.Prelude.{ℕ, ◌≤◌, ◌≡◌}
use Rattle.data_model.specs.Rows.{Row, occurrences}
use Rattle.data_model.specs.Reading.{Reading, IsOn}
use Rattle.data_model.specs.Database.{Database}
use Rattle.sql_model.specs.declared.schema.Schema.{Schema}
use Rattle.sql_model.specs.Syntax.{Query}
use Rattle.sql_model.specs.Relations.{answer}
use Rattle.sql_model.specs.Meets.{Meets}

-- Over every finite domain of at least one value, under every reading of literals, functions, predicates and aggregates, and on every
-- database that meets the schema, each row occurs in both answers equally often. It asks neither that the queries are well formed nor that
-- they have one width: who claims it says so beside it.
abbrev pub Equivalent : Schema → Query → Query → Type 0
Equivalent schema p q =
    (n : ℕ) → 1 ≤ n → (reading : Reading) → IsOn n reading → (db : Database) → Meets schema n db →
    (r : Row) → occurrences r (answer schema n reading db p) ≡ occurrences r (answer schema n reading db q)
