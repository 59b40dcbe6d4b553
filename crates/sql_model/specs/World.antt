-- What a query is evaluated over.
use Rattle.std.specs.Prelude.{ℕ, List, [], map, find, option_map, unwrap_or}
use Rattle.data_model.specs.Rows.{Row}
use Rattle.data_model.specs.Reading.{Reading}
use Rattle.sql_model.specs.Syntax.{Name}
use Rattle.sql_model.specs.Frames.{ColumnName}
use Rattle.sql_model.specs.Columns.{same_name}
use Rattle.sql_model.specs.Headings.{Heading}

-- a base table or a view, with the rows that it has
pub record ShownRelation : Type 0 where
  pub name : Name
  pub columns : List ColumnName
  pub rows : List Row

-- the number of values in the domain, what literals, functions, predicates and aggregates stand for, and the relations that can be named
pub record World : Type 0 where
  pub size : ℕ
  pub reading : Reading
  pub relations : List ShownRelation

-- the rows of the first relation of this name, and none where it is absent
abbrev pub named_rows : Name → World → List Row
named_rows name w = unwrap_or (option_map (λ r. r.rows) (find (λ r. same_name name r.name) w.relations)) []

abbrev pub relation_headings : World → List Heading
relation_headings w = map (λ r. record { alias = r.name; columns = r.columns }) w.relations
