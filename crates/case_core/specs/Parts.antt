-- What contracts see of a case.
use Rattle.std.specs.Prelude.{List}
use Rattle.sql_model.specs.declared.schema.Schema.{Schema}
use Rattle.sql_model.specs.declared.symbols.Symbols.{Symbols}
use Rattle.u_terms.specs.declared.facts.Facts.{Facts}
use Rattle.scope_core.specs.Syntax.{RQuery}

pub record Parts : Type 0 where
  pub schema : Schema
  -- the trees of the schema's views, in order of declaration
  pub views : List RQuery
  pub facts : Facts
  pub left : RQuery
  pub right : RQuery
  pub symbols : Symbols
