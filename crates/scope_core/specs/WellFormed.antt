-- When a query is well formed, and when a schema is: no fault is at any site.
use Rattle.std.specs.Prelude.{◌≡◌, ℕ, ◌+◌, false, List, [], ◌∷◌, map}
use Rattle.data_model.specs.Lists.{Each}
use Rattle.sql_model.specs.Syntax.{Name, Query}
use Rattle.sql_model.specs.Headings.{output_columns}
use Rattle.sql_model.specs.declared.schema.Schema.{Schema}
use Rattle.sql_model.specs.declared.schema.Relation.TheVariants as relation
use Rattle.sql_model.specs.Relations.{Relation}
use Rattle.scope_core.specs.Scope.{Known, heading, Levels}
use Rattle.scope_core.specs.Sites.{Site, sites}
use Rattle.scope_core.specs.Faults.{unknown_table, unknown_alias, unknown_column, ambiguous, alias_twice, not_truth, not_value, aggregate_here, not_grouped, outer_aggregate, subquery_in_group, width_differs, scalar_not_aggregate, name_twice, star_in_group, is_too_wide}
use Rattle.scope_core.specs.Relations.{count_views, known_with, known_of}

-- what has to hold at each site, in the order of the faults' numbers
pub record HasNoFault (site : Site) : Type 0 where
  pub table_is_known : unknown_table site ≡ false
  pub alias_is_known : unknown_alias site ≡ false
  pub column_is_known : unknown_column site ≡ false
  pub column_is_one : ambiguous site ≡ false
  pub alias_is_new : alias_twice site ≡ false
  pub truth_is_truth : not_truth site ≡ false
  pub value_is_value : not_value site ≡ false
  pub aggregate_may_stand : aggregate_here site ≡ false
  pub column_is_grouped : not_grouped site ≡ false
  pub argument_is_inner : outer_aggregate site ≡ false
  pub subquery_may_stand : subquery_in_group site ≡ false
  pub widths_agree : width_differs site ≡ false
  pub scalar_is_aggregate : scalar_not_aggregate site ≡ false
  pub star_may_stand : star_in_group site ≡ false

-- over these relations, within these blocks
abbrev pub IsWellFormed : Query → List Known → Levels → Type 0
IsWellFormed query known levels = Each HasNoFault (sites query known levels)

-- No block in it has more outputs than the limit admits.
abbrev pub IsWithinWidth : Query → List Known → Levels → Type 0
IsWithinWidth query known levels = Each (λ site. is_too_wide site ≡ false) (sites query known levels)

-- a view, over the relations before it
abbrev pub IsRelationWellFormed : List Known → Relation → Type 0
IsRelationWellFormed known (relation.Table table) = Unit {0}
IsRelationWellFormed known (relation.View query at) = IsWellFormed query known [] × (name_twice (output_columns query (map heading known)) ≡ false)

-- these relations, after those that are known, so many of which are views
abbrev pub AreWellFormed : List Known → ℕ → List (Name × Relation) → Type 0
AreWellFormed known views [] = Unit {0}
AreWellFormed known views (r ∷ rest) =
    IsRelationWellFormed known r.1 × AreWellFormed (known_with known views r.0 r.1) (views + count_views r.1) rest

-- a schema: each view is, over the relations before it
abbrev pub SchemaWellFormed : Schema → Type 0
SchemaWellFormed schema = AreWellFormed [] 0 schema.relations.entries

abbrev pub IsRelationWithinWidth : List Known → Relation → Type 0
IsRelationWithinWidth known (relation.Table table) = Unit {0}
IsRelationWithinWidth known (relation.View query at) = IsWithinWidth query known []

abbrev pub AreWithinWidth : List Known → ℕ → List (Name × Relation) → Type 0
AreWithinWidth known views [] = Unit {0}
AreWithinWidth known views (r ∷ rest) =
    IsRelationWithinWidth known r.1 × AreWithinWidth (known_with known views r.0 r.1) (views + count_views r.1) rest

abbrev pub SchemaWithinWidth : Schema → Type 0
SchemaWithinWidth schema = AreWithinWidth [] 0 schema.relations.entries

-- a query that stands by itself, over the relations of a schema
abbrev pub WellFormed : Schema → Query → Type 0
WellFormed schema query = IsWellFormed query (known_of schema) []

abbrev pub WithinWidth : Schema → Query → Type 0
WithinWidth schema query = IsWithinWidth query (known_of schema) []
