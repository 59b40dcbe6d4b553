-- Which fault a query is refused with: the first site at which something is wrong decides, and at one site the first of the faults below.
use Rattle.std.specs.Prelude.{ℕ, ◌+◌, Bool, if◌then◌else◌, List, [], ◌∷◌, map, Option, Some, None}
use Rattle.std.specs.Option.{option_or}
use Rattle.sql_model.specs.Syntax as n
use Rattle.sql_model.specs.Syntax.{Name, Query}
use Rattle.sql_model.specs.Headings.{output_columns}
use Rattle.sql_model.specs.Places.{place_of}
use Rattle.sql_model.specs.declared.schema.Schema.{Schema}
use Rattle.sql_model.specs.declared.schema.Relation.TheVariants as relation
use Rattle.sql_model.specs.Relations.{Relation}
use Rattle.scope_core.specs.declared.fault.ScopeCode.{ScopeCode}
use Rattle.scope_core.specs.declared.fault.ScopeCode.TheVariants as code
use Rattle.scope_core.specs.declared.fault.ScopeFault.{ScopeFault}
use Rattle.scope_core.specs.declared.fault.ScopeFault.TheVariants as fault
use Rattle.scope_core.specs.Scope.{Known, heading}
use Rattle.scope_core.specs.Relations.{count_views, known_with, known_of}
use Rattle.scope_core.specs.Sites.{Site, ASource, AnAlias, AColumn, AGroupColumn, AStar, AnAliasStar, AnExpression, TwoWidths, Outputs, sites}
use Rattle.scope_core.specs.Faults.{unknown_table, unknown_alias, unknown_column, ambiguous, alias_twice, not_truth, not_value, aggregate_here, not_grouped, outer_aggregate, subquery_in_group, width_differs, scalar_not_aggregate, name_twice, star_in_group, is_too_wide}

-- ---- the code
-- Faults that can stand at one site come in this order; the others never meet.
abbrev pub tests : Site → List (Bool × ScopeCode)
tests site =
    (star_in_group site, code.StarInGroup) ∷ (not_truth site, code.NotTruth) ∷ (not_value site, code.NotValue)
    ∷ (aggregate_here site, code.AggregateHere) ∷ (subquery_in_group site, code.SubqueryInGroup)
    ∷ (scalar_not_aggregate site, code.ScalarNotAggregate) ∷ (unknown_alias site, code.UnknownAlias) ∷ (ambiguous site, code.Ambiguous)
    ∷ (unknown_column site, code.UnknownColumn) ∷ (outer_aggregate site, code.OuterAggregate) ∷ (not_grouped site, code.NotGrouped)
    ∷ (unknown_table site, code.UnknownTable) ∷ (alias_twice site, code.AliasTwice) ∷ (width_differs site, code.WidthDiffers) ∷ []

abbrev pub first_code : List (Bool × ScopeCode) → Option ScopeCode
first_code [] = None
first_code (test ∷ rest) = if test.0 then Some test.1 else first_code rest

abbrev pub code_at : Site → Option ScopeCode
code_at site = first_code (tests site)

-- ---- the place
-- a column's own word, where the expression is one
abbrev pub word_of : n.Expr → ℕ
word_of (n.Col qual qual_at name at) = at
word_of expr = place_of expr

abbrev pub place_at_site : ScopeCode → Site → ℕ
place_at_site c (ASource name known at) = at
place_at_site c (AnAlias alias before at) = at
place_at_site code.UnknownAlias (AColumn qual qual_at name levels at) = qual_at
place_at_site c (AColumn qual qual_at name levels at) = at
place_at_site code.UnknownAlias (AGroupColumn expr levels) = place_of expr
place_at_site c (AGroupColumn expr levels) = word_of expr
place_at_site c (AStar levels at) = at
place_at_site c (AnAliasStar alias levels at) = at
place_at_site c (AnExpression wanted levels expr) = word_of expr
place_at_site c (TwoWidths left right at) = at
place_at_site c (Outputs count) = 0

-- ---- the fault
-- the widths of two that differ, and else 0
abbrev pub first_width : Site → ℕ
first_width (TwoWidths left right at) = left
first_width _ = 0

abbrev pub second_width : Site → ℕ
second_width (TwoWidths left right at) = right
second_width _ = 0

abbrev pub outputs_of : Site → ℕ
outputs_of (Outputs count) = count
outputs_of _ = 0

abbrev pub refused : Site → Option ScopeCode → Option ScopeFault
refused site None = None
refused site (Some c) = Some (fault.Refused c (place_at_site c site) (first_width site) (second_width site))

abbrev pub fault_at : Site → Option ScopeFault
fault_at site = if is_too_wide site then Some (fault.TooWide (outputs_of site)) else refused site (code_at site)

abbrev pub first_fault : List Site → Option ScopeFault
first_fault [] = None
first_fault (site ∷ rest) = option_or (fault_at site) (first_fault rest)

-- ---- of a query that stands by itself, over the relations of a schema
abbrev pub query_fault : Schema → Query → Option ScopeFault
query_fault schema query = first_fault (sites query (known_of schema) [])

-- ---- of a schema: of its first view that has one. The names of a view's columns come after its query.
abbrev pub name_fault : List Known → Query → ℕ → Option ScopeFault
name_fault known query at =
    if name_twice (output_columns query (map heading known)) then Some (fault.Refused code.NameTwice at 0 0) else None

abbrev pub relation_fault : List Known → Relation → Option ScopeFault
relation_fault known (relation.Table table) = None
relation_fault known (relation.View query at) = option_or (first_fault (sites query known [])) (name_fault known query at)

abbrev pub relations_fault : List Known → ℕ → List (Name × Relation) → Option ScopeFault
relations_fault known views [] = None
relations_fault known views (r ∷ rest) =
    option_or (relation_fault known r.1) (relations_fault (known_with known views r.0 r.1) (views + count_views r.1) rest)

abbrev pub schema_fault : Schema → Option ScopeFault
schema_fault schema = relations_fault [] 0 schema.relations.entries
