-- Queries that are refused, one for each fault, with the place of the fault in the text.
use Rattle.std.specs.Prelude.{ℕ, zero, suc, ◌≡◌, refl, false, [], ◌∷◌, Some, None, Option}
use Rattle.sql_model.specs.declared.tree.Expr.TheVariants as expr
use Rattle.sql_model.specs.declared.tree.Source.TheVariants as source
use Rattle.sql_model.specs.declared.tree.Query.TheVariants as query
use Rattle.sql_model.specs.declared.tree.Entry.{Entry, roll-Entry}
use Rattle.sql_model.specs.declared.schema.Relation.TheVariants as relation
use Rattle.sql_model.specs.Syntax.{Name, Expr, Col, Item, Star, AliasStar, Value, Query, Count, Max, Union}
use Rattle.sql_model.specs.samples.Forms.{block, select, select_where, select_group_by, all_of, star, only, from, derived, bare, r, s, a, b, x, y}
use Rattle.scope_core.specs.declared.fault.ScopeFault.{ScopeFault}
use Rattle.scope_core.specs.declared.fault.ScopeFault.TheVariants as fault
use Rattle.scope_core.specs.declared.fault.ScopeCode.TheVariants as code
use Rattle.scope_core.specs.Sites.{sites}
use Rattle.scope_core.specs.FirstFault.{first_fault, relation_fault}
use Rattle.scope_core.specs.Compute.{resolving}
use Rattle.scope_core.specs.samples.Trees.{table, known, fault_of, refused}

-- ---- after `CREATE TABLE r (a INT);`, which has 23 bytes
abbrev alone : Query → Option ScopeFault
alone q = first_fault (sites q (table r (a ∷ []) 0 ∷ []) [])

abbrev at : Name → ℕ → Item
at name place = Value (Col None 0 name place) None

-- `name AS alias`, the name and the alias at these places
abbrev from_at : Name → Name → ℕ → ℕ → Entry
from_at name alias name_at alias_at =
    roll-Entry (record { source = source.Named name name_at; alias = alias; at = alias_at; joined = false; on = None })

-- SELECT b FROM r
a_missing_column : alone (select (at b 30 ∷ []) (from r r ∷ [])) ≡ refused code.UnknownColumn 30
unfolding resolving
a_missing_column = refl

-- SELECT a FROM r x, r y
an_ambiguous_column : alone (select (at a 30 ∷ []) (from r x ∷ from r y ∷ [])) ≡ refused code.Ambiguous 30
unfolding resolving
an_ambiguous_column = refl

abbrev count_star_at : ℕ → Expr
count_star_at place = expr.Agg Count false None place

-- SELECT a, COUNT(*) FROM r
a_column_outside_the_group : alone (select (at a 30 ∷ Value (count_star_at 33) None ∷ []) (from r r ∷ [])) ≡ refused code.NotGrouped 30
unfolding resolving
a_column_outside_the_group = refl

-- SELECT a FROM r UNION SELECT a, a FROM r
two_widths : alone (query.Set Union (select (at a 30 ∷ []) (from r r ∷ [])) (select (at a 52 ∷ at a 55 ∷ []) (from r r ∷ [])) 39)
    ≡ Some (fault.Refused code.WidthDiffers 39 1 2)
unfolding resolving
two_widths = refl

-- ---- over no relation: SELECT * FROM s
an_unknown_table : first_fault (sites (select star (from_at s s 14 14 ∷ [])) [] []) ≡ refused code.UnknownTable 14
unfolding resolving
an_unknown_table = refl

-- ---- over r(a, b) and s(a)
-- SELECT x.a FROM r
an_unknown_alias : fault_of (select (only (Col (Some x) 7 a 9)) (from r r ∷ [])) ≡ refused code.UnknownAlias 7
unfolding resolving
an_unknown_alias = refl

-- SELECT s.*, COUNT(*) FROM s
a_star_in_a_group : fault_of (select (AliasStar s 7 ∷ Value (count_star_at 12) None ∷ []) (from s s ∷ [])) ≡ refused code.StarInGroup 7
unfolding resolving
a_star_in_a_group = refl

-- SELECT * FROM r x, s x
an_alias_twice : fault_of (select star (from_at r x 14 16 ∷ from_at s x 19 21 ∷ [])) ≡ refused code.AliasTwice 21
unfolding resolving
an_alias_twice = refl

-- SELECT * FROM s WHERE COUNT(*): an aggregate is no truth, and that comes first
no_truth : fault_of (select_where star (from s s ∷ []) (count_star_at 22)) ≡ refused code.NotTruth 22
unfolding resolving
no_truth = refl

-- SELECT * FROM s WHERE COUNT(*) = a
an_aggregate_in_where : fault_of (select_where star (from s s ∷ []) (expr.Eq (count_star_at 22) (Col None 0 a 33) 22)) ≡ refused code.AggregateHere 22
unfolding resolving
an_aggregate_in_where = refl

-- SELECT s.a = s.a FROM s: the place of a node is that of its first token
no_value : fault_of (select (only (expr.Eq (Col (Some s) 7 a 9) (Col (Some s) 13 a 15) 7)) (from s s ∷ [])) ≡ refused code.NotValue 7
unfolding resolving
no_value = refl

-- (SELECT MAX(r.b) FROM s) within FROM r
abbrev max_outer : Query
unfolding resolving
max_outer = select (only (expr.Agg Max false (Some (Col (Some r) 42 b 44)) 38)) (from s s ∷ [])

-- SELECT * FROM r WHERE 1 = (SELECT MAX(r.b) FROM s)
an_outer_aggregate : fault_of (select_where star (from r r ∷ []) (expr.Eq (expr.Lit 0 22) (expr.Sub max_outer 26) 22)) ≡ refused code.OuterAggregate 44
unfolding resolving
an_outer_aggregate = refl

-- SELECT COUNT(*) FROM s HAVING EXISTS (SELECT * FROM r)
a_subquery_in_a_group : fault_of (block false (only (count_star_at 7)) (from s s ∷ []) None None (Some (expr.Exists (all_of r) 30)))
    ≡ refused code.SubqueryInGroup 30
unfolding resolving
a_subquery_in_a_group = refl

-- SELECT * FROM s WHERE a IN (SELECT * FROM r)
a_wide_query_of_in : fault_of (select_where star (from s s ∷ []) (expr.In (Col None 0 a 22) (all_of r) 22 24))
    ≡ Some (fault.Refused code.WidthDiffers 24 1 2)
unfolding resolving
a_wide_query_of_in = refl

-- SELECT (SELECT a FROM s) FROM r
a_scalar_that_is_no_aggregate : fault_of (select (only (expr.Sub (select (at a 15 ∷ []) (from s s ∷ [])) 7)) (from r r ∷ [])) ≡ refused code.ScalarNotAggregate 7
unfolding resolving
a_scalar_that_is_no_aggregate = refl

-- SELECT * FROM r WHERE EXISTS (SELECT COUNT(*) FROM s GROUP BY b): a column of GROUP BY is this block's
an_outer_column_in_group_by : fault_of (select_where star (from r r ∷ [])
    (expr.Exists (select_group_by (only (count_star_at 37)) (from s s ∷ []) (Col None 0 b 62 ∷ [])) 22))
    ≡ refused code.UnknownColumn 62
unfolding resolving
an_outer_column_in_group_by = refl

-- CREATE VIEW x AS SELECT a, b AS a FROM r
a_name_twice : relation_fault known (relation.View (select (at a 24 ∷ Value (bare b) (Some a) ∷ []) (from r r ∷ [])) 12) ≡ refused code.NameTwice 12
unfolding resolving
a_name_twice = refl

-- SELECT a, MAX(b) FROM r GROUP BY a HAVING COUNT(*) = 1
nothing_wrong : fault_of (block false (at a 7 ∷ Value (expr.Agg Max false (Some (bare b)) 10) None ∷ []) (from r r ∷ []) None (Some (bare a ∷ []))
    (Some (expr.Eq (count_star_at 42) (expr.Lit 0 53) 42))) ≡ None
unfolding resolving
nothing_wrong = refl

-- ---- after `CREATE TABLE r (a INT);`: SELECT * FROM (SELECT *, * FROM (.. r) x) x, with 12 times SELECT *, *
abbrev doubled : ℕ → Query
unfolding resolving
doubled zero = all_of r
doubled (suc times) = select (Star 0 ∷ Star 0 ∷ []) (derived (doubled times) x ∷ [])

too_many_outputs : alone (select star (derived (doubled 12) x ∷ [])) ≡ Some (fault.TooWide 4096)
unfolding resolving
too_many_outputs = refl
