-- What is made of the answers of queries. An answer is a list of rows that stands for a bag; its order has no meaning.
use Rattle.std.specs.Prelude.{ℕ, Bool, true, false, not, List, [], ◌∷◌, ◌++◌, filter, get_or, if◌then◌else◌}
use Rattle.data_model.specs.Rows.{Row, is_among, distinct}
use Rattle.sql_model.specs.Syntax.{SetOp, UnionAll, Union, Except, Intersect}

-- SELECT DISTINCT (SQL, ISO/IEC 9075-2, 7.12 query specification)
abbrev pub distinct_if : Bool → List Row → List Row
distinct_if is_distinct rows = if is_distinct then distinct rows else rows

-- Set operators (7.13 query expression). UNION ALL adds multiplicities; the others give a row at most once. EXCEPT ALL and INTERSECT ALL
-- are not in the language.
abbrev pub combined : SetOp → List Row → List Row → List Row
combined UnionAll left right = left ++ right
combined Union left right = distinct (left ++ right)
combined Except left right = distinct (filter (λ r. not (is_among r right)) left)
combined Intersect left right = distinct (filter (λ r. is_among r right) left)

-- EXISTS is true of an answer that is not empty (8.10 exists predicate)
abbrev pub is_empty : List Row → Bool
is_empty [] = true
is_empty (row ∷ rows) = false

-- A scalar subquery has the one value of its one row (7.15 subquery). The language admits only those that have one.
abbrev pub only_value : List Row → ℕ
only_value [] = 0
only_value (row ∷ rows) = get_or row 0 0
