-- Aggregates (SQL, ISO/IEC 9075-2, 6.9 set function specification and 10.9 aggregate function). An aggregate is a function, known by its
-- number alone, of the bag of the values that it is handed: no law of addition or order is used. It has a value for the empty bag too, where
-- SQL gives null for all but COUNT. Columns hold no nulls, so none are left out.
use Rattle.std.specs.Prelude.{ℕ, Bool, true, false, List}
use Rattle.data_model.specs.Reading.{Reading, aggregate_value}
use Rattle.data_model.specs.Counts.{counts_of}
use Rattle.sql_model.specs.Syntax.{AggFun, Count, Sum, Avg, Min, Max}

abbrev pub number_of : AggFun → ℕ
number_of Count = 0
number_of Sum = 1
number_of Avg = 2
number_of Min = 3
number_of Max = 4

-- `COUNT(*)` and `COUNT(e)` are handed the literal 1 for each row, whatever the row; `COUNT(DISTINCT e)` is handed the values of `e`.
abbrev pub counts_rows : AggFun → Bool → Bool
counts_rows Count false = true
counts_rows _ _ = false

-- what it gives for these values, in a domain of n values: with DISTINCT each value counts once
abbrev pub aggregate : ℕ → Reading → AggFun → Bool → List ℕ → ℕ
aggregate n reading fun is_distinct values = aggregate_value reading (number_of fun) (counts_of n is_distinct values)
