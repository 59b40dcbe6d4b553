-- Sets of columns as numbers, one bit for each column. Only contracts of private functions cite this form; two lists have one number where
-- they are the same set.
use Rattle.std.specs.Prelude.{ℕ, ◌^◌, List, fold}
use Rattle.std.specs.Int.Bits.{bit_or}

abbrev pub with_column : ℕ → ℕ → ℕ
with_column set column = bit_or set (2 ^ column)

abbrev pub column_set : List ℕ → ℕ
column_set columns = fold with_column 0 columns
