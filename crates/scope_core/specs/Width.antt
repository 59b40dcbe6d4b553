-- How many columns the answer of a resolved tree has.
use Rattle.std.specs.Prelude.{ℕ, suc}
use Rattle.scope_core.specs.Syntax.{Values, NoValues, ValueThen, RBlock, Select, RQuery, OfBlock, Set}

abbrev pub count_values : {m : _} → Values m → ℕ
count_values NoValues = 0
count_values (ValueThen e rest) = suc (count_values rest)

unfoldable mutual
  pub width : RQuery → ℕ
  width (OfBlock block) = block_width block
  width (Set op left right) = width left

  pub block_width : RBlock → ℕ
  block_width (Select is_distinct s entries s' conds grouping having s'' items) = count_values items
