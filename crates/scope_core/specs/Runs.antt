-- Columns of an entry in a row.
use Rattle.std.specs.Prelude.{ℕ, zero, suc, List, [], ◌∷◌}
use Rattle.scope_core.specs.Syntax.{RVal}
use Rattle.scope_core.specs.declared.tree.RVal.TheVariants as v
use Rattle.scope_core.specs.declared.run.Run.{Run}

-- `count` columns of entry number `entry`, from column `first` on
abbrev pub columns_from : ℕ → ℕ → ℕ → List RVal
columns_from entry first zero = []
columns_from entry first (suc count) = v.Col 0 entry first ∷ columns_from entry (suc first) count

abbrev pub columns_of : Run → List RVal
columns_of run = columns_from run.entry run.first run.count
