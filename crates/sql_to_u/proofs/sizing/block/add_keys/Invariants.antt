use Rattle.std.proofs.Common.{◌≡◌, drop}
use Rattle.sql_to_u.specs.Sizes.{key_sizes, with_factors}
use Rattle.sql_to_u.proofs.sizing.block.add_keys.Given as goal

abbrev pub invariant-loop-column : goal.invariant-loop-column
invariant-loop-column l = with_factors l.factors (key_sizes (drop l._column-index l.key)) ≡ with_factors l.fn.before (key_sizes l.key)
