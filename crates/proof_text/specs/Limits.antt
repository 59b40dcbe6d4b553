-- The limits that an argument of a step keeps.
use Rattle.std.specs.Prelude.{ℕ}

abbrev pub most_nodes : ℕ
most_nodes = 200000

abbrev pub most_depth : ℕ
most_depth = 2048
