-- Lists in a row, one after the other.
use Rattle.std.specs.Prelude.{List, [], ◌∷◌, ◌++◌}

-- these lists, and then the last one
abbrev pub written : {T : Type 0} → List (List T) → List T → List T
written [] last = last
written (part ∷ rest) last = part ++ written rest last
