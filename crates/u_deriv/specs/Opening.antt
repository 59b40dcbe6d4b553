-- Opening a path: names for the places that dangle inside its binders.
use Rattle.std.specs.Prelude.{ℕ, ◌+◌, ◌-◌, nat_le, nat_lt, ◌&&◌, if◌then◌else◌}
use Rattle.u_terms.specs.Syntax.{U, Val, Bound, Free}
use Rattle.u_terms.specs.Binding.{mapped, same_name}

-- the names from first on, for the places that dangle as 0 to count - 1: place 0 is the innermost and has the last name
abbrev pub names_for_places : ℕ → ℕ → ℕ → ℕ → Val
names_for_places first count k place =
    if nat_le k place && nat_lt place (k + count) then Free (first + (k + count - 1 - place)) else Bound place

-- the term opened by the names from first on, all at once
abbrev pub opened_path : U → ℕ → ℕ → U
opened_path u first count = mapped (names_for_places first count) same_name 0 u
