-- Terms chosen from a list by their places.
use Rattle.std.specs.Prelude.{ℕ, ◌<◌, List, map, slice_index_or, All}
use Rattle.u_terms.specs.Syntax.{U}
use Rattle.u_rules.specs.Terms.{O}
use Rattle.u_simple.specs.declared.order.Place.{Place}

-- where the place is
abbrev pub at : List U → Place → U
at us place = slice_index_or us place.index O

-- the terms at these places
abbrev pub chosen : List U → List Place → List U
chosen us places = map (at us) places

-- so many terms have these places
abbrev pub IsThere : ℕ → Place → Type 0
IsThere count place = place.index < count

abbrev pub AreThere : ℕ → List Place → Type 0
AreThere count places = All (IsThere count) places
