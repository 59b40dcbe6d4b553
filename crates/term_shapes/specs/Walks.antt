-- What a walk over a product has come to.
use Rattle.std.specs.Prelude.{◌≡◌, Bool, true, false, List, Option, Some, None}
use Rattle.shapes.specs.Shapes.{Entry}
use Rattle.term_shapes.specs.TermShape.{Atoms, Points}

abbrev pub Went : {S : Type 0} → Bool → Option S → S → Type 0
Went true to now = to ≡ Some now
Went false to now = to ≡ None

abbrev pub atoms : List Entry → Points → Atoms
atoms entries points = record { entries = entries; points = points }
