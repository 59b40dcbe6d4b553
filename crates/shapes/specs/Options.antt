-- Two values, where both are there.
use Rattle.std.specs.Prelude.{Option, Some, None}

abbrev pub both_of : {X Y Z : Type 0} → (X → Y → Z) → Option X → Option Y → Option Z
both_of f (Some x) (Some y) = Some (f x y)
both_of f _ _ = None
