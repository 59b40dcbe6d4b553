-- Faults in an order, and members of a list seen with those before them.
use Rattle.std.specs.Prelude.{ℕ, ◌≡◌, Bool, true, false, List, [], ◌∷◌, ◌++◌, Option, Some, None}
use Rattle.schema_read.specs.declared.fault.SchemaCode.{SchemaCode}
use Rattle.schema_read.specs.declared.fault.SchemaFault.{SchemaFault}
use Rattle.schema_read.specs.declared.fault.SchemaFault.TheVariants as refusal

pub record Fault : Type 0 where
  pub code : SchemaCode
  pub at : ℕ

-- this fault where the condition holds
abbrev pub fault_if : Bool → SchemaCode → ℕ → Option Fault
fault_if true code at = Some (record { code = code; at = at })
fault_if false code at = None

abbrev pub or_else : Option Fault → Option Fault → Option Fault
or_else None next = next
or_else (Some fault) next = Some fault

-- the first that is there
abbrev pub first_of : List (Option Fault) → Option Fault
first_of [] = None
first_of (check ∷ checks) = or_else check (first_of checks)

-- the first fault of the members, each seen with those before it
abbrev pub first_along : {X : Type 0} → (List X → X → Option Fault) → List X → List X → Option Fault
first_along fault earlier [] = None
first_along fault earlier (x ∷ xs) = or_else (fault earlier x) (first_along fault (earlier ++ x ∷ []) xs)

-- what the members give, each seen with those before it
abbrev pub map_along : {X Y : Type 0} → (List X → X → Y) → List X → List X → List Y
map_along give earlier [] = []
map_along give earlier (x ∷ xs) = give earlier x ∷ map_along give (earlier ++ x ∷ []) xs

-- A refusal is this fault; want of memory may come at any time.
abbrev pub Refuses : SchemaFault → Option Fault → Type 0
Refuses (refusal.Refused code at) found = found ≡ Some (record { code = code; at = at })
Refuses refusal.NoMemory found = Unit {0}
