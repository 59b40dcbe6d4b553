-- What an edit at the end of a path puts in the place of what, one turn at a time: contracts of private functions alone cite this.
use Rattle.std.specs.Prelude.{◌≡◌, ℕ, ◌+◌, ◌<◌, ◌≤◌, ◌^◌, Option, Some, None, Result, Ok, Err, not}
use Rattle.u_terms.specs.Syntax.{U}
use Rattle.u_terms.specs.Size.{depth}
use Rattle.u_terms.specs.declared.term.U.TheVariants as u
use Rattle.u_terms.specs.declared.facts.Facts.{Facts}
use Rattle.u_terms.specs.Binding.{closed_path}
use Rattle.u_rules.specs.Rows.{Row, row}
use Rattle.u_rules.specs.Sides.{AreNamed, side_of}
use Rattle.u_deriv.specs.declared.edit.Edit.{Edit}
use Rattle.u_deriv.specs.declared.edit.Edit.TheVariants as edit
use Rattle.u_deriv.specs.declared.place.Place.{Place}
use Rattle.u_deriv.specs.declared.step.Step.{Step, out-Step}
use Rattle.u_deriv.specs.declared.fault.StepFault.{StepFault}
use Rattle.u_deriv.specs.declared.fault.StepFault.TheVariants.{NoResult, NoMemory}
use Rattle.u_deriv.specs.Steps.{Sides}

-- ---- the sides of a step's instance, by its rule's row
abbrev pub left_of : Option Row → U
left_of None = u.Zero
left_of (Some r) = r.left

abbrev pub right_of : Option Row → U
right_of None = u.Zero
right_of (Some r) = r.right

-- the one that a step begins with, and the one that it ends with
abbrev pub from_side : Facts → Step → U
from_side facts step = let r = row facts (out-Step step).rule (out-Step step).args in side_of (not (out-Step step).forward) (left_of r) (right_of r)

abbrev pub to_side : Facts → Step → U
to_side facts step = let r = row facts (out-Step step).rule (out-Step step).args in side_of (out-Step step).forward (left_of r) (right_of r)

-- the part in its place is the one that the step begins with, and the arguments have no other names than those of the place
abbrev pub IsSide : Facts → ℕ → ℕ → Step → U → Type 0
IsSide facts outs count step part =
    Sides facts (out-Step step).forward step (from_side facts step) (to_side facts step)
    × AreNamed (outs + count) (out-Step step).args
    × (part ≡ closed_path (from_side facts step) outs count)

-- ---- edits
-- the part in its place is one that the edit changes
abbrev pub Suits : Edit → ℕ → Place → U → Type 0
Suits (edit.Look alloc facts step) outs place part = IsSide facts.now outs place.binders step.now part
Suits (edit.Term from names) outs place part = (part ≡ closed_path from.now outs place.binders) × (names ≤ outs + place.binders)
Suits (edit.Side alloc facts step) outs place part = IsSide facts.now outs place.binders step.now part

-- what comes there
abbrev pub new_part : Edit → ℕ → U → Place → U → U
new_part (edit.Look alloc facts step) outs other place part = part
new_part (edit.Term from names) outs other place part = closed_path other outs place.binders
new_part (edit.Side alloc facts step) outs other place part = closed_path (to_side facts.now step.now) outs place.binders

-- where memory may be wanted
abbrev pub TakesMemory : Edit → Type 0
TakesMemory (edit.Term from names) = ⊥
TakesMemory _ = Unit {0}

abbrev pub Answers : Edit → ℕ → Result Place StepFault → Place → U → Type 0
Answers by outs (Ok end) place part = (end ≡ place) × Suits by outs place part
Answers by outs (Err NoResult) place part = Suits by outs place part → ⊥
Answers by outs (Err NoMemory) place part = TakesMemory by

abbrev pub part_after : Edit → ℕ → U → Result Place StepFault → Place → U → U
part_after by outs other (Ok end) place part = new_part by outs other place part
part_after by outs other (Err fault) place part = part

-- ---- at the end of the turns
-- of the part at the end, or of none
abbrev pub OfEnd : Type 0 → (U → Type 0) → Option U → Type 0
OfEnd Other Of None = Other
OfEnd Other Of (Some part) = Of part

abbrev pub IsRefused : Result Place StepFault → Type 0
IsRefused result = result ≡ Err NoResult

abbrev pub HasRoom : ℕ → U → Place → Type 0
HasRoom outs other place = outs + place.binders + depth other < 2 ^ 32

-- ---- a term after the names are closed, unless memory ran out
abbrev pub ClosesTo : U → Result U StepFault → Type 0
ClosesTo closed (Ok u) = u ≡ closed
ClosesTo closed (Err NoMemory) = Unit {0}
ClosesTo closed (Err NoResult) = ⊥
