-- What the parts of a call found: contracts of private functions alone cite this.
use Rattle.std.specs.Prelude.{ℕ, ◌+◌, ◌≡◌, Bool, MatchBool, List, ◌∷◌, Option, Some, None, Result, Ok, Err}
use Rattle.u_terms.specs.Syntax.{U, Val}
use Rattle.u_terms.specs.Binding.{sums, value_for_place}
use Rattle.u_terms.specs.Products.{product_of}
use Rattle.u_terms.specs.declared.facts.Facts.{Facts}
use Rattle.u_binder.specs.Changes.{moved_at}
use Rattle.u_rules.specs.declared.changed_same.Change.{Change}
use Rattle.u_rules.specs.declared.changed_same.Change.TheVariants as change
use Rattle.u_rules.specs.declared.faults.Misfit.{Misfit}
use Rattle.u_rules.specs.declared.faults.Unfit.{Unfit}
use Rattle.u_rules.specs.declared.faults.Unfit.TheVariants.{ArgKinds, Wrong}
use Rattle.u_rules.specs.declared.found.Found.{Found}
use Rattle.u_rules.specs.declared.found.Found.TheVariants as found
use Rattle.u_rules.specs.declared.rule.Arg.{Arg}
use Rattle.u_rules.specs.declared.rule.Rule.{Rule}
use Rattle.u_rules.specs.declared.rule.InstanceFault.{InstanceFault}
use Rattle.u_rules.specs.declared.rule.InstanceFault.TheVariants as fault
use Rattle.u_rules.specs.Sides.{Refused, side_of}
use Rattle.u_rules.specs.Templates.{denote}
use Rattle.u_rules.specs.Terms.{◌⊗◌, R, turned, equal_columns, equal_rows, found_rows}
use Rattle.u_rules.specs.Rows.{Row, LeavesAgree, Instance}

abbrev pub fault_of : Option Row → Option Misfit
fault_of None = None
fault_of (Some r) = r.fault

-- ---- the sides that were found
abbrev pub left_found : Found → U
left_found (found.Plain template args) = denote args.now template.now.left
left_found (found.SumSwap outer inner body) = sums (outer + inner) body.now
left_found (found.Key table key one other) = product_of (R table one.now ∷ (R table other.now ∷ equal_columns one.now key.now other.now key.now))
left_found (found.Fkey fkey width row) = R fkey.now.from row.now

abbrev pub right_found : Found → U
right_found (found.Plain template args) = denote args.now template.now.right
right_found (found.SumSwap outer inner body) = sums (outer + inner) (turned outer inner body.now)
right_found (found.Key table key one other) = product_of (R table one.now ∷ equal_rows one.now other.now)
right_found (found.Fkey fkey width row) = R fkey.now.from row.now ⊗ found_rows width fkey.now row.now

abbrev pub side_found : Bool → Found → U
side_found turned sides = side_of turned (left_found sides) (right_found sides)

-- the sides of a row without a fault
abbrev pub Finds : Option Row → Result Found Unfit → Type 0
Finds row (Ok sides) = row ≡ Some (record { fault = None; left = left_found sides; right = right_found sides })
Finds row (Err ArgKinds) = row ≡ None
Finds row (Err (Wrong w)) = fault_of row ≡ Some w

-- the sides of an instance
abbrev pub Admits : Facts → Rule → List Arg → Result Found InstanceFault → Type 0
Admits F q args (Ok sides) = Instance F q args (left_found sides) (right_found sides)
Admits F q args (Err (fault.BadInstance w)) = Refused F q args w
Admits F q args (Err fault.NoMemory) = Unit {0}

-- whether the leaves of a row's sides agree where they must
abbrev pub TellsLeaves : Rule → Option Row → Bool → Type 0
TellsLeaves q None b = Unit {0}
TellsLeaves q (Some r) b = MatchBool b (LeavesAgree q r.left r.right) (LeavesAgree q r.left r.right → ⊥)

-- whether P holds, unless memory ran out
abbrev pub TellsWhether : Type 0 → Result Bool InstanceFault → Type 0
TellsWhether P (Ok b) = MatchBool b P (P → ⊥)
TellsWhether P (Err fault.NoMemory) = Unit {0}
TellsWhether P (Err _) = ⊥

-- what stands at a place of a body, under so many binders of its own, after the change
abbrev pub place_for : Change → ℕ → ℕ → Val
place_for (change.Put value) = value_for_place value.now
place_for (change.Exchange outer inner) = moved_at outer inner
