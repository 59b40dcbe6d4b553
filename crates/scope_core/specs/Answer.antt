-- What a call that seeks faults answers where there is one. Of want of memory nothing is said.
use Rattle.std.specs.Prelude.{◌≡◌, Bool, if◌then◌else◌, Option, Some, None}
use Rattle.scope_core.specs.declared.fault.ScopeCode.{ScopeCode}
use Rattle.scope_core.specs.declared.fault.ScopeCode.TheVariants as code
use Rattle.scope_core.specs.declared.fault.ScopeFault.{ScopeFault}
use Rattle.scope_core.specs.declared.fault.ScopeFault.TheVariants as fault

-- the fault that is answered is the one that is there
unfoldable pub IsCause : ScopeFault → Option ScopeFault → Type 0
IsCause answered found = (answered ≡ fault.NoMemory → ⊥) → found ≡ Some answered

-- the code of what is wrong with a column that some block has
abbrev pub found_code : Bool → Bool → Bool → Bool → Option ScopeCode
found_code is_two is_lacking is_outer_argument is_no_key =
    if is_two then Some code.Ambiguous else if is_lacking then Some code.UnknownColumn else if is_outer_argument then Some code.OuterAggregate
    else if is_no_key then Some code.NotGrouped else None
