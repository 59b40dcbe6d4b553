-- Which terms are too big.
use Rattle.std.specs.Prelude.{◌≡◌, ◌≤◌, nat_lt, if◌then◌else◌, Option, Some, None}
use Rattle.u_terms.specs.Syntax.{U}
use Rattle.u_terms.specs.Size.{nodes, depth}
use Rattle.sql_to_u.specs.declared.fault.TermFault.{TermFault}
use Rattle.sql_to_u.specs.declared.fault.TermFault.TheVariants as fault
use Rattle.sql_to_u.specs.declared.fault.LimitKind.TheVariants as limit
use Rattle.sql_to_u.specs.Sizes.{capped}

-- Nodes before depth. A count that is larger than the last value of u64 is told as that value.
abbrev pub too_big : U → Option TermFault
too_big term =
    if nat_lt 200000 (nodes term) then Some (fault.TooBig limit.Nodes (capped (nodes term)))
    else if nat_lt 2048 (depth term) then Some (fault.TooBig limit.Depth (capped (depth term))) else None

pub record IsWithinLimits (term : U) : Type 0 where
  pub few : nodes term ≤ 200000
  pub shallow : depth term ≤ 2048

-- the fault that is answered is the one that is there; of want of memory nothing is said
unfoldable pub IsCause : TermFault → Option TermFault → Type 0
IsCause answered found = (answered ≡ fault.NoMemory → ⊥) → found ≡ Some answered
