-- Which sizes are too big.
use Rattle.std.specs.Prelude.{nat_lt, if◌then◌else◌, Option, Some, None}
use Rattle.sql_to_u.specs.declared.size.Size.{Size}
use Rattle.sql_to_u.specs.declared.fault.TermFault.{TermFault}
use Rattle.sql_to_u.specs.declared.fault.TermFault.TheVariants as fault
use Rattle.sql_to_u.specs.declared.fault.LimitKind.TheVariants as limit

abbrev pub too_big_size : Size → Option TermFault
too_big_size s =
    if nat_lt 200000 s.nodes then Some (fault.TooBig limit.Nodes s.nodes) else if nat_lt 2048 s.depth then Some (fault.TooBig limit.Depth s.depth) else None
