-- A last check.
use Rattle.std.proofs.Common.{◌≡◌, Option, Some, None, refl}
use Rattle.schema_read.specs.Order.{Fault, or_else}

pub or_else-none : (check : Option Fault) → or_else check None ≡ check
or_else-none None = refl
or_else-none (Some fault) = refl
