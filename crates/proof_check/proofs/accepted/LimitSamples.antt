-- Counts at the limits and beyond, written out. A wrong definition stops the check.
use Rattle.std.proofs.Common.{refl, arith}
use Rattle.proof_text.specs.declared.limits.LimitKind.TheVariants.{Nodes, Depth}
use Rattle.proof_check.specs.Limits.{IsWithin, Passes}

just_within : IsWithin 200000 2048
just_within = record { few = omega arith; flat = omega arith }

-- where both are passed, nodes are told
both_pass : Passes 200001 2049 Nodes 200001
both_pass = (omega arith, refl)

depth_is_not_told : Passes 200001 2049 Depth 2049 → ⊥
depth_is_not_told p = absurd (omega (arith, p.0))

depth_passes : Passes 200000 2049 Depth 2049
depth_passes = (omega arith, omega arith, refl)
