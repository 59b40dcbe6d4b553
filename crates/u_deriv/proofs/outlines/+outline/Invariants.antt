use Rattle.std.proofs.Common.{◌≡◌, take}
use Rattle.u_deriv.specs.Outlining.{list_outline}
use Rattle.u_deriv.proofs.outlines.+outline.Given as goal

abbrev pub invariant-outline_all-loop-value : goal.invariant-outline_all-loop-value
invariant-outline_all-loop-value l = l.all ≡ list_outline (take l.value-index l.values)
