use Rattle.std.proofs.Common.{take}
use Rattle.data_model.specs.Lists.{Each}
use Rattle.u_terms.specs.Names.{IsFreeBelowValue}
use Rattle.u_deriv.proofs.sides.are_values_named.Given as goal

abbrev pub invariant-loop-value : goal.invariant-loop-value
invariant-loop-value l = Each (IsFreeBelowValue l.bound) (take l.value-index l.values)
