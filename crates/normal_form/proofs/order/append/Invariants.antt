use Rattle.std.proofs.Common.{◌≡◌, ◌++◌, take}
use Rattle.u_rules.specs.Terms.{terms}
use Rattle.normal_form.specs.Kinds.{of_kind}
use Rattle.normal_form.proofs.order.append.Given as goal

abbrev pub invariant-loop-factor : goal.invariant-loop-factor
invariant-loop-factor l = l.factors.items ≡ l.initial.factors.items ++ of_kind l.kind (terms (take l.factor-index l.gathered))
