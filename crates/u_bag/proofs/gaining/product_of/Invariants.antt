use Rattle.std.proofs.Common.{◌≡◌, take}
use Rattle.u_rules.specs.Terms.{terms}
use Rattle.u_bag.proofs.gaining.product_of.Given as goal

abbrev pub invariant-loop-factor : goal.invariant-loop-factor
invariant-loop-factor l = l.copies.items ≡ terms (take l.factor-index l.factors)
