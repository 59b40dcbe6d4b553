use Rattle.std.proofs.Common.{◌≡◌, take}
use Rattle.u_rules.specs.Terms.{terms}
use Rattle.normal_form.proofs.order.in_row.Given as goal

abbrev pub invariant-loop-part : goal.invariant-loop-part
invariant-loop-part l = l.parts.items ≡ terms (take l.part-index l.part-items)
