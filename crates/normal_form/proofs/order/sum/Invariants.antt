use Rattle.std.proofs.Common.{◌≡◌, ◌++◌, ◌∷◌, [], vec_len}
use Rattle.normal_form.specs.NormalTerms.{sum_of}
use Rattle.normal_form.proofs.order.sum.Given as goal

abbrev pub invariant-loop-part : goal.invariant-loop-part
invariant-loop-part l = sum_of (l.left.items ++ l.whole ∷ []) ≡ sum_of l.fn.parts.items

abbrev pub decreases-loop-part : goal.decreases-loop-part
decreases-loop-part l = vec_len l.left
