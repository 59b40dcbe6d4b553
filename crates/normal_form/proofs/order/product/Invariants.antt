use Rattle.std.proofs.Common.{◌≡◌, ◌++◌, ◌∷◌, [], vec_len}
use Rattle.u_terms.specs.Products.{product_of}
use Rattle.normal_form.proofs.order.product.Given as goal

abbrev pub invariant-loop-factor : goal.invariant-loop-factor
invariant-loop-factor l = product_of (l.left.items ++ l.whole ∷ []) ≡ product_of l.fn.factors.items

abbrev pub decreases-loop-factor : goal.decreases-loop-factor
decreases-loop-factor l = vec_len l.left
