use Rattle.std.proofs.Common.{◌≡◌, sym, subst}
use Rattle.std.specs.Prelude.{IsPermutation}
use Rattle.std.proofs.lemmas.Result.{IfOk-weaker}
use Rattle.u_terms.specs.Syntax.{U}
use Rattle.u_terms.specs.Products.{product_of}
use Rattle.u_rules.specs.Terms.{mul_leaves}
use Rattle.u_simple.proofs.Chosen.{product-leaves}
use Rattle.u_simple.proofs.order.product_in_order.Goals as goal

pub returns : goal.returns
returns c =
    IfOk-weaker c.product.result (λ (row : U). row ≡ product_of c.in_ok-factors.factors.items) (λ (row : U). IsPermutation (mul_leaves c.args.u.now) (mul_leaves row))
    (λ (row : U) e. subst (λ (u : U). IsPermutation (mul_leaves c.args.u.now) (mul_leaves u)) (sym e) (product-leaves c.args.u.now c.in_ok-factors.factors.items (c.in_ok-factors.ensures {u = tt})))
    c.product.ensures
