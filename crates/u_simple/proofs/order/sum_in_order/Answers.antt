use Rattle.std.proofs.Common.{◌≡◌, sym, subst}
use Rattle.std.specs.Prelude.{IsPermutation}
use Rattle.std.proofs.lemmas.Result.{IfOk-weaker}
use Rattle.u_terms.specs.Syntax.{U}
use Rattle.u_rules.specs.Terms.{add_leaves}
use Rattle.normal_form.specs.NormalTerms.{sum_of}
use Rattle.u_simple.proofs.Chosen.{sum-leaves}
use Rattle.u_simple.proofs.order.sum_in_order.Goals as goal

pub returns : goal.returns
returns c =
    IfOk-weaker c.sum.result (λ (row : U). row ≡ sum_of c.in_ok-parts.parts.items) (λ (row : U). IsPermutation (add_leaves c.args.u.now) (add_leaves row))
    (λ (row : U) e. subst (λ (u : U). IsPermutation (add_leaves c.args.u.now) (add_leaves u)) (sym e) (sum-leaves c.args.u.now c.in_ok-parts.parts.items (c.in_ok-parts.ensures {u = tt})))
    c.sum.ensures
