use Rattle.std.proofs.Common.{ℕ, ◌≤◌, arith, subst}
use Rattle.std.proofs.lemmas.Grind.{common_steps}
use Rattle.std.specs.Prelude.{count_by}
use Rattle.u_rules.specs.Terms.{mul_leaves}
use Rattle.u_equal.specs.Links.{is_equality}
use Rattle.u_entail.specs.Carrying.{IsShortCourse}
use Rattle.u_entail.proofs.products.Lists.{each-next}
use Rattle.u_entail.proofs.carrying.sum_of_links.Goals as goal

pub loop-route-preserved : goal.loop-route-preserved
loop-route-preserved c =
    let route = c.route-item.result in
    let short : IsShortCourse route =
    λ no_call. subst (λ (n : ℕ). n ≤ count_by is_equality (mul_leaves route.product)) c.links.ensures.is (c.links.ensures.few no_call) in
    record {
      is = grind (arith, common_steps);
      short = each-next IsShortCourse c.args.routes.now c.loop-route.route-index _ route c.route-item.is (omega arith) c.loop-route.invariant.short short;
    }
