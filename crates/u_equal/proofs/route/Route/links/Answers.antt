use Rattle.std.proofs.Common.{subst}
use Rattle.std.specs.Prelude.{◌≤◌, count_by}
use Rattle.u_rules.specs.Terms.{mul_leaves}
use Rattle.u_equal.specs.Links.{HasNoCall, is_equality}
use Rattle.u_equal.specs.Routes.{Course}
use Rattle.u_equal.specs.Standing.{standing}
use Rattle.u_equal.proofs.links.Routed.{route-few}
use Rattle.u_equal.proofs.route.Route.links.Goals as goal

pub returns-clause-few : goal.returns-clause-few
returns-clause-few c =
    subst (λ (route : Course). HasNoCall (standing route.product) → c.self.inside.links ≤ count_by is_equality (mul_leaves route.product)) c.self.view_is
    (route-few c.self.inside.product.now c.self.inside.forest.now c.self.inside.from.now c.self.inside.to.now c.self.inside.links c.self.invariant)
