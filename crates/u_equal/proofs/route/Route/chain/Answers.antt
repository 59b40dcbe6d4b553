use Rattle.std.proofs.Common.{subst}
use Rattle.std.specs.Prelude.{Some, IfOk}
use Rattle.u_equal.specs.Routes.{Course, IsChain}
use Rattle.u_equal.proofs.links.Routed.{chain-ok}
use Rattle.u_equal.proofs.route.Route.chain.Goals as goal

pub returns-clause-leads : goal.returns-clause-leads
returns-clause-leads c =
    subst (λ (route : Course). IfOk c.links.result (λ links. IsChain route.product route.from route.to (Some links))) c.self.view_is
    (chain-ok c.self.inside.product.now c.self.inside.forest.now c.self.invariant.classes c.self.inside.from.now c.self.inside.to.now c.self.invariant.same c.links.result c.links.ensures.leads c.links.ensures.counted c.links.ensures.nested)
