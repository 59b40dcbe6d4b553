use Rattle.std.proofs.Common.{refl}
use Rattle.u_equal.proofs.links.Routed.{from-route}
use Rattle.u_equal.proofs.route.Route.counted.Goals as goal

pub returns : goal.returns
returns c = from-route c.args.product.now c.args.forest.now c.args.from.now c.args.to.now c.args.links c.requires _ refl
