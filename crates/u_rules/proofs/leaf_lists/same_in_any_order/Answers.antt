use Rattle.std.proofs.Common.{vec_items}
use Rattle.u_rules.specs.Terms.{terms}
use Rattle.u_rules.proofs.multisets.OneOrder.{tells}
use Rattle.u_rules.proofs.leaf_lists.same_in_any_order.Goals as goal

pub returns : goal.returns
returns c =
    tells vec_items c.eq.result (terms c.args.left.now) (terms c.args.right.now) c.in_ok-left.left.items c.in_ok-right.right.items
    c.in_ok-left.ensures c.in_ok-right.ensures c.eq.ensures
