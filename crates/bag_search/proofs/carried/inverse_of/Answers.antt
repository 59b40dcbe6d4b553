use Rattle.std.proofs.Common.{length}
use Rattle.bag_search.proofs.Carrying.{next-back}
use Rattle.bag_search.proofs.carried.inverse_of.Goals as goal

pub loop-x-preserved : goal.loop-x-preserved
loop-x-preserved c =
    next-back c.args.list.now c.loop-x.back.items c.push.new.self.items c.loop-x.x (length c.args.list.now) c.place_of.result _ c.loop-x-test.true c.place_of.ensures c.in_ok-push.ensures.items c.loop-x.invariant
