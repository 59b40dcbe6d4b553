use Rattle.std.proofs.Common.{◌∙◌, sym}
use Rattle.bag_search.proofs.Carrying.{carried-points}
use Rattle.bag_search.proofs.carried.points_carried.Goals as goal

pub returns : goal.returns
returns c = c.each_carried.ensures ∙ sym (carried-points c.args.t.now.shape.now c.args.list.now c.args.ps.now c.args.qs.now)
