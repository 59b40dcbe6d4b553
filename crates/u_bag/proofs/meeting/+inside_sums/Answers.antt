use Rattle.std.proofs.Common.{◌<◌, arith}
use Rattle.u_bag.proofs.pairing.Meets.{inside-more}
use Rattle.u_bag.proofs.meeting.+inside_sums.Goals as goal

pub returns-in-Sum : goal.returns-in-Sum
returns-in-Sum t c =
    let some : 0 < c.args.count = omega (arith, c.if-count-eq0.false) in
    inside-more c.args.count c.args.u.now c.in-Sum.f c.get.result.now some c.in-Sum.is c.get.ensures c.inside_sums.result c.inside_sums.ensures
