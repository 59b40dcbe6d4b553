use Rattle.std.proofs.Common.{◌<◌, length, refl, ap, arith}
use Rattle.u_terms.specs.Size.{depth}
use Rattle.call_rows.proofs.Taken.{taken-factors, taken-shallow}
use Rattle.call_rows.proofs.behind.taken.Goals as goal

pub returns-clause-taken : goal.returns-clause-taken
returns-clause-taken c =
    taken-factors c.args.whole.now c.in_ok-factors.factors c.in_ok-factors.ensures (omega (arith, c.if-as_slice-ge-MANY.false, ap length c.as_slice.ensures)) (c.if-not-is_known.ensures refl)

pub returns-clause-shallow : goal.returns-clause-shallow
returns-clause-shallow c =
    let shallow : depth c.args.whole.now < 1048576 = omega (arith, c.depth.ensures, c.if-depth-ge-MANY.false) in
    taken-shallow c.args.whole.now c.in_ok-factors.factors c.in_ok-factors.ensures (omega (arith, c.if-as_slice-ge-MANY.false, ap length c.as_slice.ensures)) shallow
