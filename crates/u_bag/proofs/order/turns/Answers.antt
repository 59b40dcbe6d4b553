use Rattle.std.proofs.Common.{◌<◌, ◌≤◌, length, arith}
use Rattle.std.specs.Prelude.{reverse}
use Rattle.std.proofs.lemmas.Option.{MatchOption-at_none, MatchOption-at_some}
use Rattle.term_shapes.specs.Factors.{sum_count, under_sums}
use Rattle.shape_entails.specs.Values.{rows}
use Rattle.u_bag.specs.Order.{AreAtoms, AreSent, AreTurnsAmong}
use Rattle.u_bag.specs.Shapes.{HasTooManySums}
use Rattle.u_bag.proofs.pairing.Ordered.{all-wanted, as-many, paired-rows, turn-among}
use Rattle.u_bag.proofs.order.turns.Goals as goal

pub returns-in_default-2 : goal.returns-in_default-2
returns-in_default-2 c =
    let many : 2048 < sum_count c.args.right.now = MatchOption-at_none (HasTooManySums c.args.right.now) (AreAtoms c.args.right.now) c.in_default-2.is (c.in_ok-right.ensures {u = tt}) in
    let h = c.requires in
    omega (arith, many, as-many h.outs h.s h.t c.args.entries.now c.args.left.now c.args.right.now h.shapes.left_has h.shapes.right_has h.pairing)

pub sources_of-requires : goal.sources_of-requires
sources_of-requires c =
    let h = c.requires in
    let l = MatchOption-at_some (HasTooManySums c.args.left.now) (AreAtoms c.args.left.now) c.in-Some.left c.in-Some.is (c.in_ok-left.ensures {u = tt}) in
    let r = MatchOption-at_some (HasTooManySums c.args.right.now) (AreAtoms c.args.right.now) c.in-Some-2.right c.in-Some-2.is (c.in_ok-right.ensures {u = tt}) in
    rw (l.rows_are, r.rows_are, r.sums_are) (paired-rows h.outs h.s h.t c.args.entries.now c.args.left.now c.args.right.now h.shapes.left_has h.shapes.right_has h.pairing)

pub turns_by-requires : goal.turns_by-requires
turns_by-requires c =
    let h = c.requires in
    let l = MatchOption-at_some (HasTooManySums c.args.left.now) (AreAtoms c.args.left.now) c.in-Some.left c.in-Some.is (c.in_ok-left.ensures {u = tt}) in
    let r = MatchOption-at_some (HasTooManySums c.args.right.now) (AreAtoms c.args.right.now) c.in-Some-2.right c.in-Some-2.is (c.in_ok-right.ensures {u = tt}) in
    let sent : AreSent (rows (under_sums c.args.left.now)) (rows (under_sums c.args.right.now)) c.args.entries.now (length c.args.entries.now) (sum_count c.args.right.now) c.in_ok-places.places.items =
    rw (l.rows_are, r.rows_are, r.sums_are) at (c.in_ok-places.ensures {u = tt}) in
    let few : sum_count c.args.left.now ≤ 2048 = let few = l.few in omega (arith, few, l.sums_are) in
    record {
      wanted = rw (l.sums_are, c.as_slice.ensures.value, c.reverse.ensures.items)
          (all-wanted h.outs h.s h.t c.args.entries.now c.args.left.now c.args.right.now h.shapes.left_has h.shapes.right_has h.pairing c.in_ok-places.places.items sent few);
    }

pub returns : goal.returns
returns c =
    let h = c.requires in
    let l = MatchOption-at_some (HasTooManySums c.args.left.now) (AreAtoms c.args.left.now) c.in-Some.left c.in-Some.is (c.in_ok-left.ensures {u = tt}) in
    let r = MatchOption-at_some (HasTooManySums c.args.right.now) (AreAtoms c.args.right.now) c.in-Some-2.right c.in-Some-2.is (c.in_ok-right.ensures {u = tt}) in
    let sent : AreSent (rows (under_sums c.args.left.now)) (rows (under_sums c.args.right.now)) c.args.entries.now (length c.args.entries.now) (sum_count c.args.right.now) c.in_ok-places.places.items =
    rw (l.rows_are, r.rows_are, r.sums_are) at (c.in_ok-places.ensures {u = tt}) in
    let few : sum_count c.args.left.now ≤ 2048 = let few = l.few in omega (arith, few, l.sums_are) in
    let among : AreTurnsAmong (sum_count c.args.left.now) (reverse c.in_ok-places.places.items) c.in_ok-turns_by.field-0.items =
    rw (l.sums_are, c.as_slice.ensures.value, c.reverse.ensures.items) at (c.in_ok-turns_by.ensures {u = tt}) in
    turn-among h.outs h.s h.t c.args.entries.now c.args.left.now c.args.right.now h.shapes.left_has h.shapes.right_has h.pairing c.in_ok-places.places.items c.in_ok-turns_by.field-0.items sent few among
