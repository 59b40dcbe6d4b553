use Rattle.std.proofs.Common.{◌≡◌, ◌+◌, ◌*◌, length, Some, sym, arith}
use Rattle.std.specs.Prelude.{slice_get}
use Rattle.u_deriv.proofs.editing.Edited.{value_depth-got}
use Rattle.u_terms.proofs.Sizes.{depth-positive}
use Rattle.u_moves.proofs.contexts.Depths.{value_depth-positive}
use Rattle.u_moves.proofs.binders.+walk.Goals as goal

pub walk-next-requires-in_default : goal.walk-next-requires-in_default
walk-next-requires-in_default t c = omega (arith, depth-positive c.args.u.now)

pub walk-next-requires-in_default-u : goal.walk-next-requires-in_default-u
walk-next-requires-in_default-u t c = omega (arith, depth-positive c.args.u.now)

pub walk-next-requires-in_default-u-2 : goal.walk-next-requires-in_default-u-2
walk-next-requires-in_default-u-2 t c = omega (arith, depth-positive c.args.u.now)

pub walk-next-requires-in_default-u-3 : goal.walk-next-requires-in_default-u-3
walk-next-requires-in_default-u-3 t c = omega (arith, depth-positive c.args.u.now)

pub walk_value-next-requires-in_default-value : goal.walk_value-next-requires-in_default-value
walk_value-next-requires-in_default-value t c = omega (arith, value_depth-positive c.args.value.now)

pub walk_value-next-requires-in_default-value-2 : goal.walk_value-next-requires-in_default-value-2
walk_value-next-requires-in_default-value-2 t c = omega (arith, value_depth-positive c.args.value.now)

pub walk_value-next-requires-in_default : goal.walk_value-next-requires-in_default
walk_value-next-requires-in_default t c = omega (arith, value_depth-positive c.args.value.now)

pub walk_argument-walk_value-requires : goal.walk_argument-walk_value-requires
walk_argument-walk_value-requires t c =
    let got : slice_get c.args.args.now c.args.index ≡ Some c.in-Some.value.now = sym (c.in-Some.ensures {u = tt}) in
    let d = value_depth-got c.args.args.now c.args.index c.in-Some.value.now got in
    let h : 2 * length c.args.way + 1 ≡ t = c.decreases in
    (omega (arith, h), (omega (arith, d), c.requires.bound))
