use Rattle.std.proofs.Common.{◌≡◌, ◌+◌, ◌*◌, length, None, Some, refl, arith}
use Rattle.std.specs.Prelude.{slice_get}
use Rattle.std.proofs.lemmas.Option.{slice_get_past}
use Rattle.u_deriv.proofs.editing.Edited.{value_depth-got}
use Rattle.u_deriv.proofs.edit.+edit_at.Goals as goal

pub edit_argument-edit_value-requires : goal.edit_argument-edit_value-requires
edit_argument-edit_value-requires t c =
    let got : slice_get c.args.args.now c.args.index ≡ Some c.at_mut.result.now
    = c.at_mut.ensures.value in
    let d = value_depth-got c.args.args.now c.args.index c.at_mut.result.now got in
    let h : 2 * length c.args.way + 1 ≡ t = c.decreases in
    (omega (arith, h), (omega (arith, d), (c.requires.bound, rw got at c.requires.room)))

pub edit_argument-returns-else-index-len-clause-found : goal.edit_argument-returns-else-index-len-clause-found
edit_argument-returns-else-index-len-clause-found t c =
    let none : slice_get c.args.args.now c.args.index ≡ None = slice_get_past c.args.args.now c.args.index (omega arith) in
    rw none refl
