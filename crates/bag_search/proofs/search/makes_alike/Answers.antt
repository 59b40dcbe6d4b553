use Rattle.std.proofs.Common.{◌∙◌}
use Rattle.bag_search.proofs.Wanted.{without-outputs, without-marks, by-other_marks}
use Rattle.bag_search.proofs.search.makes_alike.Goals as goal
use Rattle.bag_search.proofs.search.makes_alike.Goals.{then-not-outputs_carried-via-then-not-outputs_carried, then-not-outputs_carried-via-else-not-outputs_carried+then-not-marks_carried}

pub returns-then-not-outputs_carried : goal.returns-then-not-outputs_carried
returns-then-not-outputs_carried c =
    let s = c.args.sides.now.left.shape.now in
    let t = c.args.sides.now.right.shape.now in
    elim c.then-not-outputs_carried.branch [
      | then-not-outputs_carried-via-then-not-outputs_carried w ↦
          without-outputs s t c.args.list.now c.requires.fits c.outputs_carried.result c.outputs_carried.ensures w.if-not-outputs_carried.true
      | then-not-outputs_carried-via-else-not-outputs_carried+then-not-marks_carried w ↦
          without-marks s t c.args.list.now c.requires.fits c.outputs_carried.result c.outputs_carried.ensures w.if-not-outputs_carried.false w.marks_carried.result w.marks_carried.ensures w.if-not-marks_carried.true
    ]

pub returns : goal.returns
returns c =
    by-other_marks c.args.sides.now.left.shape.now c.args.sides.now.right.shape.now c.args.list.now c.requires.fits c.outputs_carried.result c.outputs_carried.ensures c.if-not-outputs_carried.false
    c.marks_carried.result c.marks_carried.ensures c.if-not-marks_carried.false c.as_slice.result.now c.marks_carried-2.result (c.as_slice.ensures.value ∙ c.in_ok-back.ensures) c.marks_carried-2.ensures
