use Rattle.std.proofs.Common.{Bool, List, ap, ◌∙◌}
use Rattle.u_equal.specs.Numbered.{mark_at}
use Rattle.u_equal.proofs.congruence.Added.{same-marks}
use Rattle.u_equal.proofs.numbered.make_place.Goals as goal

pub loop-marks-preserved : goal.loop-marks-preserved
loop-marks-preserved c = λ number.
    let marks : List Bool = c.loop-marks.marks.items in
    ap (λ (ms : List Bool). mark_at ms number) c.in_ok-push.ensures.items ∙ same-marks marks number ∙ c.loop-marks.invariant number
