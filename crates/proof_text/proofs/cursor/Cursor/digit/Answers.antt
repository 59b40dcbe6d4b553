use Rattle.std.proofs.Common.{get_or, ap, ◌∙◌}
use Rattle.proof_text.specs.Reading.{Rest, sign_at}
use Rattle.proof_text.proofs.reading.Digits.{first_sign, next_digit}
use Rattle.proof_text.proofs.cursor.Cursor.digit.Goals as goal

pub returns-in-len1-up : goal.returns-in-len1-up
returns-in-len1-up c =
    let e = first_sign c.self.inside.bytes.now c.self.inside.ended c.in-len1-up.len_at_least in
    next_digit _ (get_or c.self.inside.bytes.now 0 0) c.args.self.now c.digit_of.ensures (e ∙ ap (λ (r : Rest). sign_at r.text) c.self.view_is)
