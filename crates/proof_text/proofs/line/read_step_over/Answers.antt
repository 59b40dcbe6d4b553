use Rattle.std.proofs.Common.{◌≡◌, ◌-◌, length, refl, ap, ◌∙◌, rules}
use Rattle.std.specs.Prelude.{Ok}
use Rattle.proof_text.specs.LinesOfText.{fed}
use Rattle.proof_text.specs.Over.{line_over}
use Rattle.proof_text.specs.Reading.{Rest, Stops, line_at, alone}
use Rattle.proof_text.proofs.answers.LineAnswers.{read_told, halted_told}
use Rattle.proof_text.proofs.answers.OneAnswer.{spelled}
use Rattle.proof_text.proofs.line.read_step_over.Goals as goal

pub returns-in-Ok : goal.returns-in-Ok
returns-in-Ok c =
    let text = fed c.args.line.now c.args.ended in
    let e : alone line_at (record { nodes = 0; text = fed c.args.line.now c.args.ended }) ≡ (Ok (line_over c.in-Ok.kind c.whole_line.new.kept), c.whole_line.new.cursor) = search rules in
    let read = read_told text (line_over c.in-Ok.kind c.whole_line.new.kept) c.whole_line.new.cursor e in
    record { answer = read; text = spelled text (line_over c.in-Ok.kind c.whole_line.new.kept) read }

pub returns-in-Err : goal.returns-in-Err
returns-in-Err c =
    let e : Stops c.in-Err.stop c.whole_line.new.cursor (alone line_at (record { nodes = 0; text = fed c.args.line.now c.args.ended })) = search rules in
    let a : c.left-length.result ≡ length (fed c.args.line.now c.args.ended) = c.left-length.ensures.left ∙ ap (λ (r : Rest). length r.text) c.new-cursor.ensures in
    let z : c.saturating_sub.result ≡ length (fed c.args.line.now c.args.ended) - length c.whole_line.new.cursor.text = c.saturating_sub.ensures ∙ (rw (a, c.left.ensures.left) refl) in
    record { answer = rw (c.fault.ensures, z) (halted_told (fed c.args.line.now c.args.ended) c.in-Err.stop c.whole_line.new.cursor e); text = tt }
