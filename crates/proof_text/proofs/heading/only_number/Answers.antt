use Rattle.std.proofs.Common.{◌≡◌, true, Ok, rules, length, drop}
use Rattle.std.specs.Prelude.{◌==◌}
use Rattle.proof_text.specs.Signs.{code}
use Rattle.proof_text.specs.LinesOfText.{fed}
use Rattle.proof_text.specs.Reading.{next, number_at}
use Rattle.proof_text.proofs.texts.HeadingsRead.{start, is_number_line, not_refused, at_line_feed}
use Rattle.proof_text.proofs.heading.only_number.Goals as goal

pub returns-in-Ok : goal.returns-in-Ok
returns-in-Ok c =
    let e : number_at (start (fed c.args.line.now c.args.ended)) ≡ (Ok c.in-Ok.number, c.number.new.cursor) = search rules in
    let t : (code (next c.number.new.cursor) == 24) ≡ true = search rules in
    let l : length (drop 1 c.number.new.cursor.text) ≡ 0 = search rules in
    is_number_line (fed c.args.line.now c.args.ended) c.in-Ok.number c.number.new.cursor e t l

pub returns-in_default : goal.returns-in_default
returns-in_default c n w i =
    let e : number_at (start (fed c.args.line.now c.args.ended)) ≡ (Ok c.in-Ok.number, c.number.new.cursor) = search rules in
    let r = at_line_feed (fed c.args.line.now c.args.ended) c.in-Ok.number n c.number.new.cursor e w i in
    search rules

pub returns-in_default-2 : goal.returns-in_default-2
returns-in_default-2 c n w i =
    let e : number_at (start (fed c.args.line.now c.args.ended)) ≡ (Ok c.in-Ok.number, c.number.new.cursor) = search rules in
    let r = at_line_feed (fed c.args.line.now c.args.ended) c.in-Ok.number n c.number.new.cursor e w i in
    search rules

pub returns-in_default-3 : goal.returns-in_default-3
returns-in_default-3 c = not_refused (fed c.args.line.now c.args.ended) c.in_default.field-0 c.number.new.cursor (search rules) (search rules)
