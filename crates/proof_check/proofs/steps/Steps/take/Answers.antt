use Rattle.std.proofs.Common.{subst}
use Rattle.proof_text.specs.LinesOfText.{fed}
use Rattle.proof_text.specs.ReadingLines.{IsRead}
use Rattle.proof_text.specs.Over.{line_over}
use Rattle.proof_check.specs.Kept.{level_of, waiting_in}
use Rattle.proof_check.proofs.state.KeptSteps.{refused}
use Rattle.proof_check.proofs.steps.Steps.take.Goals as goal

pub returns-in-Ok-Whole-clause-taken : goal.returns-in-Ok-Whole-clause-taken
returns-in-Ok-Whole-clause-taken c outs =
    let text = fed c.args.line.text.now c.args.line.ended in
    c.make.ensures.taken outs text (subst (λ kind. IsRead text (line_over kind c.read_step_over.new.kept)) c.in-Ok-Whole.field-0-is c.in-Ok-Whole.ensures.answer)

pub returns-in-Ok-Opens-clause-taken : goal.returns-in-Ok-Opens-clause-taken
returns-in-Ok-Opens-clause-taken c outs =
    let text = fed c.args.line.text.now c.args.line.ended in
    c.open.ensures.taken outs text (subst (λ kind. IsRead text (line_over kind c.read_step_over.new.kept)) c.in-Ok-Opens.field-0-is c.in-Ok-Opens.ensures.answer)

pub returns-in-Ok-Closes-clause-taken : goal.returns-in-Ok-Closes-clause-taken
returns-in-Ok-Closes-clause-taken c outs =
    let text = fed c.args.line.text.now c.args.line.ended in
    c.close.ensures.taken c.args.facts.now outs text (subst (λ kind. IsRead text (line_over kind c.read_step_over.new.kept)) c.in-Ok-Closes.field-0-is c.in-Ok-Closes.ensures.answer)

pub returns-in-Ok-Ends-clause-taken : goal.returns-in-Ok-Ends-clause-taken
returns-in-Ok-Ends-clause-taken c outs =
    let text = fed c.args.line.text.now c.args.line.ended in
    c.end.ensures.taken c.args.facts.now outs text (subst (λ kind. IsRead text (line_over kind c.read_step_over.new.kept)) c.in-Ok-Ends.field-0-is c.in-Ok-Ends.ensures.answer)

pub returns-in-Err-clause-taken : goal.returns-in-Err-clause-taken
returns-in-Err-clause-taken c outs =
    let steps = c.args.self.now in
    rw c.refused.ensures
    (refused c.args.facts.now outs c.args.line.number (level_of steps.level) (waiting_in steps.waiting.items) steps.count (fed c.args.line.text.now c.args.line.ended) c.in-Err.fault c.in-Err.ensures.answer)
