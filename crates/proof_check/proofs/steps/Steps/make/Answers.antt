use Rattle.std.proofs.Common.{false}
use Rattle.std.proofs.lemmas.Result.{err_from_is_err_and}
use Rattle.proof_check.specs.Kept.{level_of, waiting_in}
use Rattle.proof_check.proofs.state.KeptSteps.{shallow, full, wide, unmade, large, taken}
use Rattle.proof_check.proofs.steps.Steps.make.Goals as goal

pub returns-in_err-leave_room-clause-taken : goal.returns-in_err-leave_room-clause-taken
returns-in_err-leave_room-clause-taken c outs text read =
    let p = err_from_is_err_and c.from_residual.result c.from_residual.ensures.1 in
    let steps = c.args.self.now in
    rw (p.1, p.2) (full c.args.facts.now outs c.args.line (level_of steps.level) (waiting_in steps.waiting.items) steps.count text c.args.self.now.step false read c.in_err-leave_room.field-0.0 c.in_err-leave_room.ensures)

pub returns-in_err-measured-clause-taken : goal.returns-in_err-measured-clause-taken
returns-in_err-measured-clause-taken c outs text read =
    let p = err_from_is_err_and c.from_residual-in_err-measured.result c.from_residual-in_err-measured.ensures.1 in
    let steps = c.args.self.now in
    rw (p.1, p.2) (wide c.args.facts.now outs c.args.line (level_of steps.level) (waiting_in steps.waiting.items) steps.count text c.args.self.now.step false read c.in_err-measured.field-0.0 c.in_ok-leave_room.ensures c.in_err-measured.ensures.limits)

pub exchange-requires-clause-shallow : goal.exchange-requires-clause-shallow
exchange-requires-clause-shallow c = let steps = c.args.self.now in shallow (level_of steps.level) (waiting_in steps.waiting.items) c.requires.steppable

pub returns-in_err-exchange-clause-taken : goal.returns-in_err-exchange-clause-taken
returns-in_err-exchange-clause-taken c outs text read =
    let p = err_from_is_err_and c.from_residual-in_err-exchange.result c.from_residual-in_err-exchange.ensures.1 in
    let steps = c.args.self.now in
    rw (p.1, p.2)
    (unmade c.args.facts.now outs c.args.line (level_of steps.level) (waiting_in steps.waiting.items) steps.count text c.args.self.now.step read c.requires.says c.in_ok-leave_room.ensures c.in_ok-measured.ensures.limits c.exchange.new.self.term c.in_err-exchange.field-0.0 c.in_err-exchange.ensures.exchanged)

pub returns-in_err-keep_limits-clause-taken : goal.returns-in_err-keep_limits-clause-taken
returns-in_err-keep_limits-clause-taken c outs text read =
    let p = err_from_is_err_and c.from_residual-in_err-keep_limits.result c.from_residual-in_err-keep_limits.ensures.1 in
    let steps = c.args.self.now in
    rw (p.1, p.2)
    (large c.args.facts.now outs c.args.line (level_of steps.level) (waiting_in steps.waiting.items) steps.count text c.args.self.now.step read c.requires.says c.in_ok-leave_room.ensures c.in_ok-measured.ensures.limits c.exchange.new.self.term c.in_err-keep_limits.field-0.0
    c.in_ok-exchange.ensures.exchanged.0 c.in_err-keep_limits.ensures)

pub returns-clause-taken : goal.returns-clause-taken
returns-clause-taken c outs text read =
    let steps = c.args.self.now in
    rw c.in_ok-exchange.ensures.outs
    (taken c.args.facts.now outs c.args.line (level_of steps.level) (waiting_in steps.waiting.items) steps.count text c.args.self.now.step read c.requires.says c.in_ok-leave_room.ensures c.in_ok-measured.ensures.limits c.exchange.new.self.term c.in_ok-exchange.ensures.exchanged.0
    c.in_ok-keep_limits.ensures)
