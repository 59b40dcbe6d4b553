use Rattle.std.proofs.Common.{◌≡◌, ◌∷◌, length, sym, ap, subst, ◌∙◌, arith}
use Rattle.std.specs.Prelude.{◌⊎◌}
use Rattle.std.proofs.lemmas.Result.{err_from_is_err_and}
use Rattle.proof_check.specs.declared.answers.ProofFault.TheVariants as fault
use Rattle.proof_check.specs.declared.answers.Stop.TheVariants.{Fault}
use Rattle.proof_check.specs.Judging.{Stops, Takes, among}
use Rattle.proof_check.specs.Kept.{level_of, waiting_of, waiting_in}
use Rattle.proof_check.proofs.state.KeptSteps.{none_waits, waiting-pushed, closed, unclosed, none_closed}
use Rattle.proof_check.proofs.steps.Steps.close.Goals as goal

pub returns-in_err-go_out-in-Some-clause-taken : goal.returns-in_err-go_out-in-Some-clause-taken
returns-in_err-go_out-in-Some-clause-taken c facts outs text read =
    let p = err_from_is_err_and c.from_residual.result c.from_residual.ensures.1 in
    let steps = c.args.self.now in
    let stop = c.in_err-go_out-in-Some.field-0.0 in
    let e : waiting_in steps.waiting.items ≡ waiting_of c.in-Some.inner ∷ waiting_in c.pop.new.self.items = ap waiting_in c.in-Some.ensures.items ∙ waiting-pushed c.pop.new.self.items c.in-Some.inner in
    rw (p.1, p.2)
    (subst (λ ws. Stops facts outs c.args.line (among (level_of steps.level) ws steps.count) text stop ⊎ (stop ≡ Fault fault.NoMemory)) (sym e)
    (unclosed facts outs c.args.line (level_of steps.level) (waiting_in c.pop.new.self.items) steps.count text (waiting_of c.in-Some.inner) stop read c.in_err-go_out-in-Some.ensures))

pub returns-in_ok-go_out-in-Some-clause-taken : goal.returns-in_ok-go_out-in-Some-clause-taken
returns-in_ok-go_out-in-Some-clause-taken c facts outs text read =
    let steps = c.args.self.now in
    let e : waiting_in steps.waiting.items ≡ waiting_of c.in-Some.inner ∷ waiting_in c.pop.new.self.items = ap waiting_in c.in-Some.ensures.items ∙ waiting-pushed c.pop.new.self.items c.in-Some.inner in
    subst (λ ws. Takes facts outs (among (level_of steps.level) ws steps.count) text (among (level_of c.in-Some.inner.behind) (waiting_in c.pop.new.self.items) steps.count)) (sym e)
    (closed facts outs c.args.line (level_of steps.level) (waiting_in c.pop.new.self.items) steps.count text (waiting_of c.in-Some.inner) read c.in_ok-go_out-in-Some.ensures)

pub returns-in-None-clause-taken : goal.returns-in-None-clause-taken
returns-in-None-clause-taken c facts outs text read =
    let steps = c.args.self.now in
    let none : length steps.waiting.items ≡ 0 = omega (arith, steps.waiting.ok.0, c.in-None.ensures.cases.0) in
    rw c.misplaced.ensures (none_closed facts outs c.args.line (level_of steps.level) (waiting_in steps.waiting.items) steps.count text (none_waits steps.waiting.items none) read)
