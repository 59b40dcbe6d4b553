use Rattle.std.proofs.Common.{◌≡◌, ℕ, ◌<◌, [], ◌∷◌, true, length, ap, sym, subst, ◌∙◌, Err}
use Rattle.std.proofs.lemmas.Result.{err_from_is_err_and}
use Rattle.u_terms.specs.Syntax.{U}
use Rattle.u_rules.specs.declared.rule.Arg.TheVariants.{Term}
use Rattle.u_deriv.specs.declared.step.Step.{out-Step}
use Rattle.proof_text.specs.declared.limits.LimitKind.TheVariants as limit
use Rattle.proof_check.specs.Refusing.{LeavesRoom}
use Rattle.proof_check.specs.Kept.{level_of, waiting_in}
use Rattle.proof_check.proofs.state.KeptSteps.{waiting-length, shallow, full, nested, wide, unopened, opened, opened-near, names-fit, small-root, no_term}
use Rattle.proof_check.proofs.steps.Steps.open.Goals as goal

pub returns-in_err-leave_room-clause-taken : goal.returns-in_err-leave_room-clause-taken
returns-in_err-leave_room-clause-taken c outs text read =
    let p = err_from_is_err_and c.from_residual.result c.from_residual.ensures.1 in
    let steps = c.args.self.now in
    rw (p.1, p.2) (full c.args.facts.now outs c.args.line (level_of steps.level) (waiting_in steps.waiting.items) steps.count text c.args.self.now.step true read c.in_err-leave_room.field-0.0 c.in_err-leave_room.ensures)

pub returns-in_err-leave_room-2-clause-taken : goal.returns-in_err-leave_room-2-clause-taken
returns-in_err-leave_room-2-clause-taken c outs text read =
    let p = err_from_is_err_and c.from_residual-in_err-leave_room-2.result c.from_residual-in_err-leave_room-2.ensures.1 in
    let steps = c.args.self.now in
    let l : c.len.result ≡ length (waiting_in steps.waiting.items) = c.len.ensures ∙ (steps.waiting.ok.0 ∙ sym (waiting-length steps.waiting.items)) in
    rw (p.1, p.2)
    (nested c.args.facts.now outs c.args.line (level_of steps.level) (waiting_in steps.waiting.items) steps.count text c.args.self.now.step read c.in_ok-leave_room.ensures c.in_err-leave_room-2.field-0.0
    (subst (λ (n : ℕ). LeavesRoom limit.Nesting n 64 (Err c.in_err-leave_room-2.field-0.0)) l c.in_err-leave_room-2.ensures))

pub returns-in_err-measured-clause-taken : goal.returns-in_err-measured-clause-taken
returns-in_err-measured-clause-taken c outs text read =
    let p = err_from_is_err_and c.from_residual-in_err-measured.result c.from_residual-in_err-measured.ensures.1 in
    let steps = c.args.self.now in
    let l : c.len.result ≡ length (waiting_in steps.waiting.items) = c.len.ensures ∙ (steps.waiting.ok.0 ∙ sym (waiting-length steps.waiting.items)) in
    let few : length (waiting_in steps.waiting.items) < 64 = subst (λ (n : ℕ). n < 64) l c.in_ok-leave_room-2.ensures in
    rw (p.1, p.2) (wide c.args.facts.now outs c.args.line (level_of steps.level) (waiting_in steps.waiting.items) steps.count text c.args.self.now.step true read c.in_err-measured.field-0.0 (c.in_ok-leave_room.ensures, few) c.in_err-measured.ensures.limits)

pub exchange-requires-clause-shallow : goal.exchange-requires-clause-shallow
exchange-requires-clause-shallow c = let steps = c.args.self.now in shallow (level_of steps.level) (waiting_in steps.waiting.items) c.requires.steppable

pub returns-in_err-place-in-Some-clause-taken : goal.returns-in_err-place-in-Some-clause-taken
returns-in_err-place-in-Some-clause-taken c outs text read =
    let p = err_from_is_err_and c.from_residual-in_err-place-in-Some.result c.from_residual-in_err-place-in-Some.ensures.1 in
    let steps = c.args.self.now in
    let l : c.len.result ≡ length (waiting_in steps.waiting.items) = c.len.ensures ∙ (steps.waiting.ok.0 ∙ sym (waiting-length steps.waiting.items)) in
    let few : length (waiting_in steps.waiting.items) < 64 = subst (λ (n : ℕ). n < 64) l c.in_ok-leave_room-2.ensures in
    rw (p.1, p.2)
    (unopened c.args.facts.now outs c.args.line (level_of steps.level) (waiting_in steps.waiting.items) steps.count text c.args.self.now.step read c.in_ok-leave_room.ensures few c.in_ok-measured.ensures.limits c.exchange.new.self.term c.in_err-place-in-Some.field-0.0 c.in_err-place-in-Some.ensures.exchanged)

pub go_in-requires-clause-names : goal.go_in-requires-clause-names
go_in-requires-clause-names c =
    let steps = c.args.self.now in
    rw c.in_ok-place-in-Some.ensures.outs
    (names-fit c.args.facts.now (level_of steps.level) (waiting_in steps.waiting.items) c.args.self.now.step c.args.line c.exchange.new.self.term c.in_ok-place-in-Some.place c.requires.steppable
    c.in_ok-place-in-Some.ensures.exchanged)

pub returns-in_ok-go_in-in-Some-clause-taken : goal.returns-in_ok-go_in-in-Some-clause-taken
returns-in_ok-go_in-in-Some-clause-taken c outs text read =
    let steps = c.args.self.now in
    let l : c.len.result ≡ length (waiting_in steps.waiting.items) = c.len.ensures ∙ (steps.waiting.ok.0 ∙ sym (waiting-length steps.waiting.items)) in
    let few : length (waiting_in steps.waiting.items) < 64 = subst (λ (n : ℕ). n < 64) l c.in_ok-leave_room-2.ensures in
    let root = c.in_ok-root-in-Some.root in
    let are : (out-Step c.args.self.now.step).args ≡ Term root ∷ [] = sym c.as_slice.ensures ∙ c.in-Some.ensures ∙ ap (λ (x : U). Term x ∷ []) (sym c.in_ok-root-in-Some.ensures) in
    rw (c.in_ok-go_in-in-Some.ensures.level, c.in_ok-go_in-in-Some.ensures.waiting, c.in_ok-go_in-in-Some.ensures.count, c.in_ok-place-in-Some.ensures.outs)
    (opened c.args.facts.now outs c.args.line (level_of steps.level) (waiting_in steps.waiting.items) steps.count text c.args.self.now.step read c.in_ok-leave_room.ensures few c.in_ok-measured.ensures.limits root c.exchange.new.self.term c.in_ok-place-in-Some.place are
    c.in_ok-place-in-Some.ensures.exchanged)

pub returns-in_ok-go_in-in-Some-clause-kept : goal.returns-in_ok-go_in-in-Some-clause-kept
returns-in_ok-go_in-in-Some-clause-kept c =
    let steps = c.args.self.now in
    let l : c.len.result ≡ length (waiting_in steps.waiting.items) = c.len.ensures ∙ (steps.waiting.ok.0 ∙ sym (waiting-length steps.waiting.items)) in
    let few : length (waiting_in steps.waiting.items) < 64 = subst (λ (n : ℕ). n < 64) l c.in_ok-leave_room-2.ensures in
    let root = c.in_ok-root-in-Some.root in
    let are : (out-Step c.args.self.now.step).args ≡ Term root ∷ [] = sym c.as_slice.ensures ∙ c.in-Some.ensures ∙ ap (λ (x : U). Term x ∷ []) (sym c.in_ok-root-in-Some.ensures) in
    rw (c.in_ok-go_in-in-Some.ensures.level, c.in_ok-go_in-in-Some.ensures.waiting, c.in_ok-place-in-Some.ensures.outs)
    (opened-near c.args.facts.now (level_of steps.level) (waiting_in steps.waiting.items) c.args.self.now.step c.args.line root c.exchange.new.self.term c.in_ok-place-in-Some.place
    c.requires.steppable few (small-root c.args.self.now.step root c.requires.says are) c.in_ok-place-in-Some.ensures.exchanged)

pub returns-in-None-clause-taken : goal.returns-in-None-clause-taken
returns-in-None-clause-taken c outs text read =
    let steps = c.args.self.now in
    let l : c.len.result ≡ length (waiting_in steps.waiting.items) = c.len.ensures ∙ (steps.waiting.ok.0 ∙ sym (waiting-length steps.waiting.items)) in
    let few : length (waiting_in steps.waiting.items) < 64 = subst (λ (n : ℕ). n < 64) l c.in_ok-leave_room-2.ensures in
    no_term c.args.facts.now outs c.args.line (level_of steps.level) (waiting_in steps.waiting.items) steps.count text c.args.self.now.step read c.in_ok-leave_room.ensures few c.in_ok-measured.ensures.limits
    (λ x e. c.in-None.ensures x (c.as_slice.ensures ∙ e))

pub go_in-requires-clause-small : goal.go_in-requires-clause-small
go_in-requires-clause-small c =
    let root = c.in_ok-root-in-Some.root in
    small-root c.args.self.now.step root c.requires.says (sym c.as_slice.ensures ∙ c.in-Some.ensures ∙ ap (λ (x : U). Term x ∷ []) (sym c.in_ok-root-in-Some.ensures))
