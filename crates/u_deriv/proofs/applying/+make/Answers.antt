use Rattle.std.proofs.Common.{◌≡◌, ◌+◌, ◌*◌, ◌∷◌, drop, take, ◌++◌, [], Ok, ap, sym, ◌∙◌, subst, arith}
use Rattle.std.proofs.lemmas.List.{drop_more, take_more}
use Rattle.u_terms.specs.Syntax.{U}
use Rattle.u_deriv.specs.declared.step.Step.{Step, out-Step}
use Rattle.u_deriv.specs.StepHeight.{step_height, list_height}
use Rattle.u_rules.specs.declared.rule.Arg.TheVariants.{Term}
use Rattle.u_rules.specs.Terms.{◌⊗◌}
use Rattle.u_deriv.specs.Steps.{Replays, Rewrites, no_step}
use Rattle.u_deriv.specs.Applying.{IsMade, Tells}
use Rattle.u_deriv.proofs.steps.StepHeights.{height-out, height-item}
use Rattle.u_deriv.proofs.steps.Applied.{made-by_proof, unfound, unproved, names-fit, deep-within, replays-more, replays-first, replays-result, square-shown, replayed-yes, tells-yes, tells-no}
use Rattle.u_deriv.proofs.applying.+make.Goals as goal

pub make_by_proof-overflow_add-names : goal.make_by_proof-overflow_add-names
make_by_proof-overflow_add-names t c =
    let h = names-fit c.args.facts.now c.args.outs c.args.u.now c.args.step.now c.in-Ok.place (rw c.in-Ok.is at c.find.ensures.found) c.requires.shallow in
    omega (arith, h)

pub make_by_proof-returns-in-Err : goal.make_by_proof-returns-in-Err
make_by_proof-returns-in-Err t c =
    unfound c.args.facts.now c.args.outs c.args.u.now c.args.step.now c.in-Err.fault c.find.new.u c.find.ensures.same (rw c.in-Err.is at c.find.ensures.found)

pub make_by_proof-shows_square-requires : goal.make_by_proof-shows_square-requires
make_by_proof-shows_square-requires t c =
    let d = height-out c.args.step.now in
    let e = ap list_height c.as_slice-in-Ok.ensures in
    let h : 4 * step_height c.args.step.now + 2 ≡ t = c.decreases in
    (omega (arith, d, e), tt)

pub make_by_proof-returns-in-Ok-true : goal.make_by_proof-returns-in-Ok-true
make_by_proof-returns-in-Ok-true t c =
    let are : (out-Step c.args.step.now).args ≡ Term c.in-Some.x.now ∷ [] = rw (c.as_slice.ensures, c.in-Some.is) at c.only_term.ensures in
    let shown : Tells (Replays c.args.facts.now (c.args.outs + c.in-Ok.place.binders) (c.in-Some.x.now ⊗ c.in-Some.x.now) (out-Step c.args.step.now).inner c.in-Some.x.now) (Ok c.in-Ok-true.field-0)
    = rw (c.as_slice-in-Ok.ensures, c.in-Ok-true.is) at c.shows_square.ensures in
    made-by_proof c.args.facts.now c.args.outs c.args.u.now c.args.step.now c.in-Ok.place (rw c.in-Ok.is at c.find.ensures.found) c.in-Some.x.now c.exchange.new.u c.exchange.result
    c.requires.proved are (tells-yes _ c.in-Ok-true.field-0 c.in-Ok-true.field-0-test shown) (rw c.find.ensures.same at c.exchange.ensures)

pub make_by_proof-returns-in-Ok-false : goal.make_by_proof-returns-in-Ok-false
make_by_proof-returns-in-Ok-false t c =
    let are : (out-Step c.args.step.now).args ≡ Term c.in-Some.x.now ∷ [] = rw (c.as_slice.ensures, c.in-Some.is) at c.only_term.ensures in
    let shown : Tells (Replays c.args.facts.now (c.args.outs + c.in-Ok.place.binders) (c.in-Some.x.now ⊗ c.in-Some.x.now) (out-Step c.args.step.now).inner c.in-Some.x.now) (Ok c.in-Ok-false.field-0)
    = rw (c.as_slice-in-Ok.ensures, c.in-Ok-false.is) at c.shows_square.ensures in (
      unproved c.args.facts.now c.args.outs c.args.u.now c.args.step.now c.in-Ok.place (rw c.in-Ok.is at c.find.ensures.found) c.in-Some.x.now
          c.requires.proved are (tells-no _ c.in-Ok-false.field-0 c.in-Ok-false.field-0-test shown),
      c.find.ensures.same,
    )

pub replay-loop-step-init : goal.replay-loop-step-init
replay-loop-step-init t c = (no_step, λ end r. r, λ small. omega (arith, c.depth-most.ensures))

pub replay-make-requires : goal.replay-make-requires
replay-make-requires t c =
    let d = height-item c.args.steps.now c.loop-step.step-index c.step-item.result (omega arith) c.step-item.is in
    let h : 4 * list_height c.args.steps.now + 4 ≡ t = c.decreases in
    let m = c.loop-step.invariant.2 (omega (arith, c.from.ensures, c.saturating_add.ensures)) in
    (omega (arith, d), omega (arith, m, c.from.ensures, c.saturating_add.ensures))

pub replay-returns-in-Err-NoResult : goal.replay-returns-in-Err-NoResult
replay-returns-in-Err-NoResult t c = λ end r.
    let is : drop c.loop-step.step-index c.args.steps.now ≡ c.step-item.result ∷ drop (c.loop-step.step-index + 1) c.args.steps.now
    = drop_more c.args.steps.now c.loop-step.step-index c.step-item.result (omega arith) ∙ ap (λ (x : Step). x ∷ drop (c.loop-step.step-index + 1) c.args.steps.now) (sym c.step-item.is) in
    let left : Replays c.args.facts.now c.args.outs c.loop-step.u (c.step-item.result ∷ drop (c.loop-step.step-index + 1) c.args.steps.now) end
    = subst (λ ss. Replays c.args.facts.now c.args.outs c.loop-step.u ss end) is (c.loop-step.invariant.1 end r) in
    let found = replays-result c.args.facts.now c.args.outs c.loop-step.u c.step-item.result (drop (c.loop-step.step-index + 1) c.args.steps.now) end left in
    let none : (other : U) → Rewrites c.args.facts.now c.args.outs c.loop-step.u c.step-item.result other → _ = let e = rw c.in-Err-NoResult.field-0-is at c.in-Err-NoResult.ensures in e.0 in
    none found.0 found.1

pub replay-loop-step-preserved : goal.replay-loop-step-preserved
replay-loop-step-preserved t c =
    let is : drop c.loop-step.step-index c.args.steps.now ≡ c.step-item.result ∷ drop (c.loop-step.step-index + 1) c.args.steps.now
    = drop_more c.args.steps.now c.loop-step.step-index c.step-item.result (omega arith) ∙ ap (λ (x : Step). x ∷ drop (c.loop-step.step-index + 1) c.args.steps.now) (sym c.step-item.is) in
    let front : take (c.loop-step.step-index + 1) c.args.steps.now ≡ take c.loop-step.step-index c.args.steps.now ++ c.step-item.result ∷ []
    = take_more c.args.steps.now c.loop-step.step-index c.step-item.result (omega arith) ∙ ap (λ (x : Step). take c.loop-step.step-index c.args.steps.now ++ x ∷ []) (sym c.step-item.is) in
    let made : IsMade c.args.facts.now c.args.outs c.loop-step.u c.step-item.result c.make.new.u (Ok c.in-Ok.place) = rw c.in-Ok.is at c.make.ensures in (
      subst (λ ss. Replays c.args.facts.now c.args.outs c.args.u.now ss c.make.new.u) (sym front)
          (replays-more c.args.facts.now c.args.outs c.args.u.now (take c.loop-step.step-index c.args.steps.now) c.step-item.result c.loop-step.u c.make.new.u c.loop-step.invariant.0 made.0),
      λ end r.
          replays-first c.args.facts.now c.args.outs c.loop-step.u c.step-item.result (drop (c.loop-step.step-index + 1) c.args.steps.now) end c.make.new.u
          (subst (λ ss. Replays c.args.facts.now c.args.outs c.loop-step.u ss end) is (c.loop-step.invariant.1 end r)) made.0,
      λ small.
          deep-within c.args.facts.now c.args.outs c.loop-step.u c.step-item.result c.make.new.u c.loop-step.most c.in-Ok.place c.new_depth.result c.max-most.result made c.loop-step.invariant.2 c.new_depth.ensures
          (rw (c.saturating_add-new.ensures, c.from-in-Ok.ensures) at c.max-most.ensures) small,
    )

pub shows_square-returns-in-Ok-true : goal.shows_square-returns-in-Ok-true
shows_square-returns-in-Ok-true t c =
    square-shown c.args.facts.now c.args.outs c.args.x.now c.in-Ok.term c.replay.new.u c.args.steps.now c.same.result c.in-Ok.ensures
    (replayed-yes c.args.facts.now c.args.outs c.in-Ok.term c.replay.new.u c.args.steps.now c.in-Ok-true.field-0 c.in-Ok-true.field-0-test c.in-Ok-true.ensures) c.same.ensures
