use Rattle.std.proofs.Common.{◌≡◌, ℕ, ◌<◌, ◌^◌, Option, Some, None, sym, ap, subst, ◌∙◌, inl, arith}
use Rattle.std.proofs.lemmas.Result.{IfOk-weaker}
use Rattle.proof_text.specs.LinesOfText.{fed}
use Rattle.proof_check.specs.declared.answers.ProofFault.TheVariants as fault
use Rattle.proof_check.specs.declared.answers.Stop.TheVariants.{Fault}
use Rattle.proof_check.specs.declared.part.Part.TheVariants as part
use Rattle.proof_check.specs.Judging.{Takes, Stops, version, no_header, other_version, other_width, late, header, width_line}
use Rattle.proof_check.specs.Kept.{progress_of, AreKept, AreFresh, IsTaken, GoOn}
use Rattle.proof_check.proofs.state.KeptHeading.{other_line, width_taken}
use Rattle.proof_check.proofs.state.KeptSteps.{kept_on}
use Rattle.proof_check.proofs.next.next_part.Goals as goal

pub returns-in-Some-eq1-clause-taken : goal.returns-in-Some-eq1-clause-taken
returns-in-Some-eq1-clause-taken c =
    let is : fed c.args.line.text.now c.args.line.ended ≡ header 1 = c.in-Some-eq1.ensures.0 ∙ ap (λ (n : ℕ). header n) c.in-Some-eq1.field-0-test in
    subst (λ x. Takes c.args.facts.now c.args.outs (progress_of x c.args.steps.now) (fed c.args.line.text.now c.args.line.ended) (progress_of part.Width c.args.steps.now)) (sym c.in-Version.is) (version is)

pub returns-in-Some-clause-taken : goal.returns-in-Some-clause-taken
returns-in-Some-clause-taken c =
    inl (subst (λ x. Stops c.args.facts.now c.args.outs c.args.line.number (progress_of x c.args.steps.now) (fed c.args.line.text.now c.args.line.ended) (Fault fault.BadVersion)) (sym c.in-Version.is) (other_version c.in-Some.field-0 c.in-Some.ensures.1 c.in-Some.ensures.0 c.in-Some.field-0-test.1))

pub returns-in-None-clause-taken : goal.returns-in-None-clause-taken
returns-in-None-clause-taken c =
    inl (subst (λ x. Stops c.args.facts.now c.args.outs c.args.line.number (progress_of x c.args.steps.now) (fed c.args.line.text.now c.args.line.ended) (Fault fault.BadHeader)) (sym c.in-Version.is) (no_header c.in-None.ensures))

pub returns-in-Some-read_outs-clause-taken : goal.returns-in-Some-read_outs-clause-taken
returns-in-Some-read_outs-clause-taken c =
    let fresh : AreFresh c.args.outs c.args.steps.now = subst (λ x. AreKept c.args.outs x c.args.steps.now) c.in-Width.is c.requires in
    let is : fed c.args.line.text.now c.args.line.ended ≡ width_line c.args.outs = c.in-Some-read_outs.ensures.0 ∙ ap (λ (n : ℕ). width_line n) c.if-width-outs.true in
    subst (λ x. Takes c.args.facts.now c.args.outs (progress_of x c.args.steps.now) (fed c.args.line.text.now c.args.line.ended) (progress_of part.Steps c.args.steps.now)) (sym c.in-Width.is)
    (width_taken c.args.facts.now c.args.outs c.args.steps.now (fed c.args.line.text.now c.args.line.ended) fresh is)

pub returns-in_default-clause-taken : goal.returns-in_default-clause-taken
returns-in_default-clause-taken c =
    let fresh : AreFresh c.args.outs c.args.steps.now = subst (λ x. AreKept c.args.outs x c.args.steps.now) c.in-Width.is c.requires in
    let fits : c.args.outs < 2 ^ 32 = omega (arith, fresh.few) in
    inl (subst (λ x. Stops c.args.facts.now c.args.outs c.args.line.number (progress_of x c.args.steps.now) (fed c.args.line.text.now c.args.line.ended) (Fault fault.BadOuts)) (sym c.in-Width.is) (other_width (other_line c.args.outs fits (fed c.args.line.text.now c.args.line.ended) c.read_outs.result c.read_outs.ensures (λ e. c.if-width-outs.false (let i : ◌≡◌ {A = Option ℕ} (Some c.in-Some-read_outs.width) (Some c.args.outs) = sym c.in-Some-read_outs.is ∙ e in cc)))))

pub returns-in_default-2-clause-taken : goal.returns-in_default-2-clause-taken
returns-in_default-2-clause-taken c =
    let fresh : AreFresh c.args.outs c.args.steps.now = subst (λ x. AreKept c.args.outs x c.args.steps.now) c.in-Width.is c.requires in
    let fits : c.args.outs < 2 ^ 32 = omega (arith, fresh.few) in
    inl (subst (λ x. Stops c.args.facts.now c.args.outs c.args.line.number (progress_of x c.args.steps.now) (fed c.args.line.text.now c.args.line.ended) (Fault fault.BadOuts)) (sym c.in-Width.is) (other_width (other_line c.args.outs fits (fed c.args.line.text.now c.args.line.ended) c.read_outs.result c.read_outs.ensures (λ e. let i : ◌≡◌ {A = Option ℕ} None (Some c.args.outs) = sym c.in_default.is ∙ e in cc))))

pub returns-in-Steps-clause-taken : goal.returns-in-Steps-clause-taken
returns-in-Steps-clause-taken c =
    subst (λ x. IsTaken c.args.facts.now c.args.outs c.args.line.number (progress_of x c.args.steps.now) (fed c.args.line.text.now c.args.line.ended) c.take.new.self c.take.result) (sym c.in-Steps.is) (c.take.ensures.taken c.args.outs)

pub returns-in-Steps-clause-kept : goal.returns-in-Steps-clause-kept
returns-in-Steps-clause-kept c =
    IfOk-weaker c.take.result (λ next. GoOn next c.take.new.self) (λ next. AreKept c.args.outs next c.take.new.self) (λ next kept. kept_on c.args.outs c.take.new.self next kept) c.take.ensures.kept

pub returns-in-Ended-clause-taken : goal.returns-in-Ended-clause-taken
returns-in-Ended-clause-taken c =
    inl (subst (λ x. Stops c.args.facts.now c.args.outs c.args.line.number (progress_of x c.args.steps.now) (fed c.args.line.text.now c.args.line.ended) (Fault fault.AfterEnd)) (sym c.in-Ended.is) (late))
