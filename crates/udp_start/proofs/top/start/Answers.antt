use Rattle.std.proofs.Common.{ℕ, ◌≤◌, List, None, Some, inl, inr, sym, subst, arith}
use Rattle.shapes.specs.Small.{most_entries}
use Rattle.shapes.specs.Tried.{tries}
use Rattle.udp_io.specs.Writing.{Grows}
use Rattle.udp_run.specs.Answer.{IsCause, IsProved}
use Rattle.udp_start.specs.Proving.{IsProving, told_of}
use Rattle.udp_start.proofs.Provings.{proving-done, proving-exact, proving-limit, proving-memory, proving-read_fault, proving-usage, proving-write_fault}
use Rattle.udp_start.specs.Words.{default_budget}
use Rattle.udp_start.proofs.SmallCases.{most-promised, proving-promised, proving-unknown}
use Rattle.udp_start.proofs.WordForms.{budget_once, not_check, prove_once}
use Rattle.udp_start.proofs.top.start.Goals as goal

-- ---- a proof is asked for
pub returns-in-Some-clause-answer : goal.returns-in-Some-clause-answer
returns-in-Some-clause-answer g c nothing =
    absurd (nothing c.in-Some.asked.case.now c.in-Some.asked.budget c.in-Some.ensures)

pub returns-in-Some-clause-proving : goal.returns-in-Some-clause-proving
returns-in-Some-clause-proving g c case budget is =
    subst (λ (name : List ℕ). IsProving (told_of (g.S.Store.text c.args.store.now) (g.S.Store.faults c.args.store.now) (g.S.Store.faults c.prove_case.new.store) name) budget (g.K.Sink.written c.args.out.now) (g.K.Sink.written c.prove_case.new.out) (g.K.Sink.faults c.args.out.now) (g.K.Sink.faults c.prove_case.new.out) c.prove_case.result)
    (prove_once c.args.words.now c.in-Some.asked.case.now case c.in-Some.asked.budget budget c.in-Some.ensures is)
    (subst (λ (n : ℕ). IsProving (told_of (g.S.Store.text c.args.store.now) (g.S.Store.faults c.args.store.now) (g.S.Store.faults c.prove_case.new.store) c.in-Some.asked.case.now) n (g.K.Sink.written c.args.out.now) (g.K.Sink.written c.prove_case.new.out) (g.K.Sink.faults c.args.out.now) (g.K.Sink.faults c.prove_case.new.out) c.prove_case.result)
    (budget_once c.args.words.now c.in-Some.asked.case.now case c.in-Some.asked.budget budget c.in-Some.ensures is)
    c.prove_case.ensures)

pub returns-in-Some-clause-done : goal.returns-in-Some-clause-done
returns-in-Some-clause-done g c done case proof is =
    absurd (not_check c.args.words.now c.in-Some.asked.case.now case proof c.in-Some.asked.budget c.in-Some.ensures is)

pub returns-in-Some-clause-derived : goal.returns-in-Some-clause-derived
returns-in-Some-clause-derived g c done case budget is =
    subst (λ (name : List ℕ). (proof : List ℕ) × IsProved (g.S.Store.text c.args.store.now name) (Some proof) × Grows (g.K.Sink.written c.args.out.now) (g.K.Sink.written c.prove_case.new.out) proof)
    (prove_once c.args.words.now c.in-Some.asked.case.now case c.in-Some.asked.budget budget c.in-Some.ensures is)
    (proving-done (told_of (g.S.Store.text c.args.store.now) (g.S.Store.faults c.args.store.now) (g.S.Store.faults c.prove_case.new.store) c.in-Some.asked.case.now) c.in-Some.asked.budget (g.K.Sink.written c.args.out.now) (g.K.Sink.written c.prove_case.new.out) (g.K.Sink.faults c.args.out.now) (g.K.Sink.faults c.prove_case.new.out) c.prove_case.result done c.prove_case.ensures)

pub returns-in-Some-clause-complete : goal.returns-in-Some-clause-complete
returns-in-Some-clause-complete g c (case, proof, is, holds) =
    absurd (not_check c.args.words.now c.in-Some.asked.case.now case proof c.in-Some.asked.budget c.in-Some.ensures is)

pub returns-in-Some-clause-exact : goal.returns-in-Some-clause-exact
returns-in-Some-clause-exact g c verdict (case, proof, is, cause) =
    absurd (not_check c.args.words.now c.in-Some.asked.case.now case proof c.in-Some.asked.budget c.in-Some.ensures is)

pub returns-in-Some-clause-exact_case : goal.returns-in-Some-clause-exact_case
returns-in-Some-clause-exact_case g c verdict (case, budget, is, cause) =
    proving-exact (told_of (g.S.Store.text c.args.store.now) (g.S.Store.faults c.args.store.now) (g.S.Store.faults c.prove_case.new.store) c.in-Some.asked.case.now) c.in-Some.asked.budget (g.K.Sink.written c.args.out.now) (g.K.Sink.written c.prove_case.new.out) (g.K.Sink.faults c.args.out.now) (g.K.Sink.faults c.prove_case.new.out) c.prove_case.result verdict
    (subst (λ (name : List ℕ). IsCause verdict (g.S.Store.text c.args.store.now name) None) (sym (prove_once c.args.words.now c.in-Some.asked.case.now case c.in-Some.asked.budget budget c.in-Some.ensures is)) cause) c.prove_case.ensures

pub returns-in-Some-clause-usage : goal.returns-in-Some-clause-usage
returns-in-Some-clause-usage g c is =
    absurd (proving-usage (told_of (g.S.Store.text c.args.store.now) (g.S.Store.faults c.args.store.now) (g.S.Store.faults c.prove_case.new.store) c.in-Some.asked.case.now) c.in-Some.asked.budget (g.K.Sink.written c.args.out.now) (g.K.Sink.written c.prove_case.new.out) (g.K.Sink.faults c.args.out.now) (g.K.Sink.faults c.prove_case.new.out) c.prove_case.result is c.prove_case.ensures)

pub returns-in-Some-clause-no_form : goal.returns-in-Some-clause-no_form
returns-in-Some-clause-no_form g c nothing =
    absurd (nothing.1 c.in-Some.asked.case.now c.in-Some.asked.budget c.in-Some.ensures)

pub returns-in-Some-clause-read_fault : goal.returns-in-Some-clause-read_fault
returns-in-Some-clause-read_fault g c is =
    inr (c.in-Some.asked.case.now, c.in-Some.asked.budget, c.in-Some.ensures, proving-read_fault (told_of (g.S.Store.text c.args.store.now) (g.S.Store.faults c.args.store.now) (g.S.Store.faults c.prove_case.new.store) c.in-Some.asked.case.now) c.in-Some.asked.budget (g.K.Sink.written c.args.out.now) (g.K.Sink.written c.prove_case.new.out) (g.K.Sink.faults c.args.out.now) (g.K.Sink.faults c.prove_case.new.out) c.prove_case.result is c.prove_case.ensures)

pub returns-in-Some-clause-write_fault : goal.returns-in-Some-clause-write_fault
returns-in-Some-clause-write_fault g c is =
    proving-write_fault (told_of (g.S.Store.text c.args.store.now) (g.S.Store.faults c.args.store.now) (g.S.Store.faults c.prove_case.new.store) c.in-Some.asked.case.now) c.in-Some.asked.budget (g.K.Sink.written c.args.out.now) (g.K.Sink.written c.prove_case.new.out) (g.K.Sink.faults c.args.out.now) (g.K.Sink.faults c.prove_case.new.out) c.prove_case.result is c.prove_case.ensures

pub returns-in-Some-clause-limits : goal.returns-in-Some-clause-limits
returns-in-Some-clause-limits g c is =
    inr (c.in-Some.asked.case.now, c.in-Some.asked.budget, c.in-Some.ensures, proving-limit (told_of (g.S.Store.text c.args.store.now) (g.S.Store.faults c.args.store.now) (g.S.Store.faults c.prove_case.new.store) c.in-Some.asked.case.now) c.in-Some.asked.budget (g.K.Sink.written c.args.out.now) (g.K.Sink.written c.prove_case.new.out) (g.K.Sink.faults c.args.out.now) (g.K.Sink.faults c.prove_case.new.out) c.prove_case.result is c.prove_case.ensures)

pub returns-in-Some-clause-memory : goal.returns-in-Some-clause-memory
returns-in-Some-clause-memory g c is =
    proving-memory (told_of (g.S.Store.text c.args.store.now) (g.S.Store.faults c.args.store.now) (g.S.Store.faults c.prove_case.new.store) c.in-Some.asked.case.now) c.in-Some.asked.budget (g.K.Sink.written c.args.out.now) (g.K.Sink.written c.prove_case.new.out) (g.K.Sink.faults c.args.out.now) (g.K.Sink.faults c.prove_case.new.out) c.prove_case.result is c.prove_case.ensures

-- of filtered unions
pub returns-in-Some-clause-promised : goal.returns-in-Some-clause-promised
returns-in-Some-clause-promised g c case budget is promised =
    proving-promised (told_of (g.S.Store.text c.args.store.now) (g.S.Store.faults c.args.store.now) (g.S.Store.faults c.prove_case.new.store) case) budget promised (g.K.Sink.written c.args.out.now) (g.K.Sink.written c.prove_case.new.out) (g.K.Sink.faults c.args.out.now) (g.K.Sink.faults c.prove_case.new.out) c.prove_case.result
    (returns-in-Some-clause-proving g c case budget is)

pub returns-in-Some-clause-by_default : goal.returns-in-Some-clause-by_default
returns-in-Some-clause-by_default g c case is small =
    let most : tries most_entries ≤ default_budget = omega arith in
    returns-in-Some-clause-promised g c case default_budget is (most-promised default_budget most (g.S.Store.text c.args.store.now case) small)

pub returns-in-Some-clause-unknown : goal.returns-in-Some-clause-unknown
returns-in-Some-clause-unknown g c unproved case budget is =
    proving-unknown (told_of (g.S.Store.text c.args.store.now) (g.S.Store.faults c.args.store.now) (g.S.Store.faults c.prove_case.new.store) case) budget (g.K.Sink.written c.args.out.now) (g.K.Sink.written c.prove_case.new.out) (g.K.Sink.faults c.args.out.now) (g.K.Sink.faults c.prove_case.new.out) c.prove_case.result unproved
    (returns-in-Some-clause-proving g c case budget is)

-- ---- none is
pub returns-in-None-clause-answer : goal.returns-in-None-clause-answer
returns-in-None-clause-answer g c nothing = c.run.ensures.answer

pub returns-in-None-clause-proving : goal.returns-in-None-clause-proving
returns-in-None-clause-proving g c case budget is = absurd (c.in-None.ensures case budget is)

pub returns-in-None-clause-derived : goal.returns-in-None-clause-derived
returns-in-None-clause-derived g c done case budget is = absurd (c.in-None.ensures case budget is)

pub returns-in-None-clause-exact_case : goal.returns-in-None-clause-exact_case
returns-in-None-clause-exact_case g c verdict (case, budget, is, cause) = absurd (c.in-None.ensures case budget is)

pub returns-in-None-clause-usage : goal.returns-in-None-clause-usage
returns-in-None-clause-usage g c is = (c.run.ensures.usage is, c.in-None.ensures)

pub returns-in-None-clause-no_form : goal.returns-in-None-clause-no_form
returns-in-None-clause-no_form g c nothing = c.run.ensures.no_form nothing.0

pub returns-in-None-clause-read_fault : goal.returns-in-None-clause-read_fault
returns-in-None-clause-read_fault g c is = inl (c.run.ensures.read_fault is)

pub returns-in-None-clause-limits : goal.returns-in-None-clause-limits
returns-in-None-clause-limits g c is = inl (c.run.ensures.limits is)

pub returns-in-None-clause-done : goal.returns-in-None-clause-done
returns-in-None-clause-done g c = c.run.ensures.done

pub returns-in-None-clause-complete : goal.returns-in-None-clause-complete
returns-in-None-clause-complete g c = c.run.ensures.complete

pub returns-in-None-clause-exact : goal.returns-in-None-clause-exact
returns-in-None-clause-exact g c = c.run.ensures.exact

pub returns-in-None-clause-write_fault : goal.returns-in-None-clause-write_fault
returns-in-None-clause-write_fault g c = c.run.ensures.write_fault

pub returns-in-None-clause-memory : goal.returns-in-None-clause-memory
returns-in-None-clause-memory g c = c.run.ensures.memory

pub returns-in-None-clause-promised : goal.returns-in-None-clause-promised
returns-in-None-clause-promised g c case budget is promised = absurd (c.in-None.ensures case budget is)

pub returns-in-None-clause-by_default : goal.returns-in-None-clause-by_default
returns-in-None-clause-by_default g c case is small = absurd (c.in-None.ensures case default_budget is)

pub returns-in-None-clause-unknown : goal.returns-in-None-clause-unknown
returns-in-None-clause-unknown g c unproved case budget is = absurd (c.in-None.ensures case budget is)
