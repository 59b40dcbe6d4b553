use Rattle.std.proofs.Common.{◌≡◌, sym, ap, subst, ◌∙◌, Option}
use Rattle.proof_text.specs.LinesOfText.{fed}
use Rattle.proof_check.specs.declared.answers.Stop.{Stop}
use Rattle.proof_check.specs.Check.{Check, IsNext}
use Rattle.proof_check.specs.Checking.{stopped, Stands}
use Rattle.proof_check.specs.Kept.{progress_of, state_of}
use Rattle.proof_check.proofs.state.Feeding.{stopped_stays}
use Rattle.proof_check.proofs.state.KeptState.{stands_on, stands_last}
use Rattle.proof_check.proofs.checker.Checker.feed.Goals as goal

pub returns-in-Some-clause-stands : goal.returns-in-Some-clause-stands
returns-in-Some-clause-stands c left lines s =
    let at : c.args.self.now.state ≡ stopped c.in-Some.stop =
    ap (λ (v : Check). v.state) (sym c.self.view_is) ∙ ap (λ (o : Option Stop). state_of o c.self.inside.lines (progress_of c.self.inside.part c.self.inside.steps)) c.in-Some.is in
    stopped_stays c.args.self.now.facts c.args.self.now.outs left lines (fed c.args.line.text.now c.args.line.ended) c.args.self.now.state c.in-Some.stop at s

pub returns-in-Ok-clause-stands : goal.returns-in-Ok-clause-stands
returns-in-Ok-clause-stands c left lines s =
    let inside = c.self.inside in
    stands_on inside.facts.now inside.outs left lines inside.lines c.args.line.number (progress_of inside.part inside.steps) (fed c.args.line.text.now c.args.line.ended) c.next_part.new.steps inside.stop
    c.in-Ok.part c.in_default.is (subst (λ (v : Check). IsNext v.state c.args.line.number) (sym c.self.view_is) c.requires.numbered) c.in-Ok.ensures.taken
    (subst (λ (v : Check). Stands v.facts v.outs left lines v.state) (sym c.self.view_is) s)

pub returns-in-Err-clause-stands : goal.returns-in-Err-clause-stands
returns-in-Err-clause-stands c left lines s =
    let inside = c.self.inside in
    stands_last inside.facts.now inside.outs left lines inside.lines c.args.line.number (progress_of inside.part inside.steps) (fed c.args.line.text.now c.args.line.ended) c.next_part.new.steps inside.stop
    c.in-Err.stop c.in_default.is (subst (λ (v : Check). IsNext v.state c.args.line.number) (sym c.self.view_is) c.requires.numbered) c.in-Err.ensures.taken
    (subst (λ (v : Check). Stands v.facts v.outs left lines v.state) (sym c.self.view_is) s)
