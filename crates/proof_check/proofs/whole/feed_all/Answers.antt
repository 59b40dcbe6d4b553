use Rattle.std.proofs.Common.{ℕ, ◌+◌, sym, subst, ◌∙◌}
use Rattle.u_terms.specs.declared.facts.Facts.{Facts}
use Rattle.proof_text.specs.LinesOfText.{fed}
use Rattle.proof_check.specs.Check.{IsNext}
use Rattle.proof_check.specs.Checking.{IsFed}
use Rattle.proof_check.proofs.state.KeptLines.{reads_more, reads_all, reads_to_stop, next_fed}
use Rattle.proof_check.proofs.whole.feed_all.Goals as goal

pub returns-then-is_err-clause-read : goal.returns-then-is_err-clause-read
returns-then-is_err-clause-read c left s =
    let facts = c.args.checker.now.facts in
    let outs = c.args.checker.now.outs in
    let text = fed c.in-Some.line.text.now c.in-Some.line.ended in
    let is_fed : IsFed facts outs c.loop-line.checker.state text c.feed.new.self.state =
    subst (λ (o : ℕ). IsFed facts o c.loop-line.checker.state text c.feed.new.self.state) c.loop-line.invariant.outs
    (subst (λ (f : Facts). IsFed f c.loop-line.checker.outs c.loop-line.checker.state text c.feed.new.self.state) c.loop-line.invariant.facts c.feed.ensures.fed) in
    reads_to_stop facts outs left c.args.bytes.now c.feed.new.self.state c.next.new.self c.feed.result c.feed.ensures.answer (sym c.is_err.ensures.value ∙ c.if-is_err.true)
    (reads_more facts outs left c.args.bytes.now c.loop-line.checker.state c.feed.new.self.state c.loop-line.lines c.in-Some.line.text.now c.in-Some.line.number c.in-Some.line.ended c.next.new.self
    c.in-Some.ensures is_fed (c.loop-line.invariant.read left s))

pub loop-line-preserved : goal.loop-line-preserved
loop-line-preserved c =
    let facts = c.args.checker.now.facts in
    let outs = c.args.checker.now.outs in
    let text = fed c.in-Some.line.text.now c.in-Some.line.ended in
    let is_fed : IsFed facts outs c.loop-line.checker.state text c.feed.new.self.state =
    subst (λ (o : ℕ). IsFed facts o c.loop-line.checker.state text c.feed.new.self.state) c.loop-line.invariant.outs
    (subst (λ (f : Facts). IsFed f c.loop-line.checker.outs c.loop-line.checker.state text c.feed.new.self.state) c.loop-line.invariant.facts c.feed.ensures.fed) in
    let expected : IsNext c.loop-line.checker.state c.in-Some.line.number = subst (λ (n : ℕ). IsNext c.loop-line.checker.state n) (sym c.in-Some.ensures.counted) c.loop-line.invariant.next in
    record {
      facts = c.feed.ensures.facts ∙ c.loop-line.invariant.facts;
      outs = c.feed.ensures.outs ∙ c.loop-line.invariant.outs;
      next =
          subst (λ (n : ℕ). IsNext c.feed.new.self.state (n + 1)) (sym c.in-Some.ensures.count)
          (next_fed facts outs c.loop-line.checker.state text c.feed.new.self.state c.in-Some.line.number expected is_fed);
      read = λ left s. reads_more facts outs left c.args.bytes.now c.loop-line.checker.state c.feed.new.self.state c.loop-line.lines c.in-Some.line.text.now c.in-Some.line.number c.in-Some.line.ended c.next.new.self
          c.in-Some.ensures is_fed (c.loop-line.invariant.read left s);
    }

pub returns-clause-read : goal.returns-clause-read
returns-clause-read c left s =
    reads_all c.args.checker.now.facts c.args.checker.now.outs left c.args.bytes.now c.loop-line.checker.state c.loop-line.lines c.in_default.ensures.0 (c.loop-line.invariant.read left s)
