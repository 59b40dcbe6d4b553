use Rattle.std.proofs.Common.{Some, arith, ap, sym, ◌∙◌}
use Rattle.std.proofs.lemmas.List.{length-map}
use Rattle.u_rules.specs.Terms.{terms}
use Rattle.u_bag.proofs.products.Marked.{no-mark, copy-leads, no-copy, next-place, term-here}
use Rattle.u_bag.proofs.costs.GainedCosts.{mark-costs}
use Rattle.u_bag.proofs.gaining.mark_gained.Goals as goal
use Rattle.u_bag.proofs.gaining.mark_gained.Goals.{then-is_mark+in_ok-deriv+in_default, else-is_mark}

pub returns-in-Some-clause-leads : goal.returns-in-Some-clause-leads
returns-in-Some-clause-leads c =
    let at = term-here c.args.factors.now c.loop-place.place c.index-factors-place.result c.loop-place-test.true c.index-factors-place.is in
    copy-leads c.args.moves.facts.now c.args.moves.outs c.args.classes.now (terms c.args.factors.now) c.loop-place.place c.index-factors-place.result.now c.args.wanted.now c.in_ok-deriv.field-0
    c.in_ok-new.field-0 at (c.in_ok-deriv.ensures {u = tt}) (c.in-Some.is ∙ ap Some (sym (c.in_ok-new.ensures {u = tt})))

pub loop-place-preserved : goal.loop-place-preserved
loop-place-preserved c =
    let at = term-here c.args.factors.now c.loop-place.place c.index-factors-place.result c.loop-place-test.true c.index-factors-place.is in
    next-place (terms c.args.factors.now) c.args.wanted.now c.args.classes.now c.loop-place.place c.index-factors-place.result.now at c.loop-place.invariant
    (elim c.if-is_mark.branch [
      | then-is_mark+in_ok-deriv+in_default w ↦
          (λ is. no-copy c.args.moves.facts.now c.args.moves.outs c.args.classes.now (terms c.args.factors.now) c.loop-place.place c.index-factors-place.result.now c.args.wanted.now
          w.in_ok-deriv.field-0 at (w.in_ok-deriv.ensures {u = tt}) w.in_default.is)
      | else-is_mark w ↦ (λ is f. let yes = c.is_mark.ensures.1 is in absurd (grind (arith, w.if-is_mark, yes)))
    ])

pub returns-clause-leads : goal.returns-clause-leads
returns-clause-leads c =
    no-mark c.args.classes.now c.args.wanted.now (terms c.args.factors.now) c.requires.begins
    (λ k less mark at is f. c.loop-place.invariant k (omega (arith, less, length-map c.args.factors.now (λ r. r.now), c.loop-place-test.false)) mark at is f)

pub returns-in-Some-clause-costs : goal.returns-in-Some-clause-costs
returns-in-Some-clause-costs c basic =
    let at = term-here c.args.factors.now c.loop-place.place c.index-factors-place.result c.loop-place-test.true c.index-factors-place.is in
    mark-costs c.args.moves.facts.now c.args.moves.outs c.args.classes.now (terms c.args.factors.now) c.loop-place.place c.index-factors-place.result.now c.args.wanted.now c.in_ok-deriv.field-0
    c.in_ok-new.field-0 c.requires.begins at (c.is_mark.ensures.0 c.if-is_mark.true) (c.in_ok-deriv.ensures {u = tt}) (c.in-Some.is ∙ ap Some (sym (c.in_ok-new.ensures {u = tt}))) basic
