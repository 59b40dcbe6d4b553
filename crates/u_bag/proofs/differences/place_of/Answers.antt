use Rattle.std.proofs.Common.{Some, ap, sym, ◌∙◌, arith, inl, inr}
use Rattle.std.specs.Prelude.{slice_get}
use Rattle.std.proofs.lemmas.List.{length-map}
use Rattle.std.proofs.lemmas.Option.{same_Some, slice_get_within}
use Rattle.u_rules.specs.Terms.{terms}
use Rattle.shape_entails.proofs.Turned.{last-or-later}
use Rattle.u_bag.proofs.products.Marked.{term-here}
use Rattle.u_bag.proofs.differences.place_of.Goals as goal

pub returns-then-same : goal.returns-then-same
returns-then-same c =
    term-here c.args.others.now c.loop-place.place c.index-others-place.result c.loop-place-test.true c.index-others-place.is ∙ ap Some (c.same.ensures.0 c.if-same.true)

pub loop-place-preserved : goal.loop-place-preserved
loop-place-preserved c k less at = elim (last-or-later c.loop-place.place k (omega (arith, less))) [
  | inr low ↦ c.loop-place.invariant k low at
  | inl is ↦
      let here = term-here c.args.others.now c.loop-place.place c.index-others-place.result c.loop-place-test.true c.index-others-place.is in
      let equal = c.same.ensures.1 (same_Some c.index-others-place.result.now c.args.factor.now (sym here ∙ ap (slice_get (terms c.args.others.now)) (sym is) ∙ at)) in
      absurd (grind (arith, c.if-same.false, equal))
]

pub returns : goal.returns
returns c i =
    c.loop-place.invariant i.place
    (omega (arith, slice_get_within (terms c.args.others.now) i.place c.args.factor.now i.here, length-map c.args.others.now (λ r. r.now), c.loop-place-test.false)) i.here
