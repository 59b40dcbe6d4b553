use Rattle.std.proofs.Common.{subst, sym, ap, ◌∙◌}
use Rattle.u_terms.specs.Syntax.{U}
use Rattle.u_moves.specs.Derivations.{Derivation, IsKnown, IsSound}
use Rattle.u_normal.proofs.terms.KnownParts.{to-known}
use Rattle.u_prover.specs.Proving.{AreEnds, SomeHasNoNormal}
use Rattle.u_prover.proofs.Outcomes.{found-of}
use Rattle.u_prover.proofs.Reach.{ending-from, ends-missed, ends-told, from-ends, none-told}
use Rattle.u_prover.proofs.simplifying.by_normal_forms.Goals as goal

pub returns-in_default : goal.returns-in_default
returns-in_default c =
    let m = c.args.moves in
    ends-missed m.facts.now m.outs c.args.left.now c.args.right.now c.args.budget
    (none-told (SomeHasNoNormal m.facts.now m.outs c.args.left.now c.args.right.now) (AreEnds m.facts.now m.outs c.args.left.now c.args.right.now) c.in_ok-ends.field-0 c.in_default.not-Some (c.in_ok-ends.ensures {u = tt}))

-- ---- the last terms are known
pub by_order-requires-clause-left : goal.by_order-requires-clause-left
by_order-requires-clause-left c =
    let m = c.args.moves in
    let ends = ends-told m.facts.now m.outs c.args.left.now c.args.right.now c.in_ok-ends.field-0 c.in-Some.ends c.in-Some.is (c.in_ok-ends.ensures {u = tt}) in
    let end = (ends.down).end in
    subst (λ (u : U). IsKnown 0 m.outs u) (sym (c.to.ensures.lent ∙ ap (λ (d : Derivation). d.to) c.get.ensures))
    (to-known m.facts.now m.outs c.in-Some.ends.down (record { facts = end.facts; outs = end.outs }) (subst (λ (d : Derivation). IsSound d) c.get.ensures c.to.ensures.sound))

pub by_order-requires-clause-right : goal.by_order-requires-clause-right
by_order-requires-clause-right c =
    let m = c.args.moves in
    let ends = ends-told m.facts.now m.outs c.args.left.now c.args.right.now c.in_ok-ends.field-0 c.in-Some.ends c.in-Some.is (c.in_ok-ends.ensures {u = tt}) in
    let end = (ends.up).end in
    subst (λ (u : U). IsKnown 0 m.outs u) (sym (c.to-2.ensures.lent ∙ ap (λ (d : Derivation). d.to) c.get-2.ensures))
    (to-known m.facts.now m.outs c.in-Some.ends.up (record { facts = end.facts; outs = end.outs }) (subst (λ (d : Derivation). IsSound d) c.get-2.ensures c.to-2.ensures.sound))

-- ---- both derivations begin with the terms
pub returns-in-Some-kept : goal.returns-in-Some-kept
returns-in-Some-kept c =
    let m = c.args.moves in
    let ends = ends-told m.facts.now m.outs c.args.left.now c.args.right.now c.in_ok-ends.field-0 c.in-Some.ends c.in-Some.is (c.in_ok-ends.ensures {u = tt}) in
    found-of m.facts.now m.outs c.args.left.now c.args.right.now c.in_ok-through-in-Some-2.field-0 c.in-Some-kept.deriv (c.in-Some-kept.ensures {u = tt})
    (from-ends m.facts.now m.outs c.args.left.now c.args.right.now c.in-Some.ends ends c.in_ok-through-in-Some-2.field-0 (c.in_ok-through-in-Some-2.ensures.ends))

pub returns-in-None : goal.returns-in-None
returns-in-None c =
    let m = c.args.moves in
    let ends = ends-told m.facts.now m.outs c.args.left.now c.args.right.now c.in_ok-ends.field-0 c.in-Some.ends c.in-Some.is (c.in_ok-ends.ensures {u = tt}) in
    ending-from m.facts.now m.outs c.args.left.now c.args.right.now c.in-Some.ends ends c.args.budget c.from_normal_terms.result c.from_normal_terms.ensures
