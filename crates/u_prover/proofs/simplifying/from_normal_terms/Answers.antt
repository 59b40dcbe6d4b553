use Rattle.std.proofs.Common.{◌≡◌, true, false, sym, subst, ap, ◌∙◌}
use Rattle.u_terms.specs.Syntax.{U}
use Rattle.u_moves.specs.Derivations.{Derivation, IsKnown}
use Rattle.u_rules.specs.Terms.{add_leaves}
use Rattle.u_normal.proofs.terms.KnownParts.{to-known}
use Rattle.u_bag.specs.Pairs.{CanBePaired, SomePassBudget}
use Rattle.u_bag.specs.Shapes.{SomeHasTooManySums}
use Rattle.u_bag.specs.declared.blocks.Matched.{Matched}
use Rattle.u_bag.specs.declared.blocks.Matched.TheVariants.{Found, Nothing}
use Rattle.u_bag.specs.Sums.{AreSumsPaired, IsSumsMatch}
use Rattle.u_prover.specs.Proving.{IsWithinLimits}
use Rattle.u_prover.proofs.Costs.{cheap-paired, cheap-same}
use Rattle.u_prover.proofs.Outcomes.{by-ends, ending-of, ends-apart, ends-spent, missed-none}
use Rattle.u_prover.proofs.Reach.{missed-apart, missed-spent}
use Rattle.u_prover.proofs.simplifying.from_normal_terms.Goals as goal

-- ---- the last terms are known
pub match_sums-requires-clause-left : goal.match_sums-requires-clause-left
match_sums-requires-clause-left c =
    subst (λ (u : U). IsKnown 0 c.args.moves.outs u) (sym (c.to.ensures.lent ∙ ap (λ (d : Derivation). d.to) c.get.ensures))
    (to-known c.args.moves.facts.now c.args.moves.outs c.args.down (record { facts = c.requires.down.facts; outs = c.requires.down.outs }) c.end_alike.ensures.down)

pub match_sums-requires-clause-right : goal.match_sums-requires-clause-right
match_sums-requires-clause-right c =
    subst (λ (u : U). IsKnown 0 c.args.moves.outs u) (sym (c.to-2.ensures.lent ∙ ap (λ (d : Derivation). d.to) c.get-2.ensures))
    (to-known c.args.moves.facts.now c.args.moves.outs c.args.up (record { facts = c.requires.up.facts; outs = c.requires.up.outs }) c.end_alike.ensures.up)

-- ---- a derivation is found
pub returns-then-end_alike : goal.returns-then-end_alike
returns-then-end_alike c =
    let m = c.args.moves in
    ending-of m.facts.now m.outs c.args.down.from c.args.up.from c.in_ok-whole.whole c.args.budget c.within_limits.result
    (subst (λ (d : Derivation). IsWithinLimits d c.within_limits.result) c.into_inner.ensures c.within_limits.ensures)
    (by-ends m.facts.now m.outs c.args.down c.args.up.from c.in_ok-whole.whole c.requires.down (c.in_ok-whole.ensures.ends))
    (cheap-same m.facts.now m.outs c.args.down c.args.up c.in_ok-whole.whole c.requires.down c.requires.up c.end_alike.ensures.down c.end_alike.ensures.up
    (c.end_alike.ensures.same.0 c.if-end_alike.true) (c.in_ok-whole.ensures.steps))

pub returns-in-Found : goal.returns-in-Found
returns-in-Found c =
    let m = c.args.moves in
    let found : IsSumsMatch m.facts.now m.outs c.to.result.now c.to-2.result.now c.args.budget (Found c.in-Found.deriv) =
    subst (λ (x : Matched). IsSumsMatch m.facts.now m.outs c.to.result.now c.to-2.result.now c.args.budget x) c.in-Found.is (c.in_ok-deriv.ensures {u = tt}) in
    let paired : AreSumsPaired m.facts.now m.outs c.args.down.to c.args.up.to c.in-Found.deriv =
    subst (λ (u : U). AreSumsPaired m.facts.now m.outs u c.args.up.to c.in-Found.deriv) (c.to.ensures.lent ∙ ap (λ (d : Derivation). d.to) c.get.ensures)
    (subst (λ (u : U). AreSumsPaired m.facts.now m.outs c.to.result.now u c.in-Found.deriv) (c.to-2.ensures.lent ∙ ap (λ (d : Derivation). d.to) c.get-2.ensures) found) in
    ending-of m.facts.now m.outs c.args.down.from c.args.up.from c.in_ok-through-in-Found.field-0 c.args.budget c.within_limits-in-Found.result c.within_limits-in-Found.ensures
    (by-ends m.facts.now m.outs c.args.down c.args.up.from c.in_ok-through-in-Found.field-0 c.requires.down (c.in_ok-through-in-Found.ensures.ends))
    (cheap-paired m.facts.now m.outs c.args.down c.args.up c.in_ok-through-in-Found.field-0 c.requires.down c.requires.up c.end_alike.ensures.down c.end_alike.ensures.up c.in-Found.deriv paired
    (c.in_ok-through-in-Found.ensures.steps))

-- ---- none is found between them
pub returns-in-Nothing : goal.returns-in-Nothing
returns-in-Nothing c =
    let m = c.args.moves in
    let nothing : IsSumsMatch m.facts.now m.outs c.to.result.now c.to-2.result.now c.args.budget Nothing =
    subst (λ (x : Matched). IsSumsMatch m.facts.now m.outs c.to.result.now c.to-2.result.now c.args.budget x) c.in-Nothing.is (c.in_ok-deriv.ensures {u = tt}) in
    missed-none m.facts.now m.outs c.args.down.from c.args.up.from c.args.budget false
    (missed-apart m.facts.now m.outs c.args.down c.args.up c.args.budget c.requires.down c.requires.up
    (ends-apart m.facts.now m.outs c.args.down c.args.up c.requires.down c.requires.up c.end_alike.ensures.down c.end_alike.ensures.up
    (λ same. let e : false ≡ true = sym c.if-end_alike.false ∙ c.end_alike.ensures.same.1 same in absurd (cc)))
    (subst (λ (u : U). CanBePaired m.outs (add_leaves u) (add_leaves c.args.up.to) → SomeHasTooManySums (add_leaves u)) (c.to.ensures.lent ∙ ap (λ (d : Derivation). d.to) c.get.ensures)
    (subst (λ (u : U). CanBePaired m.outs (add_leaves c.to.result.now) (add_leaves u) → SomeHasTooManySums (add_leaves c.to.result.now)) (c.to-2.ensures.lent ∙ ap (λ (d : Derivation). d.to) c.get-2.ensures) nothing)))
    (λ e. absurd (cc))

pub returns : goal.returns
returns c =
    let m = c.args.moves in
    let spent : SomePassBudget m.outs (add_leaves c.to.result.now) (add_leaves c.to-2.result.now) c.args.budget =
    subst (λ (x : Matched). IsSumsMatch m.facts.now m.outs c.to.result.now c.to-2.result.now c.args.budget x) c.in-Spent.is (c.in_ok-deriv.ensures {u = tt}) in
    let passes : SomePassBudget m.outs (add_leaves c.args.down.to) (add_leaves c.args.up.to) c.args.budget =
    subst (λ (u : U). SomePassBudget m.outs (add_leaves u) (add_leaves c.args.up.to) c.args.budget) (c.to.ensures.lent ∙ ap (λ (d : Derivation). d.to) c.get.ensures)
    (subst (λ (u : U). SomePassBudget m.outs (add_leaves c.to.result.now) (add_leaves u) c.args.budget) (c.to-2.ensures.lent ∙ ap (λ (d : Derivation). d.to) c.get-2.ensures) spent) in
    missed-none m.facts.now m.outs c.args.down.from c.args.up.from c.args.budget true
    (missed-spent m.facts.now m.outs c.args.down c.args.up c.args.budget c.requires.down c.requires.up
    (ends-apart m.facts.now m.outs c.args.down c.args.up c.requires.down c.requires.up c.end_alike.ensures.down c.end_alike.ensures.up
    (λ same. let e : false ≡ true = sym c.if-end_alike.false ∙ c.end_alike.ensures.same.1 same in absurd (cc))) passes)
    (λ e. ends-spent m.facts.now m.outs c.args.down c.args.up c.args.budget c.requires.down c.requires.up c.end_alike.ensures.down c.end_alike.ensures.up passes)
