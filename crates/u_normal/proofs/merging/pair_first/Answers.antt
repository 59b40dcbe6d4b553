use Rattle.std.proofs.Common.{◌≡◌, refl, ap, sym, subst, ◌∙◌}
use Rattle.std.specs.Prelude.{IsPermutation}
use Rattle.u_terms.specs.Syntax.{U}
use Rattle.u_rules.specs.Terms.{◌⊗◌, mul_leaves}
use Rattle.u_moves.specs.Derivations.{IsKnown}
use Rattle.u_moves.proofs.derivations.Whole.{if-ok}
use Rattle.u_congruence.specs.Congruence.{IsFromTo}
use Rattle.u_congruence.proofs.Turned.{known-Mul}
use Rattle.u_normal.proofs.terms.KnownParts.{rest-known, part-known}
use Rattle.u_normal.proofs.derivations.Led.{same-ends}
use Rattle.u_normal.proofs.products.Takings.{pair-leaves}
use Rattle.u_normal.proofs.merging.pair_first.Goals as goal
use Rattle.u_normal.proofs.merging.pair_first.Goals.{In_ok-whole}

whole-is : (c : In_ok-whole) → c.in_ok-whole.whole ≡ c.args.pair.now.first ⊗ c.args.pair.now.second ⊗ c.args.pair.now.rest
whole-is c =
    c.in_ok-whole.ensures {u = tt} ∙ ap (λ (r : U). c.get-3.result.now ⊗ r) c.get-4.ensures
    ∙ ap (λ (b : U). b ⊗ c.args.pair.now.rest)
    (c.get-3.ensures ∙ c.in_ok-both.ensures {u = tt} ∙ ap (λ (x : U). x ⊗ c.get-2.result.now) c.get.ensures ∙ ap (λ (y : U). c.args.pair.now.first ⊗ y) c.get-2.ensures)

pub regrouped-requires-clause-known_to : goal.regrouped-requires-clause-known_to
regrouped-requires-clause-known_to c =
    let pair = c.requires.pair in
    subst (λ (u : U). IsKnown 0 c.args.moves.outs u) (sym (whole-is c))
    (known-Mul 0 c.args.moves.outs (c.args.pair.now.first ⊗ c.args.pair.now.second) c.args.pair.now.rest
    (known-Mul 0 c.args.moves.outs c.args.pair.now.first c.args.pair.now.second (part-known c.args.moves.outs pair.first_takes c.requires.known)
    (part-known c.args.moves.outs pair.second_takes (rest-known c.args.moves.outs pair.first_takes c.requires.known)))
    (rest-known c.args.moves.outs pair.second_takes (rest-known c.args.moves.outs pair.first_takes c.requires.known)))

pub regrouped-requires-clause-leaves : goal.regrouped-requires-clause-leaves
regrouped-requires-clause-leaves c =
    let pair = c.requires.pair in
    subst (λ (u : U). IsPermutation (mul_leaves c.args.u.now) (mul_leaves u)) (sym (whole-is c))
    (pair-leaves c.args.u.now pair.between c.args.pair.now.rest c.args.pair.now.first c.args.pair.now.second pair.first_takes pair.second_takes)

pub returns : goal.returns
returns c =
    let e : c.in_ok-whole.whole ≡ c.args.pair.now.first ⊗ c.args.pair.now.second ⊗ c.args.pair.now.rest =
    c.in_ok-whole.ensures {u = tt} ∙ ap (λ (r : U). c.get-3.result.now ⊗ r) c.get-4.ensures
    ∙ ap (λ (b : U). b ⊗ c.args.pair.now.rest)
    (c.get-3.ensures ∙ c.in_ok-both.ensures {u = tt} ∙ ap (λ (x : U). x ⊗ c.get-2.result.now) c.get.ensures ∙ ap (λ (y : U). c.args.pair.now.first ⊗ y) c.get-2.ensures) in
    if-ok (IsFromTo c.args.moves.facts.now c.args.moves.outs c.args.u.now c.in_ok-whole.whole)
    (IsFromTo c.args.moves.facts.now c.args.moves.outs c.args.u.now (c.args.pair.now.first ⊗ c.args.pair.now.second ⊗ c.args.pair.now.rest))
    (same-ends c.args.moves.facts.now c.args.moves.facts.now c.args.moves.outs c.args.moves.outs c.args.u.now c.args.u.now (c.args.pair.now.first ⊗ c.args.pair.now.second ⊗ c.args.pair.now.rest) c.in_ok-whole.whole refl refl refl e)
    c.regrouped.result c.regrouped.ensures
