use Rattle.std.proofs.Common.{◌≡◌, refl, ap, sym, subst, ◌∙◌, List, ◌++◌}
use Rattle.std.specs.Prelude.{IsPermutation}
use Rattle.std.proofs.lemmas.List.Sorted.{IsPermutation-append_comm}
use Rattle.u_terms.specs.Syntax.{U}
use Rattle.u_rules.specs.Terms.{◌⊗◌, O, mul_leaves}
use Rattle.u_rules.proofs.multisets.LeavesAt.{mul_leaves-Mul}
use Rattle.u_moves.specs.Derivations.{IsKnown}
use Rattle.u_moves.proofs.derivations.Whole.{if-ok}
use Rattle.u_congruence.specs.Congruence.{IsFromTo}
use Rattle.u_congruence.proofs.Turned.{known-Mul}
use Rattle.u_normal.proofs.terms.KnownParts.{known-zero}
use Rattle.u_normal.proofs.derivations.Led.{same-ends}
use Rattle.u_normal.proofs.vanishing.zero_first.Goals as goal
use Rattle.u_normal.proofs.vanishing.zero_first.Goals.{In_ok-front, In_ok-back}

front-is : (c : In_ok-front) → c.in_ok-front.front ≡ O ⊗ c.args.x.now
front-is c = c.in_ok-front.ensures {u = tt} ∙ ap (λ (u : U). u ⊗ c.args.x.now) (c.get.ensures ∙ c.in_ok-zero.ensures {u = tt})

back-is : (c : In_ok-back) → c.in_ok-back.back ≡ c.args.x.now ⊗ O
back-is c = c.in_ok-back.ensures {u = tt} ∙ ap (λ (u : U). c.args.x.now ⊗ u) (c.get-2.ensures ∙ c.in_ok-zero.ensures {u = tt})

pub regrouped-requires-clause-known : goal.regrouped-requires-clause-known
regrouped-requires-clause-known c =
    subst (λ (u : U). IsKnown 0 c.args.moves.outs u) (sym (c.get-3.ensures ∙ front-is (goal.at.regrouped-requires-clause-known c).In_ok-front)) (known-Mul 0 c.args.moves.outs O c.args.x.now (known-zero c.args.moves.outs) c.requires)

pub regrouped-requires-clause-known_to : goal.regrouped-requires-clause-known_to
regrouped-requires-clause-known_to c =
    subst (λ (u : U). IsKnown 0 c.args.moves.outs u) (sym (back-is (goal.at.regrouped-requires-clause-known_to c).In_ok-back)) (known-Mul 0 c.args.moves.outs c.args.x.now O c.requires (known-zero c.args.moves.outs))

pub regrouped-requires-clause-leaves : goal.regrouped-requires-clause-leaves
regrouped-requires-clause-leaves c =
    subst (λ (u : U). IsPermutation (mul_leaves u) (mul_leaves c.in_ok-back.back)) (sym (c.get-3.ensures ∙ front-is (goal.at.regrouped-requires-clause-leaves c).In_ok-front))
    (subst (λ (u : U). IsPermutation (mul_leaves (O ⊗ c.args.x.now)) (mul_leaves u)) (sym (back-is (goal.at.regrouped-requires-clause-leaves c).In_ok-back))
    (subst (λ (us : List U). IsPermutation us (mul_leaves (c.args.x.now ⊗ O))) (sym (mul_leaves-Mul O c.args.x.now))
    (subst (λ (us : List U). IsPermutation (mul_leaves O ++ mul_leaves c.args.x.now) us) (sym (mul_leaves-Mul c.args.x.now O))
    (IsPermutation-append_comm (mul_leaves O) (mul_leaves c.args.x.now)))))

pub joined-requires-clause-joins : goal.joined-requires-clause-joins
joined-requires-clause-joins c = (c.in_ok-turn.ensures {u = tt}).to ∙ back-is (goal.at.joined-requires-clause-joins c).In_ok-back ∙ sym (c.in_ok-end.ensures {u = tt}).from

pub returns : goal.returns
returns c =
    let turn = c.in_ok-turn.ensures {u = tt} in
    if-ok (IsFromTo c.in_ok-turn.turn.facts c.in_ok-turn.turn.outs c.in_ok-turn.turn.from c.in_ok-end.end.to) (IsFromTo c.args.moves.facts.now c.args.moves.outs (O ⊗ c.args.x.now) O)
    (same-ends c.args.moves.facts.now c.in_ok-turn.turn.facts c.args.moves.outs c.in_ok-turn.turn.outs (O ⊗ c.args.x.now) c.in_ok-turn.turn.from O c.in_ok-end.end.to turn.facts turn.outs
    (turn.from ∙ c.get-3.ensures ∙ front-is (goal.at.returns c).In_ok-front) (c.in_ok-end.ensures {u = tt}).to)
    c.joined.result c.joined.ensures.ends
