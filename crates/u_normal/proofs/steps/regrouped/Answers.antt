use Rattle.std.proofs.Common.{sym, subst, ◌∙◌}
use Rattle.std.specs.Prelude.{IsPermutation}
use Rattle.u_terms.specs.Syntax.{U}
use Rattle.u_rules.specs.Terms.{mul_leaves}
use Rattle.u_moves.specs.Derivations.{IsKnown}
use Rattle.u_normal.proofs.steps.regrouped.Goals as goal

pub mul_ac-requires-clause-x : goal.mul_ac-requires-clause-x
mul_ac-requires-clause-x c = subst (λ (u : U). IsKnown 0 c.args.moves.outs u) (sym (c.into_inner.ensures ∙ c.in_ok-from.ensures {u = tt})) c.requires.known

pub mul_ac-requires-clause-y : goal.mul_ac-requires-clause-y
mul_ac-requires-clause-y c = subst (λ (u : U). IsKnown 0 c.args.moves.outs u) (sym c.into_inner-2.ensures) c.requires.known_to

pub mul_ac-requires-clause-leaves : goal.mul_ac-requires-clause-leaves
mul_ac-requires-clause-leaves c =
    subst (λ (u : U). IsPermutation (mul_leaves u) (mul_leaves c.into_inner-2.result)) (sym (c.into_inner.ensures ∙ c.in_ok-from.ensures {u = tt}))
    (subst (λ (u : U). IsPermutation (mul_leaves c.args.u.now) (mul_leaves u)) (sym c.into_inner-2.ensures) c.requires.leaves)
