use Rattle.std.proofs.Common.{◌++◌, Option, Some, ap, sym, subst, ◌∙◌}
use Rattle.std.specs.Prelude.{IsPermutation}
use Rattle.data_model.specs.Lists.{Each}
use Rattle.u_rules.specs.Terms.{mul_leaves, terms}
use Rattle.u_moves.specs.Derivations.{Derivation, IsKnown}
use Rattle.u_bag.specs.Rows.{IsSingle, EntailsFactors, Gains, IsGaining}
use Rattle.u_bag.proofs.products.Factors.{leaves-known, others-known}
use Rattle.u_bag.proofs.products.Gained.{left-single, right-single, not-down, not-up, same-factors, differ}
use Rattle.u_bag.proofs.costs.GainedCosts.{KeepsGainCosts, products-cost}
use Rattle.u_bag.proofs.gaining.products_meet.Goals as goal

pub gained-requires-clause-wanted : goal.gained-requires-clause-wanted
gained-requires-clause-wanted c =
    let h = differ c.args.left.now c.args.right.now c.as_slice.result.now c.as_slice-2.result.now c.in_ok-apart.apart (ap terms c.as_slice.ensures ∙ c.in_ok-lefts.ensures {u = tt})
    (ap terms c.as_slice-2.ensures ∙ c.in_ok-rights.ensures {u = tt}) (c.in_ok-apart.ensures {u = tt}) in
    subst (λ fs. Each (IsKnown 0 c.args.moves.outs) (terms fs)) (sym c.as_slice-3.ensures.value)
    (others-known c.args.moves.outs (mul_leaves c.args.right.now) h.common (terms c.in_ok-apart.apart.right.items) h.right_is (leaves-known c.args.moves.outs c.args.right.now c.requires.right))

pub gained-requires-clause-leaves : goal.gained-requires-clause-leaves
gained-requires-clause-leaves c =
    subst (λ fs. Each IsSingle (terms fs)) (sym c.as_slice-3.ensures.value) (right-single c.args.left.now c.args.right.now c.in_ok-apart.apart (differ c.args.left.now c.args.right.now c.as_slice.result.now c.as_slice-2.result.now c.in_ok-apart.apart (ap terms c.as_slice.ensures ∙ c.in_ok-lefts.ensures {u = tt})
    (ap terms c.as_slice-2.ensures ∙ c.in_ok-rights.ensures {u = tt}) (c.in_ok-apart.ensures {u = tt})))

pub returns-in_default-clause-leads : goal.returns-in_default-clause-leads
returns-in_default-clause-leads c =
    let none : EntailsFactors c.args.left.now (terms c.as_slice-3.result.now) → ⊥ =
    subst (λ (o : Option Derivation). IsGaining c.args.moves.facts.now c.args.moves.outs c.args.left.now (terms c.as_slice-3.result.now) o) c.in_default.is c.in_ok-down.ensures.leads in
    not-down c.args.left.now c.args.right.now c.in_ok-apart.apart (differ c.args.left.now c.args.right.now c.as_slice.result.now c.as_slice-2.result.now c.in_ok-apart.apart (ap terms c.as_slice.ensures ∙ c.in_ok-lefts.ensures {u = tt})
    (ap terms c.as_slice-2.ensures ∙ c.in_ok-rights.ensures {u = tt}) (c.in_ok-apart.ensures {u = tt})) (subst (λ fs. EntailsFactors c.args.left.now (terms fs) → ⊥) c.as_slice-3.ensures.value none)

pub gained-requires-2-clause-wanted : goal.gained-requires-2-clause-wanted
gained-requires-2-clause-wanted c =
    let h = differ c.args.left.now c.args.right.now c.as_slice.result.now c.as_slice-2.result.now c.in_ok-apart.apart (ap terms c.as_slice.ensures ∙ c.in_ok-lefts.ensures {u = tt})
    (ap terms c.as_slice-2.ensures ∙ c.in_ok-rights.ensures {u = tt}) (c.in_ok-apart.ensures {u = tt}) in
    subst (λ fs. Each (IsKnown 0 c.args.moves.outs) (terms fs)) (sym c.as_slice-4.ensures.value)
    (others-known c.args.moves.outs (mul_leaves c.args.left.now) h.common (terms c.in_ok-apart.apart.left.items) h.left_is (leaves-known c.args.moves.outs c.args.left.now c.requires.left))

pub gained-requires-2-clause-leaves : goal.gained-requires-2-clause-leaves
gained-requires-2-clause-leaves c =
    subst (λ fs. Each IsSingle (terms fs)) (sym c.as_slice-4.ensures.value) (left-single c.args.left.now c.args.right.now c.in_ok-apart.apart (differ c.args.left.now c.args.right.now c.as_slice.result.now c.as_slice-2.result.now c.in_ok-apart.apart (ap terms c.as_slice.ensures ∙ c.in_ok-lefts.ensures {u = tt})
    (ap terms c.as_slice-2.ensures ∙ c.in_ok-rights.ensures {u = tt}) (c.in_ok-apart.ensures {u = tt})))

pub returns-in_default-2-clause-leads : goal.returns-in_default-2-clause-leads
returns-in_default-2-clause-leads c =
    let none : EntailsFactors c.args.right.now (terms c.as_slice-4.result.now) → ⊥ =
    subst (λ (o : Option Derivation). IsGaining c.args.moves.facts.now c.args.moves.outs c.args.right.now (terms c.as_slice-4.result.now) o) c.in_default-2.is c.in_ok-up.ensures.leads in
    not-up c.args.left.now c.args.right.now c.in_ok-apart.apart (differ c.args.left.now c.args.right.now c.as_slice.result.now c.as_slice-2.result.now c.in_ok-apart.apart (ap terms c.as_slice.ensures ∙ c.in_ok-lefts.ensures {u = tt})
    (ap terms c.as_slice-2.ensures ∙ c.in_ok-rights.ensures {u = tt}) (c.in_ok-apart.ensures {u = tt})) (subst (λ fs. EntailsFactors c.args.right.now (terms fs) → ⊥) c.as_slice-4.ensures.value none)

pub met-requires-clause-leaves : goal.met-requires-clause-leaves
met-requires-clause-leaves c =
    let F = c.args.moves.facts.now in
    let names = c.args.moves.outs in
    let down : Gains F names c.args.left.now (terms c.as_slice-3.result.now) c.in-Some.down =
    subst (λ (o : Option Derivation). IsGaining F names c.args.left.now (terms c.as_slice-3.result.now) o) c.in-Some.is c.in_ok-down.ensures.leads in
    let up : Gains F names c.args.right.now (terms c.as_slice-4.result.now) c.in-Some-2.up =
    subst (λ (o : Option Derivation). IsGaining F names c.args.right.now (terms c.as_slice-4.result.now) o) c.in-Some-2.is c.in_ok-up.ensures.leads in
    same-factors c.args.left.now c.args.right.now c.in_ok-apart.apart (differ c.args.left.now c.args.right.now c.as_slice.result.now c.as_slice-2.result.now c.in_ok-apart.apart (ap terms c.as_slice.ensures ∙ c.in_ok-lefts.ensures {u = tt})
    (ap terms c.as_slice-2.ensures ∙ c.in_ok-rights.ensures {u = tt}) (c.in_ok-apart.ensures {u = tt})) c.in-Some.down.to c.in-Some-2.up.to
    (subst (λ fs. IsPermutation (mul_leaves c.in-Some.down.to) (mul_leaves c.args.left.now ++ terms fs)) c.as_slice-3.ensures.value down.to)
    (subst (λ fs. IsPermutation (mul_leaves c.in-Some-2.up.to) (mul_leaves c.args.right.now ++ terms fs)) c.as_slice-4.ensures.value up.to)

pub returns-clause-costs : goal.returns-clause-costs
returns-clause-costs c =
    let left = c.args.left.now in
    let right = c.args.right.now in
    let h = differ c.args.left.now c.args.right.now c.as_slice.result.now c.as_slice-2.result.now c.in_ok-apart.apart (ap terms c.as_slice.ensures ∙ c.in_ok-lefts.ensures {u = tt})
    (ap terms c.as_slice-2.ensures ∙ c.in_ok-rights.ensures {u = tt}) (c.in_ok-apart.ensures {u = tt}) in
    products-cost left right h.common (terms c.in_ok-apart.apart.left.items) (terms c.in_ok-apart.apart.right.items) h.left_is h.right_is c.in-Some.down c.in-Some-2.up c.in_ok-met.field-0
    (subst (λ fs. KeepsGainCosts left (terms fs) (Some c.in-Some.down)) c.as_slice-3.ensures.value (subst (KeepsGainCosts left (terms c.as_slice-3.result.now)) c.in-Some.is c.in_ok-down.ensures.costs))
    (subst (λ fs. KeepsGainCosts right (terms fs) (Some c.in-Some-2.up)) c.as_slice-4.ensures.value (subst (KeepsGainCosts right (terms c.as_slice-4.result.now)) c.in-Some-2.is c.in_ok-up.ensures.costs))
    c.in_ok-met.ensures.costs
