use Rattle.std.proofs.Common.{◌≡◌, ap, sym, refl, subst, ◌∙◌, arith}
use Rattle.u_terms.specs.Syntax.{U}
use Rattle.u_terms.specs.Size.{nodes}
use Rattle.u_terms.proofs.Sizes.{nodes-Add}
use Rattle.u_rules.specs.Terms.{◌⊕◌, O, S}
use Rattle.u_moves.specs.Derivations.{IsKnown}
use Rattle.u_moves.proofs.derivations.Whole.{if-ok}
use Rattle.u_congruence.specs.Congruence.{IsFromTo}
use Rattle.u_congruence.proofs.Turned.{known-Sum}
use Rattle.u_normal.specs.Summing.{over_each}
use Rattle.u_normal.proofs.terms.KnownParts.{known-left, known-right}
use Rattle.u_normal.proofs.derivations.Led.{same-ends}
use Rattle.u_normal.proofs.products.Blocks.{over_each-Zero, over_each-Add, over_each-other}
use Rattle.u_normal.proofs.sums.+over_each.Goals as goal

pub parted-requires-clause-f : goal.parted-requires-clause-f
parted-requires-clause-f t c =
    subst (λ (u : U). IsKnown 1 c.args.moves.outs u) (sym c.get.ensures)
    (known-left c.args.moves.outs 1 c.in-Add.a c.in-Add.b (subst (λ (u : U). IsKnown 1 c.args.moves.outs u) c.in-Add.is c.requires))

pub parted-requires-clause-g : goal.parted-requires-clause-g
parted-requires-clause-g t c =
    subst (λ (u : U). IsKnown 1 c.args.moves.outs u) (sym c.get-in-Add.ensures)
    (known-right c.args.moves.outs 1 c.in-Add.a c.in-Add.b (subst (λ (u : U). IsKnown 1 c.args.moves.outs u) c.in-Add.is c.requires))

pub over_each-requires : goal.over_each-requires
over_each-requires t c = (
  omega (arith, c.decreases, ap nodes c.in-Add.is, nodes-Add c.in-Add.a c.in-Add.b, ap nodes c.get-in-Add-2.ensures),
  subst (λ (u : U). IsKnown 1 c.args.moves.outs u) (sym c.get-in-Add-2.ensures)
      (known-left c.args.moves.outs 1 c.in-Add.a c.in-Add.b (subst (λ (u : U). IsKnown 1 c.args.moves.outs u) c.in-Add.is c.requires)),
)

pub over_each-requires-in-Add : goal.over_each-requires-in-Add
over_each-requires-in-Add t c = (
  omega (arith, c.decreases, ap nodes c.in-Add.is, nodes-Add c.in-Add.a c.in-Add.b, ap nodes c.get-in-Add-3.ensures),
  subst (λ (u : U). IsKnown 1 c.args.moves.outs u) (sym c.get-in-Add-3.ensures)
      (known-right c.args.moves.outs 1 c.in-Add.a c.in-Add.b (subst (λ (u : U). IsKnown 1 c.args.moves.outs u) c.in-Add.is c.requires)),
)

pub still-requires : goal.still-requires
still-requires t c =
    subst (λ (u : U). IsKnown 0 c.args.moves.outs u) (sym (c.in_ok-new-in_default.ensures {u = tt} ∙ ap (λ (f : U). S f) (c.in_ok-body-in_default.ensures {u = tt})))
    (known-Sum c.args.moves.outs c.args.f.now c.requires)

pub returns-in_ok-both-in-Add : goal.returns-in_ok-both-in-Add
returns-in_ok-both-in-Add t c =
    let split = c.in_ok-split-in-Add.ensures {u = tt} in
    let left = c.in_ok-left-in-Add.ensures {u = tt} in
    let right = c.in_ok-right-in-Add.ensures {u = tt} in
    let both = c.in_ok-both-in-Add.ensures.ends in
    if-ok (IsFromTo c.in_ok-split-in-Add.split.facts c.in_ok-split-in-Add.split.outs c.in_ok-split-in-Add.split.from c.in_ok-both-in-Add.both.to)
    (IsFromTo c.args.moves.facts.now c.args.moves.outs (S c.args.f.now) (over_each c.args.f.now))
    (same-ends c.args.moves.facts.now c.in_ok-split-in-Add.split.facts c.args.moves.outs c.in_ok-split-in-Add.split.outs (S c.args.f.now) c.in_ok-split-in-Add.split.from (over_each c.args.f.now) c.in_ok-both-in-Add.both.to
    split.facts split.outs
    (split.from ∙ ap (λ (a : U). S (a ⊕ c.get-in-Add.result.now)) c.get.ensures ∙ ap (λ (b : U). S (c.in-Add.a ⊕ b)) c.get-in-Add.ensures ∙ ap (λ (f : U). S f) (sym c.in-Add.is))
    (both.to ∙ ap (λ (a : U). a ⊕ c.in_ok-right-in-Add.right.to) (left.to ∙ ap over_each c.get-in-Add-2.ensures)
    ∙ ap (λ (b : U). over_each c.in-Add.a ⊕ b) (right.to ∙ ap over_each c.get-in-Add-3.ensures)
    ∙ sym (ap over_each c.in-Add.is ∙ over_each-Add c.in-Add.a c.in-Add.b)))
    c.joined.result c.joined.ensures.ends

pub returns-in_ok-new-in_default : goal.returns-in_ok-new-in_default
returns-in_ok-new-in_default t c =
    let e : c.in_ok-new-in_default.field-0 ≡ S c.args.f.now = c.in_ok-new-in_default.ensures {u = tt} ∙ ap (λ (f : U). S f) (c.in_ok-body-in_default.ensures {u = tt}) in
    if-ok (IsFromTo c.args.moves.facts.now c.args.moves.outs c.in_ok-new-in_default.field-0 c.in_ok-new-in_default.field-0)
    (IsFromTo c.args.moves.facts.now c.args.moves.outs (S c.args.f.now) (over_each c.args.f.now))
    (same-ends c.args.moves.facts.now c.args.moves.facts.now c.args.moves.outs c.args.moves.outs (S c.args.f.now) c.in_ok-new-in_default.field-0 (over_each c.args.f.now) c.in_ok-new-in_default.field-0
    refl refl e (e ∙ sym (over_each-other c.args.f.now c.in_default.not-Zero c.in_default.not-Add)))
    c.still.result c.still.ensures.ends

pub returns-in-Zero : goal.returns-in-Zero
returns-in-Zero t c =
    if-ok (IsFromTo c.args.moves.facts.now c.args.moves.outs (S O) O)
    (IsFromTo c.args.moves.facts.now c.args.moves.outs (S c.args.f.now) (over_each c.args.f.now))
    (same-ends c.args.moves.facts.now c.args.moves.facts.now c.args.moves.outs c.args.moves.outs (S c.args.f.now) (S O) (over_each c.args.f.now) O
    refl refl (ap (λ (f : U). S f) (sym c.in-Zero.is)) (sym (ap over_each c.in-Zero.is ∙ over_each-Zero)))
    c.zero_sum.result c.zero_sum.ensures
