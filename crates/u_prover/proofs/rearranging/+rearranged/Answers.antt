use Rattle.std.proofs.Common.{◌≡◌, ℕ, ◌+◌, ap, sym, subst, ◌∙◌, arith}
use Rattle.std.specs.Prelude.{IfSome}
use Rattle.u_terms.specs.Syntax.{U}
use Rattle.u_terms.specs.Size.{nodes}
use Rattle.u_terms.specs.Binding.{closed_at, opened}
use Rattle.u_terms.proofs.Sizes.{nodes-Squash, nodes-Sum}
use Rattle.u_rules.specs.Terms.{S}
use Rattle.u_moves.specs.Derivations.{IsKnown}
use Rattle.u_congruence.specs.Congruence.{IsFromTo}
use Rattle.u_normal.proofs.terms.KnownParts.{known-body, known-opened, known-squashed, body-again}
use Rattle.u_normal.proofs.products.Nodes.{opened-nodes}
use Rattle.u_prover.proofs.rearranging.+rearranged.Goals as goal

-- ---- under a sum over all values
pub rearranged-under_sum-requires : goal.rearranged-under_sum-requires
rearranged-under_sum-requires t c = (
  omega (arith, c.decreases, ap nodes c.in-Sum-Sum.is-0, nodes-Sum c.in-Sum-Sum.f, ap nodes c.get.ensures),
  (
    subst (λ (u : U). IsKnown 1 c.args.moves.outs u) (sym c.get.ensures)
        (known-body c.args.moves.outs c.in-Sum-Sum.f (subst (λ (u : U). IsKnown 0 c.args.moves.outs u) c.in-Sum-Sum.is-0 c.requires.left)),
    subst (λ (u : U). IsKnown 1 c.args.moves.outs u) (sym c.get-in-Sum-Sum.ensures)
        (known-body c.args.moves.outs c.in-Sum-Sum.g (subst (λ (u : U). IsKnown 0 c.args.moves.outs u) c.in-Sum-Sum.is-1 c.requires.right)),
  ),
)

pub under_sum-rearranged-requires : goal.under_sum-rearranged-requires
under_sum-rearranged-requires t c =
    let e : c.get.result.now ≡ opened c.args.f.now c.args.moves.outs = c.get.ensures ∙ c.in_ok-left.ensures {u = tt} ∙ c.in_ok-opened.ensures {u = tt} in
    let k : c.get-2.result.now ≡ opened c.args.g.now c.args.moves.outs = c.get-2.ensures ∙ c.in_ok-right.ensures {u = tt} ∙ c.in_ok-opened-2.ensures {u = tt} in
    let n : c.in_ok-inner.inner.outs ≡ c.args.moves.outs + 1 = c.in_ok-inner.ensures.outs in (
      omega (arith, c.decreases, ap nodes e, opened-nodes c.args.f.now c.args.moves.outs),
      (
        subst (λ (m : ℕ). IsKnown 0 m c.get.result.now) (sym n)
            (subst (λ (u : U). IsKnown 0 (c.args.moves.outs + 1) u) (sym e) (known-opened c.args.moves.outs c.args.f.now c.requires.f)),
        subst (λ (m : ℕ). IsKnown 0 m c.get-2.result.now) (sym n)
            (subst (λ (u : U). IsKnown 0 (c.args.moves.outs + 1) u) (sym k) (known-opened c.args.moves.outs c.args.g.now c.requires.g)),
      ),
    )

pub under_sum-returns-in-Some : goal.under_sum-returns-in-Some
under_sum-returns-in-Some t c =
    let outs = c.args.moves.outs in
    let e : c.get.result.now ≡ opened c.args.f.now outs = c.get.ensures ∙ c.in_ok-left.ensures {u = tt} ∙ c.in_ok-opened.ensures {u = tt} in
    let k : c.get-2.result.now ≡ opened c.args.g.now outs = c.get-2.ensures ∙ c.in_ok-right.ensures {u = tt} ∙ c.in_ok-opened-2.ensures {u = tt} in
    let part : IsFromTo c.in_ok-inner.inner.facts.now c.in_ok-inner.inner.outs c.get.result.now c.get-2.result.now c.in-Some.part =
    subst (λ o. IfSome o (IsFromTo c.in_ok-inner.inner.facts.now c.in_ok-inner.inner.outs c.get.result.now c.get-2.result.now)) c.in-Some.is (c.in_ok-part.ensures {u = tt}) in
    let sum = c.in_ok-summed-in-Some.ensures.ends in
    record {
      facts = sum.facts;
      outs = sum.outs;
      from = sum.from ∙ ap (λ (u : U). S (closed_at u outs)) (part.from ∙ e) ∙ ap (λ (u : U). S u) (body-again outs c.args.f.now c.requires.f);
      to = sum.to ∙ ap (λ (u : U). S (closed_at u outs)) (part.to ∙ k) ∙ ap (λ (u : U). S u) (body-again outs c.args.g.now c.requires.g);
    }

-- ---- under a squash
pub rearranged-under_squash-requires : goal.rearranged-under_squash-requires
rearranged-under_squash-requires t c = (
  omega (arith, c.decreases, ap nodes c.in-Squash-Squash.is-0, nodes-Squash c.in-Squash-Squash.a, ap nodes c.get-in-Squash-Squash.ensures),
  (
    subst (λ (u : U). IsKnown 0 c.args.moves.outs u) (sym c.get-in-Squash-Squash.ensures)
        (known-squashed c.args.moves.outs c.in-Squash-Squash.a (subst (λ (u : U). IsKnown 0 c.args.moves.outs u) c.in-Squash-Squash.is-0 c.requires.left)),
    subst (λ (u : U). IsKnown 0 c.args.moves.outs u) (sym c.get-in-Squash-Squash-2.ensures)
        (known-squashed c.args.moves.outs c.in-Squash-Squash.b (subst (λ (u : U). IsKnown 0 c.args.moves.outs u) c.in-Squash-Squash.is-1 c.requires.right)),
  ),
)
