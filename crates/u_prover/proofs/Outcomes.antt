-- What a search comes to, by what was found on the way.
use Rattle.std.proofs.Common.{◌≡◌, ℕ, Bool, Option, Some, None, ap, sym, subst, ◌∙◌, inl, inr}
use Rattle.std.specs.Prelude.{MatchOption, true, false}
use Rattle.u_terms.specs.Syntax.{U}
use Rattle.u_terms.specs.declared.facts.Facts.{Facts}
use Rattle.u_deriv.specs.Steps.{Replays}
use Rattle.u_moves.specs.Derivations.{Derivation, IsSound}
use Rattle.u_moves.proofs.derivations.Sound.{sound-plain}
use Rattle.u_congruence.specs.Congruence.{IsFromTo}
use Rattle.u_prover.specs.declared.deciding.Outcome.{Outcome}
use Rattle.u_prover.specs.declared.deciding.Outcome.TheVariants.{Found, Unknown}
use Rattle.u_rules.specs.Terms.{add_leaves}
use Rattle.u_bag.specs.Pairs.{SomePassBudget}
use Rattle.u_prover.specs.Costs.{IsCheap}
use Rattle.u_prover.specs.Proving.{AreApart, AreNoSmallTerm, IsEnding, IsFound, IsKept, IsMissed, IsNone, IsNormalEnd, IsNormalOf, IsOutcome, IsPassing, IsSpent, IsWithinLimits, normal_terms_differ}
use Rattle.u_prover.proofs.Promised.{never-promised}

-- ---- a derivation that was found
unspent : (F : Facts) (outs : ℕ) (left right : U) (budget : ℕ) (spent : Bool) → spent ≡ false → spent ≡ true → IsSpent F outs left right budget
unspent F outs left right budget spent off on = let e : false ≡ true = sym off ∙ on in absurd (cc)

module _ (F : Facts) (outs : ℕ) (left right : U) (d : Derivation) where
  pub found-of : (e : Derivation) → IsKept d e → IsFromTo F outs left right d → IsFound F outs left right e
  found-of e kept leads = record {
    facts = ap (λ (x : Derivation). x.facts) kept.is ∙ leads.facts;
    outs = ap (λ (x : Derivation). x.outs) kept.is ∙ leads.outs;
    from = ap (λ (x : Derivation). x.from) kept.is ∙ leads.from;
    to = ap (λ (x : Derivation). x.to) kept.is ∙ leads.to;
    limits = kept.limits;
  }

  pub ending-of : (budget : ℕ) (o : Outcome) → IsWithinLimits d o → IsFromTo F outs left right d → IsCheap outs left right d → IsEnding F outs left right budget o
  ending-of budget (Found deriv) h leads cheap = found-of deriv h leads
  ending-of budget (Unknown spent) h leads cheap = record {
    spends = unspent F outs left right budget spent h.0;
    cause = let passing = h.1 in inr (h.0, record { deriv = d; leads = leads; sound = passing.sound; passes = passing.passes; costs = cheap });
  }

-- without a step, or by one
pub at-once : (F : Facts) (outs : ℕ) (left right : U) (d : Derivation) (o : Option Derivation) → MatchOption o (IsPassing d) (IsKept d) → IsFromTo F outs left right d
    → (IsPassing d → AreNoSmallTerm left right) → MatchOption o (AreNoSmallTerm left right) (IsFound F outs left right)
at-once F outs left right d None passing leads differ = differ passing
at-once F outs left right d (Some e) kept leads differ = found-of F outs left right d e kept leads

pub outcome-of : (F : Facts) (outs : ℕ) (left right : U) (budget : ℕ) → AreNoSmallTerm left right → (o : Outcome) → IsEnding F outs left right budget o → IsOutcome F outs left right budget o
outcome-of F outs left right budget differ (Found deriv) h = h
outcome-of F outs left right budget differ (Unknown spent) h =
    record { spends = h.spends; differ = differ; unpromised = never-promised F outs left right budget spent h.cause; cause = h.cause }

pub missed-none : (F : Facts) (outs : ℕ) (left right : U) (budget : ℕ) (spent : Bool) → IsMissed F outs left right budget spent
    → (spent ≡ true → IsSpent F outs left right budget) → IsNone F outs left right budget spent
missed-none F outs left right budget spent missed spends = record { spends = spends; cause = inl missed }

-- ---- normal terms
pub normal-of : (F : Facts) (outs : ℕ) (d : Derivation) → IsNormalEnd F outs d → IsSound d → IsNormalOf F outs d.from d.to
normal-of F outs d end sound = record {
  steps = d.steps;
  replays = subst (λ (n : ℕ). Replays F n d.from d.steps d.to) end.outs (subst (λ (G : Facts). Replays G d.outs d.from d.steps d.to) end.facts (sound-plain d sound));
  normal = end.normal;
}

-- a derivation from its first term
pub by-ends : (F : Facts) (outs : ℕ) (down : Derivation) (right : U) (d : Derivation) → IsNormalEnd F outs down → IsFromTo down.facts down.outs down.from right d → IsFromTo F outs down.from right d
by-ends F outs down right d end leads = record { facts = leads.facts ∙ end.facts; outs = leads.outs ∙ end.outs; from = leads.from; to = leads.to }

pub ends-apart : (F : Facts) (outs : ℕ) (down up : Derivation) → IsNormalEnd F outs down → IsNormalEnd F outs up → IsSound down → IsSound up → (down.to ≡ up.to → ⊥) → AreApart F outs down.from up.from
ends-apart F outs down up end_down end_up sound_down sound_up differ =
    normal_terms_differ down.to up.to (normal-of F outs down end_down sound_down) (normal-of F outs up end_up sound_up) differ

pub ends-spent : (F : Facts) (outs : ℕ) (down up : Derivation) (budget : ℕ) → IsNormalEnd F outs down → IsNormalEnd F outs up → IsSound down → IsSound up
    → SomePassBudget outs (add_leaves down.to) (add_leaves up.to) budget → IsSpent F outs down.from up.from budget
ends-spent F outs down up budget end_down end_up sound_down sound_up passes = record {
  down = down.to;
  up = up.to;
  left_leads = normal-of F outs down end_down sound_down;
  right_leads = normal-of F outs up end_up sound_up;
  passes = passes;
}
