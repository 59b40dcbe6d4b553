-- What stands one turn down in a term, and what the term becomes with a derivation made there.
use Rattle.std.proofs.Common.{◌≡◌, ℕ, ◌+◌, ◌<◌, Bool, true, false, List, [], ◌∷◌, refl, ap, sym, subst, ◌∙◌, arith}
use Rattle.std.specs.Prelude.{nat_eq, if◌then◌else◌}
use Rattle.std.proofs.lemmas.Bool.Decides.{nat_tests}
use Rattle.u_terms.specs.declared.facts.Facts.{Facts}
use Rattle.u_terms.specs.Syntax.{U, Bound, Free}
use Rattle.u_terms.specs.Places.{IsClosed}
use Rattle.u_terms.specs.Names.{EachName, EachNameValue}
use Rattle.u_terms.specs.Syntax.{constructors}
use Rattle.u_terms.specs.Binding.{closed_path, closed_at, same_place, place_for_name}
use Rattle.u_terms.proofs.Closedness.{closed_at-closed}
use Rattle.u_terms.proofs.MappedNames.{names-mapped}
use Rattle.u_terms.proofs.Binding.{closed_path-none, closed_path-one}
use Rattle.u_rules.specs.Terms.{◌⊕◌, ◌⊗◌, S, neg, sq}
use Rattle.u_deriv.specs.declared.run.Run.{Run}
use Rattle.u_deriv.specs.declared.run.Run.TheVariants.{Left, Right, Inside}
use Rattle.u_deriv.specs.Contexts.{Context, hole, add_left, add_right, mul_left, mul_right, in_squash, in_not, in_sum, filled, way, binders}
use Rattle.u_deriv.specs.Opening.{opened_path}
use Rattle.u_deriv.specs.Steps.{Replaced}
use Rattle.u_deriv.specs.Turns.{turns}
use Rattle.u_deriv.proofs.contexts.OneContext.{same_context}
use Rattle.u_deriv.proofs.contexts.Opening.{opened_path-closed}
use Rattle.u_moves.specs.Derivations.{Derivation, IsKnown, IsSound}
use Rattle.u_moves.specs.Lifting.{IsPart}
use Rattle.u_congruence.specs.Congruence.{IsBy}

-- ---- what is known of a derivation's first term
pub from-known : (F : Facts) (outs : ℕ) (d : Derivation) → IsBy F outs d → IsSound d → IsKnown 0 outs d.from
from-known F outs d by sound = subst (λ (n : ℕ). IsKnown 0 n d.from) by.outs sound.known

pub known-Add : (k outs : ℕ) (a b : U) → IsKnown k outs a → IsKnown k outs b → IsKnown k outs (a ⊕ b)
unfolding IsClosed EachName constructors
known-Add k outs a b x y = record { closed = (x.closed, y.closed); named = (x.named, y.named) }

pub known-Mul : (k outs : ℕ) (a b : U) → IsKnown k outs a → IsKnown k outs b → IsKnown k outs (a ⊗ b)
unfolding IsClosed EachName constructors
known-Mul k outs a b x y = record { closed = (x.closed, y.closed); named = (x.named, y.named) }

pub known-Squash : (k outs : ℕ) (a : U) → IsKnown k outs a → IsKnown k outs (sq a)
unfolding IsClosed EachName constructors
known-Squash k outs a x = record { closed = x.closed; named = x.named }

pub known-Not : (k outs : ℕ) (a : U) → IsKnown k outs a → IsKnown k outs (neg a)
unfolding IsClosed EachName constructors
known-Not k outs a x = record { closed = x.closed; named = x.named }

pub known-Sum : (outs : ℕ) (a : U) → IsKnown 1 outs a → IsKnown 0 outs (S a)
unfolding IsClosed EachName constructors
known-Sum outs a x = record { closed = x.closed; named = x.named }

place-named : (outs k i : ℕ) → EachNameValue (λ y. y < outs) (same_place k i)
unfolding EachName
place-named outs k i = tt

named-by : (outs k x : ℕ) → x < outs + 1 → (b : Bool) → nat_eq x outs ≡ b → EachNameValue (λ y. y < outs) (if b then Bound k else Free x)
unfolding EachName
named-by outs k x less true e = tt
named-by outs k x less false e = grind (arith, nat_tests)

pub known-closed : (outs : ℕ) (a : U) → IsKnown 0 (outs + 1) a → IsKnown 1 outs (closed_at a outs)
known-closed outs a h = record {
  closed = closed_at-closed a outs h.closed;
  named = names-mapped (λ x. x < outs + 1) (λ x. x < outs) same_place (place_for_name outs) (place-named outs) (λ k x less. named-by outs k x less (nat_eq x outs) refl) a 0 h.named;
}

-- ---- at any path
-- closed terms under no binder
open-none : (outs : ℕ) (a : U) → IsClosed 0 a → a ≡ opened_path a outs 0
open-none outs a h = sym (ap (λ (t : U). opened_path t outs 0) (sym (closed_path-none a outs)) ∙ opened_path-closed outs 0 a h)

module _ (C : Context) (path : List Run) (at_path : way C ≡ turns path) where
  -- a closed part under no binder
  pub part-here : (outs : ℕ) (whole part : U) → binders C ≡ 0 → IsClosed 0 part → whole ≡ filled C part → IsPart outs path whole outs part
  part-here outs whole part none closed is = record {
    context = C;
    inside = part;
    at_path = at_path;
    is = is;
    names = omega (arith, none);
    opened = open-none outs part closed ∙ ap (λ (n : ℕ). opened_path part outs n) (sym none);
  }

  pub made-here : (outs : ℕ) (before from to after : U) → before ≡ filled C (closed_path from outs (binders C)) → Replaced outs path before from to after → after ≡ filled C (closed_path to outs (binders C))
  made-here outs before from to after is r =
      let same : r.context ≡ C = same_context r.context C (closed_path from outs (binders r.context)) (closed_path from outs (binders C)) (r.at_path ∙ sym at_path) (sym r.is_from ∙ is) in
      r.is_to ∙ ap (λ (c : Context). filled c (closed_path to outs (binders c))) same

-- ---- the parts of a term, one turn down
module _ (outs : ℕ) where
  none-closed : (a : U) → closed_path a outs 0 ≡ a
  none-closed a = closed_path-none a outs

  pub part-add_left : (a b : U) → IsClosed 0 a → IsPart outs (Left 1 ∷ []) (a ⊕ b) outs a
  unfolding filled way binders
  part-add_left a b h = part-here (add_left hole b) (Left 1 ∷ []) refl outs (a ⊕ b) a refl h refl

  pub made-add_left : (a b c after : U) → Replaced outs (Left 1 ∷ []) (a ⊕ b) a c after → after ≡ c ⊕ b
  unfolding filled way binders
  made-add_left a b c after r =
      made-here (add_left hole b) (Left 1 ∷ []) refl outs (a ⊕ b) a c after (ap (λ (t : U). t ⊕ b) (sym (none-closed a))) r ∙ ap (λ (t : U). t ⊕ b) (none-closed c)

  pub part-add_right : (a b : U) → IsClosed 0 b → IsPart outs (Right 1 ∷ []) (a ⊕ b) outs b
  unfolding filled way binders
  part-add_right a b h = part-here (add_right a hole) (Right 1 ∷ []) refl outs (a ⊕ b) b refl h refl

  pub made-add_right : (a b c after : U) → Replaced outs (Right 1 ∷ []) (a ⊕ b) b c after → after ≡ a ⊕ c
  unfolding filled way binders
  made-add_right a b c after r =
      made-here (add_right a hole) (Right 1 ∷ []) refl outs (a ⊕ b) b c after (ap (λ (t : U). a ⊕ t) (sym (none-closed b))) r ∙ ap (λ (t : U). a ⊕ t) (none-closed c)

  pub part-mul_left : (a b : U) → IsClosed 0 a → IsPart outs (Left 1 ∷ []) (a ⊗ b) outs a
  unfolding filled way binders
  part-mul_left a b h = part-here (mul_left hole b) (Left 1 ∷ []) refl outs (a ⊗ b) a refl h refl

  pub made-mul_left : (a b c after : U) → Replaced outs (Left 1 ∷ []) (a ⊗ b) a c after → after ≡ c ⊗ b
  unfolding filled way binders
  made-mul_left a b c after r =
      made-here (mul_left hole b) (Left 1 ∷ []) refl outs (a ⊗ b) a c after (ap (λ (t : U). t ⊗ b) (sym (none-closed a))) r ∙ ap (λ (t : U). t ⊗ b) (none-closed c)

  pub part-mul_right : (a b : U) → IsClosed 0 b → IsPart outs (Right 1 ∷ []) (a ⊗ b) outs b
  unfolding filled way binders
  part-mul_right a b h = part-here (mul_right a hole) (Right 1 ∷ []) refl outs (a ⊗ b) b refl h refl

  pub made-mul_right : (a b c after : U) → Replaced outs (Right 1 ∷ []) (a ⊗ b) b c after → after ≡ a ⊗ c
  unfolding filled way binders
  made-mul_right a b c after r =
      made-here (mul_right a hole) (Right 1 ∷ []) refl outs (a ⊗ b) b c after (ap (λ (t : U). a ⊗ t) (sym (none-closed b))) r ∙ ap (λ (t : U). a ⊗ t) (none-closed c)

  pub part-squash : (a : U) → IsClosed 0 a → IsPart outs (Inside 1 ∷ []) (sq a) outs a
  unfolding filled way binders
  part-squash a h = part-here (in_squash hole) (Inside 1 ∷ []) refl outs (sq a) a refl h refl

  pub made-squash : (a c after : U) → Replaced outs (Inside 1 ∷ []) (sq a) a c after → after ≡ sq c
  unfolding filled way binders
  made-squash a c after r = made-here (in_squash hole) (Inside 1 ∷ []) refl outs (sq a) a c after (ap (λ (t : U). sq t) (sym (none-closed a))) r ∙ ap (λ (t : U). sq t) (none-closed c)

  pub part-not : (a : U) → IsClosed 0 a → IsPart outs (Inside 1 ∷ []) (neg a) outs a
  unfolding filled way binders
  part-not a h = part-here (in_not hole) (Inside 1 ∷ []) refl outs (neg a) a refl h refl

  pub made-not : (a c after : U) → Replaced outs (Inside 1 ∷ []) (neg a) a c after → after ≡ neg c
  unfolding filled way binders
  made-not a c after r = made-here (in_not hole) (Inside 1 ∷ []) refl outs (neg a) a c after (ap (λ (t : U). neg t) (sym (none-closed a))) r ∙ ap (λ (t : U). neg t) (none-closed c)

  pub part-sum : (a : U) → IsClosed 0 a → IsPart outs (Inside 1 ∷ []) (S (closed_at a outs)) (outs + 1) a
  unfolding filled way binders
  part-sum a h = record {
    context = in_sum hole;
    inside = closed_at a outs;
    at_path = refl;
    is = refl;
    names = refl;
    opened = sym (ap (λ (t : U). opened_path t outs 1) (sym (closed_path-one a outs)) ∙ opened_path-closed outs 1 a h);
  }

  pub made-sum : (a c after : U) → Replaced outs (Inside 1 ∷ []) (S (closed_at a outs)) a c after → after ≡ S (closed_at c outs)
  unfolding filled way binders
  made-sum a c after r =
      made-here (in_sum hole) (Inside 1 ∷ []) refl outs (S (closed_at a outs)) a c after (ap (λ (t : U). S t) (sym (closed_path-one a outs))) r ∙ ap (λ (t : U). S t) (closed_path-one c outs)
