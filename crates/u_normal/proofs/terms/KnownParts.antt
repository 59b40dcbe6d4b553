-- What is known of the parts of a term that is known.
use Rattle.std.proofs.Common.{◌≡◌, ℕ, ◌+◌, ◌<◌, ◌≢◌, Bool, true, false, List, ap, sym, subst, ◌∙◌, arith}
use Rattle.std.specs.Prelude.{nat_eq, if◌then◌else◌, IsPermutation}
use Rattle.std.proofs.lemmas.List.Sorted.{IsPermutation-refl}
use Rattle.u_terms.specs.declared.facts.Facts.{Facts}
use Rattle.u_terms.specs.Syntax.{U, Zero, One, Add, Mul, Squash, Not, Sum, Rel, Eq, Pred, Val, Bound, Free, Lit, Fun, Agg, Vals, NoVals, ValThen, constructors}
use Rattle.u_terms.specs.Places.{IsClosed}
use Rattle.u_terms.specs.Names.{IsFreeBelow, IsUnused, EachName, EachNameValue, EachNameRow}
use Rattle.u_terms.specs.Binding.{opened, closed_at, same_name, value_for_place}
use Rattle.u_terms.proofs.Binding.{closed_at-opened}
use Rattle.u_terms.proofs.Closedness.{opened-closed}
use Rattle.u_terms.proofs.MappedNames.{names-mapped}
use Rattle.u_terms.specs.Products.{product_of}
use Rattle.u_rules.specs.Terms.{◌⊕◌, ◌⊗◌, I, O, S, add_leaves, mul_leaves, neg, sq}
use Rattle.u_moves.specs.Derivations.{Derivation, IsKnown, IsSound}
use Rattle.u_moves.proofs.derivations.Sound.{last-known}
use Rattle.normal_form.specs.NormalTerms.{sum_of}
use Rattle.normal_form.specs.Kinds.{ordered}
use Rattle.normal_form.proofs.Leaves.{leaves-in_row, in_row-has, in_order-has}
use Rattle.u_congruence.specs.Congruence.{IsBy}
use Rattle.u_congruence.proofs.Turned.{known-Add, known-Mul}
use Rattle.u_normal.specs.declared.merging.Wrap.{Wrap}
use Rattle.u_normal.specs.declared.merging.Wrap.TheVariants as wrap
use Rattle.u_normal.specs.Taking.{Takes}
use Rattle.u_normal.specs.Merging.{wrapped}
use Rattle.u_normal.proofs.products.Takings.{rest-has, part-has}

-- ---- names that have one property have another
module _ (P Q : ℕ → Type 0) (f : (x : ℕ) → P x → Q x) where
  mutual
    unfolding EachName

    pub names-of : (u : U) → EachName P u → EachName Q u
    names-of Zero h = tt
    names-of One h = tt
    names-of (Add a b) h = (names-of a h.0, names-of b h.1)
    names-of (Mul a b) h = (names-of a h.0, names-of b h.1)
    names-of (Squash a) h = names-of a h
    names-of (Not a) h = names-of a h
    names-of (Sum body) h = names-of body h
    names-of (Rel table shape arguments) h = row_names-of arguments h
    names-of (Eq a b) h = (value_names-of a h.0, value_names-of b h.1)
    names-of (Pred symbol shape arguments) h = row_names-of arguments h

    value_names-of : (v : Val) → EachNameValue P v → EachNameValue Q v
    value_names-of (Bound place) h = tt
    value_names-of (Free name) h = f name h
    value_names-of (Lit literal) h = tt
    value_names-of (Fun symbol shape arguments) h = row_names-of arguments h
    value_names-of (Agg aggregate body) h = names-of body h

    row_names-of : {n : _} (row : Vals n) → EachNameRow P row → EachNameRow Q row
    row_names-of NoVals h = tt
    row_names-of (ValThen value rest) h = (value_names-of value h.0, row_names-of rest h.1)

unused-below : (outs : ℕ) (u : U) → IsFreeBelow outs u → IsUnused outs u
unused-below outs u h = names-of (λ x. x < outs) (λ x. x ≢ outs) (λ x less. omega (arith, less)) u h

module _ (outs : ℕ) where
  pub known-left : (k : ℕ) (a b : U) → IsKnown k outs (a ⊕ b) → IsKnown k outs a
  unfolding IsClosed EachName constructors
  known-left k a b h = record { closed = h.closed.0; named = h.named.0 }

  pub known-right : (k : ℕ) (a b : U) → IsKnown k outs (a ⊕ b) → IsKnown k outs b
  unfolding IsClosed EachName constructors
  known-right k a b h = record { closed = h.closed.1; named = h.named.1 }

  pub known-body : (f : U) → IsKnown 0 outs (S f) → IsKnown 1 outs f
  unfolding IsClosed EachName constructors
  known-body f h = record { closed = h.closed; named = h.named }

  pub known-zero : IsKnown 0 outs O
  unfolding IsClosed EachName constructors
  known-zero = record { closed = tt; named = tt }

  name-put : (k i : ℕ) (b : Bool) → EachNameValue (λ x. x < outs + 1) (if b then Free outs else Bound i)
  unfolding EachName
  name-put k i true = omega arith
  name-put k i false = tt

  name-stays : (k x : ℕ) → x < outs → EachNameValue (λ y. y < outs + 1) (same_name k x)
  unfolding EachName
  name-stays k x less = omega (arith, less)

  pub known-opened : (f : U) → IsKnown 1 outs f → IsKnown 0 (outs + 1) (opened f outs)
  known-opened f h = record {
    closed = opened-closed f outs h.closed;
    named = names-mapped (λ x. x < outs) (λ x. x < outs + 1) (value_for_place (Free outs)) same_name (λ k i. name-put k i (nat_eq i k)) name-stays f 0 h.named;
  }

  -- a body with a name for its place and again a place for the name
  pub body-again : (f : U) → IsKnown 1 outs f → closed_at (opened f outs) outs ≡ f
  body-again f h = closed_at-opened f outs (unused-below outs f h.named)

  -- the same of a derivation's first term
  pub again-at : (n : ℕ) (f from : U) → n ≡ outs → from ≡ opened f outs → IsKnown 1 outs f → closed_at from n ≡ f
  again-at n f from en e h = ap (λ (k : ℕ). closed_at from k) en ∙ ap (λ (t : U). closed_at t outs) e ∙ body-again f h

  pub in_row-known : (u : U) → IsKnown 0 outs u → IsKnown 0 outs (sum_of (add_leaves u))
  in_row-known = in_row-has (λ u. IsKnown 0 outs u) known-zero (known-Add 0 outs) (known-left 0) (known-right 0)

  pub known-factor_left : (k : ℕ) (a b : U) → IsKnown k outs (a ⊗ b) → IsKnown k outs a
  unfolding IsClosed EachName constructors
  known-factor_left k a b h = record { closed = h.closed.0; named = h.named.0 }

  pub known-factor_right : (k : ℕ) (a b : U) → IsKnown k outs (a ⊗ b) → IsKnown k outs b
  unfolding IsClosed EachName constructors
  known-factor_right k a b h = record { closed = h.closed.1; named = h.named.1 }

  pub known-one : IsKnown 0 outs I
  unfolding IsClosed EachName constructors
  known-one = record { closed = tt; named = tt }

  pub in_order-known : (u : U) → IsKnown 0 outs u → IsKnown 0 outs (product_of (ordered (mul_leaves u)))
  in_order-known = in_order-has (λ u. IsKnown 0 outs u) known-one (known-Mul 0 outs) (known-factor_left 0) (known-factor_right 0)

pub in_row-leaves : (u : U) → IsPermutation (add_leaves u) (add_leaves (sum_of (add_leaves u)))
in_row-leaves u = subst (λ (us : List U). IsPermutation (add_leaves u) us) (sym (leaves-in_row u)) (IsPermutation-refl (add_leaves u))

-- ---- the last term of a derivation
pub to-known : (F : Facts) (outs : ℕ) (d : Derivation) → IsBy F outs d → IsSound d → IsKnown 0 outs d.to
to-known F outs d by sound = subst (λ (n : ℕ). IsKnown 0 n d.to) by.outs (last-known d sound)

-- ---- factors that are taken out
module _ (outs : ℕ) where
  pub rest-known : {t rest part : U} → Takes t rest part → IsKnown 0 outs t → IsKnown 0 outs rest
  rest-known h = rest-has (λ u. IsKnown 0 outs u) (known-one outs) (known-Mul 0 outs) (known-factor_left outs 0) (known-factor_right outs 0) h

  pub part-known : {t rest part : U} → Takes t rest part → IsKnown 0 outs t → IsKnown 0 outs part
  part-known h = part-has (λ u. IsKnown 0 outs u) (known-one outs) (known-Mul 0 outs) (known-factor_left outs 0) (known-factor_right outs 0) h

  pub known-squashed : (p : U) → IsKnown 0 outs (sq p) → IsKnown 0 outs p
  unfolding IsClosed EachName constructors
  known-squashed p h = record { closed = h.closed; named = h.named }

  pub known-negated : (p : U) → IsKnown 0 outs (neg p) → IsKnown 0 outs p
  unfolding IsClosed EachName constructors
  known-negated p h = record { closed = h.closed; named = h.named }

  pub known-unwrapped : (w : Wrap) (p : U) → IsKnown 0 outs (wrapped w p) → IsKnown 0 outs p
  known-unwrapped wrap.Squash p h = known-squashed p h
  known-unwrapped wrap.Not p h = known-negated p h
