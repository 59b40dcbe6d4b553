-- What is known of the parts of a term that is known.
use Rattle.std.proofs.Common.{◌≡◌, ℕ, zero, suc, ◌+◌, ◌<◌, Bool, true, false, List, ◌++◌, sym, subst, ◌∙◌, ap, refl, arith}
use Rattle.std.specs.Prelude.{nat_eq, IsPermutation}
use Rattle.std.proofs.lemmas.Bool.Decides.{nat_tests}
use Rattle.std.proofs.lemmas.List.Sorted.{IsPermutation-trans, IsPermutation-append_comm}
use Rattle.u_terms.specs.Syntax.{U, Val, Bound, Free, constructors}
use Rattle.u_terms.specs.Places.{IsClosed}
use Rattle.u_terms.specs.Names.{EachName, IsFreeBelowValue}
use Rattle.u_terms.specs.Binding.{closed_at, mapped, place_for_name, same_place, sums}
use Rattle.u_terms.proofs.Binding.{mapped_value-same}
use Rattle.u_rules.specs.Terms.{◌⊗◌, ◌≐◌, I, S, mul_leaves}
use Rattle.u_rules.proofs.multisets.LeavesAt.{mul_leaves-Mul}
use Rattle.u_moves.specs.Derivations.{IsKnown}
use Rattle.u_moves.specs.Moving.{IsKnownValue}
use Rattle.u_normal.specs.Taking.{Takes, alone, from_left, from_right}
use Rattle.u_congruence.proofs.Turned.{known-Mul}
use Rattle.u_normal.proofs.terms.KnownParts.{part-known, rest-known}
use Rattle.u_normal.proofs.products.Takings.{taken-leaves}
use Rattle.u_simple.specs.Points.{IsPoint, equation}
use Rattle.u_simple.specs.declared.points.Point.{Point}

module _ (outs : ℕ) where
  pub known-first : (a b : Val) → IsKnown 0 outs (a ≐ b) → IsKnownValue outs a
  unfolding IsClosed EachName constructors
  known-first a b h = record { closed = h.closed.0; named = h.named.0 }

  pub known-second : (a b : Val) → IsKnown 0 outs (a ≐ b) → IsKnownValue outs b
  unfolding IsClosed EachName constructors
  known-second a b h = record { closed = h.closed.1; named = h.named.1 }

  pub known-equality : (a b : Val) → IsKnownValue outs a → IsKnownValue outs b → IsKnown 0 outs (a ≐ b)
  unfolding IsClosed EachName constructors
  known-equality a b h k = record { closed = (h.closed, k.closed); named = (h.named, k.named) }

  known-under : (k : ℕ) (f : U) → IsKnown k outs (S f) → IsKnown (k + 1) outs f
  unfolding IsClosed EachName constructors
  known-under k f h = record { closed = h.closed; named = h.named }

  pub known-inside : (k count : ℕ) (f : U) → IsKnown k outs (sums count f) → IsKnown (k + count) outs f
  known-inside k zero f h = let e : k ≡ k + 0 = omega arith in subst (λ (m : ℕ). IsKnown m outs f) e h
  known-inside k (suc count) f h =
      let e : k + 1 + count ≡ k + suc count = omega arith in
      subst (λ (m : ℕ). IsKnown m outs f) e (known-inside (k + 1) count f (known-under k (sums count f) h))

-- ---- an equality that says what value a name has
module _ (x : ℕ) where
  pub known-point : (u : U) (point : Point) → IsPoint x u point → IsKnown 0 (x + 1) u → IsKnownValue x point.value
  known-point u point h known = record { closed = (value-of point.turned (part-known (x + 1) h.takes known)).closed; named = h.apart }
    where
      value-of : (turned : Bool) → IsKnown 0 (x + 1) (equation x point.value turned) → IsKnownValue (x + 1) point.value
      value-of true k = known-first (x + 1) point.value (Free x) k
      value-of false k = known-second (x + 1) (Free x) point.value k

  stays : (k name : ℕ) → name < x → place_for_name x k name ≡ Free name
  stays k name less = let e : nat_eq name x ≡ false = grind (arith, nat_tests) in rw e refl

  pub closed-point : (value : Val) (rest : U) → IsFreeBelowValue x value → closed_at ((Free x ≐ value) ⊗ rest) x ≡ (Bound 0 ≐ value) ⊗ closed_at rest x
  unfolding mapped constructors
  closed-point value rest below =
      let same : nat_eq x x ≡ true = grind (arith, nat_tests) in
      rw (same, mapped_value-same (λ (name : ℕ). name < x) same_place (place_for_name x) (λ k i. refl) stays value 0 below) refl

-- ---- factors that are taken out
pub front-leaves : (u rest part : U) → Takes u rest part → IsPermutation (mul_leaves u) (mul_leaves (part ⊗ rest))
front-leaves u rest part h =
    IsPermutation-trans (mul_leaves u) (mul_leaves (rest ⊗ part)) (mul_leaves (part ⊗ rest)) (taken-leaves u rest part h)
    (subst (λ (us : List U). IsPermutation us (mul_leaves (part ⊗ rest))) (sym (mul_leaves-Mul rest part))
    (subst (λ (us : List U). IsPermutation (mul_leaves rest ++ mul_leaves part) us) (sym (mul_leaves-Mul part rest))
    (IsPermutation-append_comm (mul_leaves rest) (mul_leaves part))))

module _ (name : ℕ) where
  point-of : (u : U) (point : Point) (rest : U) (value : Val) (turned : Bool) → point.rest ≡ rest → point.value ≡ value → point.turned ≡ turned
      → Takes u rest (equation name value turned) → IsFreeBelowValue name value → IsPoint name u point
  point-of u point rest value turned er ev et h below = record {
    takes = subst (λ (r : U). Takes u r (equation name point.value point.turned)) (sym er)
        (subst (λ (v : Val). Takes u rest (equation name v point.turned)) (sym ev)
        (subst (λ (t : Bool). Takes u rest (equation name value t)) (sym et) h));
    apart = subst (λ (v : Val). IsFreeBelowValue name v) (sym ev) below;
  }

  alone-equality : (a b : Val) → Takes (a ≐ b) I (a ≐ b)
  alone-equality a b = alone (λ e. absurd (cc)) (λ x y e. absurd (cc))

  pub point-before : (u a b : U) (found whole : Point) → u ≡ a ⊗ b → IsPoint name a found
      → whole.value ≡ found.value → whole.turned ≡ found.turned → whole.rest ≡ found.rest ⊗ b → IsPoint name u whole
  unfolding constructors
  point-before u a b found whole e h ev et er =
      point-of u whole (found.rest ⊗ b) found.value found.turned er ev et (subst (λ (t : U). Takes t (found.rest ⊗ b) (equation name found.value found.turned)) (sym e) (from_left {b = b} h.takes)) h.apart

  pub point-behind : (u a b : U) (found whole : Point) → u ≡ a ⊗ b → IsPoint name b found
      → whole.value ≡ found.value → whole.turned ≡ found.turned → whole.rest ≡ a ⊗ found.rest → IsPoint name u whole
  unfolding constructors
  point-behind u a b found whole e h ev et er =
      point-of u whole (a ⊗ found.rest) found.value found.turned er ev et (subst (λ (t : U). Takes t (a ⊗ found.rest) (equation name found.value found.turned)) (sym e) (from_right {a = a} h.takes)) h.apart

  pub point-first : (u : U) (a b : Val) (whole : Point) → u ≡ a ≐ b → a ≡ Free name → IsFreeBelowValue name b
      → whole.value ≡ b → whole.turned ≡ false → whole.rest ≡ I → IsPoint name u whole
  point-first u a b whole e is below ev et er =
      point-of u whole I b false er ev et (subst (λ (t : U). Takes t I (Free name ≐ b)) (sym (e ∙ ap (λ (v : Val). v ≐ b) is)) (alone-equality (Free name) b)) below

  pub point-second : (u : U) (a b : Val) (whole : Point) → u ≡ a ≐ b → b ≡ Free name → IsFreeBelowValue name a
      → whole.value ≡ a → whole.turned ≡ true → whole.rest ≡ I → IsPoint name u whole
  point-second u a b whole e is below ev et er =
      point-of u whole I a true er ev et (subst (λ (t : U). Takes t I (a ≐ Free name)) (sym (e ∙ ap (λ (v : Val). a ≐ v) is)) (alone-equality a (Free name))) below

pub known-taken : (outs : ℕ) (u rest part : U) → Takes u rest part → IsKnown 0 outs u → IsKnown 0 outs (part ⊗ rest)
known-taken outs u rest part h known = known-Mul 0 outs part rest (part-known outs h known) (rest-known outs h known)
