-- What is joined is entailed.
use Rattle.std.proofs.Common.{◌≡◌, ℕ, zero, suc, ◌+◌, ◌<◌, ◌≤◌, List, [], ◌∷◌, length, inl, inr, refl, sym, ◌∙◌, subst, arith}
use Rattle.std.specs.Prelude.{true, false, Some, slice_get}
use Rattle.std.proofs.lemmas.Option.{same_Some}
use Rattle.u_terms.specs.Syntax.{U, Val}
use Rattle.u_terms.specs.declared.term.Val.TheVariants as v
use Rattle.u_equal.specs.declared.forest.Edge.{Edge}
use Rattle.u_equal.specs.declared.forest.Reason.{Reason}
use Rattle.u_equal.specs.declared.forest.Reason.TheVariants.{Given, Called}
use Rattle.u_rules.specs.Terms.{mul_leaves}
use Rattle.u_equal.specs.Standing.{Stands, standing}
use Rattle.u_equal.specs.Entails.{Entails, EntailsEach, itself, given, turned, through, calls, none, more}
use Rattle.u_equal.specs.Joined.{edge_at, label_at, Same, SameEach, AreCalls, HasReason, IsEdge}
use Rattle.u_equal.proofs.edges.Labels.{before, across, across_turned, joined_by}

module _ (product : U) (values : List Val) where
  -- the values at places with one label are entailed
  abbrev pub Tells : (ℕ → ℕ) → Type 0
  Tells label = (i j : ℕ) (a b : Val) → slice_get values i ≡ Some a → slice_get values j ≡ Some b → label i ≡ label j → Entails product a b

  pub same-entailed : (label : ℕ → ℕ) → Tells label → (a b : Val) → Same values label a b → Entails product a b
  same-entailed label tells a b (inl is) = subst (λ (x : Val). Entails product a x) is (itself a)
  same-entailed label tells a b (inr j) = tells j.left j.right a b j.is_left.here j.is_right.here j.joined

  each-entailed : (label : ℕ → ℕ) → Tells label → (xs ys : List Val) → SameEach values label xs ys → EntailsEach product xs ys
  each-entailed label tells [] [] each = none
  each-entailed label tells [] (b ∷ ys) each = absurd (omega (arith, each.long))
  each-entailed label tells (a ∷ xs) [] each = absurd (omega (arith, each.long))
  each-entailed label tells (a ∷ xs) (b ∷ ys) each =
      more a b xs ys (same-entailed label tells a b (each.each 0 a b refl refl))
      (each-entailed label tells xs ys (record { long = omega (arith, each.long); each = λ k c d at_c at_d. each.each (suc k) c d at_c at_d }))

  calls-entailed : (label : ℕ → ℕ) → Tells label → (a b : Val) → Stands a product → Stands b product → AreCalls values label a b → Entails product a b
  calls-entailed label tells a b sa sb c =
      subst (λ (x : Val). Entails product x b) (sym c.is_from)
      (subst (λ (x : Val). Entails product (v.Fun c.symbol c.from) x) (sym c.is_to)
      (calls c.symbol c.from c.to (subst (λ (x : Val). Stands x product) c.is_from sa) (subst (λ (x : Val). Stands x product) c.is_to sb) (each-entailed label tells c.from c.to c.each)))

  reason-entailed : (label : ℕ → ℕ) → Tells label → (a b : Val) (reason : Reason) → HasReason (mul_leaves product) (standing product) values label a b reason → Entails product a b
  reason-entailed label tells a b (Given factor false) h = given factor a b h
  reason-entailed label tells a b (Given factor true) h = turned b a (given factor b a h)
  reason-entailed label tells a b Called h = calls-entailed label tells a b h.0 h.1 h.2

  pub edge-entailed : (label : ℕ → ℕ) (e : Edge) → Tells label → (h : IsEdge (mul_leaves product) (standing product) values label e) → Entails product h.from h.to
  edge-entailed label e tells h = reason-entailed label tells h.from h.to e.reason h.reason

  by_edge : (edges : List Edge) (k : ℕ) → IsEdge (mul_leaves product) (standing product) values (label_at edges k) (edge_at edges k) → Tells (label_at edges k) → Tells (label_at edges (k + 1))
  by_edge edges k h tells i j a b at_i at_j same = elim (joined_by edges k i j same) [
    | before e ↦ tells i j a b at_i at_j e
    | across e f ↦
        through a h.from b (tells i (edge_at edges k).left a h.from at_i h.is_from e)
        (through h.from h.to b (edge-entailed (label_at edges k) (edge_at edges k) tells h) (turned b h.to (tells j (edge_at edges k).right b h.to at_j h.is_to f)))
    | across_turned e f ↦
        through a h.to b (tells i (edge_at edges k).right a h.to at_i h.is_to e)
        (through h.to h.from b (turned h.from h.to (edge-entailed (label_at edges k) (edge_at edges k) tells h)) (turned b h.from (tells j (edge_at edges k).left b h.from at_j h.is_from f)))
  ]

  at_start : (edges : List Edge) → Tells (label_at edges 0)
  unfolding label_at
  at_start edges i j a b at_i at_j same =
      let at_a : slice_get values j ≡ Some a = subst (λ (m : ℕ). slice_get values m ≡ Some a) same at_i in
      subst (λ (x : Val). Entails product a x) (same_Some a b (sym at_a ∙ at_j)) (itself a)

  pub sound : (edges : List Edge) → ((k : ℕ) → k < length edges → IsEdge (mul_leaves product) (standing product) values (label_at edges k) (edge_at edges k)) → (k : ℕ) → k ≤ length edges → Tells (label_at edges k)
  sound edges hold zero within = at_start edges
  sound edges hold (suc k) within =
      subst (λ (m : ℕ). Tells (label_at edges m)) (omega arith) (by_edge edges k (hold k (omega arith)) (sound edges hold k (omega arith)))
