-- What is entailed is joined, where nothing is left to be joined.
use Rattle.std.proofs.Common.{◌≡◌, ℕ, List, ◌∷◌, inl, refl}
use Rattle.u_terms.specs.Syntax.{U, Val}
use Rattle.u_terms.specs.declared.term.Val.TheVariants as v
use Rattle.u_rules.specs.Terms.{mul_leaves}
use Rattle.u_equal.specs.Standing.{standing}
use Rattle.std.specs.Prelude.{Some, slice_get, zero, suc}
use Rattle.std.proofs.lemmas.Option.{same_Some, none-some}
use Rattle.std.proofs.Common.{subst, ap}
use Rattle.u_equal.specs.Entails.{Entails, EntailsEach, itself, given, turned, through, calls, none, more}
use Rattle.u_equal.specs.Joined.{Same, SameEach, HoldsGiven, HoldsCalls}
use Rattle.u_equal.proofs.edges.Labels.{same-back, same-through}

module _ (product : U) (values : List Val) (label : ℕ → ℕ) (holds_given : HoldsGiven (mul_leaves product) values label) (holds_calls : HoldsCalls (standing product) values label) where
  each-at : (a b : Val) (xs ys : List Val) → Same values label a b → SameEach values label xs ys
      → (k : ℕ) (c d : Val) → slice_get (a ∷ xs) k ≡ Some c → slice_get (b ∷ ys) k ≡ Some d → Same values label c d
  each-at a b xs ys h hs zero c d at_c at_d =
      subst (λ (x : Val). Same values label x d) (same_Some a c at_c) (subst (λ (x : Val). Same values label a x) (same_Some b d at_d) h)
  each-at a b xs ys h hs (suc k) c d at_c at_d = hs.each k c d at_c at_d

  each-more : (a b : Val) (xs ys : List Val) → Same values label a b → SameEach values label xs ys → SameEach values label (a ∷ xs) (b ∷ ys)
  each-more a b xs ys h hs = record { long = ap (λ m. suc m) hs.long; each = each-at a b xs ys h hs }

  mutual
    pub complete : (a b : Val) → Entails product a b → Same values label a b
    complete a b (itself c) = inl refl
    complete a b (given factor c d is) = holds_given factor c d is
    complete a b (turned c d h) = same-back values label c d (complete c d h)
    complete a b (through c d e h k) = same-through values label c d e (complete c d h) (complete d e k)
    complete a b (calls f xs ys sx sy each) =
        holds_calls (v.Fun f xs) (v.Fun f ys) sx sy (record { symbol = f; from = xs; to = ys; is_from = refl; is_to = refl; each = complete_each xs ys each })

    complete_each : (xs ys : List Val) → EntailsEach product xs ys → SameEach values label xs ys
    complete_each xs ys none = record { long = refl; each = λ k a b at_a at_b. absurd (none-some a at_a) }
    complete_each xs ys (more a b as' bs h hs) = each-more a b as' bs (complete a b h) (complete_each as' bs hs)
