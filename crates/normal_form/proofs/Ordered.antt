-- Factors by their kinds: all are there, and each list has factors of its kind.
use Rattle.std.proofs.Common.{◌≡◌, Bool, cond, List, [], ◌∷◌, ◌++◌, refl, ap, sym, subst, Some}
use Rattle.std.specs.Prelude.{IsPermutation, Option}
use Rattle.std.proofs.lemmas.List.Sorted.{IsPermutation-refl, IsPermutation-trans, IsPermutation-cons, IsPermutation-sym, IsPermutation-append, IsPermutation-middle}
use Rattle.data_model.specs.Lists.{Each}
use Rattle.u_terms.specs.Syntax.{U}
use Rattle.normal_form.specs.declared.kind.Kind.{Kind}
use Rattle.normal_form.specs.declared.kind.Kind.TheVariants.{Mark, Atom, Squash, Negation}
use Rattle.normal_form.specs.Kinds.{is_truth, kind_of, is_kind, of_kind, ordered}
use Rattle.normal_form.specs.NormalTerms.{IsFactor, AreFactors, no_factor, factor_then, equality, predicate, no_equality, no_predicate, relation, squash, negation}
use Rattle.normal_form.specs.LooseTerms.{IsSomeFactor}

pub kind-of_factor : (kind : Kind) (u : U) → IsFactor kind u → kind_of u ≡ Some kind
unfolding kind_of is_truth
kind-of_factor kind u (equality a b) = refl
kind-of_factor kind u (predicate vs) = refl
kind-of_factor kind u (no_equality a b) = refl
kind-of_factor kind u (no_predicate vs) = refl
kind-of_factor kind u (relation vs) = refl
kind-of_factor kind u (squash n) = refl
kind-of_factor kind u (negation n e) = ap (λ (b : Bool). Some (cond b Mark Negation)) e

-- ---- those of one kind
pub first-of_kind : (k kind : Kind) (u : U) (us : List U) → kind_of u ≡ Some kind → of_kind k (u ∷ us) ≡ cond (is_kind k (Some kind)) (u ∷ of_kind k us) (of_kind k us)
first-of_kind k kind u us e = ap (λ (o : Option Kind). cond (is_kind k o) (u ∷ of_kind k us) (of_kind k us)) e

of_kind-then : (k kind : Kind) (u : U) (us : List U) → IsFactor kind u → AreFactors k us → AreFactors k (cond (is_kind k (Some kind)) (u ∷ us) us)
of_kind-then Mark Mark u us h hs = factor_then h hs
of_kind-then Mark Atom u us h hs = hs
of_kind-then Mark Squash u us h hs = hs
of_kind-then Mark Negation u us h hs = hs
of_kind-then Atom Mark u us h hs = hs
of_kind-then Atom Atom u us h hs = factor_then h hs
of_kind-then Atom Squash u us h hs = hs
of_kind-then Atom Negation u us h hs = hs
of_kind-then Squash Mark u us h hs = hs
of_kind-then Squash Atom u us h hs = hs
of_kind-then Squash Squash u us h hs = factor_then h hs
of_kind-then Squash Negation u us h hs = hs
of_kind-then Negation Mark u us h hs = hs
of_kind-then Negation Atom u us h hs = hs
of_kind-then Negation Squash u us h hs = hs
of_kind-then Negation Negation u us h hs = factor_then h hs

pub are-of_kind : (k : Kind) (us : List U) → Each IsSomeFactor us → AreFactors k (of_kind k us)
are-of_kind k [] h = no_factor
are-of_kind k (u ∷ us) h =
    subst (λ (vs : List U). AreFactors k vs) (sym (first-of_kind k h.0.kind u us (kind-of_factor h.0.kind u h.0.is))) (of_kind-then k h.0.kind u (of_kind k us) h.0.is (are-of_kind k us h.1))

-- ---- all are there
-- one more of a kind comes to the front of those of its kind
abbrev with_kinds : (Kind → List U) → List U
with_kinds of = of Mark ++ (of Atom ++ (of Squash ++ of Negation))

abbrev put_first : Kind → U → (Kind → List U) → Kind → List U
put_first kind u of k = cond (is_kind k (Some kind)) (u ∷ of k) (of k)

put-there : (kind : Kind) (u : U) (of : Kind → List U) → IsPermutation (u ∷ with_kinds of) (with_kinds (put_first kind u of))
put-there Mark u of = IsPermutation-refl _
put-there Atom u of = IsPermutation-sym _ _ (IsPermutation-middle (of Mark) u (of Atom ++ (of Squash ++ of Negation)))
put-there Squash u of =
    IsPermutation-trans _ _ _ (IsPermutation-sym _ _ (IsPermutation-middle (of Mark) u (of Atom ++ (of Squash ++ of Negation))))
    (IsPermutation-append (of Mark) (of Mark) _ _ (IsPermutation-refl _) (IsPermutation-sym _ _ (IsPermutation-middle (of Atom) u (of Squash ++ of Negation))))
put-there Negation u of =
    IsPermutation-trans _ _ _ (IsPermutation-sym _ _ (IsPermutation-middle (of Mark) u (of Atom ++ (of Squash ++ of Negation))))
    (IsPermutation-append (of Mark) (of Mark) _ _ (IsPermutation-refl _)
    (IsPermutation-trans _ _ _ (IsPermutation-sym _ _ (IsPermutation-middle (of Atom) u (of Squash ++ of Negation)))
    (IsPermutation-append (of Atom) (of Atom) _ _ (IsPermutation-refl _) (IsPermutation-sym _ _ (IsPermutation-middle (of Squash) u (of Negation))))))

pub all-ordered : (us : List U) → Each IsSomeFactor us → IsPermutation us (ordered us)
all-ordered [] h = IsPermutation-refl []
all-ordered (u ∷ us) h =
    let e = kind-of_factor h.0.kind u h.0.is in
    IsPermutation-trans _ _ _ (IsPermutation-cons u us (ordered us) (all-ordered us h.1))
    (subst (λ (o : Option Kind). IsPermutation (u ∷ ordered us) (with_kinds (λ k. cond (is_kind k o) (u ∷ of_kind k us) (of_kind k us)))) (sym e) (put-there h.0.kind u (λ k. of_kind k us)))
