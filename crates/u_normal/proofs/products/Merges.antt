-- Factors of one kind in a product, and two of them that become one.
use Rattle.std.proofs.Common.{◌≡◌, ◌+◌, ◌≤◌, ◌<◌, Bool, true, false, cond, List, [], ◌∷◌, length, Some, None, refl, ap, sym, subst, ◌∙◌, arith}
use Rattle.std.specs.Prelude.{Option, if◌then◌else◌}
use Rattle.data_model.specs.Lists.{Each}
use Rattle.u_terms.specs.declared.term.U.TheVariants as u
use Rattle.u_terms.specs.Syntax.{U, Zero, One, Add, Mul, Squash as SquashOf, Not as NotOf, Sum, Rel, Eq, Pred, constructors}
use Rattle.u_terms.specs.Size.{nodes}
use Rattle.u_terms.proofs.Sizes.{nodes-Add, nodes-Mul, nodes-Squash, nodes-Not}
use Rattle.u_rules.specs.Terms.{◌⊗◌, ◌⊕◌, mul_leaves, neg, sq}
use Rattle.u_rules.proofs.multisets.LeavesAt.{mul_leaves-Mul, mul_leaves-Squash, mul_leaves-Not}
use Rattle.normal_form.specs.declared.kind.Kind.{Kind}
use Rattle.normal_form.specs.declared.kind.Kind.TheVariants.{Mark, Atom, Squash, Negation}
use Rattle.normal_form.specs.Kinds.{is_truth, kind_of, is_kind, of_kind}
use Rattle.normal_form.proofs.KindsAt.{is_truth-Add, kind_of-Squash, kind_of-Not}
use Rattle.normal_form.proofs.Lists.{each-append}
use Rattle.u_normal.specs.declared.merging.Wrap.{Wrap}
use Rattle.u_normal.specs.declared.merging.Wrap.TheVariants as wrap
use Rattle.u_normal.specs.declared.merging.Pair.{Pair}
use Rattle.u_normal.specs.Taking.{Takes, HasNone, count}
use Rattle.u_normal.specs.Merging.{wrap_kind, wrapped, both, HasKind, HasKinds, HasOneAtMost, IsPair, IsBoth, IsFewer, IsMerged}
use Rattle.u_normal.proofs.products.Loads.{load-Mul, load-leaf, count-Mul, count-leaf}
use Rattle.u_normal.proofs.products.Takings.{taken-leaf, taken-load, taken-count, each-rest}

-- ---- none of a kind
is_kind-is : (k : Kind) (o : Option Kind) → is_kind k o ≡ true → o ≡ Some k
is_kind-is Mark (Some Mark) e = refl
is_kind-is Mark (Some Atom) e = absurd (cc)
is_kind-is Mark (Some Squash) e = absurd (cc)
is_kind-is Mark (Some Negation) e = absurd (cc)
is_kind-is Mark None e = absurd (cc)
is_kind-is Atom (Some Mark) e = absurd (cc)
is_kind-is Atom (Some Atom) e = refl
is_kind-is Atom (Some Squash) e = absurd (cc)
is_kind-is Atom (Some Negation) e = absurd (cc)
is_kind-is Atom None e = absurd (cc)
is_kind-is Squash (Some Mark) e = absurd (cc)
is_kind-is Squash (Some Atom) e = absurd (cc)
is_kind-is Squash (Some Squash) e = refl
is_kind-is Squash (Some Negation) e = absurd (cc)
is_kind-is Squash None e = absurd (cc)
is_kind-is Negation (Some Mark) e = absurd (cc)
is_kind-is Negation (Some Atom) e = absurd (cc)
is_kind-is Negation (Some Squash) e = absurd (cc)
is_kind-is Negation (Some Negation) e = refl
is_kind-is Negation None e = absurd (cc)

kept-none : (k : Kind) (x : U) (xs : List U) (b : Bool) → is_kind k (kind_of x) ≡ b → (kind_of x ≡ Some k → ⊥) → length xs ≡ 0 → length (cond b (x ∷ xs) xs) ≡ 0
kept-none k x xs true e other h = absurd (other (is_kind-is k (kind_of x) e))
kept-none k x xs false e other h = h

none-kept : (k : Kind) (us : List U) → Each (λ x. kind_of x ≡ Some k → ⊥) us → length (of_kind k us) ≡ 0
none-kept k [] h = refl
none-kept k (x ∷ xs) h = kept-none k x (of_kind k xs) (is_kind k (kind_of x)) refl h.0 (none-kept k xs h.1)

pub none-count : (k : Kind) (t : U) → HasNone (Some k) t → count k t ≡ 0
none-count k t h = none-kept k (mul_leaves t) h.none

own-kind : (k : Kind) → is_kind k (Some k) ≡ true
own-kind Mark = refl
own-kind Atom = refl
own-kind Squash = refl
own-kind Negation = refl

pub count-one : (k : Kind) (t : U) → mul_leaves t ≡ t ∷ [] → kind_of t ≡ Some k → count k t ≡ 1
count-one k t e is = count-leaf k t e ∙ ap (λ (o : Option Kind). cond (is_kind k o) 1 0) is ∙ ap (λ (b : Bool). cond b 1 0) (own-kind k)

pub count-other : (k other : Kind) (t : U) → mul_leaves t ≡ t ∷ [] → kind_of t ≡ Some other → is_kind k (Some other) ≡ false → count k t ≡ 0
count-other k other t e is f = count-leaf k t e ∙ ap (λ (o : Option Kind). cond (is_kind k o) 1 0) is ∙ ap (λ (b : Bool). cond b 1 0) f

-- ---- one at most
pub few-none : (w : Wrap) (t : U) → HasNone (Some (wrap_kind w)) t → HasOneAtMost w t
few-none w t h = record { few = omega (arith, none-count (wrap_kind w) t h) }

pub few-one : (w : Wrap) (t rest part : U) → Takes t rest part → kind_of part ≡ Some (wrap_kind w) → HasNone (Some (wrap_kind w)) rest → HasOneAtMost w t
few-one w t rest part h is none =
    record { few = omega (arith, taken-count (wrap_kind w) h, none-count (wrap_kind w) rest none, count-one (wrap_kind w) part (taken-leaf h) is) }

-- ---- what is squashed or negated
pub wrapped-squash : (w : Wrap) (t p : U) → t ≡ sq p → kind_of t ≡ Some (wrap_kind w) → t ≡ wrapped w p
wrapped-squash wrap.Squash t p e is = e
wrapped-squash wrap.Not t p e is = let k : Some Squash ≡ Some Negation = sym (kind_of-Squash p) ∙ sym (ap kind_of e) ∙ is in absurd (cc)

pub no-squash : (b : Bool) → Some (if b then Mark else Negation) ≡ Some Squash → ⊥
no-squash true e = absurd (cc)
no-squash false e = absurd (cc)

pub wrapped-not : (w : Wrap) (t p : U) → t ≡ neg p → kind_of t ≡ Some (wrap_kind w) → t ≡ wrapped w p
wrapped-not wrap.Squash t p e is = absurd (no-squash (is_truth p) (sym (kind_of-Not p) ∙ sym (ap kind_of e) ∙ is))
wrapped-not wrap.Not t p e is = e

pub nothing-else : (w : Wrap) (t : U) → kind_of t ≡ Some (wrap_kind w) → ((p : U) → t ≡ u.Squash p → ⊥) → ((p : U) → t ≡ u.Not p → ⊥) → ⊥
unfolding kind_of constructors
nothing-else w (SquashOf a) is not_squash not_not = not_squash a refl
nothing-else w (NotOf a) is not_squash not_not = not_not a refl
nothing-else wrap.Squash Zero is not_squash not_not = absurd (cc)
nothing-else wrap.Squash One is not_squash not_not = absurd (cc)
nothing-else wrap.Squash (Add a b) is not_squash not_not = absurd (cc)
nothing-else wrap.Squash (Mul a b) is not_squash not_not = absurd (cc)
nothing-else wrap.Squash (Sum body) is not_squash not_not = absurd (cc)
nothing-else wrap.Squash (Rel table shape arguments) is not_squash not_not = absurd (cc)
nothing-else wrap.Squash (Eq a b) is not_squash not_not = absurd (cc)
nothing-else wrap.Squash (Pred symbol shape arguments) is not_squash not_not = absurd (cc)
nothing-else wrap.Not Zero is not_squash not_not = absurd (cc)
nothing-else wrap.Not One is not_squash not_not = absurd (cc)
nothing-else wrap.Not (Add a b) is not_squash not_not = absurd (cc)
nothing-else wrap.Not (Mul a b) is not_squash not_not = absurd (cc)
nothing-else wrap.Not (Sum body) is not_squash not_not = absurd (cc)
nothing-else wrap.Not (Rel table shape arguments) is not_squash not_not = absurd (cc)
nothing-else wrap.Not (Eq a b) is not_squash not_not = absurd (cc)
nothing-else wrap.Not (Pred symbol shape arguments) is not_squash not_not = absurd (cc)

-- ---- two become one
both-leaf : (w : Wrap) (p q : U) → mul_leaves (both w p q) ≡ both w p q ∷ []
both-leaf wrap.Squash p q = mul_leaves-Squash (p ⊗ q)
both-leaf wrap.Not p q = mul_leaves-Not (p ⊕ q)

both-kind : (w : Wrap) (p q : U) → kind_of (both w p q) ≡ Some (wrap_kind w)
both-kind wrap.Squash p q = kind_of-Squash (p ⊗ q)
both-kind wrap.Not p q = kind_of-Not (p ⊕ q) ∙ ap (λ (b : Bool). Some (if b then Mark else Negation)) (is_truth-Add p q)

both-nodes : (w : Wrap) (p q : U) → nodes (both w p q) + 1 < (nodes (wrapped w p) + 1) + (nodes (wrapped w q) + 1)
both-nodes wrap.Squash p q = omega (arith, nodes-Squash (p ⊗ q), nodes-Mul p q, nodes-Squash p, nodes-Squash q)
both-nodes wrap.Not p q = omega (arith, nodes-Not (p ⊕ q), nodes-Add p q, nodes-Not p, nodes-Not q)

squashes-both : (w : Wrap) (p q first : U) → mul_leaves first ≡ first ∷ [] → kind_of first ≡ Some (wrap_kind w) → count Squash (both w p q) ≤ count Squash first
squashes-both wrap.Squash p q first e is = omega (arith, count-one Squash (both wrap.Squash p q) (both-leaf wrap.Squash p q) (both-kind wrap.Squash p q), count-one Squash first e is)
squashes-both wrap.Not p q first e is = omega (arith, count-other Squash Negation (both wrap.Not p q) (both-leaf wrap.Not p q) (both-kind wrap.Not p q) refl)

module _ (w : Wrap) (t : U) (pair : Pair) (h : IsPair w t pair) (p q : U) (first_is : pair.first ≡ wrapped w p) (second_is : pair.second ≡ wrapped w q) where
  fewer-kinds : HasKinds t → HasKinds (both w p q ⊗ pair.rest)
  fewer-kinds k = record {
    each = subst (λ (us : List U). Each HasKind us) (sym (mul_leaves-Mul (both w p q) pair.rest))
        (each-append HasKind (mul_leaves (both w p q)) (mul_leaves pair.rest)
        (subst (λ (us : List U). Each HasKind us) (sym (both-leaf w p q)) (record { kind = wrap_kind w; is = both-kind w p q }, tt))
        (each-rest HasKind h.second_takes (each-rest HasKind h.first_takes k.each)));
  }

  pub fewer : IsFewer w t (both w p q ⊗ pair.rest)
  fewer = record {
    kinds = fewer-kinds;
    squashes = omega (arith, count-Mul Squash (both w p q) pair.rest, taken-count Squash h.first_takes, taken-count Squash h.second_takes, squashes-both w p q pair.first (taken-leaf h.first_takes) h.first_is);
    light = omega (arith, load-Mul (both w p q) pair.rest, taken-load h.first_takes, taken-load h.second_takes, load-leaf (both w p q) (both-leaf w p q), load-leaf pair.first (taken-leaf h.first_takes), load-leaf pair.second (taken-leaf h.second_takes), both-nodes w p q, ap nodes first_is, ap nodes second_is);
  }

-- ---- one after the other
pub merged-still : (w : Wrap) (t s : U) → s ≡ t → HasKinds t → HasOneAtMost w t → IsMerged w t s
merged-still w t s e k h = subst (λ (x : U). IsMerged w t x) (sym e) (record { kinds = k; few = h.few; squashes = omega arith; light = omega arith })

pub merged-then : (w : Wrap) (t m s : U) → IsFewer w t m → IsMerged w m s → IsMerged w t s
merged-then w t m s h k = record { kinds = k.kinds; few = k.few; squashes = omega (arith, h.squashes, k.squashes); light = omega (arith, h.light, k.light) }

-- ---- what stands around the bodies
pub both-by : (w v : Wrap) (p q first second t : U) → w ≡ v → first ≡ wrapped w p → second ≡ wrapped w q → t ≡ both v p q → IsBoth w first second t
both-by w v p q first second t e f s h = record { p = p; q = q; first_is = f; second_is = s; is = h ∙ ap (λ (x : Wrap). both x p q) (sym e) }
