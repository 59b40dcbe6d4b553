-- Heads of products, and what their factors become.
use Rattle.std.proofs.Common.{◌≡◌, ℕ, ◌+◌, ◌*◌, ◌≤◌, ◌<◌, max, Bool, true, false, List, [], ◌∷◌, ◌++◌, Some, None, refl, ap, sym, subst, ◌∙◌, arith}
use Rattle.std.specs.Prelude.{IsPermutation, Option, if◌then◌else◌}
use Rattle.std.proofs.lemmas.List.Sorted.{IsPermutation-refl, IsPermutation-trans, IsPermutation-cons, IsPermutation-sym, IsPermutation-append, IsPermutation-middle}
use Rattle.data_model.specs.Lists.{Each}
use Rattle.u_terms.specs.declared.term.U.TheVariants as u
use Rattle.u_terms.specs.Syntax.{U, Val, Zero, One, Add, Mul, Squash as SquashOf, Not as NotOf, Sum, Rel, Eq, Pred, constructors}
use Rattle.u_terms.specs.declared.term.U.TheOpen.{U-F}
use Rattle.u_terms.specs.declared.term.U.TheViews.{out-U, roll-U, roll-out-U, rolls-Zero, rolls-One, rolls-Add, rolls-Mul, rolls-Squash, rolls-Not, rolls-Sum, rolls-Rel, rolls-Eq, rolls-Pred}
use Rattle.u_terms.proofs.Sizes.{nodes-Add, nodes-Sum, nodes-Squash, nodes-Not}
use Rattle.u_terms.specs.Products.{product_of}
use Rattle.u_rules.specs.Terms.{◌⊗◌, ◌⊕◌, O, S, mul_leaves}
use Rattle.u_rules.proofs.multisets.LeavesAt.{mul_leaves-Add, mul_leaves-Mul, mul_leaves-Sum, mul_leaves-Squash, mul_leaves-Not}
use Rattle.normal_form.specs.declared.kind.Kind.{Kind}
use Rattle.normal_form.specs.declared.kind.Kind.TheVariants.{Mark, Atom, Squash, Negation}
use Rattle.normal_form.specs.Kinds.{is_truth, kind_of, is_kind, of_kind, ordered}
use Rattle.normal_form.specs.NormalTerms.{IsFactor, IsNormal, IsNormalValue, equality, predicate, no_equality, no_predicate, relation, squash, negation}
use Rattle.normal_form.specs.LooseTerms.{IsSomeFactor, IsProduct}
use Rattle.normal_form.proofs.KindsAt.{kind_of-Zero, kind_of-One, kind_of-Add, kind_of-Mul, kind_of-Sum, is_truth-Squash, is_truth-Not, is_truth-Rel, is_truth-Eq, is_truth-Pred, kind_of-Squash, kind_of-Not, kind_of-Rel, kind_of-Eq, kind_of-Pred}
use Rattle.normal_form.proofs.Leaves.{leaves-in_order, each-ordered}
use Rattle.normal_form.proofs.Lists.{each-append}
use Rattle.normal_form.proofs.Loose.{factor-leaf, not-factor, one-product}
use Rattle.u_normal.specs.Taking.{HasNone, load, count}
use Rattle.u_normal.specs.Merging.{HasKind, HasKinds, IsMerged}
use Rattle.u_normal.specs.declared.merging.Wrap.TheVariants as wrap
use Rattle.u_normal.specs.Heads.{IsSumOrZero, zero, sum, sum_over, IsFactorRow, no_factor, one_factor, first_factor, IsTidy, HasHead, at_sum, at_factors, head_load, IsHeaded}
use Rattle.u_normal.specs.Finishing.{IsFactorOrOne, one, factor, IsFinished, IsPlainFactor, IsFinishedPlain}
use Rattle.u_normal.proofs.products.Loads.{load-Mul, load-leaf, load-small, load-permuted, count-Mul, count-permuted}
use Rattle.u_normal.proofs.derivations.Standing.{normal-row}
use Rattle.u_normal.proofs.products.Merges.{count-one, count-other}

-- ---- each factor has a kind
some-kind : (t : U) (o : Option Kind) → kind_of t ≡ o → (kind_of t ≡ None → ⊥) → HasKind t
some-kind t (Some k) e other = record { kind = k; is = e }
some-kind t None e other = absurd (other e)

each-kind : (us : List U) → Each (λ x. kind_of x ≡ None → ⊥) us → Each HasKind us
each-kind [] h = tt
each-kind (x ∷ xs) h = (some-kind x (kind_of x) refl h.0, each-kind xs h.1)

pub none-kinds : (t : U) → HasNone None t → HasKinds t
none-kinds t h = record { each = each-kind (mul_leaves t) h.none }

-- ---- all are there, by their kinds
abbrev with_kinds : (Kind → List U) → List U
with_kinds of = of Mark ++ (of Atom ++ (of Squash ++ of Negation))

abbrev put_first : Kind → U → (Kind → List U) → Kind → List U
put_first kind t of k = if is_kind k (Some kind) then t ∷ of k else of k

put-there : (kind : Kind) (t : U) (of : Kind → List U) → IsPermutation (t ∷ with_kinds of) (with_kinds (put_first kind t of))
put-there Mark t of = IsPermutation-refl _
put-there Atom t of = IsPermutation-sym _ _ (IsPermutation-middle (of Mark) t (of Atom ++ (of Squash ++ of Negation)))
put-there Squash t of =
    IsPermutation-trans _ _ _ (IsPermutation-sym _ _ (IsPermutation-middle (of Mark) t (of Atom ++ (of Squash ++ of Negation))))
    (IsPermutation-append (of Mark) (of Mark) _ _ (IsPermutation-refl _) (IsPermutation-sym _ _ (IsPermutation-middle (of Atom) t (of Squash ++ of Negation))))
put-there Negation t of =
    IsPermutation-trans _ _ _ (IsPermutation-sym _ _ (IsPermutation-middle (of Mark) t (of Atom ++ (of Squash ++ of Negation))))
    (IsPermutation-append (of Mark) (of Mark) _ _ (IsPermutation-refl _)
    (IsPermutation-trans _ _ _ (IsPermutation-sym _ _ (IsPermutation-middle (of Atom) t (of Squash ++ of Negation)))
    (IsPermutation-append (of Atom) (of Atom) _ _ (IsPermutation-refl _) (IsPermutation-sym _ _ (IsPermutation-middle (of Squash) t (of Negation))))))

all-kinds : (us : List U) → Each HasKind us → IsPermutation us (ordered us)
all-kinds [] h = IsPermutation-refl []
all-kinds (x ∷ us) h =
    IsPermutation-trans _ _ _ (IsPermutation-cons x us (ordered us) (all-kinds us h.1))
    (subst (λ (o : Option Kind). IsPermutation (x ∷ ordered us) (with_kinds (λ k. if is_kind k o then x ∷ of_kind k us else of_kind k us))) (sym h.0.is) (put-there h.0.kind x (λ k. of_kind k us)))

pub in_order-leaves : (t : U) → HasKinds t → IsPermutation (mul_leaves t) (mul_leaves (product_of (ordered (mul_leaves t))))
in_order-leaves t h = subst (λ (us : List U). IsPermutation (mul_leaves t) us) (sym (leaves-in_order t)) (all-kinds (mul_leaves t) h.each)

-- ---- a sum or 0 that is taken out
pub sum-or_zero : (t : U) → (t ≡ u.One → ⊥) → ((a b : U) → t ≡ u.Mul a b → ⊥) → kind_of t ≡ None → IsSumOrZero t
unfolding kind_of constructors
sum-or_zero Zero not_unit not_more e = zero
sum-or_zero One not_unit not_more e = absurd (not_unit refl)
sum-or_zero (Add a b) not_unit not_more e = sum
sum-or_zero (Mul a b) not_unit not_more e = absurd (not_more a b refl)
sum-or_zero (SquashOf a) not_unit not_more e = absurd (cc)
sum-or_zero (NotOf a) not_unit not_more e = absurd (cc)
sum-or_zero (Sum body) not_unit not_more e = sum_over
sum-or_zero (Rel table shape arguments) not_unit not_more e = absurd (cc)
sum-or_zero (Eq a b) not_unit not_more e = absurd (cc)
sum-or_zero (Pred symbol shape arguments) not_unit not_more e = absurd (cc)

pub no-other : (t : U) → IsSumOrZero t → (t ≡ u.Zero → ⊥) → ((a b : U) → t ≡ u.Add a b → ⊥) → ((body : U) → t ≡ u.Sum body → ⊥) → ⊥
unfolding constructors
no-other t zero not_zero not_sum not_over = not_zero refl
no-other t (sum {a = a} {b = b}) not_zero not_sum not_over = not_sum a b refl
no-other t (sum_over {body = body}) not_zero not_sum not_over = not_over body refl

head_load-Zero : head_load u.Zero ≡ load u.Zero
unfolding head_load constructors
head_load-Zero = refl

pub head_load-Add : (a b : U) → head_load (u.Add a b) ≡ max (load a) (load b) + 1
unfolding head_load constructors
head_load-Add a b = refl

pub head_load-Sum : (body : U) → head_load (u.Sum body) ≡ load body + 1
unfolding head_load constructors
head_load-Sum body = refl

pub headed-Zero : (rest part s : U) → part ≡ O → s ≡ O → IsHeaded (load rest + load part) s
unfolding constructors
headed-Zero rest part s e f = subst (λ (x : U). IsHeaded (load rest + load part) x) (sym f) (record { head = at_sum zero; light = omega (arith, head_load-Zero, ap load e) })

pub headed-Add : (rest part a b s : U) → part ≡ u.Add a b → s ≡ rest ⊗ a ⊕ rest ⊗ b → IsHeaded (load rest + load part) s
unfolding constructors
headed-Add rest part a b s e f = subst (λ (x : U). IsHeaded (load rest + load part) x) (sym f) (record {
  head = at_sum sum;
  light = omega (arith, head_load-Add (rest ⊗ a) (rest ⊗ b), load-Mul rest a, load-Mul rest b, load-small a, load-small b, ap load e, load-leaf (u.Add a b) (mul_leaves-Add a b), nodes-Add a b);
})

pub headed-Sum : (rest part f s : U) → part ≡ u.Sum f → s ≡ S (rest ⊗ f) → IsHeaded (load rest + load part) s
unfolding constructors
headed-Sum rest part f s e g = subst (λ (x : U). IsHeaded (load rest + load part) x) (sym g) (record {
  head = at_sum sum_over;
  light = omega (arith, head_load-Sum (rest ⊗ f), load-Mul rest f, load-small f, ap load e, load-leaf (u.Sum f) (mul_leaves-Sum f), nodes-Sum f);
})

-- ---- factors in a row
kind-load : (t : U) → HasKind t → head_load t ≡ load t
unfolding kind_of head_load
kind-load Zero h = refl
kind-load One h = refl
kind-load (Add a b) h = let e : None ≡ Some h.kind = h.is in absurd (cc)
kind-load (Mul a b) h = refl
kind-load (SquashOf a) h = refl
kind-load (NotOf a) h = refl
kind-load (Sum body) h = let e : None ≡ Some h.kind = h.is in absurd (cc)
kind-load (Rel table shape arguments) h = refl
kind-load (Eq a b) h = refl
kind-load (Pred symbol shape arguments) h = refl

pub row-load : (t : U) → IsFactorRow t → head_load t ≡ load t
unfolding head_load
row-load t no_factor = refl
row-load t (one_factor h) = kind-load t h
row-load t (first_factor h k) = refl

row-of : (us : List U) → Each HasKind us → IsFactorRow (product_of us)
unfolding constructors
row-of [] h = no_factor
row-of (x ∷ []) h = one_factor h.0
row-of (x ∷ y ∷ us) h = first_factor h.0 (row-of (y ∷ us) h.1)

pub tidied-headed : (t m s : U) → IsMerged wrap.Squash t m → IsMerged wrap.Not m s → IsHeaded (load t) (product_of (ordered (mul_leaves s)))
tidied-headed t m s h k =
    let row : IsFactorRow (product_of (ordered (mul_leaves s))) = row-of (ordered (mul_leaves s)) (each-ordered HasKind (mul_leaves s) k.kinds.each) in
    let all : IsPermutation (mul_leaves s) (mul_leaves (product_of (ordered (mul_leaves s)))) = in_order-leaves s k.kinds in
    record {
      head = at_factors (record {
        row = row;
        squashes = omega (arith, count-permuted Squash s (product_of (ordered (mul_leaves s))) all, k.squashes, h.few);
        negations = omega (arith, count-permuted Negation s (product_of (ordered (mul_leaves s))) all, k.few);
      });
      light = omega (arith, row-load (product_of (ordered (mul_leaves s))) row, load-permuted s (product_of (ordered (mul_leaves s))) all, k.light, h.light);
    }

tidy-of : (t : U) → HasHead t → (t ≡ u.Zero → ⊥) → ((a b : U) → t ≡ u.Add a b → ⊥) → ((body : U) → t ≡ u.Sum body → ⊥) → IsTidy t
tidy-of t (at_sum h) not_zero not_sum not_over = absurd (no-other t h not_zero not_sum not_over)
tidy-of t (at_factors h) not_zero not_sum not_over = h

pub tidy-at : (t : U) → HasHead t → (t ≡ u.Zero → ⊥) → ((a b : U) → t ≡ u.Add a b → ⊥) → ((body : U) → t ≡ u.Sum body → ⊥) → IsTidy t
tidy-at = tidy-of

no-kind : (a b : U) → HasKind (Mul a b) → ⊥
unfolding kind_of
no-kind a b h = let e : None ≡ Some h.kind = h.is in absurd (cc)

pub row-first : (a b : U) → IsFactorRow (u.Mul a b) → HasKind a
unfolding constructors
row-first a b (one_factor h) = absurd (no-kind a b h)
row-first a b (first_factor h k) = h

pub row-rest : (a b : U) → IsFactorRow (u.Mul a b) → IsFactorRow b
unfolding constructors
row-rest a b (one_factor h) = absurd (no-kind a b h)
row-rest a b (first_factor h k) = k

row-last-of : (t : U) → IsFactorRow t → ((a b : U) → t ≡ u.Mul a b → ⊥) → IsFactorOrOne t
unfolding constructors
row-last-of t no_factor not_more = one
row-last-of t (one_factor h) not_more = factor h
row-last-of t (first_factor {u = x} {rest = rest} h k) not_more = absurd (not_more x rest refl)

pub row-last : (t : U) → IsFactorRow t → ((a b : U) → t ≡ u.Mul a b → ⊥) → IsFactorOrOne t
row-last = row-last-of

-- ---- a factor is a leaf
pub kind-leaf : (t : U) → HasKind t → mul_leaves t ≡ t ∷ []
unfolding kind_of mul_leaves
kind-leaf Zero h = refl
kind-leaf One h = let e : None ≡ Some h.kind = h.is in absurd (cc)
kind-leaf (Add a b) h = refl
kind-leaf (Mul a b) h = let e : None ≡ Some h.kind = h.is in absurd (cc)
kind-leaf (SquashOf a) h = refl
kind-leaf (NotOf a) h = refl
kind-leaf (Sum body) h = refl
kind-leaf (Rel table shape arguments) h = refl
kind-leaf (Eq a b) h = refl
kind-leaf (Pred symbol shape arguments) h = refl

pub kind-heavy : (t : U) → HasKind t → 1 ≤ load t
kind-heavy t h = omega (arith, load-leaf t (kind-leaf t h))

-- ---- what factors become
one-factor : (t : U) → mul_leaves t ≡ t ∷ [] → IsSomeFactor t → IsProduct t
one-factor t e h = record { factors = subst (λ (us : List U). Each IsSomeFactor us) (sym e) (h, tt) }

-- a negation that is none of another term is one of an equality or a predicate
truth-under : (b : Bool) (p : U) → is_truth p ≡ b → (kind_of (u.Not p) ≡ Some Negation → ⊥) → is_truth p ≡ true
truth-under true p e not_negation = e
truth-under false p e not_negation = absurd (not_negation (kind_of-Not p ∙ ap (λ (b : Bool). Some (if b then Mark else Negation)) e))

pub truth-negated_at : (t p : U) → t ≡ u.Not p → (kind_of t ≡ Some Negation → ⊥) → is_truth p ≡ true
truth-negated_at t p e other = truth-under (is_truth p) p refl (λ is. other (ap kind_of e ∙ is))

squash-factor : (p : U) → IsNormal p → IsFactor Squash (u.Squash p)
unfolding constructors
squash-factor p h = squash h

pub finished-squash : (t s p q : U) → t ≡ u.Squash p → s ≡ u.Squash q → IsNormal q → IsFinished t s
finished-squash t s p q e f h = record {
  product = subst (λ (x : U). IsProduct x) (sym f) (one-factor (u.Squash q) (mul_leaves-Squash q) (record { kind = Squash; is = squash-factor q h }));
  squashes = omega (arith, ap (count Squash) f, ap (count Squash) e, count-one Squash (u.Squash q) (mul_leaves-Squash q) (kind_of-Squash q), count-one Squash (u.Squash p) (mul_leaves-Squash p) (kind_of-Squash p));
  negations = omega (arith, ap (count Negation) f, count-other Negation Squash (u.Squash q) (mul_leaves-Squash q) (kind_of-Squash q) refl);
}

no-squashes : (b : Bool) (q : U) → is_truth q ≡ b → count Squash (u.Not q) ≡ 0
no-squashes true q e = count-other Squash Mark (u.Not q) (mul_leaves-Not q) (kind_of-Not q ∙ ap (λ (b : Bool). Some (if b then Mark else Negation)) e) refl
no-squashes false q e = count-other Squash Negation (u.Not q) (mul_leaves-Not q) (kind_of-Not q ∙ ap (λ (b : Bool). Some (if b then Mark else Negation)) e) refl

few-negations : (b : Bool) (q : U) → is_truth q ≡ b → count Negation (u.Not q) ≤ 1
few-negations true q e = omega (arith, count-other Negation Mark (u.Not q) (mul_leaves-Not q) (kind_of-Not q ∙ ap (λ (b : Bool). Some (if b then Mark else Negation)) e) refl)
few-negations false q e = omega (arith, count-one Negation (u.Not q) (mul_leaves-Not q) (kind_of-Not q ∙ ap (λ (b : Bool). Some (if b then Mark else Negation)) e))

pub finished-not : (t s p q : U) → t ≡ u.Not p → s ≡ u.Not q → kind_of t ≡ Some Negation → IsNormal q → IsFinished t s
finished-not t s p q e f is h = record {
  product = subst (λ (x : U). IsProduct x) (sym f) (one-factor (u.Not q) (mul_leaves-Not q) (not-factor q h));
  squashes = omega (arith, ap (count Squash) f, no-squashes (is_truth q) q refl);
  negations = omega (arith, ap (count Negation) f, few-negations (is_truth q) q refl, ap (count Negation) e, count-one Negation (u.Not p) (mul_leaves-Not p) (sym (ap kind_of e) ∙ is));
}

pub finished-Mul : (t a b s x y : U) → t ≡ u.Mul a b → s ≡ x ⊗ y → IsFinished a x → IsFinished b y → IsFinished t s
finished-Mul t a b s x y e f h k = record {
  product = subst (λ (z : U). IsProduct z) (sym f)
      (record { factors = subst (λ (us : List U). Each IsSomeFactor us) (sym (mul_leaves-Mul x y)) (each-append IsSomeFactor (mul_leaves x) (mul_leaves y) h.product.factors k.product.factors) });
  squashes = omega (arith, ap (count Squash) e, ap (count Squash) f, count-Mul Squash a b, count-Mul Squash x y, h.squashes, k.squashes);
  negations = omega (arith, ap (count Negation) e, ap (count Negation) f, count-Mul Negation a b, count-Mul Negation x y, h.negations, k.negations);
}

-- ---- equalities, predicates and relations
-- a factor of this kind that is no squash and no negation
finished-kind : (k : Kind) (t s : U) → IsFactor k s → kind_of s ≡ Some k → is_kind Squash (Some k) ≡ false → is_kind Negation (Some k) ≡ false → IsFinished t s
finished-kind k t s h e no_squash no_negation =
    let leaf : mul_leaves s ≡ s ∷ [] = factor-leaf k s h in
    record {
      product = one-factor s leaf (record { kind = k; is = h });
      squashes = omega (arith, count-other Squash k s leaf e no_squash);
      negations = omega (arith, count-other Negation k s leaf e no_negation);
    }

equality-factor : (a b : Val) → IsNormalValue a → IsNormalValue b → IsFactor Mark (u.Eq a b)
unfolding constructors
equality-factor a b h k = equality h k

predicate-factor : (symbol : ℕ) (vs : List Val) → Each IsNormalValue vs → IsFactor Mark (u.Pred symbol vs)
unfolding constructors
predicate-factor symbol vs h = predicate (normal-row vs h)

relation-factor : (table : ℕ) (vs : List Val) → Each IsNormalValue vs → IsFactor Atom (u.Rel table vs)
unfolding constructors
relation-factor table vs h = relation (normal-row vs h)

no_equality-factor : (kind : Kind) (t : U) → IsFactor kind t → is_truth t ≡ true → IsFactor Mark (u.Not t)
unfolding is_truth constructors
no_equality-factor kind t (equality x y) e = no_equality x y
no_equality-factor kind t (predicate vs) e = no_predicate vs
no_equality-factor kind t (no_equality x y) e = absurd (cc)
no_equality-factor kind t (no_predicate vs) e = absurd (cc)
no_equality-factor kind t (relation vs) e = absurd (cc)
no_equality-factor kind t (squash n) e = absurd (cc)
no_equality-factor kind t (negation n f) e = absurd (cc)

pub plain-equality : (t s a b c d : _) → t ≡ u.Eq a b → s ≡ u.Eq c d → IsNormalValue c → IsNormalValue d → IsFinishedPlain t s
plain-equality t s a b c d e f h k = record {
  finished = subst (λ x. IsFinished t x) (sym f) (finished-kind Mark t (u.Eq c d) (equality-factor c d h k) (kind_of-Eq c d) refl refl);
  truth = ap is_truth f ∙ is_truth-Eq c d ∙ sym (is_truth-Eq a b) ∙ sym (ap is_truth e);
}

pub plain-predicate : (t s : U) (symbol : ℕ) (vs ws : List Val) → t ≡ u.Pred symbol vs → s ≡ u.Pred symbol ws → Each IsNormalValue ws → IsFinishedPlain t s
plain-predicate t s symbol vs ws e f h = record {
  finished = subst (λ x. IsFinished t x) (sym f) (finished-kind Mark t (u.Pred symbol ws) (predicate-factor symbol ws h) (kind_of-Pred symbol ws) refl refl);
  truth = ap is_truth f ∙ is_truth-Pred symbol ws ∙ sym (is_truth-Pred symbol vs) ∙ sym (ap is_truth e);
}

pub plain-relation : (t s : U) (table : ℕ) (vs ws : List Val) → t ≡ u.Rel table vs → s ≡ u.Rel table ws → Each IsNormalValue ws → IsFinishedPlain t s
plain-relation t s table vs ws e f h = record {
  finished = subst (λ x. IsFinished t x) (sym f) (finished-kind Atom t (u.Rel table ws) (relation-factor table ws h) (kind_of-Rel table ws) refl refl);
  truth = ap is_truth f ∙ is_truth-Rel table ws ∙ sym (is_truth-Rel table vs) ∙ sym (ap is_truth e);
}

-- of no kind is what is none of these
none-has : (t s : U) → t ≡ s → kind_of s ≡ None → HasKind t → ⊥
none-has t s e f h = let g : None ≡ Some h.kind = sym f ∙ sym (ap kind_of e) ∙ h.is in absurd (cc)

none-of : (d : U-F U Val) (t : U) → t ≡ roll-U d → HasKind t → ((p : U) → t ≡ u.Squash p → ⊥) → ((p : U) → t ≡ u.Not p → ⊥) → ((table : ℕ) (vs : List Val) → t ≡ u.Rel table vs → ⊥) → ((a b : Val) → t ≡ u.Eq a b → ⊥) → ((symbol : ℕ) (vs : List Val) → t ≡ u.Pred symbol vs → ⊥) → ⊥
none-of U-F.Zero t e h not_squash not_negation not_relation not_equality not_predicate = none-has t u.Zero (e ∙ rolls-Zero) kind_of-Zero h
none-of U-F.One t e h not_squash not_negation not_relation not_equality not_predicate = none-has t u.One (e ∙ rolls-One) kind_of-One h
none-of (U-F.Add a b) t e h not_squash not_negation not_relation not_equality not_predicate = none-has t (u.Add a b) (e ∙ rolls-Add a b) (kind_of-Add a b) h
none-of (U-F.Mul a b) t e h not_squash not_negation not_relation not_equality not_predicate = none-has t (u.Mul a b) (e ∙ rolls-Mul a b) (kind_of-Mul a b) h
none-of (U-F.Squash a) t e h not_squash not_negation not_relation not_equality not_predicate = not_squash a (e ∙ rolls-Squash a)
none-of (U-F.Not a) t e h not_squash not_negation not_relation not_equality not_predicate = not_negation a (e ∙ rolls-Not a)
none-of (U-F.Sum body) t e h not_squash not_negation not_relation not_equality not_predicate = none-has t (u.Sum body) (e ∙ rolls-Sum body) (kind_of-Sum body) h
none-of (U-F.Rel table vs) t e h not_squash not_negation not_relation not_equality not_predicate = not_relation table vs (e ∙ rolls-Rel table vs)
none-of (U-F.Eq a b) t e h not_squash not_negation not_relation not_equality not_predicate = not_equality a b (e ∙ rolls-Eq a b)
none-of (U-F.Pred symbol vs) t e h not_squash not_negation not_relation not_equality not_predicate = not_predicate symbol vs (e ∙ rolls-Pred symbol vs)

one-of : (t : U) → IsFactorOrOne t → ((p : U) → t ≡ u.Squash p → ⊥) → ((p : U) → t ≡ u.Not p → ⊥) → ((table : ℕ) (vs : List Val) → t ≡ u.Rel table vs → ⊥) → ((a b : Val) → t ≡ u.Eq a b → ⊥) → ((symbol : ℕ) (vs : List Val) → t ≡ u.Pred symbol vs → ⊥) → IsProduct t
one-of t one not_squash not_negation not_relation not_equality not_predicate = one-product
one-of t (factor h) not_squash not_negation not_relation not_equality not_predicate = absurd (none-of (out-U t) t (sym (roll-out-U t)) h not_squash not_negation not_relation not_equality not_predicate)

pub plain-one : (t s : U) → s ≡ t → IsPlainFactor t → ((table : ℕ) (vs : List Val) → t ≡ u.Rel table vs → ⊥) → ((a b : Val) → t ≡ u.Eq a b → ⊥) → ((symbol : ℕ) (vs : List Val) → t ≡ u.Pred symbol vs → ⊥) → IsFinishedPlain t s
plain-one t s e h not_relation not_equality not_predicate = subst (λ (x : U). IsFinishedPlain t x) (sym e) (record {
  finished = record { product = one-of t h.factor h.no_squash h.no_negation not_relation not_equality not_predicate; squashes = omega arith; negations = omega arith };
  truth = refl;
})

-- an equality or a predicate is plain
truth-kind : (t : U) → is_truth t ≡ true → HasKind t
unfolding is_truth kind_of
truth-kind Zero e = absurd (cc)
truth-kind One e = absurd (cc)
truth-kind (Add a b) e = absurd (cc)
truth-kind (Mul a b) e = absurd (cc)
truth-kind (SquashOf a) e = absurd (cc)
truth-kind (NotOf a) e = absurd (cc)
truth-kind (Sum body) e = absurd (cc)
truth-kind (Rel table shape arguments) e = absurd (cc)
truth-kind (Eq a b) e = record { kind = Mark; is = refl }
truth-kind (Pred symbol shape arguments) e = record { kind = Mark; is = refl }

pub truth-plain : (t : U) → is_truth t ≡ true → IsPlainFactor t
truth-plain t e = record {
  factor = factor (truth-kind t e);
  no_squash = λ p is. let f : false ≡ true = sym (is_truth-Squash p) ∙ sym (ap is_truth is) ∙ e in absurd (cc);
  no_negation = λ p is. let f : false ≡ true = sym (is_truth-Not p) ∙ sym (ap is_truth is) ∙ e in absurd (cc);
}

-- what a negation of an equality or of a predicate becomes
truth-leaf : (t : U) → is_truth t ≡ true → mul_leaves t ≡ t ∷ []
unfolding is_truth mul_leaves
truth-leaf Zero e = refl
truth-leaf One e = absurd (cc)
truth-leaf (Add a b) e = refl
truth-leaf (Mul a b) e = absurd (cc)
truth-leaf (SquashOf a) e = refl
truth-leaf (NotOf a) e = refl
truth-leaf (Sum body) e = refl
truth-leaf (Rel table shape arguments) e = refl
truth-leaf (Eq a b) e = refl
truth-leaf (Pred symbol shape arguments) e = refl

truth-negated : (p q : U) → is_truth q ≡ true → IsFinished p q → IsFactor Mark (u.Not q)
truth-negated p q e h =
    let factors : Each IsSomeFactor (q ∷ []) = subst (λ (us : List U). Each IsSomeFactor us) (truth-leaf q e) h.product.factors in
    no_equality-factor factors.0.kind q factors.0.is e

pub finished-bare_not : (t s p q : U) → t ≡ u.Not p → s ≡ u.Not q → is_truth p ≡ true → IsFinishedPlain p q → IsFinished t s
finished-bare_not t s p q e f is h =
    let truth : is_truth q ≡ true = h.truth ∙ is in
    subst (λ x. IsFinished t x) (sym f)
    (finished-kind Mark t (u.Not q) (truth-negated p q truth h.finished) (kind_of-Not q ∙ ap (λ (b : Bool). Some (if b then Mark else Negation)) truth) refl refl)

-- ---- how much there is to do in parts
pub sum-lighter : (t a b : U) → t ≡ u.Add a b → 8 * max (load a) (load b) + 8 < 8 * load t + 7
sum-lighter t a b e = omega (arith, ap load e, load-leaf (u.Add a b) (mul_leaves-Add a b), nodes-Add a b, load-small a, load-small b)

pub body-lighter : (t f : U) → t ≡ u.Sum f → 8 * load f + 9 < 8 * load t + 7
body-lighter t f e = omega (arith, ap load e, load-leaf (u.Sum f) (mul_leaves-Sum f), nodes-Sum f, load-small f)

pub squash-lighter : (t p : U) → t ≡ u.Squash p → 8 * load p + 8 < 8 * load t + 3
squash-lighter t p e = omega (arith, ap load e, load-leaf (u.Squash p) (mul_leaves-Squash p), nodes-Squash p, load-small p)

pub not-lighter : (t p : U) → t ≡ u.Not p → 8 * load p + 8 < 8 * load t + 3
not-lighter t p e = omega (arith, ap load e, load-leaf (u.Not p) (mul_leaves-Not p), nodes-Not p, load-small p)

pub head_sum-lighter : (t a b : U) → t ≡ u.Add a b → 8 * max (load a) (load b) + 8 < 8 * head_load t + 5
head_sum-lighter t a b e = omega (arith, ap head_load e, head_load-Add a b)

pub head_body-lighter : (t f : U) → t ≡ u.Sum f → 8 * load f + 9 < 8 * head_load t + 5
head_body-lighter t f e = omega (arith, ap head_load e, head_load-Sum f)

pub rest-lighter : (t a b : U) → t ≡ u.Mul a b → HasKind a → 8 * load b + 4 < 8 * load t + 4
rest-lighter t a b e h = omega (arith, ap load e, load-Mul a b, kind-heavy a h)

pub first-lighter : (t a b : U) → t ≡ u.Mul a b → 8 * load a + 3 < 8 * load t + 4
first-lighter t a b e = omega (arith, ap load e, load-Mul a b)

pub plain-lighter : (t p : U) → t ≡ u.Not p → 8 * load p + 2 < 8 * load t + 3
plain-lighter t p e = omega (arith, ap load e, load-leaf (u.Not p) (mul_leaves-Not p), nodes-Not p, load-small p)
