-- A factor that is taken out of a product: what is known of it and of the rest.
use Rattle.std.proofs.Common.{◌≡◌, ◌+◌, List, [], ◌∷◌, ◌++◌, Some, None, ap, sym, subst, ◌∙◌, arith}
use Rattle.std.specs.Prelude.{IsPermutation, Option, MatchOption}
use Rattle.std.proofs.lemmas.List.{append_assoc}
use Rattle.std.proofs.lemmas.List.Sorted.{IsPermutation-refl, IsPermutation-trans, IsPermutation-append_left, IsPermutation-append_right, IsPermutation-append_comm}
use Rattle.data_model.specs.Lists.{Each}
use Rattle.u_terms.specs.declared.term.U.TheVariants as u
use Rattle.u_terms.specs.Syntax.{U, constructors}
use Rattle.u_rules.specs.Terms.{◌⊗◌, I, mul_leaves}
use Rattle.u_rules.proofs.multisets.LeavesAt.{mul_leaves-One, mul_leaves-Mul, mul_leaves-leaf}
use Rattle.normal_form.proofs.Lists.{each-append, each-first, each-last}
use Rattle.normal_form.specs.declared.kind.Kind.{Kind}
use Rattle.normal_form.specs.Kinds.{kind_of}
use Rattle.u_normal.specs.declared.taking.Split.{Split}
use Rattle.u_normal.specs.Taking.{Takes, HasNone, IsTaken, alone, from_left, from_right, load, count}
use Rattle.u_normal.proofs.products.Loads.{load-Mul, load-One, count-Mul, count-One}

pub taken-not_one : {t rest part : U} → Takes t rest part → part ≡ u.One → ⊥
taken-not_one (alone not_unit not_more) = not_unit
taken-not_one (from_left h) = taken-not_one h
taken-not_one (from_right h) = taken-not_one h

pub taken-not_more : {t rest part : U} → Takes t rest part → (a b : U) → part ≡ u.Mul a b → ⊥
taken-not_more (alone not_unit not_more) = not_more
taken-not_more (from_left h) = taken-not_more h
taken-not_more (from_right h) = taken-not_more h

pub taken-leaf : {t rest part : U} → Takes t rest part → mul_leaves part ≡ part ∷ []
taken-leaf {part = part} h = mul_leaves-leaf part (taken-not_one h) (taken-not_more h)

-- ---- all factors are there
move-left : (ls bs rs ps : List U) → IsPermutation ls (rs ++ ps) → IsPermutation (ls ++ bs) ((rs ++ bs) ++ ps)
move-left ls bs rs ps h =
    IsPermutation-trans _ _ _ (IsPermutation-append_left bs ls (rs ++ ps) h)
    (subst (λ (us : List U). IsPermutation us ((rs ++ bs) ++ ps)) (sym (append_assoc rs ps bs))
    (subst (λ (us : List U). IsPermutation (rs ++ (ps ++ bs)) us) (sym (append_assoc rs bs ps))
    (IsPermutation-append_right rs (ps ++ bs) (bs ++ ps) (IsPermutation-append_comm ps bs))))

move-right : (ls bs rs ps : List U) → IsPermutation bs (rs ++ ps) → IsPermutation (ls ++ bs) ((ls ++ rs) ++ ps)
move-right ls bs rs ps h =
    subst (λ (us : List U). IsPermutation (ls ++ bs) us) (sym (append_assoc ls rs ps)) (IsPermutation-append_right ls bs (rs ++ ps) h)

taken-all : {t rest part : U} → Takes t rest part → IsPermutation (mul_leaves t) (mul_leaves rest ++ mul_leaves part)
unfolding mul_leaves
taken-all {part = part} (alone not_unit not_more) = IsPermutation-refl (mul_leaves part)
taken-all (from_left {a = a} {b = b} {rest = rest} {part = part} h) = move-left (mul_leaves a) (mul_leaves b) (mul_leaves rest) (mul_leaves part) (taken-all h)
taken-all (from_right {a = a} {b = b} {rest = rest} {part = part} h) = move-right (mul_leaves a) (mul_leaves b) (mul_leaves rest) (mul_leaves part) (taken-all h)

pub taken-leaves : (t rest part : U) → Takes t rest part → IsPermutation (mul_leaves t) (mul_leaves (rest ⊗ part))
taken-leaves t rest part h = subst (λ (us : List U). IsPermutation (mul_leaves t) us) (sym (mul_leaves-Mul rest part)) (taken-all h)

pub pair-leaves : (t between rest first second : U) → Takes t between first → Takes between rest second → IsPermutation (mul_leaves t) (mul_leaves (first ⊗ second ⊗ rest))
pair-leaves t between rest first second h k =
    IsPermutation-trans _ _ _ (taken-all h)
    (IsPermutation-trans _ _ _ (IsPermutation-append_left (mul_leaves first) (mul_leaves between) (mul_leaves rest ++ mul_leaves second) (taken-all k))
    (IsPermutation-trans _ _ _ (IsPermutation-append_comm (mul_leaves rest ++ mul_leaves second) (mul_leaves first))
    (subst (λ (us : List U). IsPermutation (mul_leaves first ++ (mul_leaves rest ++ mul_leaves second)) us)
    (sym
    (mul_leaves-Mul (first ⊗ second) rest ∙ ap (λ (us : List U). us ++ mul_leaves rest) (mul_leaves-Mul first second)
    ∙ append_assoc (mul_leaves first) (mul_leaves second) (mul_leaves rest)))
    (IsPermutation-append_right (mul_leaves first) (mul_leaves rest ++ mul_leaves second) (mul_leaves second ++ mul_leaves rest) (IsPermutation-append_comm (mul_leaves rest) (mul_leaves second))))))

-- ---- what is counted
pub taken-load : {t rest part : U} → Takes t rest part → load rest + load part ≡ load t
unfolding constructors
taken-load (alone not_unit not_more) = omega (arith, load-One)
taken-load (from_left {a = a} {b = b} {rest = rest} h) = omega (arith, load-Mul rest b, load-Mul a b, taken-load h)
taken-load (from_right {a = a} {b = b} {rest = rest} h) = omega (arith, load-Mul a rest, load-Mul a b, taken-load h)

pub taken-count : (kind : Kind) {t rest part : U} → Takes t rest part → count kind rest + count kind part ≡ count kind t
unfolding constructors
taken-count kind (alone not_unit not_more) = omega (arith, count-One kind)
taken-count kind (from_left {a = a} {b = b} {rest = rest} h) = omega (arith, count-Mul kind rest b, count-Mul kind a b, taken-count kind h)
taken-count kind (from_right {a = a} {b = b} {rest = rest} h) = omega (arith, count-Mul kind a rest, count-Mul kind a b, taken-count kind h)

-- ---- a property of all factors
pub each-rest : (P : U → Type 0) {t rest part : U} → Takes t rest part → Each P (mul_leaves t) → Each P (mul_leaves rest)
unfolding mul_leaves
each-rest P (alone not_unit not_more) h = tt
each-rest P (from_left {a = a} {b = b} {rest = rest} k) h = each-append P (mul_leaves rest) (mul_leaves b) (each-rest P k (each-first P (mul_leaves a) (mul_leaves b) h)) (each-last P (mul_leaves a) (mul_leaves b) h)
each-rest P (from_right {a = a} {b = b} {rest = rest} k) h = each-append P (mul_leaves a) (mul_leaves rest) (each-first P (mul_leaves a) (mul_leaves b) h) (each-rest P k (each-last P (mul_leaves a) (mul_leaves b) h))

-- ---- a property that products have where their parts have it
module _ (P : U → Type 0) (one : P u.One) (mul : (a b : U) → P a → P b → P (u.Mul a b)) (left : (a b : U) → P (u.Mul a b) → P a) (right : (a b : U) → P (u.Mul a b) → P b) where
  pub rest-has : {t rest part : U} → Takes t rest part → P t → P rest
  unfolding constructors
  rest-has (alone not_unit not_more) h = one
  rest-has (from_left {a = a} {b = b} {rest = rest} k) h = mul rest b (rest-has k (left a b h)) (right a b h)
  rest-has (from_right {a = a} {b = b} {rest = rest} k) h = mul a rest (left a b h) (rest-has k (right a b h))

  pub part-has : {t rest part : U} → Takes t rest part → P t → P part
  unfolding constructors
  part-has (alone not_unit not_more) h = h
  part-has (from_left {a = a} {b = b} k) h = part-has k (left a b h)
  part-has (from_right {a = a} {b = b} k) h = part-has k (right a b h)

-- ---- what the search finds
module _ (kind : Option Kind) (t : U) where
  pub found-some : (r : Option Split) (found : Split) → r ≡ Some found → MatchOption r (HasNone kind t) (IsTaken kind t) → IsTaken kind t found
  found-some r found e h = subst (λ (o : Option Split). MatchOption o (HasNone kind t) (IsTaken kind t)) e h

  pub found-none : (r : Option Split) → r ≡ None → MatchOption r (HasNone kind t) (IsTaken kind t) → HasNone kind t
  found-none r e h = subst (λ (o : Option Split). MatchOption o (HasNone kind t) (IsTaken kind t)) e h

  pub none-one : t ≡ u.One → HasNone kind t
  none-one e = record { none = subst (λ (us : List U). Each (λ x. kind_of x ≡ kind → ⊥) us) (sym (ap mul_leaves e ∙ mul_leaves-One)) tt }

  pub none-leaf : (t ≡ u.One → ⊥) → ((a b : U) → t ≡ u.Mul a b → ⊥) → (kind_of t ≡ kind → ⊥) → HasNone kind t
  none-leaf not_unit not_more other = record { none = subst (λ (us : List U). Each (λ x. kind_of x ≡ kind → ⊥) us) (sym (mul_leaves-leaf t not_unit not_more)) (other, tt) }

  pub taken-alone : (whole : Split) → (t ≡ u.One → ⊥) → ((a b : U) → t ≡ u.Mul a b → ⊥) → kind_of t ≡ kind → whole.rest ≡ I → whole.part ≡ t → IsTaken kind t whole
  taken-alone whole not_unit not_more is rest part = record {
    takes = subst (λ (r : U). Takes t r whole.part) (sym rest) (subst (λ (p : U). Takes t I p) (sym part) (alone not_unit not_more));
    kind_is = ap kind_of part ∙ is;
  }

  module _ (a b : U) (e : t ≡ u.Mul a b) where
    pub none-both : HasNone kind a → HasNone kind b → HasNone kind t
    none-both h k = record {
      none = subst (λ (us : List U). Each (λ x. kind_of x ≡ kind → ⊥) us) (sym (ap mul_leaves e ∙ mul_leaves-Mul a b)) (each-append (λ x. kind_of x ≡ kind → ⊥) (mul_leaves a) (mul_leaves b) h.none k.none);
    }

    pub taken-before : (found whole : Split) → IsTaken kind a found → whole.rest ≡ found.rest ⊗ b → whole.part ≡ found.part → IsTaken kind t whole
    unfolding constructors
    taken-before found whole h rest part = record {
      takes = subst (λ (x : U). Takes x whole.rest whole.part) (sym e) (subst (λ (r : U). Takes (a ⊗ b) r whole.part) (sym rest) (subst (λ (p : U). Takes (a ⊗ b) (found.rest ⊗ b) p) (sym part) (from_left h.takes)));
      kind_is = ap kind_of part ∙ h.kind_is;
    }

    pub taken-behind : (found whole : Split) → IsTaken kind b found → whole.rest ≡ a ⊗ found.rest → whole.part ≡ found.part → IsTaken kind t whole
    unfolding constructors
    taken-behind found whole h rest part = record {
      takes = subst (λ (x : U). Takes x whole.rest whole.part) (sym e) (subst (λ (r : U). Takes (a ⊗ b) r whole.part) (sym rest) (subst (λ (p : U). Takes (a ⊗ b) (a ⊗ found.rest) p) (sym part) (from_right h.takes)));
      kind_is = ap kind_of part ∙ h.kind_is;
    }
