-- Rows that gain factors, and what two products come to that gain each other's.
use Rattle.std.proofs.Common.{◌≡◌, ℕ, ◌-◌, ◌<◌, List, [], ◌∷◌, ◌++◌, length, get_or, take, drop, Option, Some, None, refl, ap, sym, ◌∙◌, subst, arith}
use Rattle.std.specs.Prelude.{IsPermutation}
use Rattle.std.proofs.lemmas.List.{append-nil, append_assoc}
use Rattle.std.proofs.Math.Seq.{take-length}
use denote.Ref.{Bor}
use Rattle.std.proofs.lemmas.List.Sorted.{IsPermutation-refl, IsPermutation-sym, IsPermutation-trans, IsPermutation-append, IsPermutation-append_comm}
use Rattle.data_model.specs.Lists.{Each}
use Rattle.u_terms.specs.Syntax.{U}
use Rattle.u_terms.specs.Products.{product_of}
use Rattle.u_terms.specs.declared.facts.Facts.{Facts}
use Rattle.u_rules.specs.Terms.{mul_leaves, terms}
use Rattle.u_equal.proofs.products.Members.{in-left, in-rest}
use Rattle.u_moves.specs.Derivations.{Derivation}
use Rattle.u_congruence.specs.Congruence.{IsFromTo}
use Rattle.u_entail.proofs.products.Lists.{each-append}
use Rattle.normal_form.proofs.Leaves.{each-mul_leaf, mul_leaves-row}
use Rattle.normal_form.proofs.Lists.{each-last}
use Rattle.u_simple.proofs.Chosen.{each-permuted}
use Rattle.shape_entails.specs.Matched.{SayTheSame, AreApart, EntailsFactor}
use Rattle.shape_entails.proofs.Apart.{right-gives, left-gives}
use Rattle.u_bag.specs.declared.differences.Differences.{Differences}
use Rattle.u_bag.specs.declared.gaining.Row.{Row}
use Rattle.u_bag.specs.Rows.{LeadsToRow, AreDifferences, IsSingle, EntailsFactors, GoesOn, IsRowWith, Gains}

-- ---- rows
module _ (F : Facts) (names : ℕ) (product : U) where
  pub first-missing : (f : U) (fs : List U) → (EntailsFactors product (f ∷ []) → ⊥) → EntailsFactors product (f ∷ fs) → ⊥
  first-missing f fs h all = h (λ x i. all x (in-left (f ∷ []) fs x i))

  pub rest-missing : (f : U) (fs : List U) → (EntailsFactors product fs → ⊥) → EntailsFactors product (f ∷ fs) → ⊥
  rest-missing f fs h all = h (λ x i. all x (in-rest f fs x i))

  pub one-missing : (f : U) → (EntailsFactor product f → ⊥) → EntailsFactors product (f ∷ []) → ⊥
  one-missing f h all = h (all f (record { place = 0; here = refl }))

  -- the other factors after the first one
  pub goes-on : (before : List U) (f : U) (fs : List U) (row : Row) → GoesOn F names product before (f ∷ []) row → (o : Option Row) → IsRowWith F names product (terms row.factors.items) fs o
      → IsRowWith F names product before (f ∷ fs) o
  goes-on before f fs row one None h = rest-missing f fs h
  goes-on before f fs row one (Some last) h = record { leads = h.leads; are = h.are ∙ ap (λ (us : List U). us ++ fs) one.are ∙ append_assoc before (f ∷ []) fs }

  pub row-gains : (wanted : List U) (row : Row) → LeadsToRow F names product row → terms row.factors.items ≡ mul_leaves product ++ wanted → Each IsSingle wanted
      → Gains F names product wanted row.deriv
  row-gains wanted row h are single = record {
    from = record { facts = h.facts; outs = h.outs; from = h.from };
    to = subst (λ (us : List U). IsPermutation us (mul_leaves product ++ wanted))
        (sym (ap mul_leaves (h.to ∙ ap product_of are) ∙ mul_leaves-row (mul_leaves product ++ wanted) (each-append IsSingle (mul_leaves product) wanted (each-mul_leaf product) single)))
        (IsPermutation-refl (mul_leaves product ++ wanted));
  }

  pub gains-on : (wanted : List U) (first : Row) → GoesOn F names product (mul_leaves product) [] first → (row : Row) → GoesOn F names product (terms first.factors.items) wanted row
      → Each IsSingle wanted → Gains F names product wanted row.deriv
  gains-on wanted first begun row h single =
      row-gains wanted row h.leads (h.are ∙ ap (λ (us : List U). us ++ wanted) (begun.are ∙ append-nil (mul_leaves product))) single

  -- the list begins with a factor that is gained, and then come the others
  pub all-gained : (before wanted rest : List U) (f : U) (first : Row) → wanted ≡ f ∷ rest → (o : Option Row) → o ≡ Some first → IsRowWith F names product before (f ∷ []) o
      → (last : Option Row) → IsRowWith F names product (terms first.factors.items) rest last → IsRowWith F names product before wanted last
  all-gained before wanted rest f first is o there h last k =
      subst (λ (us : List U). IsRowWith F names product before us last) (sym is)
      (goes-on before f rest first (subst (λ (q : Option Row). IsRowWith F names product before (f ∷ []) q) there h) last k)

  pub nothing-gained : (d : Derivation) → IsFromTo F names product product d → Gains F names product [] d
  nothing-gained d h = record {
    from = record { facts = h.facts; outs = h.outs; from = h.from };
    to = subst (λ (u : U). IsPermutation (mul_leaves u) (mul_leaves product ++ [])) (sym h.to)
        (subst (IsPermutation (mul_leaves product)) (sym (append-nil (mul_leaves product))) (IsPermutation-refl (mul_leaves product)));
  }

-- ---- two products
pub differ : (left right : U) (lefts rights : List (Bor U)) (apart : Differences) → terms lefts ≡ mul_leaves left → terms rights ≡ mul_leaves right → AreDifferences (terms lefts) (terms rights) apart
    → AreDifferences (mul_leaves left) (mul_leaves right) apart
differ left right lefts rights apart l r h =
    subst (λ (us : List U). AreDifferences us (mul_leaves right) apart) l (subst (λ (us : List U). AreDifferences (terms lefts) us apart) r h)

-- the first one and those behind it
pub first-and-rest : (refs : List (Bor U)) (r : Bor U) → 0 < length refs → r ≡ get_or refs 0 r → terms refs ≡ r.now ∷ terms (take (length refs - 1) (drop 1 refs))
first-and-rest [] r less is = absurd (omega (arith, less))
first-and-rest (x ∷ xs) r less is =
    let n : length xs ≡ length (x ∷ xs) - 1 = omega arith in
    ap (λ (us : List U). x.now ∷ us) (sym (ap terms (take-length xs)) ∙ ap (λ (m : ℕ). terms (take m xs)) n) ∙ ap (λ (y : Bor U). y.now ∷ terms (take (length (x ∷ xs) - 1) xs)) (sym is)

module _ (left right : U) (apart : Differences) (h : AreDifferences (mul_leaves left) (mul_leaves right) apart) where
  parted : AreApart left right h.common (terms apart.left.items) (terms apart.right.items)
  parted = record { left_is = h.left_is; right_is = h.right_is; apart = h.disjoint }

  pub left-single : Each IsSingle (terms apart.left.items)
  left-single = each-last IsSingle h.common (terms apart.left.items) (each-permuted IsSingle (mul_leaves left) (h.common ++ terms apart.left.items) h.left_is (each-mul_leaf left))

  pub right-single : Each IsSingle (terms apart.right.items)
  right-single = each-last IsSingle h.common (terms apart.right.items) (each-permuted IsSingle (mul_leaves right) (h.common ++ terms apart.right.items) h.right_is (each-mul_leaf right))

  pub not-down : (EntailsFactors left (terms apart.right.items) → ⊥) → SayTheSame left right → ⊥
  not-down none same = none (right-gives left right h.common (terms apart.left.items) (terms apart.right.items) parted same)

  pub not-up : (EntailsFactors right (terms apart.left.items) → ⊥) → SayTheSame left right → ⊥
  not-up none same = none (left-gives left right h.common (terms apart.left.items) (terms apart.right.items) parted same)

  beside : (common xs ys : List U) → IsPermutation ((common ++ xs) ++ ys) ((common ++ ys) ++ xs)
  beside common xs ys =
      subst (λ (us : List U). IsPermutation us ((common ++ ys) ++ xs)) (sym (append_assoc common xs ys))
      (subst (λ (us : List U). IsPermutation (common ++ (xs ++ ys)) us) (sym (append_assoc common ys xs))
      (IsPermutation-append common common (xs ++ ys) (ys ++ xs) (IsPermutation-refl common) (IsPermutation-append_comm xs ys)))

  -- with the factors that each lacked both have the same
  pub same-factors : (down up : U) → IsPermutation (mul_leaves down) (mul_leaves left ++ terms apart.right.items) → IsPermutation (mul_leaves up) (mul_leaves right ++ terms apart.left.items)
      → IsPermutation (mul_leaves down) (mul_leaves up)
  same-factors down up d u =
      IsPermutation-trans (mul_leaves down) (mul_leaves left ++ terms apart.right.items) (mul_leaves up) d
      (IsPermutation-trans (mul_leaves left ++ terms apart.right.items) ((h.common ++ terms apart.left.items) ++ terms apart.right.items) (mul_leaves up)
      (IsPermutation-append (mul_leaves left) (h.common ++ terms apart.left.items) (terms apart.right.items) (terms apart.right.items) h.left_is (IsPermutation-refl (terms apart.right.items)))
      (IsPermutation-trans ((h.common ++ terms apart.left.items) ++ terms apart.right.items) ((h.common ++ terms apart.right.items) ++ terms apart.left.items) (mul_leaves up)
      (beside h.common (terms apart.left.items) (terms apart.right.items))
      (IsPermutation-trans ((h.common ++ terms apart.right.items) ++ terms apart.left.items) (mul_leaves right ++ terms apart.left.items) (mul_leaves up)
      (IsPermutation-append (h.common ++ terms apart.right.items) (mul_leaves right) (terms apart.left.items) (terms apart.left.items)
      (IsPermutation-sym (mul_leaves right) (h.common ++ terms apart.right.items) h.right_is) (IsPermutation-refl (terms apart.left.items)))
      (IsPermutation-sym (mul_leaves up) (mul_leaves right ++ terms apart.left.items) u))))
