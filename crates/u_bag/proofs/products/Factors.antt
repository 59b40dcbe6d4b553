-- What is known of the factors of a product and of the terms of a sum.
use Rattle.std.proofs.Common.{◌≡◌, ℕ, zero, suc, ◌-◌, ◌<◌, List, [], ◌∷◌, ◌++◌, ap, sym, subst, ◌∙◌, arith}
use Rattle.std.specs.Prelude.{IsPermutation, All, Contains}
use Rattle.std.proofs.lemmas.List.Elements.{All-nil, All-cons, All-contains}
use Rattle.std.proofs.lemmas.List.Sorted.{IsPermutation-refl}
use Rattle.data_model.specs.Lists.{Each}
use Rattle.u_terms.specs.Syntax.{U}
use Rattle.u_terms.specs.Products.{product_of}
use Rattle.u_terms.specs.Binding.{sums}
use Rattle.u_rules.specs.Terms.{S, add_leaves, mul_leaves}
use Rattle.u_moves.specs.Derivations.{IsKnown}
use Rattle.normal_form.specs.NormalTerms.{sum_of}
use Rattle.normal_form.proofs.Leaves.{each-mul_leaf, mul_leaves-row}
use Rattle.normal_form.proofs.Lists.{each-last}
use Rattle.u_normal.proofs.terms.KnownParts.{known-left, known-right, known-factor_left, known-factor_right, in_row-known}
use Rattle.u_simple.proofs.Chosen.{each-permuted}
use Rattle.u_simple.proofs.Rows.{product-known}

-- the factors in a row are the factors
pub row-leaves : (u : U) → IsPermutation (mul_leaves u) (mul_leaves (product_of (mul_leaves u)))
row-leaves u = subst (λ (us : List U). IsPermutation (mul_leaves u) us) (sym (mul_leaves-row (mul_leaves u) (each-mul_leaf u))) (IsPermutation-refl (mul_leaves u))

module _ (outs : ℕ) where
  abbrev K : U → Type 0
  K u = IsKnown 0 outs u

  pub row-known : (u : U) → K u → K (product_of (mul_leaves u))
  row-known u h = product-known outs u (product_of (mul_leaves u)) (row-leaves u) h

  pub each-known : (us : List U) → K (product_of us) → Each K us
  each-known [] h = tt
  each-known (u ∷ []) h = (h, tt)
  each-known (u ∷ v ∷ us) h =
      (known-factor_left outs 0 u (product_of (v ∷ us)) h, each-known (v ∷ us) (known-factor_right outs 0 u (product_of (v ∷ us)) h))

  pub leaves-known : (u : U) → K u → Each K (mul_leaves u)
  leaves-known u h = each-known (mul_leaves u) (row-known u h)

  -- those beside the ones in common
  pub others-known : (all common others : List U) → IsPermutation all (common ++ others) → Each K all → Each K others
  others-known all common others h each = each-last K common others (each-permuted K all (common ++ others) h each)

  -- ---- the terms of a sum
  all-added : (us : List U) → K (sum_of us) → All K us
  all-added [] h = All-nil K
  all-added (u ∷ []) h = All-cons K u [] h (All-nil K)
  all-added (u ∷ v ∷ us) h =
      All-cons K u (v ∷ us) (known-left outs 0 u (sum_of (v ∷ us)) h) (all-added (v ∷ us) (known-right outs 0 u (sum_of (v ∷ us)) h))

  pub term-known : (u x : U) → K u → Contains (add_leaves u) x → K x
  term-known u x h is_in = All-contains K (add_leaves u) x (all-added (add_leaves u) (in_row-known outs u h)) is_in

-- ---- under sums
pub sums-more : (count : ℕ) (u f body : U) → 0 < count → u ≡ S f → f ≡ sums (count - 1) body → u ≡ sums count body
sums-more zero u f body some is e = absurd (omega (arith, some))
sums-more (suc count) u f body some is e =
    let n : suc count - 1 ≡ count = omega arith in
    is ∙ ap (λ (x : U). S x) (e ∙ ap (λ (k : ℕ). sums k body) n)
