-- Terms in another order.
use Rattle.std.proofs.Common.{◌≡◌, ℕ, List, [], ◌∷◌, length, take, ap, sym, subst, ◌∙◌}
use Rattle.std.specs.Prelude.{All, IsPermutation}
use Rattle.std.proofs.Math.Seq.{take-length}
use Rattle.std.proofs.lemmas.List.Elements.{All-nil, All-cons, All-head, All-tail}
use Rattle.std.proofs.lemmas.List.Sorted.{All-permutation, IsPermutation-map}
use Rattle.data_model.specs.Lists.{Each}
use Rattle.u_terms.specs.Syntax.{U}
use Rattle.u_terms.specs.Products.{product_of}
use Rattle.u_rules.specs.Terms.{add_leaves, mul_leaves}
use Rattle.normal_form.specs.NormalTerms.{sum_of}
use Rattle.normal_form.proofs.Leaves.{IsAddLeaf, IsMulLeaf, each-add_leaf, each-mul_leaf, add_leaves-row, mul_leaves-row}
use Rattle.u_simple.specs.declared.order.Place.{Place}
use Rattle.u_simple.specs.Order.{at, chosen}

-- all places once, in any order
pub all-chosen : (us : List U) (ps qs : List Place) (n : ℕ) → chosen us ps ≡ take n us → n ≡ length us → IsPermutation ps qs → IsPermutation us (chosen us qs)
all-chosen us ps qs n e all h =
    subst (λ (l : List U). IsPermutation l (chosen us qs)) (e ∙ ap (λ (k : ℕ). take k us) all ∙ take-length us) (IsPermutation-map (at us) ps qs h)

-- ---- what each member has, in another order
module _ (P : U → Type 0) where
  all-of : (us : List U) → Each P us → All P us
  all-of [] h = All-nil P
  all-of (u ∷ us) h = All-cons P u us h.0 (all-of us h.1)

  each-of : (us : List U) → All P us → Each P us
  each-of [] h = tt
  each-of (u ∷ us) h = (All-head P u us h, each-of us (All-tail P u us h))

  pub each-permuted : (us vs : List U) → IsPermutation us vs → Each P us → Each P vs
  each-permuted us vs h each = each-of vs (All-permutation P us vs h (all-of us each))

-- ---- the parts of a sum and the factors of a product, in another order
pub sum-leaves : (u : U) (parts : List U) → IsPermutation (add_leaves u) parts → IsPermutation (add_leaves u) (add_leaves (sum_of parts))
sum-leaves u parts h = subst (λ (us : List U). IsPermutation (add_leaves u) us) (sym (add_leaves-row parts (each-permuted IsAddLeaf (add_leaves u) parts h (each-add_leaf u)))) h

pub product-leaves : (u : U) (factors : List U) → IsPermutation (mul_leaves u) factors → IsPermutation (mul_leaves u) (mul_leaves (product_of factors))
product-leaves u factors h = subst (λ (us : List U). IsPermutation (mul_leaves u) us) (sym (mul_leaves-row factors (each-permuted IsMulLeaf (mul_leaves u) factors h (each-mul_leaf u)))) h
