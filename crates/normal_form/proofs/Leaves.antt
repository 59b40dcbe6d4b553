-- The leaves of a sum in a row and of a product in a row are those that stand in it.
use Rattle.std.proofs.Common.{◌≡◌, List, [], ◌∷◌, ◌++◌, refl, ap, ◌∙◌}
use Rattle.data_model.specs.Lists.{Each}
use Rattle.u_terms.specs.declared.term.U.TheVariants as u
use Rattle.u_terms.specs.Syntax.{U, Zero, One, Add, Mul, Squash, Not, Sum, Rel, Eq, Pred, constructors}
use Rattle.u_terms.specs.Products.{product_of}
use Rattle.u_rules.specs.Terms.{add_leaves, mul_leaves}
use Rattle.u_rules.proofs.multisets.LeavesAt.{add_leaves-Zero, add_leaves-Add, mul_leaves-One, mul_leaves-Mul}
use Rattle.normal_form.specs.NormalTerms.{sum_of}
use Rattle.normal_form.specs.Kinds.{ordered}
use Rattle.normal_form.proofs.Lists.{each-append, each-filter}

-- ---- what is added
abbrev pub IsAddLeaf : U → Type 0
IsAddLeaf u = add_leaves u ≡ u ∷ []

pub each-add_leaf : (u : U) → Each IsAddLeaf (add_leaves u)
unfolding add_leaves
each-add_leaf Zero = tt
each-add_leaf One = (refl, tt)
each-add_leaf (Add a b) = each-append IsAddLeaf (add_leaves a) (add_leaves b) (each-add_leaf a) (each-add_leaf b)
each-add_leaf (Mul a b) = (refl, tt)
each-add_leaf (Squash a) = (refl, tt)
each-add_leaf (Not a) = (refl, tt)
each-add_leaf (Sum body) = (refl, tt)
each-add_leaf (Rel table shape arguments) = (refl, tt)
each-add_leaf (Eq a b) = (refl, tt)
each-add_leaf (Pred symbol shape arguments) = (refl, tt)

pub add_leaves-row : (us : List U) → Each IsAddLeaf us → add_leaves (sum_of us) ≡ us
add_leaves-row [] each = add_leaves-Zero
add_leaves-row (u ∷ []) each = each.0
add_leaves-row (u ∷ v ∷ rest) each =
    add_leaves-Add u (sum_of (v ∷ rest)) ∙ ap (λ (us : List U). us ++ add_leaves (sum_of (v ∷ rest))) each.0 ∙ ap (λ (us : List U). u ∷ us) (add_leaves-row (v ∷ rest) each.1)

pub leaves-in_row : (u : U) → add_leaves (sum_of (add_leaves u)) ≡ add_leaves u
leaves-in_row u = add_leaves-row (add_leaves u) (each-add_leaf u)

-- ---- what is multiplied
abbrev pub IsMulLeaf : U → Type 0
IsMulLeaf u = mul_leaves u ≡ u ∷ []

pub each-mul_leaf : (u : U) → Each IsMulLeaf (mul_leaves u)
unfolding mul_leaves
each-mul_leaf Zero = (refl, tt)
each-mul_leaf One = tt
each-mul_leaf (Add a b) = (refl, tt)
each-mul_leaf (Mul a b) = each-append IsMulLeaf (mul_leaves a) (mul_leaves b) (each-mul_leaf a) (each-mul_leaf b)
each-mul_leaf (Squash a) = (refl, tt)
each-mul_leaf (Not a) = (refl, tt)
each-mul_leaf (Sum body) = (refl, tt)
each-mul_leaf (Rel table shape arguments) = (refl, tt)
each-mul_leaf (Eq a b) = (refl, tt)
each-mul_leaf (Pred symbol shape arguments) = (refl, tt)

pub mul_leaves-row : (us : List U) → Each IsMulLeaf us → mul_leaves (product_of us) ≡ us
mul_leaves-row [] each = mul_leaves-One
mul_leaves-row (u ∷ []) each = each.0
mul_leaves-row (u ∷ v ∷ rest) each =
    mul_leaves-Mul u (product_of (v ∷ rest)) ∙ ap (λ (us : List U). us ++ mul_leaves (product_of (v ∷ rest))) each.0
    ∙ ap (λ (us : List U). u ∷ us) (mul_leaves-row (v ∷ rest) each.1)

-- ---- a property of members, of all by their kinds
pub each-ordered : (P : U → Type 0) (us : List U) → Each P us → Each P (ordered us)
each-ordered P us h =
    each-append P _ _ (each-filter P _ us h) (each-append P _ _ (each-filter P _ us h) (each-append P _ _ (each-filter P _ us h) (each-filter P _ us h)))

pub leaves-in_order : (u : U) → mul_leaves (product_of (ordered (mul_leaves u))) ≡ ordered (mul_leaves u)
leaves-in_order u = mul_leaves-row (ordered (mul_leaves u)) (each-ordered IsMulLeaf (mul_leaves u) (each-mul_leaf u))

-- ---- a property that sums and products have where their parts have it
module _ (P : U → Type 0) (zero : P u.Zero) (add : (a b : U) → P a → P b → P (u.Add a b)) (left : (a b : U) → P (u.Add a b) → P a) (right : (a b : U) → P (u.Add a b) → P b) where
  each-added : (u : U) → P u → Each P (add_leaves u)
  unfolding add_leaves constructors
  each-added Zero h = tt
  each-added One h = (h, tt)
  each-added (Add a b) h = each-append P (add_leaves a) (add_leaves b) (each-added a (left a b h)) (each-added b (right a b h))
  each-added (Mul a b) h = (h, tt)
  each-added (Squash a) h = (h, tt)
  each-added (Not a) h = (h, tt)
  each-added (Sum body) h = (h, tt)
  each-added (Rel table shape arguments) h = (h, tt)
  each-added (Eq a b) h = (h, tt)
  each-added (Pred symbol shape arguments) h = (h, tt)

  added-row : (us : List U) → Each P us → P (sum_of us)
  added-row [] each = zero
  added-row (u ∷ []) each = each.0
  added-row (u ∷ v ∷ rest) each = add u (sum_of (v ∷ rest)) each.0 (added-row (v ∷ rest) each.1)

  pub in_row-has : (u : U) → P u → P (sum_of (add_leaves u))
  in_row-has u h = added-row (add_leaves u) (each-added u h)

module _ (P : U → Type 0) (one : P u.One) (mul : (a b : U) → P a → P b → P (u.Mul a b)) (left : (a b : U) → P (u.Mul a b) → P a) (right : (a b : U) → P (u.Mul a b) → P b) where
  each-multiplied : (u : U) → P u → Each P (mul_leaves u)
  unfolding mul_leaves constructors
  each-multiplied Zero h = (h, tt)
  each-multiplied One h = tt
  each-multiplied (Add a b) h = (h, tt)
  each-multiplied (Mul a b) h = each-append P (mul_leaves a) (mul_leaves b) (each-multiplied a (left a b h)) (each-multiplied b (right a b h))
  each-multiplied (Squash a) h = (h, tt)
  each-multiplied (Not a) h = (h, tt)
  each-multiplied (Sum body) h = (h, tt)
  each-multiplied (Rel table shape arguments) h = (h, tt)
  each-multiplied (Eq a b) h = (h, tt)
  each-multiplied (Pred symbol shape arguments) h = (h, tt)

  multiplied-row : (us : List U) → Each P us → P (product_of us)
  multiplied-row [] each = one
  multiplied-row (u ∷ []) each = each.0
  multiplied-row (u ∷ v ∷ rest) each = mul u (product_of (v ∷ rest)) each.0 (multiplied-row (v ∷ rest) each.1)

  pub in_order-has : (u : U) → P u → P (product_of (ordered (mul_leaves u)))
  in_order-has u h = multiplied-row (ordered (mul_leaves u)) (each-ordered P (mul_leaves u) (each-multiplied u h))
