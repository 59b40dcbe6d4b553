-- Normal terms of normal parts.
use Rattle.std.proofs.Common.{◌≡◌, List, [], ◌∷◌, ◌++◌, map, refl, ap, sym, subst, ◌∙◌, arith}
use Rattle.std.proofs.lemmas.List.{map-append}
use Rattle.data_model.specs.Lists.{Each}
use Rattle.u_terms.specs.declared.term.U.TheVariants as u
use Rattle.u_terms.specs.Syntax.{U, Zero, One, Add, Mul, Squash as SquashOf, Not, Sum, Rel, Eq, Pred, constructors}
use Rattle.u_terms.specs.Products.{product_of}
use Rattle.u_rules.specs.Terms.{◌⊕◌, add_leaves, mul_leaves}
use Rattle.u_rules.proofs.multisets.LeavesAt.{add_leaves-Add, add_leaves-Zero}
use Rattle.normal_form.specs.Kinds.{ordered}
use Rattle.normal_form.specs.NormalTerms.{sum_of, IsNormal, AreBlocks, IsBlock, sum_of_blocks, no_block, block_then, sum_over}
use Rattle.normal_form.specs.LooseTerms.{IsSomeFactor, IsProduct}
use Rattle.normal_form.proofs.Loose.{in_row-normal, in_order-block, normal-blocks, blocks-append}
use Rattle.normal_form.proofs.Ordered.{kind-of_factor}
use Rattle.u_normal.specs.Merging.{HasKind, HasKinds}
use Rattle.u_normal.specs.Heads.{IsTidy}
use Rattle.u_normal.specs.Finishing.{IsFinished}
use Rattle.u_normal.specs.Summing.{IsBlockSum, over_each}

-- ---- sums of blocks
pub zero-blocks : (t : U) → t ≡ u.Zero → IsBlockSum t
zero-blocks t e = record { blocks = subst (λ (us : List U). AreBlocks us) (sym (ap add_leaves e ∙ add_leaves-Zero)) no_block }

pub added-blocks : (a b : U) → IsBlockSum a → IsBlockSum b → IsBlockSum (a ⊕ b)
added-blocks a b h k = record { blocks = subst (λ (us : List U). AreBlocks us) (sym (add_leaves-Add a b)) (blocks-append (add_leaves a) (add_leaves b) h.blocks k.blocks) }

pub row-normal : (t : U) → IsBlockSum t → IsNormal (sum_of (add_leaves t))
row-normal t h = in_row-normal t h.blocks

-- ---- a sum over all values before each block
pub over_each-Zero : over_each u.Zero ≡ u.Zero
unfolding over_each constructors
over_each-Zero = refl

pub over_each-Add : (a b : U) → over_each (u.Add a b) ≡ u.Add (over_each a) (over_each b)
unfolding over_each constructors
over_each-Add a b = refl

pub over_each-other : (t : U) → (t ≡ u.Zero → ⊥) → ((a b : U) → t ≡ u.Add a b → ⊥) → over_each t ≡ u.Sum t
unfolding over_each constructors
over_each-other Zero not_zero not_sum = absurd (not_zero refl)
over_each-other One not_zero not_sum = refl
over_each-other (Add a b) not_zero not_sum = absurd (not_sum a b refl)
over_each-other (Mul a b) not_zero not_sum = refl
over_each-other (SquashOf a) not_zero not_sum = refl
over_each-other (Not a) not_zero not_sum = refl
over_each-other (Sum body) not_zero not_sum = refl
over_each-other (Rel table shape arguments) not_zero not_sum = refl
over_each-other (Eq a b) not_zero not_sum = refl
over_each-other (Pred symbol shape arguments) not_zero not_sum = refl

each-leaves : (t : U) → add_leaves (over_each t) ≡ map u.Sum (add_leaves t)
unfolding over_each add_leaves constructors
each-leaves Zero = refl
each-leaves One = refl
each-leaves (Add a b) =
    ap (λ (us : List U). us ++ add_leaves (over_each b)) (each-leaves a) ∙ ap (λ (us : List U). map u.Sum (add_leaves a) ++ us) (each-leaves b)
    ∙ sym (map-append u.Sum (add_leaves a) (add_leaves b))
each-leaves (Mul a b) = refl
each-leaves (SquashOf a) = refl
each-leaves (Not a) = refl
each-leaves (Sum body) = refl
each-leaves (Rel table shape arguments) = refl
each-leaves (Eq a b) = refl
each-leaves (Pred symbol shape arguments) = refl

block-over : (t : U) → IsBlock t → IsBlock (u.Sum t)
unfolding constructors
block-over t h = sum_over h

blocks-over : (us : List U) → AreBlocks us → AreBlocks (map u.Sum us)
blocks-over us no_block = no_block
blocks-over us (block_then {block = block} {rest = rest} h hs) = block_then (block-over block h) (blocks-over rest hs)

pub over-blocks : (t : U) → IsBlockSum t → IsBlockSum (over_each t)
over-blocks t h = record { blocks = subst (λ (us : List U). AreBlocks us) (sym (each-leaves t)) (blocks-over (add_leaves t) h.blocks) }

-- ---- a block
each-kind : (us : List U) → Each IsSomeFactor us → Each HasKind us
each-kind [] h = tt
each-kind (x ∷ xs) h = (record { kind = h.0.kind; is = kind-of_factor h.0.kind x h.0.is }, each-kind xs h.1)

pub product-kinds : (s : U) → IsProduct s → HasKinds s
product-kinds s h = record { each = each-kind (mul_leaves s) h.factors }

pub finished-kinds : (t s : U) → IsFinished t s → HasKinds s
finished-kinds t s h = product-kinds s h.product

pub one-block : (t : U) → IsBlock t → IsNormal t
one-block t h = sum_of_blocks (t ∷ []) (block_then h no_block) refl

pub ordered-blocks : (t s : U) → IsTidy t → IsFinished t s → IsBlockSum (product_of (ordered (mul_leaves s)))
ordered-blocks t s tidy h = record {
  blocks = normal-blocks (product_of (ordered (mul_leaves s)))
      (one-block (product_of (ordered (mul_leaves s)))
      (in_order-block s h.product (omega (arith, h.squashes, tidy.squashes)) (omega (arith, h.negations, tidy.negations))));
}
