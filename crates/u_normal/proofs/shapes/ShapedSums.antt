-- Sums of blocks that have shapes: with the factors of each block by their kinds, in one row, they have the same shapes in the same order.
use Rattle.std.proofs.Common.{◌≡◌, ℕ, ◌+◌, ◌≤◌, List, [], ◌∷◌, ◌++◌, length, Option, Some, None, refl, sym, subst, ◌∙◌, arith}
use Rattle.std.specs.Prelude.{Bool, true, false, ◌↔◌, IsTrue, IfOk, Result, Ok, Err, is_some}
use Rattle.std.specs.List.{sum_by}
use Rattle.std.proofs.lemmas.List.{length-append}
use Rattle.std.proofs.lemmas.List.Sums.{sum_by-append, sum_by-cons}
use Rattle.u_terms.specs.declared.term.U.TheVariants as u
use Rattle.u_terms.specs.Syntax.{U, Zero, One, Add, Mul, Squash as SquashOf, Not as NotOf, Sum, Rel, Eq, Pred, constructors}
use Rattle.u_terms.specs.Size.{nodes}
use Rattle.u_terms.proofs.Sizes.{nodes-One, nodes-Add, nodes-Mul}
use Rattle.u_terms.proofs.Parts.{parts-Squash}
use Rattle.u_terms.specs.Products.{product_of}
use Rattle.u_rules.specs.Terms.{add_leaves}
use Rattle.normal_form.specs.NormalTerms.{sum_of, IsNormal, AreBlocks, IsBlock, sum_of_blocks, no_block, block_then}
use Rattle.normal_form.proofs.Loose.{block-leaf}
use Rattle.shapes.specs.Shapes.{Shape}
use Rattle.term_shapes.specs.Factors.{factors, sum_count, under_sums}
use Rattle.term_shapes.specs.TermShape.{term_shape, HasShape}
use Rattle.term_shapes.specs.BlockTerms.{HaveShapes, one_block, two_sums}
use Rattle.u_normal.specs.Shaped.{tidied, all_tidied, block_count, AreShaped, HasSomeShape, IsShaped, sum_of_shapes, squash_of_shape}
use Rattle.u_normal.proofs.shapes.TidiedBlocks.{tidied-shape, tidied-block}

-- ---- what has no shape
pub add-none : (outs : ℕ) (a b : U) (s : Shape) → HasShape outs (Add a b) s → ⊥
unfolding term_shape factors sum_count under_sums
add-none outs a b s h = cc

squash-none : (outs : ℕ) (a : U) (s : Shape) → HasShape outs (SquashOf a) s → ⊥
unfolding term_shape factors sum_count under_sums
squash-none outs a s h = cc

-- ---- the blocks of a sum
pub parts-left : (outs : ℕ) (a b : U) (ss : List Shape) → HaveShapes outs (u.Add a b) ss → AreShaped outs a
unfolding constructors
parts-left outs a b ss (one_block {s = s} h) = absurd (add-none outs a b s h)
parts-left outs a b ss (two_sums {ss = ls} h k) = record { shapes = ls; have = h }

pub parts-right : (outs : ℕ) (a b : U) (ss : List Shape) → HaveShapes outs (u.Add a b) ss → AreShaped outs b
unfolding constructors
parts-right outs a b ss (one_block {s = s} h) = absurd (add-none outs a b s h)
parts-right outs a b ss (two_sums {ts = rs} h k) = record { shapes = rs; have = k }

pub parts-both : (outs : ℕ) (a b : U) → AreShaped outs a → AreShaped outs b → AreShaped outs (u.Add a b)
parts-both outs a b h k = record { shapes = h.shapes ++ k.shapes; have = two_sums h.have k.have }

only-block : (outs : ℕ) (t : U) (ss : List Shape) → HaveShapes outs t ss → ((a b : U) → t ≡ u.Add a b → ⊥) → HasSomeShape outs t
only-block outs t ss (one_block {s = s} h) other = record { shape = s; has = h }
only-block outs t ss (two_sums {a = a} {b = b} h k) other = absurd (other a b refl)

pub one-shape : (outs : ℕ) (t : U) → AreShaped outs t → ((a b : U) → t ≡ u.Add a b → ⊥) → HasSomeShape outs t
one-shape outs t h other = only-block outs t h.shapes h.have other

pub one-shaped : (outs : ℕ) (t : U) (s : Shape) → HasShape outs t s → AreShaped outs t
one-shaped outs t s h = record { shapes = s ∷ []; have = one_block h }

squash-no_sum : (outs : ℕ) (a : U) (ss : List Shape) → HaveShapes outs (u.Squash a) ss → ⊥
unfolding constructors
squash-no_sum outs a ss (one_block {s = s} h) = squash-none outs a s h

pub squash-unshaped : (outs : ℕ) (t a : U) (ss : List Shape) → t ≡ u.Squash a → HaveShapes outs t ss → ⊥
squash-unshaped outs t a ss e h = squash-no_sum outs a ss (subst (λ (x : U). HaveShapes outs x ss) e h)

-- ---- each block by itself
data EachShape (outs : ℕ) : List U → List Shape → Type 0 where
  no_shape : EachShape outs [] []
  shape_then : {block : U} {blocks : List U} {s : Shape} {ss : List Shape} → HasShape outs block s → IsBlock block → EachShape outs blocks ss → EachShape outs (block ∷ blocks) (s ∷ ss)

each-append : (outs : ℕ) {us vs : List U} {ss ts : List Shape} → EachShape outs us ss → EachShape outs vs ts → EachShape outs (us ++ vs) (ss ++ ts)
each-append outs no_shape k = k
each-append outs (shape_then h b hs) k = shape_then h b (each-append outs hs k)

each-one : (outs : ℕ) (t : U) (s : Shape) → HasShape outs t s → EachShape outs (add_leaves (tidied t)) (s ∷ [])
each-one outs t s h =
    subst (λ (us : List U). EachShape outs us (s ∷ [])) (sym (block-leaf (tidied t) (tidied-block outs t s h)))
    (shape_then (tidied-shape outs t s h) (tidied-block outs t s h) no_shape)

each-block : (outs : ℕ) (t : U) (s : Shape) → HasShape outs t s → EachShape outs (add_leaves (all_tidied t)) (s ∷ [])
unfolding all_tidied
each-block outs Zero s h = each-one outs Zero s h
each-block outs One s h = each-one outs One s h
each-block outs (Add a b) s h = absurd (add-none outs a b s h)
each-block outs (Mul a b) s h = each-one outs (Mul a b) s h
each-block outs (SquashOf a) s h = each-one outs (SquashOf a) s h
each-block outs (NotOf a) s h = each-one outs (NotOf a) s h
each-block outs (Sum body) s h = each-one outs (Sum body) s h
each-block outs (Rel table shape arguments) s h = each-one outs (Rel table shape arguments) s h
each-block outs (Eq a b) s h = each-one outs (Eq a b) s h
each-block outs (Pred symbol shape arguments) s h = each-one outs (Pred symbol shape arguments) s h

each-shape : (outs : ℕ) (t : U) (ss : List Shape) → HaveShapes outs t ss → EachShape outs (add_leaves (all_tidied t)) ss
unfolding all_tidied add_leaves constructors
each-shape outs t ss (one_block {s = s} h) = each-block outs t s h
each-shape outs t ss (two_sums {a = a} {b = b} {ss = ls} {ts = rs} h k) = each-append outs (each-shape outs a ls h) (each-shape outs b rs k)

-- ---- in one row
pub some-shapes : (outs : ℕ) (t : U) (ss : List Shape) → HaveShapes outs t ss → 1 ≤ length ss
some-shapes outs t ss (one_block h) = omega arith
some-shapes outs t ss (two_sums {a = a} {ss = ls} {ts = rs} h k) = omega (arith, some-shapes outs a ls h, length-append ls rs)

row-shapes : (outs : ℕ) (us : List U) (ss : List Shape) → EachShape outs us ss → 1 ≤ length ss → HaveShapes outs (sum_of us) ss
row-shapes outs us ss no_shape some = absurd (omega (arith, some))
row-shapes outs us ss (shape_then h b no_shape) some = one_block h
row-shapes outs us ss (shape_then h b (shape_then {block = v} {blocks = vs} {s = t} {ss = ts} k c hs)) some = two_sums (one_block h) (row-shapes outs (v ∷ vs) (t ∷ ts) (shape_then k c hs) (omega arith))

are-blocks : (outs : ℕ) (us : List U) (ss : List Shape) → EachShape outs us ss → AreBlocks us
are-blocks outs us ss no_shape = no_block
are-blocks outs us ss (shape_then {blocks = vs} {ss = ts} h b hs) = block_then b (are-blocks outs vs ts hs)

module _ (outs : ℕ) (t : U) (ss : List Shape) (h : HaveShapes outs t ss) where
  pub row-shaped : HaveShapes outs (sum_of (add_leaves (all_tidied t))) ss
  row-shaped = row-shapes outs (add_leaves (all_tidied t)) ss (each-shape outs t ss h) (some-shapes outs t ss h)

  pub row-normal : IsNormal (sum_of (add_leaves (all_tidied t)))
  row-normal = sum_of_blocks (add_leaves (all_tidied t)) (are-blocks outs (add_leaves (all_tidied t)) ss (each-shape outs t ss h)) refl

-- ---- how many blocks
count-one : (outs : ℕ) (t : U) (s : Shape) → HasShape outs t s → block_count t ≡ 1
unfolding block_count
count-one outs Zero s h = refl
count-one outs One s h = refl
count-one outs (Add a b) s h = absurd (add-none outs a b s h)
count-one outs (Mul a b) s h = refl
count-one outs (SquashOf a) s h = refl
count-one outs (NotOf a) s h = refl
count-one outs (Sum body) s h = refl
count-one outs (Rel table shape arguments) s h = refl
count-one outs (Eq a b) s h = refl
count-one outs (Pred symbol shape arguments) s h = refl

pub count-blocks : (outs : ℕ) (t : U) (ss : List Shape) → HaveShapes outs t ss → block_count t ≡ length ss
unfolding block_count constructors
count-blocks outs t ss (one_block {s = s} h) = count-one outs t s h
count-blocks outs t ss (two_sums {a = a} {b = b} {ss = ls} {ts = rs} h k) = omega (arith, count-blocks outs a ls h, count-blocks outs b rs k, length-append ls rs)

-- ---- at code's constructors
pub all_tidied-Add : (a b : U) → all_tidied (u.Add a b) ≡ u.Add (all_tidied a) (all_tidied b)
unfolding all_tidied constructors
all_tidied-Add a b = refl

pub block_count-Add : (a b : U) → block_count (u.Add a b) ≡ block_count a + block_count b
unfolding block_count constructors
block_count-Add a b = refl

pub all_tidied-block : (t : U) → ((a b : U) → t ≡ u.Add a b → ⊥) → all_tidied t ≡ tidied t
unfolding all_tidied constructors
all_tidied-block Zero other = refl
all_tidied-block One other = refl
all_tidied-block (Add a b) other = absurd (other a b refl)
all_tidied-block (Mul a b) other = refl
all_tidied-block (SquashOf a) other = refl
all_tidied-block (NotOf a) other = refl
all_tidied-block (Sum body) other = refl
all_tidied-block (Rel table shape arguments) other = refl
all_tidied-block (Eq a b) other = refl
all_tidied-block (Pred symbol shape arguments) other = refl

pub block_count-one : (t : U) → ((a b : U) → t ≡ u.Add a b → ⊥) → block_count t ≡ 1
unfolding block_count constructors
block_count-one Zero other = refl
block_count-one One other = refl
block_count-one (Add a b) other = absurd (other a b refl)
block_count-one (Mul a b) other = refl
block_count-one (SquashOf a) other = refl
block_count-one (NotOf a) other = refl
block_count-one (Sum body) other = refl
block_count-one (Rel table shape arguments) other = refl
block_count-one (Eq a b) other = refl
block_count-one (Pred symbol shape arguments) other = refl

-- ---- how large a row is
abbrev weight : List U → ℕ
weight us = sum_by (λ x. nodes x + 1) us

product-row : (x : U) (us : List U) → nodes (product_of (x ∷ us)) + 1 ≡ weight (x ∷ us)
product-row x [] = omega (arith, sum_by-cons (λ x. nodes x + 1) x [])
product-row x (y ∷ us) = omega (arith, sum_by-cons (λ x. nodes x + 1) x (y ∷ us), product-row y us, nodes-Mul x (product_of (y ∷ us)))

pub product-small : (us : List U) (most : ℕ) → 1 ≤ most → weight us ≤ most + 1 → nodes (product_of us) ≤ most
product-small [] most some h = omega (arith, nodes-One)
product-small (x ∷ us) most some h = omega (arith, product-row x us)

sum-row : (x : U) (us : List U) → nodes (sum_of (x ∷ us)) + 1 ≡ weight (x ∷ us)
sum-row x [] = omega (arith, sum_by-cons (λ x. nodes x + 1) x [])
sum-row x (y ∷ us) = omega (arith, sum_by-cons (λ x. nodes x + 1) x (y ∷ us), sum-row y us, nodes-Add x (sum_of (y ∷ us)))

weight-one : (x : U) → weight (x ∷ []) ≡ nodes x + 1
weight-one x = omega (arith, sum_by-cons (λ x. nodes x + 1) x [])

weight-leaves : (t : U) → weight (add_leaves t) ≤ nodes t + 1
unfolding add_leaves nodes
weight-leaves Zero = omega arith
weight-leaves One = omega (arith, weight-one One)
weight-leaves (Add a b) = omega (arith, sum_by-append (λ x. nodes x + 1) (add_leaves a) (add_leaves b), weight-leaves a, weight-leaves b)
weight-leaves (Mul a b) = omega (arith, weight-one (Mul a b))
weight-leaves (SquashOf a) = omega (arith, weight-one (SquashOf a))
weight-leaves (NotOf a) = omega (arith, weight-one (NotOf a))
weight-leaves (Sum body) = omega (arith, weight-one (Sum body))
weight-leaves (Rel table shape arguments) = omega (arith, weight-one (Rel table shape arguments))
weight-leaves (Eq a b) = omega (arith, weight-one (Eq a b))
weight-leaves (Pred symbol shape arguments) = omega (arith, weight-one (Pred symbol shape arguments))

zero-small : nodes u.Zero ≡ 1
unfolding nodes constructors
zero-small = refl

sum-small : (us : List U) (most : ℕ) → 1 ≤ most → weight us ≤ most + 1 → nodes (sum_of us) ≤ most
sum-small [] most some h = omega (arith, zero-small)
sum-small (x ∷ us) most some h = omega (arith, sum-row x us)

pub in_row-small : (t : U) → 1 ≤ nodes t → nodes (sum_of (add_leaves t)) ≤ nodes t
in_row-small t some = sum-small (add_leaves t) (nodes t) some (weight-leaves t)

-- ---- the tests
some-shape : (outs : ℕ) (t : U) (o : Option Shape) → o ≡ term_shape outs t → IsTrue (is_some o) ↔ HasSomeShape outs t
some-shape outs t None e = (λ is. absurd (cc), λ h. let g : None ≡ Some h.shape = e ∙ h.has in absurd (cc))
some-shape outs t (Some s) e = (λ is. record { shape = s; has = sym e }, λ h. refl)

pub has-shape : (outs : ℕ) (t : U) (o : Option Shape) (b : Bool) → o ≡ term_shape outs t → b ≡ is_some o → IsTrue b ↔ HasSomeShape outs t
has-shape outs t o b e is = subst (λ (x : Bool). IsTrue x ↔ HasSomeShape outs t) (sym is) (some-shape outs t o e)

same-test : {E : Type 0} (P Q : Type 0) → (P → Q) → (Q → P) → (r : Result Bool E) → IfOk r (λ b. IsTrue b ↔ P) → IfOk r (λ b. IsTrue b ↔ Q)
same-test P Q f g (Ok b) h = (λ is. f (h.0 is), λ q. h.1 (g q))
same-test P Q f g (Err e) h = tt

module _ (outs : ℕ) (t : U) where
  pub tells-block : {E : Type 0} → ((a b : U) → t ≡ u.Add a b → ⊥) → (r : Result Bool E) → IfOk r (λ b. IsTrue b ↔ HasSomeShape outs t) → IfOk r (λ b. IsTrue b ↔ AreShaped outs t)
  tells-block other = same-test (HasSomeShape outs t) (AreShaped outs t) (λ h. one-shaped outs t h.shape h.has) (λ h. one-shape outs t h other)

  module _ (a b : U) (e : t ≡ u.Add a b) where
    pub shaped-left : AreShaped outs t → AreShaped outs a
    shaped-left h = parts-left outs a b h.shapes (subst (λ (x : U). HaveShapes outs x h.shapes) e h.have)

    pub shaped-right : AreShaped outs t → AreShaped outs b
    shaped-right h = parts-right outs a b h.shapes (subst (λ (x : U). HaveShapes outs x h.shapes) e h.have)

    pub tells-left : (AreShaped outs a → false ≡ true) → IsTrue false ↔ AreShaped outs t
    tells-left h = (λ is. absurd (cc), λ k. h (shaped-left k))

    pub tells-right : {E : Type 0} → AreShaped outs a → (r : Result Bool E) → IfOk r (λ x. IsTrue x ↔ AreShaped outs b) → IfOk r (λ x. IsTrue x ↔ AreShaped outs t)
    tells-right h = same-test (AreShaped outs b) (AreShaped outs t) (λ k. subst (λ (x : U). AreShaped outs x) (sym e) (parts-both outs a b h k)) shaped-right

-- ---- what is of neither form
pub sum-not_shaped : (outs : ℕ) (t : U) → ((a : U) → t ≡ u.Squash a → ⊥) → (AreShaped outs t → ⊥) → IsShaped outs t → ⊥
sum-not_shaped outs t not_squash unlike (sum_of_shapes ss h) = unlike (record { shapes = ss; have = h })
sum-not_shaped outs t not_squash unlike (squash_of_shape s h) = not_squash h.inside h.is

pub squash-not_shaped : (outs : ℕ) (t a : U) → t ≡ u.Squash a → (HasSomeShape outs a → ⊥) → IsShaped outs t → ⊥
squash-not_shaped outs t a e unlike (sum_of_shapes ss h) = squash-unshaped outs t a ss e h
squash-not_shaped outs t a e unlike (squash_of_shape s h) =
    unlike (record { shape = s; has = subst (λ (x : U). HasShape outs x s) (parts-Squash h.inside a (sym h.is ∙ e)) h.shape })
