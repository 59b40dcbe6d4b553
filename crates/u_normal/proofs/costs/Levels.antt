-- How deep the derivations of sums of blocks are: by a level for each block, and the nodes of the largest block.
use Rattle.std.proofs.Common.{◌≡◌, ℕ, ◌+◌, ◌≤◌, List, [], ◌∷◌, length, refl, ap, sym, subst, ◌∙◌, arith}
use Rattle.std.specs.Prelude.{max}
use Rattle.std.specs.List.{sum_by}
use Rattle.std.proofs.lemmas.List.{length-append}
use Rattle.data_model.specs.Lists.{Each}
use Rattle.u_terms.specs.declared.facts.Facts.{Facts}
use Rattle.u_terms.specs.declared.term.U.TheVariants as u
use Rattle.u_terms.specs.Syntax.{U, Zero, One, Add, Mul, Squash, Not, Sum, Rel, Eq, Pred, constructors}
use Rattle.u_terms.specs.Size.{nodes, depth}
use Rattle.u_terms.specs.Products.{product_of}
use Rattle.u_rules.specs.Terms.{add_leaves, mul_leaves}
use Rattle.u_rules.proofs.multisets.LeavesAt.{add_leaves-Add}
use Rattle.u_rules.proofs.terms.Measured.{deep}
use Rattle.u_deriv.proofs.steps.Arguments.{nodes-positive}
use Rattle.u_moves.specs.Derivations.{Derivation}
use Rattle.normal_form.specs.Kinds.{ordered}
use Rattle.normal_form.specs.NormalTerms.{sum_of}
use Rattle.normal_form.proofs.Leaves.{leaves-in_order}
use Rattle.normal_form.proofs.Lists.{each-append, each-first, each-last}
use Rattle.normal_form.proofs.Loose.{block-leaf}
use Rattle.shapes.specs.Shapes.{Shape}
use Rattle.term_shapes.specs.Factors.{factors, sum_count, under_sums}
use Rattle.term_shapes.specs.TermShape.{term_shape, HasShape}
use Rattle.term_shapes.specs.BlockTerms.{HaveShapes, one_block, two_sums}
use Rattle.term_shapes.proofs.Sizes.{under}
use Rattle.u_normal.specs.Merging.{HasKinds}
use Rattle.u_normal.specs.Taking.{load}
use Rattle.u_normal.specs.Shaped.{tidied, all_tidied, block_count, HasSmallBlocks, IsBrief, IsLevel}
use Rattle.u_normal.proofs.products.Loads.{load-permuted, load-small}
use Rattle.u_normal.proofs.products.Finishes.{in_order-leaves}
use Rattle.u_normal.proofs.products.Blocks.{product-kinds}
use Rattle.u_normal.proofs.shapes.TidiedBlocks.{product-by, shape-saying, tidied-block, tidied-count, tidied-under}
use Rattle.u_normal.proofs.shapes.ShapedSums.{add-none, all_tidied-Add, all_tidied-block, block_count-Add, block_count-one, count-blocks, product-small, some-shapes}

-- ---- a block with its factors in order is no larger
ordered-weight : (t : U) → HasKinds t → sum_by (λ x. nodes x + 1) (ordered (mul_leaves t)) ≡ load t
unfolding load
ordered-weight t h =
    sym (ap (λ (us : List U). sum_by (λ x. nodes x + 1) us) (leaves-in_order t)) ∙ load-permuted t (product_of (ordered (mul_leaves t))) (in_order-leaves t h)

pub ordered-small : (t : U) → HasKinds t → nodes (product_of (ordered (mul_leaves t))) ≤ nodes t
ordered-small t h = product-small (ordered (mul_leaves t)) (nodes t) (nodes-positive t) (omega (arith, ordered-weight t h, load-small t))

tidied-small : (outs : ℕ) (t : U) (s : Shape) → HasShape outs t s → nodes (tidied t) ≤ nodes t
tidied-small outs t s h =
    let each = shape-saying outs t s h in
    let before = under t in
    let after = under (tidied t) in
    omega (arith, before.in_nodes, after.in_nodes, tidied-count t each, ap nodes (tidied-under t each), ordered-small (under_sums t) (product-kinds (under_sums t) (product-by (under_sums t) each)))

-- ---- the blocks of a sum
-- what has a shape is no sum
pub one-leaf : (outs : ℕ) (t : U) (s : Shape) → HasShape outs t s → add_leaves t ≡ t ∷ []
unfolding term_shape factors sum_count under_sums add_leaves
one-leaf outs Zero s h = cc
one-leaf outs One s h = refl
one-leaf outs (Add a b) s h = cc
one-leaf outs (Mul a b) s h = refl
one-leaf outs (Squash a) s h = refl
one-leaf outs (Not a) s h = refl
one-leaf outs (Sum body) s h = refl
one-leaf outs (Rel table shape arguments) s h = refl
one-leaf outs (Eq a b) s h = refl
one-leaf outs (Pred symbol shape arguments) s h = refl

not-sum : (outs : ℕ) (t : U) (s : Shape) → HasShape outs t s → (a b : U) → t ≡ u.Add a b → ⊥
unfolding constructors
not-sum outs t s h a b e = add-none outs a b s (subst (λ (x : U). HasShape outs x s) e h)

leaf-tidied : (outs : ℕ) (t : U) (s : Shape) → HasShape outs t s → add_leaves (all_tidied t) ≡ tidied t ∷ []
leaf-tidied outs t s h = ap add_leaves (all_tidied-block t (not-sum outs t s h)) ∙ block-leaf (tidied t) (tidied-block outs t s h)

some-block : (t : U) → 1 ≤ block_count t
unfolding block_count
some-block Zero = omega arith
some-block One = omega arith
some-block (Add a b) = omega (arith, some-block a)
some-block (Mul a b) = omega arith
some-block (Squash a) = omega arith
some-block (Not a) = omega arith
some-block (Sum body) = omega arith
some-block (Rel table shape arguments) = omega arith
some-block (Eq a b) = omega arith
some-block (Pred symbol shape arguments) = omega arith

-- of a sum with small blocks
module _ (most : ℕ) where
  abbrev IsSmall : U → Type 0
  IsSmall block = nodes block ≤ most

  pub small-left : (a b : U) → HasSmallBlocks most (u.Add a b) → HasSmallBlocks most a
  small-left a b h = each-first IsSmall (add_leaves a) (add_leaves b) (subst (λ (us : List U). Each IsSmall us) (add_leaves-Add a b) h)

  pub small-right : (a b : U) → HasSmallBlocks most (u.Add a b) → HasSmallBlocks most b
  small-right a b h = each-last IsSmall (add_leaves a) (add_leaves b) (subst (λ (us : List U). Each IsSmall us) (add_leaves-Add a b) h)

  pub small-both : (a b : U) → HasSmallBlocks most a → HasSmallBlocks most b → HasSmallBlocks most (u.Add a b)
  small-both a b h k = subst (λ (us : List U). Each IsSmall us) (sym (add_leaves-Add a b)) (each-append IsSmall (add_leaves a) (add_leaves b) h k)

  small-tidied : (outs : ℕ) (t : U) (ss : List Shape) → HaveShapes outs t ss → HasSmallBlocks most t → HasSmallBlocks most (all_tidied t)
  small-tidied outs t ss (one_block {s = s} h) small =
      let alone : Each IsSmall (t ∷ []) = subst (λ (us : List U). Each IsSmall us) (one-leaf outs t s h) small in
      subst (λ (us : List U). Each IsSmall us) (sym (leaf-tidied outs t s h)) (omega (arith, alone.0, tidied-small outs t s h), tt)
  small-tidied outs t ss (two_sums {a = a} {b = b} {ss = ls} {ts = rs} h k) small =
      subst (HasSmallBlocks most) (sym (all_tidied-Add a b))
      (small-both (all_tidied a) (all_tidied b) (small-tidied outs a ls h (small-left a b small)) (small-tidied outs b rs k (small-right a b small)))

  -- ---- depths
  sum-depth : (t : U) → HasSmallBlocks most t → depth t ≤ block_count t + most
  unfolding add_leaves block_count depth
  sum-depth Zero h = omega arith
  sum-depth One h = omega arith
  sum-depth (Add a b) h =
      omega (arith, sum-depth a (each-first IsSmall (add_leaves a) (add_leaves b) h), sum-depth b (each-last IsSmall (add_leaves a) (add_leaves b) h), some-block a, some-block b)
  sum-depth (Mul a b) h = omega (arith, h.0, deep (Mul a b))
  sum-depth (Squash a) h = omega (arith, h.0, deep (Squash a))
  sum-depth (Not a) h = omega (arith, h.0, deep (Not a))
  sum-depth (Sum body) h = omega (arith, h.0, deep (Sum body))
  sum-depth (Rel table shape arguments) h = omega (arith, h.0, deep (Rel table shape arguments))
  sum-depth (Eq a b) h = omega (arith, h.0, deep (Eq a b))
  sum-depth (Pred symbol shape arguments) h = omega (arith, h.0, deep (Pred symbol shape arguments))

  alone-small : (t : U) → ((a b : U) → t ≡ u.Add a b → ⊥) → HasSmallBlocks most t → nodes t ≤ 1 + most
  unfolding add_leaves nodes constructors
  alone-small Zero other h = omega arith
  alone-small One other h = omega arith
  alone-small (Add a b) other h = absurd (other a b refl)
  alone-small (Mul a b) other h = omega (arith, h.0)
  alone-small (Squash a) other h = omega (arith, h.0)
  alone-small (Not a) other h = omega (arith, h.0)
  alone-small (Sum body) other h = omega (arith, h.0)
  alone-small (Rel table shape arguments) other h = omega (arith, h.0)
  alone-small (Eq a b) other h = omega (arith, h.0)
  alone-small (Pred symbol shape arguments) other h = omega (arith, h.0)

  row-depth : (x : U) (us : List U) → Each IsSmall (x ∷ us) → depth (sum_of (x ∷ us)) ≤ length us + most
  unfolding depth constructors
  row-depth x [] h = omega (arith, h.0, deep x)
  row-depth x (y ∷ us) h = omega (arith, h.0, deep x, row-depth y us h.1)

leaves-many : (outs : ℕ) (t : U) (ss : List Shape) → HaveShapes outs t ss → length (add_leaves (all_tidied t)) ≡ length ss
leaves-many outs t ss (one_block {s = s} h) = ap length (leaf-tidied outs t s h)
leaves-many outs t ss (two_sums {a = a} {b = b} {ss = ls} {ts = rs} h k) =
    omega (
      arith,
      ap (λ (x : U). length (add_leaves x)) (all_tidied-Add a b),
      ap length (add_leaves-Add (all_tidied a) (all_tidied b)),
      length-append (add_leaves (all_tidied a)) (add_leaves (all_tidied b)),
      leaves-many outs a ls h,
      leaves-many outs b rs k,
      length-append ls rs,
    )

row-level : (outs : ℕ) (t : U) (ss : List Shape) → HaveShapes outs t ss → (most : ℕ) → HasSmallBlocks most t → depth (sum_of (add_leaves (all_tidied t))) ≤ length ss + most
row-level outs t ss h most small = at (add_leaves (all_tidied t)) (leaves-many outs t ss h) (small-tidied most outs t ss h small)
  where
    at : (us : List U) → length us ≡ length ss → Each (λ block. nodes block ≤ most) us → depth (sum_of us) ≤ length ss + most
    at [] long each = absurd (omega (arith, long, some-shapes outs t ss h))
    at (x ∷ us) long each = omega (arith, long, row-depth most x us each)

-- ---- derivations
pub level-alone : (F : Facts) (outs : ℕ) (t last : U) (n : ℕ) (d : Derivation) → ((a b : U) → t ≡ u.Add a b → ⊥) → IsBrief F outs t last n d → IsLevel t d
level-alone F outs t last n d other brief = record {
  level = λ most small. omega (arith, brief.short.shallow, ap nodes brief.ends.from, alone-small most t other small, block_count-one t other);
}

pub level-both : (t a b : U) (l r d : Derivation) → t ≡ u.Add a b → IsLevel a l → IsLevel b r → d.depth ≤ max (depth t) (1 + max l.depth r.depth) → IsLevel t d
level-both t a b l r d e left right shallow = record {
  level = λ most small.
      let parts : HasSmallBlocks most (u.Add a b) = subst (HasSmallBlocks most) e small in
      omega (
        arith,
        shallow,
        sum-depth most t small,
        left.level most (small-left most a b parts),
        right.level most (small-right most a b parts),
        ap block_count e,
        block_count-Add a b,
        some-block a,
        some-block b,
      );
}

pub sum-level : (outs : ℕ) (t : U) (ss : List Shape) → HaveShapes outs t ss → (blocks d : Derivation) → IsLevel t blocks → d.depth ≤ max blocks.depth (depth d.to) → d.to ≡ sum_of (add_leaves (all_tidied t))
    → (most : ℕ) → HasSmallBlocks most t → d.depth ≤ length ss + most
sum-level outs t ss h blocks d each shallow to most small =
    omega (arith, shallow, each.level most small, count-blocks outs t ss h, ap depth to, row-level outs t ss h most small)
