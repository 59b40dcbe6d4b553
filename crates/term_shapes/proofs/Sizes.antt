-- How large and how deep a term is that has a shape.
use Rattle.std.proofs.Common.{◌≡◌, ℕ, ◌+◌, ◌*◌, ◌≤◌, List, [], ◌∷◌, ◌++◌, length, refl, arith}
use Rattle.std.proofs.lemmas.List.{length-append}
use Rattle.std.proofs.lemmas.List.Sums.{sum_by-append}
use Rattle.data_model.specs.Lists.{Each}
use Rattle.u_terms.specs.Syntax.{U, Zero, One, Add, Mul, Squash, Not, Sum, Rel, Eq, Pred, Val, Bound, Free, Lit, Fun, Agg, Vals, NoVals, ValThen}
use Rattle.u_terms.specs.Size.{nodes, value_nodes, row_nodes, depth, value_depth, row_depth}
use Rattle.u_terms.proofs.Sizes.{nodes-Add}
use Rattle.shapes.specs.Shapes.{Shape}
use Rattle.block_costs.specs.Costs.{term_nodes, term_depth, union_nodes}
use Rattle.term_shapes.specs.Factors.{Factor, listed, negated, factors, sum_count, under_sums}
use Rattle.term_shapes.specs.TermShape.{HasShape}
use Rattle.term_shapes.specs.BlockTerms.{HaveShapes, one_block, two_sums}
use Rattle.term_shapes.specs.FewOnes.{ones, HasFewOnes}
use Rattle.term_shapes.proofs.Counted.{IsSingle, IsFlat, room, rooms, counted}
use Rattle.term_shapes.proofs.Columns.{sums-columns}
use Rattle.term_shapes.proofs.FewOnes.{few-ones, few-parts}

-- ---- values without parts
single-nodes : (x : Val) → IsSingle x → value_nodes x ≡ 1
unfolding nodes
single-nodes (Bound place) h = refl
single-nodes (Free name) h = refl
single-nodes (Lit a) h = refl
single-nodes (Fun symbol s args) h = absurd h
single-nodes (Agg aggregate body) h = absurd h

row-nodes : {m : _} (xs : Vals m) → Each IsSingle (listed xs) → row_nodes xs ≡ length (listed xs)
unfolding nodes
row-nodes NoVals h = refl
row-nodes (ValThen x rest) h = omega (arith, single-nodes x h.0, row-nodes rest h.1)

single-depth : (x : Val) → IsSingle x → value_depth x ≡ 1
unfolding depth
single-depth (Bound place) h = refl
single-depth (Free name) h = refl
single-depth (Lit a) h = refl
single-depth (Fun symbol s args) h = absurd h
single-depth (Agg aggregate body) h = absurd h

row-depth : {m : _} (xs : Vals m) → Each IsSingle (listed xs) → row_depth xs ≤ 1
unfolding depth
row-depth NoVals h = omega arith
row-depth (ValThen x rest) h = omega (arith, single-depth x h.0, row-depth rest h.1)

-- ---- a product
flat-parts : (fs gs : List Factor) → Each IsFlat (fs ++ gs) → Each IsFlat fs × Each IsFlat gs
flat-parts [] gs h = (tt, h)
flat-parts (f ∷ fs) gs h = let k = flat-parts fs gs h.1 in ((h.0, k.0), k.1)

rooms-append : (fs gs : List Factor) → rooms (fs ++ gs) ≡ rooms fs + rooms gs
rooms-append [] gs = omega arith
rooms-append (f ∷ fs) gs = omega (arith, rooms-append fs gs)

negated-nodes : (w : U) → IsFlat (negated w) → nodes w + 2 ≤ room (negated w)
unfolding negated nodes
negated-nodes Zero h = absurd h
negated-nodes One h = absurd h
negated-nodes (Add a b) h = absurd h
negated-nodes (Mul a b) h = absurd h
negated-nodes (Squash a) h = absurd h
negated-nodes (Not a) h = absurd h
negated-nodes (Sum a) h = absurd h
negated-nodes (Rel t s xs) h = absurd h
negated-nodes (Eq a b) h = omega (arith, single-nodes a h.0, single-nodes b h.1)
negated-nodes (Pred p s xs) h = omega (arith, row-nodes xs h)

product-nodes : (w : U) → Each IsFlat (factors w) → nodes w + 1 ≤ rooms (factors w) + 2 * ones w
unfolding factors nodes ones
product-nodes Zero h = absurd h.0
product-nodes One h = omega arith
product-nodes (Add a b) h = absurd h.0
product-nodes (Mul a b) h =
    let k = flat-parts (factors a) (factors b) h in omega (arith, rooms-append (factors a) (factors b), product-nodes a k.0, product-nodes b k.1)
product-nodes (Squash a) h = absurd h.0
product-nodes (Not a) h = omega (arith, negated-nodes a h.0)
product-nodes (Sum a) h = absurd h.0
product-nodes (Rel t s xs) h = omega (arith, row-nodes xs h.0)
product-nodes (Eq a b) h = omega (arith, single-nodes a h.0.0, single-nodes b h.0.1)
product-nodes (Pred p s xs) h = omega (arith, row-nodes xs h.0)

some-factor : (w : U) → 1 ≤ length (factors w) + ones w
unfolding factors ones
some-factor Zero = omega arith
some-factor One = omega arith
some-factor (Add a b) = omega arith
some-factor (Mul a b) = omega (arith, length-append (factors a) (factors b), some-factor a)
some-factor (Squash a) = omega arith
some-factor (Not a) = omega arith
some-factor (Sum a) = omega arith
some-factor (Rel t s xs) = omega arith
some-factor (Eq a b) = omega arith
some-factor (Pred p s xs) = omega arith

negated-depth : (w : U) → IsFlat (negated w) → depth w ≤ 2
unfolding negated depth
negated-depth Zero h = absurd h
negated-depth One h = absurd h
negated-depth (Add a b) h = absurd h
negated-depth (Mul a b) h = absurd h
negated-depth (Squash a) h = absurd h
negated-depth (Not a) h = absurd h
negated-depth (Sum a) h = absurd h
negated-depth (Rel t s xs) h = absurd h
negated-depth (Eq a b) h = omega (arith, single-depth a h.0, single-depth b h.1)
negated-depth (Pred p s xs) h = omega (arith, row-depth xs h)

product-depth : (w : U) → Each IsFlat (factors w) → depth w ≤ 2 + length (factors w) + ones w
unfolding factors depth ones
product-depth Zero h = absurd h.0
product-depth One h = omega arith
product-depth (Add a b) h = absurd h.0
product-depth (Mul a b) h =
    let k = flat-parts (factors a) (factors b) h in
    omega (arith, length-append (factors a) (factors b), product-depth a k.0, product-depth b k.1, some-factor a, some-factor b)
product-depth (Squash a) h = absurd h.0
product-depth (Not a) h = omega (arith, negated-depth a h.0)
product-depth (Sum a) h = absurd h.0
product-depth (Rel t s xs) h = omega (arith, row-depth xs h.0)
product-depth (Eq a b) h = omega (arith, single-depth a h.0.0, single-depth b h.0.1)
product-depth (Pred p s xs) h = omega (arith, row-depth xs h.0)

-- ---- under the sums
pub record IsUnder (w : U) : Type 0 where
  pub in_nodes : nodes w ≡ sum_count w + nodes (under_sums w)
  pub in_depth : depth w ≡ sum_count w + depth (under_sums w)
  pub in_ones : ones w ≡ ones (under_sums w)

pub under : (w : U) → IsUnder w
unfolding sum_count under_sums nodes depth ones
under Zero = record { in_nodes = omega arith; in_depth = omega arith; in_ones = refl }
under One = record { in_nodes = omega arith; in_depth = omega arith; in_ones = refl }
under (Add a b) = record { in_nodes = omega arith; in_depth = omega arith; in_ones = refl }
under (Mul a b) = record { in_nodes = omega arith; in_depth = omega arith; in_ones = refl }
under (Squash a) = record { in_nodes = omega arith; in_depth = omega arith; in_ones = refl }
under (Not a) = record { in_nodes = omega arith; in_depth = omega arith; in_ones = refl }
under (Sum a) = let k = under a in record { in_nodes = omega (arith, k.in_nodes); in_depth = omega (arith, k.in_depth); in_ones = k.in_ones }
under (Rel t s xs) = record { in_nodes = omega arith; in_depth = omega arith; in_ones = refl }
under (Eq a b) = record { in_nodes = omega arith; in_depth = omega arith; in_ones = refl }
under (Pred p s xs) = record { in_nodes = omega arith; in_depth = omega arith; in_ones = refl }

-- ---- a block
module _ (outs : ℕ) (w : U) (s : Shape) (h : HasShape outs w s) (few : ones w ≤ 1) where
  pub block-nodes : nodes w ≤ term_nodes s
  block-nodes =
      let k = counted outs w s h in
      let v = under w in
      omega (arith, product-nodes (under_sums w) k.flat, k.by_room, sums-columns outs w s h, v.in_nodes, v.in_ones, few)

  pub block-depth : depth w ≤ term_depth s
  block-depth =
      let k = counted outs w s h in
      let v = under w in
      omega (arith, product-depth (under_sums w) k.flat, k.by_many, sums-columns outs w s h, v.in_depth, v.in_ones, few)

-- ---- a sum of blocks
sum-room : (outs : ℕ) (w : U) (ss : List Shape) → HaveShapes outs w ss → HasFewOnes w → nodes w + 1 ≤ union_nodes ss
sum-room outs w ss (one_block {s = s} h) few = omega (arith, block-nodes outs w s h (few-ones w few))
sum-room outs w ss (two_sums {a = a} {b = b} {ss = ls} {ts = rs} h k) few =
    let parts = few-parts a b few in
    omega (arith, nodes-Add a b, sum-room outs a ls h parts.0, sum-room outs b rs k parts.1, sum_by-append (λ (s : Shape). 1 + term_nodes s) ls rs)

pub sum-nodes : (outs : ℕ) (w : U) (ss : List Shape) → HaveShapes outs w ss → HasFewOnes w → nodes w ≤ union_nodes ss
sum-nodes outs w ss h few = omega (arith, sum-room outs w ss h few)
