-- Opening, closing and sums change sizes in a simple way: where a node stands for a node, a term keeps its nodes and its depth.
use Rattle.std.proofs.Common.{◌≡◌, ℕ, zero, suc, ◌+◌, Bool, true, false, refl, arith}
use Rattle.std.specs.Prelude.{if◌then◌else◌}
use Rattle.u_terms.specs.Syntax.{U, Zero, One, Add, Mul, Squash, Not, Sum, Rel, Eq, Pred, Val, Bound, Free, Lit, Fun, Agg, Vals, NoVals, ValThen, constructors}
use Rattle.u_terms.specs.Size.{nodes, value_nodes, row_nodes, depth, value_depth, row_depth}
use Rattle.u_terms.specs.Binding.{mapped, mapped_value, mapped_row, same_place, place_for_name, place_for_names, closed_at, closed_path, sums}

-- values of one node each are put at places and names
module _ (f g : ℕ → ℕ → Val)
    (place_one : (k i : ℕ) → value_nodes (f k i) ≡ 1) (name_one : (k x : ℕ) → value_nodes (g k x) ≡ 1)
    (place_flat : (k i : ℕ) → value_depth (f k i) ≡ 1) (name_flat : (k x : ℕ) → value_depth (g k x) ≡ 1) where
  mutual
    unfolding nodes mapped

    pub nodes-mapped : (a : U) (k : ℕ) → nodes (mapped f g k a) ≡ nodes a
    nodes-mapped Zero k = refl
    nodes-mapped One k = refl
    nodes-mapped (Add a b) k = rw (nodes-mapped a k, nodes-mapped b k) refl
    nodes-mapped (Mul a b) k = rw (nodes-mapped a k, nodes-mapped b k) refl
    nodes-mapped (Squash a) k = rw (nodes-mapped a k) refl
    nodes-mapped (Not a) k = rw (nodes-mapped a k) refl
    nodes-mapped (Sum body) k = rw (nodes-mapped body (k + 1)) refl
    nodes-mapped (Rel table shape arguments) k = rw (row_nodes-mapped arguments k) refl
    nodes-mapped (Eq a b) k = rw (value_nodes-mapped a k, value_nodes-mapped b k) refl
    nodes-mapped (Pred symbol shape arguments) k = rw (row_nodes-mapped arguments k) refl

    pub value_nodes-mapped : (a : Val) (k : ℕ) → value_nodes (mapped_value f g k a) ≡ value_nodes a
    value_nodes-mapped (Bound place) k = place_one k place
    value_nodes-mapped (Free name) k = name_one k name
    value_nodes-mapped (Lit literal) k = refl
    value_nodes-mapped (Fun symbol shape arguments) k = rw (row_nodes-mapped arguments k) refl
    value_nodes-mapped (Agg aggregate body) k = rw (nodes-mapped body (k + 1)) refl

    pub row_nodes-mapped : {m : _} (row : Vals m) (k : ℕ) → row_nodes (mapped_row f g k row) ≡ row_nodes row
    row_nodes-mapped NoVals k = refl
    row_nodes-mapped (ValThen a rest) k = rw (value_nodes-mapped a k, row_nodes-mapped rest k) refl

  mutual
    unfolding depth mapped

    pub depth-mapped : (a : U) (k : ℕ) → depth (mapped f g k a) ≡ depth a
    depth-mapped Zero k = refl
    depth-mapped One k = refl
    depth-mapped (Add a b) k = rw (depth-mapped a k, depth-mapped b k) refl
    depth-mapped (Mul a b) k = rw (depth-mapped a k, depth-mapped b k) refl
    depth-mapped (Squash a) k = rw (depth-mapped a k) refl
    depth-mapped (Not a) k = rw (depth-mapped a k) refl
    depth-mapped (Sum body) k = rw (depth-mapped body (k + 1)) refl
    depth-mapped (Rel table shape arguments) k = rw (row_depth-mapped arguments k) refl
    depth-mapped (Eq a b) k = rw (value_depth-mapped a k, value_depth-mapped b k) refl
    depth-mapped (Pred symbol shape arguments) k = rw (row_depth-mapped arguments k) refl

    pub value_depth-mapped : (a : Val) (k : ℕ) → value_depth (mapped_value f g k a) ≡ value_depth a
    value_depth-mapped (Bound place) k = place_flat k place
    value_depth-mapped (Free name) k = name_flat k name
    value_depth-mapped (Lit literal) k = refl
    value_depth-mapped (Fun symbol shape arguments) k = rw (row_depth-mapped arguments k) refl
    value_depth-mapped (Agg aggregate body) k = rw (depth-mapped body (k + 1)) refl

    pub row_depth-mapped : {m : _} (row : Vals m) (k : ℕ) → row_depth (mapped_row f g k row) ≡ row_depth row
    row_depth-mapped NoVals k = refl
    row_depth-mapped (ValThen a rest) k = rw (value_depth-mapped a k, row_depth-mapped rest k) refl

one-if : (b : Bool) (i x : ℕ) → value_nodes (if b then Bound i else Free x) ≡ 1
unfolding nodes
one-if true i x = refl
one-if false i x = refl

flat-if : (b : Bool) (i x : ℕ) → value_depth (if b then Bound i else Free x) ≡ 1
unfolding depth
flat-if true i x = refl
flat-if false i x = refl

bound-one : (i : ℕ) → value_nodes (Bound i) ≡ 1
unfolding nodes
bound-one i = refl

bound-flat : (i : ℕ) → value_depth (Bound i) ≡ 1
unfolding depth
bound-flat i = refl

pub closed_at-nodes : (a : U) (x : ℕ) → nodes (closed_at a x) ≡ nodes a
closed_at-nodes a x = nodes-mapped same_place (place_for_name x) (λ k i. bound-one i) (λ k y. one-if _ k y) (λ k i. bound-flat i) (λ k y. flat-if _ k y) a 0

pub closed_at-depth : (a : U) (x : ℕ) → depth (closed_at a x) ≡ depth a
closed_at-depth a x = depth-mapped same_place (place_for_name x) (λ k i. bound-one i) (λ k y. one-if _ k y) (λ k i. bound-flat i) (λ k y. flat-if _ k y) a 0

pub closed_path-nodes : (a : U) (first count : ℕ) → nodes (closed_path a first count) ≡ nodes a
closed_path-nodes a first count =
    nodes-mapped same_place (place_for_names first count) (λ k i. bound-one i) (λ k y. one-if _ _ y) (λ k i. bound-flat i) (λ k y. flat-if _ _ y) a 0

pub closed_path-depth : (a : U) (first count : ℕ) → depth (closed_path a first count) ≡ depth a
closed_path-depth a first count =
    depth-mapped same_place (place_for_names first count) (λ k i. bound-one i) (λ k y. one-if _ _ y) (λ k i. bound-flat i) (λ k y. flat-if _ _ y) a 0

-- ---- sums around a term
pub sums-nodes : (count : ℕ) (a : U) → nodes (sums count a) ≡ nodes a + count
unfolding nodes constructors
sums-nodes zero a = omega arith
sums-nodes (suc count) a = rw (sums-nodes count a) (omega arith)

pub sums-depth : (count : ℕ) (a : U) → depth (sums count a) ≡ depth a + count
unfolding depth constructors
sums-depth zero a = omega arith
sums-depth (suc count) a = rw (sums-depth count a) (omega arith)
