-- Sums of numbers over lists, and how large rows of factors and sums of blocks are.
use Rattle.std.proofs.Common.{◌≡◌, ℕ, ◌+◌, ◌<◌, ◌≤◌, Bool, false, List, [], ◌∷◌, ◌++◌, length, map, refl, ap, arith}
use Rattle.std.specs.Prelude.{max, fold, sum_by, IsPermutation, if◌then◌else◌}
use Rattle.std.proofs.lemmas.List.Sums.{sum_by-cons, sum_by-append}
use Rattle.std.proofs.lemmas.List.Sorted.{length_permutation, sum_by-IsPermutation}
use Rattle.data_model.specs.Lists.{Each}
use Rattle.u_terms.specs.Syntax.{U}
use Rattle.u_terms.specs.Size.{nodes, depth}
use Rattle.u_terms.specs.Products.{product_of}
use Rattle.u_terms.proofs.Sizes.{nodes-Add, depth-Add}
use Rattle.u_entail.specs.Spines.{weight}
use Rattle.u_entail.proofs.sizes.Bounds.{nodes-row}
use Rattle.normal_form.specs.NormalTerms.{sum_of}
use Rattle.shape_entails.specs.Values.{is_atom}
use Rattle.u_bag.specs.Costs.{of_facts, one_more}

-- ---- sums over lists
pub ones : {X : Type 0} (xs : List X) → sum_by (λ (x : X). 1) xs ≡ length xs
ones [] = refl
ones (x ∷ xs) = let rest = ones xs in omega (arith, rest, sum_by-cons (λ (y : _). 1) x xs)

pub none-summed : {X : Type 0} (xs : List X) → sum_by (λ (x : X). 0) xs ≡ 0
none-summed [] = refl
none-summed (x ∷ xs) = let rest = none-summed xs in omega (arith, rest, sum_by-cons (λ (y : _). 0) x xs)

pub sum-mapped : {X : Type 0} (g : X → ℕ) (f : X → X) → ((x : X) → g (f x) ≡ g x) → (xs : List X) → sum_by g (map f xs) ≡ sum_by g xs
sum-mapped g f same [] = refl
sum-mapped g f same (x ∷ xs) =
    let rest = sum-mapped g f same xs in
    omega (arith, rest, same x, sum_by-cons g (f x) (map f xs), sum_by-cons g x xs)

-- those beside the ones in common
pub others-less : {X : Type 0} (g : X → ℕ) (all common others : List X) → IsPermutation all (common ++ others) → sum_by g others ≤ sum_by g all
others-less g all common others h = omega (arith, sum_by-IsPermutation g all (common ++ others) h, sum_by-append g common others)

as-fact : (f : U → ℕ) (x : U) (b : Bool) → b ≡ false → (if b then 0 else f x) ≡ f x
as-fact f x b e = ap (λ (c : Bool). if c then 0 else f x) e

pub facts-all : (f : U → ℕ) (xs : List U) → Each (λ x. is_atom x ≡ false) xs → sum_by (of_facts f) xs ≡ sum_by f xs
facts-all f [] each = refl
facts-all f (x ∷ xs) each =
    let rest = facts-all f xs each.1 in
    let first : of_facts f x ≡ f x = as-fact f x (is_atom x) each.0 in
    omega (arith, rest, first, sum_by-cons (of_facts f) x xs, sum_by-cons f x xs)

-- ---- factors in a row
weight-more : (xs : List U) → weight xs ≡ sum_by one_more xs
weight-more [] = refl
weight-more (x ∷ xs) = let rest = weight-more xs in omega (arith, rest, sum_by-cons nodes x xs, sum_by-cons one_more x xs)

pub row-few : (xs : List U) → nodes (product_of xs) ≤ 1 + sum_by one_more xs
row-few xs = omega (arith, nodes-row xs, weight-more xs)

-- ---- blocks in a sum
sum-nodes : (x : U) (xs : List U) → nodes (sum_of (x ∷ xs)) + 1 ≡ sum_by one_more (x ∷ xs)
sum-nodes x [] = omega (arith, sum_by-cons one_more x [])
sum-nodes x (y ∷ xs) = let rest = sum-nodes y xs in omega (arith, rest, nodes-Add x (sum_of (y ∷ xs)), sum_by-cons one_more x (y ∷ xs))

pub sum-permuted : (xs ys : List U) → 0 < length xs → IsPermutation xs ys → nodes (sum_of ys) ≡ nodes (sum_of xs)
sum-permuted [] ys some h = absurd (omega (arith, some))
sum-permuted (x ∷ xs) [] some h = absurd (omega (arith, length_permutation (x ∷ xs) [] h))
sum-permuted (x ∷ xs) (y ∷ ys) some h = omega (arith, sum-nodes x xs, sum-nodes y ys, sum_by-IsPermutation one_more (x ∷ xs) (y ∷ ys) h)

pub sum-shallow : (k : ℕ) (xs : List U) → 0 < length xs → Each (λ x. depth x ≤ k) xs → depth (sum_of xs) ≤ length xs + k
sum-shallow k [] some each = absurd (omega (arith, some))
sum-shallow k (x ∷ []) some each = let first = each.0 in omega (arith, first)
sum-shallow k (x ∷ y ∷ xs) some each =
    let first = each.0 in
    let rest = sum-shallow k (y ∷ xs) (omega arith) each.1 in
    omega (arith, first, rest, depth-Add x (sum_of (y ∷ xs)))

-- ---- the greatest of numbers
fold-max : {X : Type 0} (f : X → ℕ) (n : ℕ) (xs : List X) → fold (λ most x. max most (f x)) n xs ≡ max n (fold (λ most x. max most (f x)) 0 xs)
fold-max f n [] = omega arith
fold-max f n (x ∷ xs) = let one = fold-max f (max n (f x)) xs in let two = fold-max f (max 0 (f x)) xs in omega (arith, one, two)

pub greatest-more : {X : Type 0} (f : X → ℕ) (x : X) (xs : List X) → fold (λ most y. max most (f y)) 0 (x ∷ xs) ≡ max (f x) (fold (λ most y. max most (f y)) 0 xs)
greatest-more f x xs = let one = fold-max f (max 0 (f x)) xs in omega (arith, one)
