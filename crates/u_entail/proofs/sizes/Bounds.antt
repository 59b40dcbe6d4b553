-- How large the terms are in which an equality is gained.
use Rattle.std.proofs.Common.{◌≡◌, ℕ, zero, suc, ◌+◌, ◌≤◌, max, List, [], ◌∷◌, ◌++◌, length, ap, arith}
use Rattle.std.specs.Prelude.{Some, slice_get}
use Rattle.std.proofs.lemmas.List.{length-append}
use Rattle.std.proofs.lemmas.List.Sums.{sum_by-cons, sum_by-append}
use Rattle.std.proofs.lemmas.Option.{none-some, same_Some}
use Rattle.data_model.specs.Lists.{Each}
use Rattle.u_terms.specs.Syntax.{U, Zero, One, Add, Mul, Squash, Not, Sum, Rel, Eq, Pred}
use Rattle.u_terms.specs.Products.{product_of}
use Rattle.u_terms.specs.Size.{nodes, depth}
use Rattle.u_terms.proofs.Sizes.{nodes-Mul, nodes-One, depth-Mul, depth-One, depth-positive}
use Rattle.u_rules.specs.Terms.{mul_leaves}
use Rattle.u_deriv.proofs.steps.Arguments.{nodes-positive}
use Rattle.u_entail.specs.Spines.{spine, weight}
use Rattle.u_entail.proofs.products.Lists.{each-weaker, each-append}

pub weight-append : (xs ys : List U) → weight (xs ++ ys) ≡ weight xs + weight ys
weight-append xs ys = omega (arith, sum_by-append nodes xs ys, length-append xs ys)

weight-one : (x : U) → weight (x ∷ []) ≡ nodes x + 1
weight-one x = omega (arith, sum_by-cons nodes x [])

-- the leaves of a product weigh as much as the product, and one more where there are any
pub weight-leaves : (u : U) → weight (mul_leaves u) ≤ nodes u + 1
unfolding mul_leaves nodes
weight-leaves Zero = omega (arith, weight-one Zero)
weight-leaves One = omega arith
weight-leaves (Add a b) = omega (arith, weight-one (Add a b))
weight-leaves (Mul a b) = omega (arith, weight-append (mul_leaves a) (mul_leaves b), weight-leaves a, weight-leaves b)
weight-leaves (Squash a) = omega (arith, weight-one (Squash a))
weight-leaves (Not a) = omega (arith, weight-one (Not a))
weight-leaves (Sum body) = omega (arith, weight-one (Sum body))
weight-leaves (Rel table shape arguments) = omega (arith, weight-one (Rel table shape arguments))
weight-leaves (Eq a b) = omega (arith, weight-one (Eq a b))
weight-leaves (Pred symbol shape arguments) = omega (arith, weight-one (Pred symbol shape arguments))

abbrev pub AreWithin : ℕ → List U → Type 0
AreWithin most = Each (λ x. depth x ≤ most)

wider : (m n : ℕ) → m ≤ n → (xs : List U) → AreWithin m xs → AreWithin n xs
wider m n le xs each = each-weaker (λ x. depth x ≤ m) (λ x. depth x ≤ n) (λ x h. omega (arith, h)) xs each

pub depth-leaves : (u : U) → AreWithin (depth u) (mul_leaves u)
unfolding mul_leaves depth
depth-leaves Zero = (omega arith, tt)
depth-leaves One = tt
depth-leaves (Add a b) = (omega arith, tt)
depth-leaves (Mul a b) =
    each-append (λ x. depth x ≤ 1 + max (depth a) (depth b)) (mul_leaves a) (mul_leaves b) (wider (depth a) (1 + max (depth a) (depth b)) (omega arith) (mul_leaves a) (depth-leaves a))
    (wider (depth b) (1 + max (depth a) (depth b)) (omega arith) (mul_leaves b) (depth-leaves b))
depth-leaves (Squash a) = (omega arith, tt)
depth-leaves (Not a) = (omega arith, tt)
depth-leaves (Sum body) = (omega arith, tt)
depth-leaves (Rel table shape arguments) = (omega arith, tt)
depth-leaves (Eq a b) = (omega arith, tt)
depth-leaves (Pred symbol shape arguments) = (omega arith, tt)

pub depth-spine : (most : ℕ) (xs : List U) (last : U) → AreWithin most xs → depth (spine xs last) ≤ length xs + max most (depth last)
depth-spine most [] last each = omega arith
depth-spine most (x ∷ xs) last each = omega (arith, depth-Mul x (spine xs last), each.0, depth-spine most xs last each.1)

-- ---- the factors of a product that leans to the right
pub nodes-row-some : (x : U) (xs : List U) → nodes (product_of (x ∷ xs)) + 1 ≡ weight (x ∷ xs)
nodes-row-some x [] = omega (arith, weight-one x)
nodes-row-some x (y ∷ xs) = omega (arith, nodes-Mul x (product_of (y ∷ xs)), sum_by-cons nodes x (y ∷ xs), nodes-row-some y xs)

pub weight-product : (xs : List U) → weight xs ≤ nodes (product_of xs) + 1
weight-product [] = omega arith
weight-product (x ∷ xs) = omega (arith, nodes-row-some x xs)

pub depth-product : (xs : List U) → AreWithin (depth (product_of xs)) xs
depth-product [] = tt
depth-product (x ∷ []) = (omega arith, tt)
depth-product (x ∷ (y ∷ xs)) =
    let d = depth-Mul x (product_of (y ∷ xs)) in
    (omega (arith, d), wider (depth (product_of (y ∷ xs))) (depth (product_of (x ∷ (y ∷ xs)))) (omega (arith, d)) (y ∷ xs) (depth-product (y ∷ xs)))

-- ---- rows: products that lean to the right, and gain factors at their ends
pub nodes-row : (xs : List U) → nodes (product_of xs) ≤ weight xs + 1
nodes-row [] = omega (arith, nodes-One)
nodes-row (x ∷ xs) = omega (arith, nodes-row-some x xs)

-- of the factors of a product
pub nodes-row-leaves : (u : U) → nodes (product_of (mul_leaves u)) ≤ nodes u
nodes-row-leaves u = light (mul_leaves u) (weight-leaves u) where
  light : (xs : List U) → weight xs ≤ nodes u + 1 → nodes (product_of xs) ≤ nodes u
  light [] le = omega (arith, nodes-One, nodes-positive u)
  light (x ∷ xs) le = omega (arith, nodes-row-some x xs, le)

pub depth-row : (most : ℕ) (xs : List U) → 1 ≤ most → AreWithin most xs → depth (product_of xs) ≤ length xs + most
depth-row most [] some each = omega (arith, depth-One, some)
depth-row most (x ∷ []) some each = omega (arith, each.0)
depth-row most (x ∷ (y ∷ xs)) some each = omega (arith, each.0, depth-row most (y ∷ xs) some each.1, depth-Mul x (product_of (y ∷ xs)))

pub nodes-row-more : (xs ys : List U) → nodes (product_of xs) ≤ nodes (product_of (xs ++ ys))
nodes-row-more [] ys = omega (arith, nodes-One, nodes-positive (product_of ys))
nodes-row-more (x ∷ []) [] = omega arith
nodes-row-more (x ∷ []) (y ∷ ys) = omega (arith, nodes-Mul x (product_of (y ∷ ys)))
nodes-row-more (x ∷ (z ∷ xs)) ys = omega (arith, nodes-Mul x (product_of (z ∷ xs)), nodes-Mul x (product_of (z ∷ (xs ++ ys))), nodes-row-more (z ∷ xs) ys)

pub depth-row-more : (xs ys : List U) → depth (product_of xs) ≤ depth (product_of (xs ++ ys))
depth-row-more [] ys = omega (arith, depth-One, depth-positive (product_of ys))
depth-row-more (x ∷ []) [] = omega arith
depth-row-more (x ∷ []) (y ∷ ys) = omega (arith, depth-Mul x (product_of (y ∷ ys)))
depth-row-more (x ∷ (z ∷ xs)) ys = omega (arith, depth-Mul x (product_of (z ∷ xs)), depth-Mul x (product_of (z ∷ (xs ++ ys))), depth-row-more (z ∷ xs) ys)

-- one factor more
pub nodes-gained : (xs : List U) (x : U) → nodes (product_of (xs ++ x ∷ [])) ≤ nodes (product_of xs) + nodes x + 1
nodes-gained [] x = omega arith
nodes-gained (y ∷ []) x = omega (arith, nodes-Mul y x)
nodes-gained (y ∷ (z ∷ xs)) x = omega (arith, nodes-Mul y (product_of (z ∷ xs)), nodes-Mul y (product_of (z ∷ (xs ++ x ∷ []))), nodes-gained (z ∷ xs) x)

pub depth-gained : (xs : List U) (x : U) → depth (product_of (xs ++ x ∷ [])) ≤ max (depth (product_of xs) + 1) (length xs + depth x)
depth-gained [] x = omega arith
depth-gained (y ∷ []) x = omega (arith, depth-Mul y x)
depth-gained (y ∷ (z ∷ xs)) x = omega (arith, depth-Mul y (product_of (z ∷ xs)), depth-Mul y (product_of (z ∷ (xs ++ x ∷ []))), depth-gained (z ∷ xs) x)

-- ---- one of the factors
pub weight-at : (xs : List U) (i : ℕ) (x : U) → slice_get xs i ≡ Some x → nodes x + 1 ≤ weight xs
weight-at [] i x at = absurd (none-some x at)
weight-at (y ∷ ys) zero x at = omega (arith, ap nodes (same_Some y x at), sum_by-cons nodes y ys)
weight-at (y ∷ ys) (suc i) x at = omega (arith, weight-at ys i x at, sum_by-cons nodes y ys)
