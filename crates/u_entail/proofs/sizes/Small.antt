-- Values that stand in a factor have no more nodes than it, and calls on a way stay as small as their level lets them.
use Rattle.std.proofs.Common.{◌≡◌, ℕ, ◌+◌, ◌-◌, ◌*◌, ◌≤◌, max, List, [], ◌∷◌, ◌++◌, length, inl, inr, ap, sym, ◌∙◌, subst, arith}
use Rattle.std.specs.Prelude.{Bool, true, false, Some, slice_get, sum_by}
use Rattle.std.proofs.lemmas.List.{length-append}
use Rattle.std.proofs.lemmas.List.Sums.{sum_by-cons, sum_by-append}
use Rattle.u_terms.specs.Syntax.{U, Zero, One, Add, Mul, Squash, Not, Sum, Rel, Eq, Pred, Val, Bound, Free, Lit, Fun, Agg, Vals, NoVals, ValThen, constructors}
use Rattle.u_terms.specs.Products.{product_of}
use Rattle.u_terms.specs.Size.{nodes, depth, value_nodes, value_depth, row_nodes, row_depth, list_depth}
use Rattle.u_terms.specs.declared.term.Val.TheVariants as v
use Rattle.u_terms.proofs.Sizes.{nodes-Fun, nodes-Mul, depth-Fun, list_depth-cons}
use Rattle.u_rules.specs.Terms.{◌≐◌, mul_leaves}
use Rattle.u_equal.specs.Standing.{IsIn, standing, value_standing, row_standing}
use Rattle.u_equal.proofs.products.Arguments.{sides-stand}
use Rattle.u_equal.proofs.products.Members.{in-cons, in-either, in-head, in-none}
use Rattle.u_entail.specs.Sides.{IsAmong, IsSide}
use Rattle.u_entail.specs.Small.{AreSmall, IsSmall, HaveRoom}
use Rattle.u_entail.specs.Spines.{weight}
use Rattle.u_entail.proofs.sizes.Bounds.{AreWithin, weight-at, weight-product, depth-product}
use Rattle.u_entail.proofs.products.Lists.{each-at}

-- ---- values that stand
record IsBelow (many deep : ℕ) (a : Val) : Type 0 where
  few : value_nodes a ≤ many
  shallow : value_depth a ≤ deep

below-wider : (m n i j : ℕ) (a : Val) → m ≤ n → i ≤ j → IsBelow m i a → IsBelow n j a
below-wider m n i j a le lower h = record { few = omega (arith, h.few, le); shallow = omega (arith, h.shallow, lower) }

below-either : (xs ys : List Val) (many deep : ℕ) (a : Val) → (IsIn a xs → IsBelow many deep a) → (IsIn a ys → IsBelow many deep a) → IsIn a (xs ++ ys) → IsBelow many deep a
below-either xs ys many deep a left right has = elim (in-either xs ys a has) [
  | inl here ↦ left here
  | inr there ↦ right there
]

below-one : (x a : Val) → IsIn a (x ∷ []) → IsBelow (value_nodes x) (value_depth x) a
below-one x a has = elim (in-cons x [] a has) [
  | inl is ↦ subst (λ (y : Val). IsBelow (value_nodes x) (value_depth x) y) (sym is) (record { few = omega arith; shallow = omega arith })
  | inr none ↦ absurd (in-none a none)
]

below-last : (xs : List Val) (x a : Val) → (IsIn a xs → IsBelow (value_nodes x) (value_depth x) a) → IsIn a (xs ++ x ∷ []) → IsBelow (value_nodes x) (value_depth x) a
below-last xs x a h has = below-either xs (x ∷ []) (value_nodes x) (value_depth x) a h (below-one x a) has

mutual
  unfolding standing nodes depth

  stands-below : (u : U) (a : Val) → IsIn a (standing u) → IsBelow (nodes u) (depth u) a
  stands-below Zero a has = absurd (in-none a has)
  stands-below One a has = absurd (in-none a has)
  stands-below (Add x y) a has =
      below-either (standing x) (standing y) (1 + nodes x + nodes y) (1 + max (depth x) (depth y)) a
      (λ here. below-wider (nodes x) (1 + nodes x + nodes y) (depth x) (1 + max (depth x) (depth y)) a (omega arith) (omega arith) (stands-below x a here))
      (λ there. below-wider (nodes y) (1 + nodes x + nodes y) (depth y) (1 + max (depth x) (depth y)) a (omega arith) (omega arith) (stands-below y a there)) has
  stands-below (Mul x y) a has =
      below-either (standing x) (standing y) (1 + nodes x + nodes y) (1 + max (depth x) (depth y)) a
      (λ here. below-wider (nodes x) (1 + nodes x + nodes y) (depth x) (1 + max (depth x) (depth y)) a (omega arith) (omega arith) (stands-below x a here))
      (λ there. below-wider (nodes y) (1 + nodes x + nodes y) (depth y) (1 + max (depth x) (depth y)) a (omega arith) (omega arith) (stands-below y a there)) has
  stands-below (Squash x) a has = below-wider (nodes x) (1 + nodes x) (depth x) (1 + depth x) a (omega arith) (omega arith) (stands-below x a has)
  stands-below (Not x) a has = below-wider (nodes x) (1 + nodes x) (depth x) (1 + depth x) a (omega arith) (omega arith) (stands-below x a has)
  stands-below (Sum body) a has = absurd (in-none a has)
  stands-below (Rel table shape arguments) a has =
      below-wider (row_nodes arguments) (1 + row_nodes arguments) (row_depth arguments) (1 + row_depth arguments) a (omega arith) (omega arith) (row-below arguments a has)
  stands-below (Eq x y) a has =
      below-either (value_standing x) (value_standing y) (1 + value_nodes x + value_nodes y) (1 + max (value_depth x) (value_depth y)) a
      (λ here. below-wider (value_nodes x) (1 + value_nodes x + value_nodes y) (value_depth x) (1 + max (value_depth x) (value_depth y)) a (omega arith) (omega arith) (value-below x a here))
      (λ there. below-wider (value_nodes y) (1 + value_nodes x + value_nodes y) (value_depth y) (1 + max (value_depth x) (value_depth y)) a (omega arith) (omega arith) (value-below y a there)) has
  stands-below (Pred symbol shape arguments) a has =
      below-wider (row_nodes arguments) (1 + row_nodes arguments) (row_depth arguments) (1 + row_depth arguments) a (omega arith) (omega arith) (row-below arguments a has)

  value-below : (x a : Val) → IsIn a (value_standing x) → IsBelow (value_nodes x) (value_depth x) a
  value-below (Bound place) a has = below-one (Bound place) a has
  value-below (Free name) a has = below-one (Free name) a has
  value-below (Lit literal) a has = below-one (Lit literal) a has
  value-below (Fun symbol shape arguments) a has =
      below-last (row_standing arguments) (Fun symbol shape arguments) a
      (λ here. below-wider (row_nodes arguments) (1 + row_nodes arguments) (row_depth arguments) (1 + row_depth arguments) a (omega arith) (omega arith) (row-below arguments a here)) has
  value-below (Agg aggregate body) a has = below-one (Agg aggregate body) a has

  row-below : {n : _} (row : Vals n) (a : Val) → IsIn a (row_standing row) → IsBelow (row_nodes row) (row_depth row) a
  row-below NoVals a has = absurd (in-none a has)
  row-below (ValThen value rest) a has =
      below-either (value_standing value) (row_standing rest) (value_nodes value + row_nodes rest) (max (value_depth value) (row_depth rest)) a
      (λ here. below-wider (value_nodes value) (value_nodes value + row_nodes rest) (value_depth value) (max (value_depth value) (row_depth rest)) a (omega arith) (omega arith) (value-below value a here))
      (λ there. below-wider (row_nodes rest) (value_nodes value + row_nodes rest) (row_depth rest) (max (value_depth value) (row_depth rest)) a (omega arith) (omega arith) (row-below rest a there)) has

-- ---- how many stand
mutual
  unfolding standing nodes

  stand-few : (u : U) → length (standing u) ≤ nodes u
  stand-few Zero = omega arith
  stand-few One = omega arith
  stand-few (Add x y) = omega (arith, length-append (standing x) (standing y), stand-few x, stand-few y)
  stand-few (Mul x y) = omega (arith, length-append (standing x) (standing y), stand-few x, stand-few y)
  stand-few (Squash x) = omega (arith, stand-few x)
  stand-few (Not x) = omega (arith, stand-few x)
  stand-few (Sum body) = omega arith
  stand-few (Rel table shape arguments) = omega (arith, row-few arguments)
  stand-few (Eq x y) = omega (arith, length-append (value_standing x) (value_standing y), value-few x, value-few y)
  stand-few (Pred symbol shape arguments) = omega (arith, row-few arguments)

  value-few : (x : Val) → length (value_standing x) ≤ value_nodes x
  value-few (Bound place) = omega arith
  value-few (Free name) = omega arith
  value-few (Lit literal) = omega arith
  value-few (Fun symbol shape arguments) = omega (arith, length-append (row_standing arguments) (Fun symbol shape arguments ∷ []), row-few arguments)
  value-few (Agg aggregate body) = omega arith

  row-few : {n : _} (row : Vals n) → length (row_standing row) ≤ row_nodes row
  row-few NoVals = omega arith
  row-few (ValThen value rest) = omega (arith, length-append (value_standing value) (row_standing rest), value-few value, row-few rest)

one-sum : (u : U) → sum_by nodes (u ∷ []) ≡ nodes u
one-sum u = omega (arith, sum_by-cons nodes u [])

pub stand-leaves : (u : U) → length (standing u) ≤ sum_by nodes (mul_leaves u)
unfolding standing mul_leaves
stand-leaves Zero = omega arith
stand-leaves One = omega arith
stand-leaves (Add x y) = omega (arith, stand-few (Add x y), one-sum (Add x y))
stand-leaves (Mul x y) = omega (arith, length-append (standing x) (standing y), stand-leaves x, stand-leaves y, sum_by-append nodes (mul_leaves x) (mul_leaves y))
stand-leaves (Squash x) = omega (arith, stand-few (Squash x), one-sum (Squash x))
stand-leaves (Not x) = omega (arith, stand-few (Not x), one-sum (Not x))
stand-leaves (Sum body) = omega arith
stand-leaves (Rel table shape arguments) = omega (arith, stand-few (Rel table shape arguments), one-sum (Rel table shape arguments))
stand-leaves (Eq x y) = omega (arith, stand-few (Eq x y), one-sum (Eq x y))
stand-leaves (Pred symbol shape arguments) = omega (arith, stand-few (Pred symbol shape arguments), one-sum (Pred symbol shape arguments))

pub sum-product : (xs : List U) → sum_by nodes xs ≤ nodes (product_of xs)
sum-product [] = omega arith
sum-product (x ∷ []) = omega (arith, one-sum x)
sum-product (x ∷ (y ∷ xs)) = omega (arith, nodes-Mul x (product_of (y ∷ xs)), sum_by-cons nodes x (y ∷ xs), sum-product (y ∷ xs))

pub sum-leaves : (u : U) → sum_by nodes (mul_leaves u) ≤ nodes u
unfolding mul_leaves nodes
sum-leaves Zero = omega (arith, one-sum Zero)
sum-leaves One = omega arith
sum-leaves (Add x y) = omega (arith, one-sum (Add x y))
sum-leaves (Mul x y) = omega (arith, sum_by-append nodes (mul_leaves x) (mul_leaves y), sum-leaves x, sum-leaves y)
sum-leaves (Squash x) = omega (arith, one-sum (Squash x))
sum-leaves (Not x) = omega (arith, one-sum (Not x))
sum-leaves (Sum body) = omega (arith, one-sum (Sum body))
sum-leaves (Rel table shape arguments) = omega (arith, one-sum (Rel table shape arguments))
sum-leaves (Eq x y) = omega (arith, one-sum (Eq x y))
sum-leaves (Pred symbol shape arguments) = omega (arith, one-sum (Pred symbol shape arguments))

-- ---- products of numbers
pub times-more : (n many : ℕ) → (n + 1) * many ≡ n * many + many
times-more n many = grind arith

times-sum : (m d many : ℕ) → (m + d) * many ≡ m * many + d * many
times-sum m d many = grind arith

pub times-le : (m n many : ℕ) → m ≤ n → m * many ≤ n * many
times-le m n many le =
    let is : m + (n - m) ≡ n = omega (arith, le) in
    let both : n * many ≡ m * many + (n - m) * many = ap (λ k. k * many) (sym is) ∙ times-sum m (n - m) many in
    omega (arith, both)

-- ---- small values
pub small-wider : (many deep m n : ℕ) (a : Val) → m ≤ n → IsSmall many deep m a → IsSmall many deep n a
small-wider many deep m n a le h = record { few = omega (arith, h.few, times-le m n many le); shallow = omega (arith, h.shallow, le) }

-- the sides of an equality stand in it
sides-here : (a b : Val) → IsIn a (standing (a ≐ b)) × IsIn b (standing (a ≐ b))
unfolding mul_leaves constructors
sides-here a b = sides-stand (a ≐ b) a b (in-head (a ≐ b) [])

module _ (many deep : ℕ) (factors : List U) (small : AreSmall many deep factors) where
  -- the sides of an equality
  both-small : (n i : ℕ) (a b : Val) → slice_get factors i ≡ Some (a ≐ b) → IsSmall many deep n a × IsSmall many deep n b
  both-small n i a b at =
      let both = sides-here a b in
      let left : IsAmong factors a = record { place = i; factor = a ≐ b; at = at; stands = both.0 } in
      let right : IsAmong factors b = record { place = i; factor = a ≐ b; at = at; stands = both.1 } in (
        record { few = omega (arith, small.few a left); shallow = omega (arith, small.shallow a left) },
        record { few = omega (arith, small.few b right); shallow = omega (arith, small.shallow b right) },
      )

  pub sides-small : (n factor : ℕ) (turned : Bool) (a b : Val) → IsSide factors factor turned a b → IsSmall many deep n a × IsSmall many deep n b
  sides-small n factor false a b is = both-small n factor a b is
  sides-small n factor true a b is = let both = both-small n factor b a is in (both.1, both.0)

  -- calls that stand
  pub calls-room : (f g : ℕ) (xs ys : List Val) → IsAmong factors (v.Fun f xs) → IsAmong factors (v.Fun g ys) → HaveRoom many deep [] xs ys
  calls-room f g xs ys from to =
      record {
        few = omega (arith, small.few (v.Fun f xs) from, small.few (v.Fun g ys) to, nodes-Fun f xs, nodes-Fun g ys);
        shallow_before = omega (arith, small.shallow (v.Fun f xs) from, depth-Fun f xs);
        shallow_from = omega (arith, small.shallow (v.Fun f xs) from, depth-Fun f xs);
        shallow_to = omega (arith, small.shallow (v.Fun g ys) to, depth-Fun g ys);
      }

pub small-weight : (many deep : ℕ) (factors : List U) → weight factors ≤ many + 1 → AreWithin deep factors → AreSmall many deep factors
small-weight many deep factors weighs within = record { few = λ a h. let b = below a h in b.few; shallow = λ a h. let b = below a h in b.shallow } where
  below : (a : Val) → IsAmong factors a → IsBelow many deep a
  below a h =
      below-wider (nodes h.factor) many (depth h.factor) deep a (omega (arith, weighs, weight-at factors h.place h.factor h.at))
      (each-at (λ u. depth u ≤ deep) factors h.place h.factor within h.at) (stands-below h.factor a h.stands)

pub small-factors : (factors : List U) → AreSmall (nodes (product_of factors)) (depth (product_of factors)) factors
small-factors factors = small-weight (nodes (product_of factors)) (depth (product_of factors)) factors (weight-product factors) (depth-product factors)

-- ---- a call on the way between two calls
pub list_depth-push : (vs : List Val) (w : Val) → list_depth (vs ++ w ∷ []) ≡ max (list_depth vs) (value_depth w)
list_depth-push [] w = omega (arith, list_depth-cons w [])
list_depth-push (x ∷ vs) w = omega (arith, list_depth-cons x (vs ++ w ∷ []), list_depth-cons x vs, list_depth-push vs w)

pub list_depth-between : (before after : List Val) (w : Val) → list_depth (before ++ w ∷ after) ≡ max (max (list_depth before) (value_depth w)) (list_depth after)
list_depth-between [] after w = omega (arith, list_depth-cons w after)
list_depth-between (x ∷ before) after w = omega (arith, list_depth-cons x (before ++ w ∷ after), list_depth-cons x before, list_depth-between before after w)

pub room-next : (many deep : ℕ) (before : List Val) (a b : Val) (xs ys : List Val) → HaveRoom many deep before (a ∷ xs) (b ∷ ys) → HaveRoom many deep (before ++ b ∷ []) xs ys
room-next many deep before a b xs ys h = record {
  few = omega (arith, h.few, sum_by-cons value_nodes a xs, sum_by-cons value_nodes b ys, sum_by-append value_nodes before (b ∷ []), sum_by-cons value_nodes b []);
  shallow_before = omega (arith, h.shallow_before, h.shallow_to, list_depth-push before b, list_depth-cons b ys);
  shallow_from = omega (arith, h.shallow_from, list_depth-cons a xs);
  shallow_to = omega (arith, h.shallow_to, list_depth-cons b ys);
}

pub room-call : (many deep n f : ℕ) (before : List Val) (a b : Val) (xs ys : List Val) → HaveRoom many deep before (a ∷ xs) (b ∷ ys) → (x : Val) → IsSmall many deep n x
    → IsSmall many deep (n + 1) (v.Fun f (before ++ x ∷ xs))
room-call many deep n f before a b xs ys h x small = record {
  few = omega (
    arith,
    h.few,
    small.few,
    nodes-Fun f (before ++ x ∷ xs),
    sum_by-append value_nodes before (x ∷ xs),
    sum_by-cons value_nodes x xs,
    sum_by-cons value_nodes a xs,
    sum_by-cons value_nodes b ys,
    times-more n many,
  );
  shallow = omega (arith, h.shallow_before, h.shallow_from, small.shallow, depth-Fun f (before ++ x ∷ xs), list_depth-between before xs x, list_depth-cons a xs);
}
