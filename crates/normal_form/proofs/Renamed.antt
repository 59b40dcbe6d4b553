-- Normal terms, and terms on the way, stay so where names and places change.
use Rattle.std.proofs.Common.{◌≡◌, ℕ, ◌+◌, ◌≤◌, Bool, true, false, List, [], ◌∷◌, ◌++◌, map, length, refl, ap, sym, subst, ◌∙◌, arith}
use Rattle.std.specs.Prelude.{if◌then◌else◌}
use Rattle.std.proofs.lemmas.List.{map-append, length-map}
use Rattle.data_model.specs.Lists.{Each}
use Rattle.u_terms.specs.declared.term.U.TheVariants as u
use Rattle.u_terms.specs.Syntax.{U, Zero, One, Add, Mul, Squash as SquashOf, Not, Sum, Rel, Eq, Pred, Val, Bound, Free, Vals}
use Rattle.u_terms.specs.Products.{product_of}
use Rattle.u_terms.specs.Binding.{mapped, mapped_value, mapped_row, same_place, same_name, value_for_place, place_for_name, opened, closed_at}
use Rattle.u_terms.proofs.Mapped.{mapped-Add, mapped-Mul, mapped-Zero, mapped-One}
use Rattle.u_rules.specs.Terms.{add_leaves, mul_leaves}
use Rattle.normal_form.specs.declared.kind.Kind.{Kind}
use Rattle.normal_form.specs.Kinds.{is_truth}
use Rattle.normal_form.specs.NormalTerms.{sum_of, IsNormal, AreBlocks, IsBlock, AreFactors, IsFactor, IsNormalValue, AreNormalValues, sum_of_blocks, no_block, block_then, sum_over, product_of_factors, no_factor, factor_then, equality, predicate, no_equality, no_predicate, relation, squash, negation, bound, free, literal, call, aggregate, no_value, value_then}
use Rattle.normal_form.specs.LooseTerms.{IsSomeFactor, IsProduct, IsLooseBlock, IsLoose, over_all, loose_product}
use Rattle.normal_form.proofs.Lists.{each-map}

module _ (f g : ℕ → ℕ → Val) where
  truth-mapped : (k : ℕ) (a : U) → is_truth (mapped f g k a) ≡ is_truth a
  unfolding mapped is_truth
  truth-mapped k Zero = refl
  truth-mapped k One = refl
  truth-mapped k (Add a b) = refl
  truth-mapped k (Mul a b) = refl
  truth-mapped k (SquashOf a) = refl
  truth-mapped k (Not a) = refl
  truth-mapped k (Sum body) = refl
  truth-mapped k (Rel table shape arguments) = refl
  truth-mapped k (Eq a b) = refl
  truth-mapped k (Pred symbol shape arguments) = refl

  pub sum_of-mapped : (k : ℕ) (us : List U) → mapped f g k (sum_of us) ≡ sum_of (map (mapped f g k) us)
  sum_of-mapped k [] = mapped-Zero f g k
  sum_of-mapped k (u ∷ []) = refl
  sum_of-mapped k (a ∷ b ∷ us) = mapped-Add f g k a (sum_of (b ∷ us)) ∙ ap (u.Add (mapped f g k a)) (sum_of-mapped k (b ∷ us))

  pub product_of-mapped : (k : ℕ) (us : List U) → mapped f g k (product_of us) ≡ product_of (map (mapped f g k) us)
  product_of-mapped k [] = mapped-One f g k
  product_of-mapped k (u ∷ []) = refl
  product_of-mapped k (a ∷ b ∷ us) = mapped-Mul f g k a (product_of (b ∷ us)) ∙ ap (u.Mul (mapped f g k a)) (product_of-mapped k (b ∷ us))

  four-mapped : (k : ℕ) (ms rs ss ns : List U) → map (mapped f g k) (ms ++ (rs ++ (ss ++ ns))) ≡ map (mapped f g k) ms ++ (map (mapped f g k) rs ++ (map (mapped f g k) ss ++ map (mapped f g k) ns))
  four-mapped k ms rs ss ns =
      map-append (mapped f g k) ms (rs ++ (ss ++ ns))
      ∙ ap (λ (us : List U). map (mapped f g k) ms ++ us) (map-append (mapped f g k) rs (ss ++ ns) ∙ ap (λ (us : List U). map (mapped f g k) rs ++ us) (map-append (mapped f g k) ss ns))

  few-mapped : (k : ℕ) (us : List U) → length us ≤ 1 → length (map (mapped f g k) us) ≤ 1
  few-mapped k us h = omega (arith, length-map us (mapped f g k))

  module _ (place_normal : (k i : ℕ) → IsNormalValue (f k i)) (name_normal : (k x : ℕ) → IsNormalValue (g k x)) where
    mutual
      unfolding mapped

      pub normal-mapped : (k : ℕ) (u : U) → IsNormal u → IsNormal (mapped f g k u)
      normal-mapped k u (sum_of_blocks blocks h e) = sum_of_blocks (map (mapped f g k) blocks) (blocks-mapped k blocks h) (ap (mapped f g k) e ∙ sum_of-mapped k blocks)

      pub blocks-mapped : (k : ℕ) (us : List U) → AreBlocks us → AreBlocks (map (mapped f g k) us)
      blocks-mapped k us no_block = no_block
      blocks-mapped k us (block_then {block = block} {rest = rest} h hs) = block_then (block-mapped k block h) (blocks-mapped k rest hs)

      pub block-mapped : (k : ℕ) (u : U) → IsBlock u → IsBlock (mapped f g k u)
      block-mapped k u (sum_over {body = body} h) = sum_over (block-mapped (k + 1) body h)
      block-mapped k u (product_of_factors ms rs ss ns hm ha hs ls hn ln e) =
          product_of_factors (map (mapped f g k) ms) (map (mapped f g k) rs) (map (mapped f g k) ss) (map (mapped f g k) ns)
          (factors-mapped k _ ms hm) (factors-mapped k _ rs ha) (factors-mapped k _ ss hs) (few-mapped k ss ls) (factors-mapped k _ ns hn) (few-mapped k ns ln)
          (ap (mapped f g k) e ∙ product_of-mapped k (ms ++ (rs ++ (ss ++ ns))) ∙ ap product_of (four-mapped k ms rs ss ns))

      factors-mapped : (k : ℕ) (kind : Kind) (us : List U) → AreFactors kind us → AreFactors kind (map (mapped f g k) us)
      factors-mapped k kind us no_factor = no_factor
      factors-mapped k kind us (factor_then {factor = factor} {rest = rest} h hs) = factor_then (factor-mapped k kind factor h) (factors-mapped k kind rest hs)

      pub factor-mapped : (k : ℕ) (kind : Kind) (u : U) → IsFactor kind u → IsFactor kind (mapped f g k u)
      factor-mapped k kind u (equality {a = a} {b = b} ha hb) = equality (value-mapped k a ha) (value-mapped k b hb)
      factor-mapped k kind u (predicate {arguments = arguments} h) = predicate (values-mapped k _ arguments h)
      factor-mapped k kind u (no_equality {a = a} {b = b} ha hb) = no_equality (value-mapped k a ha) (value-mapped k b hb)
      factor-mapped k kind u (no_predicate {arguments = arguments} h) = no_predicate (values-mapped k _ arguments h)
      factor-mapped k kind u (relation {arguments = arguments} h) = relation (values-mapped k _ arguments h)
      factor-mapped k kind u (squash {a = a} h) = squash (normal-mapped k a h)
      factor-mapped k kind u (negation {a = a} h e) = negation (normal-mapped k a h) (truth-mapped k a ∙ e)

      value-mapped : (k : ℕ) (value : Val) → IsNormalValue value → IsNormalValue (mapped_value f g k value)
      value-mapped k value (bound {place = place}) = place_normal k place
      value-mapped k value (free {name = name}) = name_normal k name
      value-mapped k value (literal {number = number}) = literal
      value-mapped k value (call {arguments = arguments} h) = call (values-mapped k _ arguments h)
      value-mapped k value (aggregate {body = body} h) = aggregate (normal-mapped (k + 1) body h)

      values-mapped : (k : ℕ) (n : _) (row : Vals n) → AreNormalValues n row → AreNormalValues n (mapped_row f g k row)
      values-mapped k n row no_value = no_value
      values-mapped k n row (value_then {value = value} {rest = rest} h hs) = value_then (value-mapped k value h) (values-mapped k _ rest hs)

    some-mapped : (k : ℕ) (u : U) → IsSomeFactor u → IsSomeFactor (mapped f g k u)
    some-mapped k u h = record { kind = h.kind; is = factor-mapped k h.kind u h.is }

    add_leaves-mapped : (k : ℕ) (u : U) → add_leaves (mapped f g k u) ≡ map (mapped f g k) (add_leaves u)
    unfolding mapped add_leaves
    add_leaves-mapped k Zero = refl
    add_leaves-mapped k One = refl
    add_leaves-mapped k (Add a b) =
        ap (λ (us : List U). us ++ add_leaves (mapped f g k b)) (add_leaves-mapped k a) ∙ ap (λ (us : List U). map (mapped f g k) (add_leaves a) ++ us) (add_leaves-mapped k b)
        ∙ sym (map-append (mapped f g k) (add_leaves a) (add_leaves b))
    add_leaves-mapped k (Mul a b) = refl
    add_leaves-mapped k (SquashOf a) = refl
    add_leaves-mapped k (Not a) = refl
    add_leaves-mapped k (Sum body) = refl
    add_leaves-mapped k (Rel table shape arguments) = refl
    add_leaves-mapped k (Eq a b) = refl
    add_leaves-mapped k (Pred symbol shape arguments) = refl

    mul_leaves-mapped : (k : ℕ) (u : U) → mul_leaves (mapped f g k u) ≡ map (mapped f g k) (mul_leaves u)
    unfolding mapped mul_leaves
    mul_leaves-mapped k Zero = refl
    mul_leaves-mapped k One = refl
    mul_leaves-mapped k (Add a b) = refl
    mul_leaves-mapped k (Mul a b) =
        ap (λ (us : List U). us ++ mul_leaves (mapped f g k b)) (mul_leaves-mapped k a) ∙ ap (λ (us : List U). map (mapped f g k) (mul_leaves a) ++ us) (mul_leaves-mapped k b)
        ∙ sym (map-append (mapped f g k) (mul_leaves a) (mul_leaves b))
    mul_leaves-mapped k (SquashOf a) = refl
    mul_leaves-mapped k (Not a) = refl
    mul_leaves-mapped k (Sum body) = refl
    mul_leaves-mapped k (Rel table shape arguments) = refl
    mul_leaves-mapped k (Eq a b) = refl
    mul_leaves-mapped k (Pred symbol shape arguments) = refl

    product-mapped : (k : ℕ) (u : U) → IsProduct u → IsProduct (mapped f g k u)
    product-mapped k u h = record { factors = subst (λ (us : List U). Each IsSomeFactor us) (sym (mul_leaves-mapped k u)) (each-map IsSomeFactor IsSomeFactor (mapped f g k) (some-mapped k) (mul_leaves u) h.factors) }

    loose_block-mapped : (k : ℕ) (u : U) → IsLooseBlock u → IsLooseBlock (mapped f g k u)
    unfolding mapped
    loose_block-mapped k u (over_all {body = body} h) = over_all (loose_block-mapped (k + 1) body h)
    loose_block-mapped k u (loose_product h) = loose_product (product-mapped k u h)

    loose-mapped : (k : ℕ) (u : U) → IsLoose u → IsLoose (mapped f g k u)
    loose-mapped k u h = record { blocks = subst (λ (us : List U). Each IsLooseBlock us) (sym (add_leaves-mapped k u)) (each-map IsLooseBlock IsLooseBlock (mapped f g k) (loose_block-mapped k) (add_leaves u) h.blocks) }

-- ---- opened and closed by names
bound-or-free : (b : Bool) (i x : ℕ) → IsNormalValue (if b then Bound i else Free x)
bound-or-free true i x = bound
bound-or-free false i x = free

free-or-bound : (b : Bool) (i x : ℕ) → IsNormalValue (if b then Free x else Bound i)
free-or-bound true i x = free
free-or-bound false i x = bound

module _ (x : ℕ) where
  pub loose-opened : (u : U) → IsLoose u → IsLoose (opened u x)
  loose-opened u h = loose-mapped (value_for_place (Free x)) same_name (λ k i. free-or-bound _ i x) (λ k y. free) 0 u h

  pub loose-closed : (u : U) → IsLoose u → IsLoose (closed_at u x)
  loose-closed u h = loose-mapped same_place (place_for_name x) (λ k i. bound) (λ k y. bound-or-free _ k y) 0 u h

  pub loose_block-opened : (u : U) → IsLooseBlock u → IsLooseBlock (opened u x)
  loose_block-opened u h = loose_block-mapped (value_for_place (Free x)) same_name (λ k i. free-or-bound _ i x) (λ k y. free) 0 u h

  pub block-closed : (u : U) → IsBlock u → IsBlock (closed_at u x)
  block-closed u h = block-mapped same_place (place_for_name x) (λ k i. bound) (λ k y. bound-or-free _ k y) 0 u h

  pub normal-closed : (u : U) → IsNormal u → IsNormal (closed_at u x)
  normal-closed u h = normal-mapped same_place (place_for_name x) (λ k i. bound) (λ k y. bound-or-free _ k y) 0 u h

  pub added-closed : (u : U) → AreBlocks (add_leaves u) → AreBlocks (add_leaves (closed_at u x))
  added-closed u h =
      subst AreBlocks (sym (add_leaves-mapped same_place (place_for_name x) (λ k i. bound) (λ k y. bound-or-free _ k y) 0 u))
      (blocks-mapped same_place (place_for_name x) (λ k i. bound) (λ k y. bound-or-free _ k y) 0 (add_leaves u) h)
