-- Terms that are written out, with what the definitions say of them. A comment shows each term as text.
use Rattle.std.specs.Prelude.{◌≡◌, ℕ, [], ◌∷◌, Some, None, refl}
use Rattle.std.proofs.Common.{lit≤}
use Rattle.u_terms.specs.declared.term.U.TheVariants as u
use Rattle.u_terms.specs.declared.term.Val.TheVariants as v
use Rattle.u_terms.specs.Syntax.{U, Val, constructors}
use Rattle.u_terms.specs.Products.{product_of}
use Rattle.u_rules.specs.Terms.{add_leaves, mul_leaves}
use Rattle.normal_form.specs.declared.kind.Kind.TheVariants.{Mark, Negation}
use Rattle.normal_form.specs.Kinds.{is_truth, kind_of, ordered}
use Rattle.normal_form.specs.NormalTerms.{sum_of, IsNormal, sum_of_blocks, no_block, block_then, sum_over, product_of_factors, no_factor, factor_then, equality, relation, bound, free, no_value, value_then}
use Rattle.normal_form.specs.Ways.{ways}

abbrev b : ℕ → Val
b = v.Bound

abbrev f : ℕ → Val
f = v.Free

-- R0(x)
abbrev row : Val → U
row x = u.Rel 0 (x ∷ [])

-- =(b0,f0)
abbrev same : U
same = u.Eq (b 0) (f 0)

-- ---- normal terms
-- 0
zero_has_no_block : IsNormal u.Zero
zero_has_no_block = sum_of_blocks [] no_block refl

-- 1
one_is_a_block_without_factors : IsNormal u.One
unfolding constructors
one_is_a_block_without_factors =
    sum_of_blocks (u.One ∷ []) (block_then (product_of_factors [] [] [] [] no_factor no_factor no_factor (lit≤ tt) no_factor (lit≤ tt) refl) no_block) refl

-- ---- kinds
-- !(=(b0,f0)) is a mark, !(R0(b0)) is not
negated_equalities_are_marks : kind_of (u.Not same) ≡ Some Mark
unfolding kind_of is_truth constructors
negated_equalities_are_marks = refl

negated_relations_are_negations : kind_of (u.Not (row (b 0))) ≡ Some Negation
unfolding kind_of is_truth constructors
negated_relations_are_negations = refl

one_is_of_no_kind : kind_of u.One ≡ None
unfolding kind_of constructors
one_is_of_no_kind = refl

-- *(R0(b0),*(=(b0,f0),*(1,R0(b0)))) becomes *(=(b0,f0),*(R0(b0),R0(b0))): the relation stands twice
repeated_factors_stay : product_of (ordered (mul_leaves (u.Mul (row (b 0)) (u.Mul same (u.Mul u.One (row (b 0))))))) ≡ u.Mul same (u.Mul (row (b 0)) (row (b 0)))
unfolding kind_of is_truth mul_leaves constructors
repeated_factors_stay = refl

-- +(+(1,0),R0(f0)) becomes +(1,R0(f0))
sums_are_in_one_row : sum_of (add_leaves (u.Add (u.Add u.One u.Zero) (row (f 0)))) ≡ u.Add u.One (row (f 0))
unfolding add_leaves constructors
sums_are_in_one_row = refl

-- ---- how many blocks
-- *(+(1,1),+(1,+(1,1)))
a_product_of_sums_has_one_for_each_pair : ways (u.Mul (u.Add u.One u.One) (u.Add u.One (u.Add u.One u.One))) ≡ 6
unfolding ways constructors
a_product_of_sums_has_one_for_each_pair = refl

-- =(G0(+(1,1)),F1(G0(+(1,1))))
the_bodies_of_aggregates_count : ways (u.Eq (v.Agg 0 (u.Add u.One u.One)) (v.Fun 1 (v.Agg 0 (u.Add u.One u.One) ∷ []))) ≡ 4
unfolding ways constructors
the_bodies_of_aggregates_count = refl

-- ---- a block
-- S(*(=(b0,f0),R0(b0)))
a_sum_over_a_product_is_normal : IsNormal (u.Sum (u.Mul same (row (b 0))))
unfolding constructors
a_sum_over_a_product_is_normal =
    sum_of_blocks (u.Sum (u.Mul same (row (b 0))) ∷ [])
    (block_then
    (sum_over (product_of_factors (same ∷ []) (row (b 0) ∷ []) [] [] (factor_then (equality bound free) no_factor) (factor_then (relation (value_then bound no_value)) no_factor) no_factor (lit≤ tt) no_factor (lit≤ tt) refl))
    no_block) refl
