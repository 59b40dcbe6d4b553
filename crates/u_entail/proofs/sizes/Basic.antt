-- Where neither calls nor aggregates stand in the factors: each value on a way is one node.
use Rattle.std.proofs.Common.{◌≡◌, ℕ, ◌≤◌, List, [], ◌∷◌, length, subst, arith}
use Rattle.std.specs.Prelude.{Some, slice_get}
use Rattle.std.proofs.lemmas.List.Sums.{sum_by-cons}
use Rattle.data_model.specs.Lists.{Each}
use Rattle.u_terms.specs.Syntax.{U, Zero, One, Add, Mul, Squash, Not, Sum, Rel, Eq, Pred, Val, Bound, Free, Lit, Fun, Agg, Vals, NoVals, ValThen, constructors}
use Rattle.u_terms.specs.Size.{nodes, depth, value_nodes, value_depth, list_nodes, list_depth}
use Rattle.u_terms.specs.declared.term.Val.TheVariants as v
use Rattle.u_terms.proofs.Sizes.{list_depth-cons}
use Rattle.u_rules.specs.Terms.{◌≐◌, neg, mul_leaves}
use Rattle.u_moves.proofs.contexts.Depths.{value_depth-positive}
use Rattle.u_equal.specs.declared.link.Link.{Link}
use Rattle.u_equal.specs.LinkCounts.{row_values}
use Rattle.u_equal.specs.Links.{Leads, LeadsEach, no_link, forth, back, called, no_pair, pair, HasNoCall}
use Rattle.u_equal.specs.Standing.{standing, value_standing, row_standing}
use Rattle.u_entail.specs.Carrying.{HaveSpare, points}
use Rattle.u_entail.specs.Gaining.{Begins}
use Rattle.u_entail.specs.Sides.{IsAmong}
use Rattle.u_entail.specs.Small.{AreBasic, AreSmall, IsBasic}
use Rattle.u_entail.proofs.chains.Leading.{among}
use Rattle.u_entail.proofs.products.Lists.{each-at, each-parts}

-- ---- values
pub value-positive : (a : Val) → 1 ≤ value_nodes a
unfolding nodes
value-positive (Bound place) = omega arith
value-positive (Free name) = omega arith
value-positive (Lit literal) = omega arith
value-positive (Fun symbol shape arguments) = omega arith
value-positive (Agg aggregate body) = omega arith

pub values-many : (vs : List Val) → length vs ≤ list_nodes vs
values-many [] = omega arith
values-many (a ∷ vs) = omega (arith, value-positive a, values-many vs, sum_by-cons value_nodes a vs)

basic-nodes : (a : Val) → IsBasic a → value_nodes a ≤ 1
unfolding nodes
basic-nodes (Bound place) basic = omega arith
basic-nodes (Free name) basic = omega arith
basic-nodes (Lit literal) basic = omega arith
basic-nodes (Fun symbol shape arguments) basic = absurd basic
basic-nodes (Agg aggregate body) basic = absurd basic

basic-depth : (a : Val) → IsBasic a → value_depth a ≤ 1
unfolding depth
basic-depth (Bound place) basic = omega arith
basic-depth (Free name) basic = omega arith
basic-depth (Lit literal) basic = omega arith
basic-depth (Fun symbol shape arguments) basic = absurd basic
basic-depth (Agg aggregate body) basic = absurd basic

no-basic-call : (f : ℕ) (xs : List Val) → IsBasic (v.Fun f xs) → ⊥
unfolding constructors
no-basic-call f xs basic = basic

basic-value : (a : Val) → Each IsBasic (value_standing a) → IsBasic a
unfolding standing
basic-value (Bound place) each = tt
basic-value (Free name) each = tt
basic-value (Lit literal) each = tt
basic-value (Fun symbol shape arguments) each = let both = each-parts IsBasic (row_standing arguments) (Fun symbol shape arguments ∷ []) each in both.1.0
basic-value (Agg aggregate body) each = each.0

-- ---- points
basic-row : {n : _} (row : Vals n) → Each IsBasic (row_standing row) → Each IsBasic (row_values row)
unfolding standing row_values
basic-row NoVals each = tt
basic-row (ValThen value rest) each = let both = each-parts IsBasic (value_standing value) (row_standing rest) each in (basic-value value both.0, basic-row rest both.1)

basic-sides : (a b : Val) → Each IsBasic (standing (a ≐ b)) → IsBasic a × IsBasic b
unfolding standing constructors
basic-sides a b each = let both = each-parts IsBasic (value_standing a) (value_standing b) each in (basic-value a both.0, basic-value b both.1)

pub basic-points : (mark : U) → Each IsBasic (standing mark) → Each IsBasic (points mark)
unfolding standing points
basic-points Zero each = tt
basic-points One each = tt
basic-points (Add a b) each = tt
basic-points (Mul a b) each = tt
basic-points (Squash a) each = tt
basic-points (Not a) each = basic-points a each
basic-points (Sum body) each = tt
basic-points (Rel table shape arguments) each = tt
basic-points (Eq a b) each = let both = each-parts IsBasic (value_standing a) (value_standing b) each in (basic-value a both.0, (basic-value b both.1, tt))
basic-points (Pred symbol shape arguments) each = basic-row arguments each

pub basic-exchanged : (a b : Val) → Each IsBasic (points (neg (a ≐ b))) → Each IsBasic (points (neg (b ≐ a)))
unfolding points constructors
basic-exchanged a b each = (each.1.0, (each.0, tt))

-- ---- factors
module _ (factors : List U) (basic : AreBasic factors) where
  basic-among : (a : Val) → IsAmong factors a → IsBasic a
  basic-among a h = let stands = h.stands in each-at IsBasic (standing h.factor) stands.place a (each-at (λ factor. Each IsBasic (standing factor)) factors h.place h.factor basic h.at) stands.here

  pub basic-small : AreSmall 1 1 factors
  basic-small = record { few = λ a h. basic-nodes a (basic-among a h); shallow = λ a h. basic-depth a (basic-among a h) }

  module _ (product : U) (begins : Begins product factors) where
    pub no-calls : HasNoCall (standing product)
    no-calls f xs stands = no-basic-call f xs (basic-among (v.Fun f xs) (among product factors begins.rest begins.is (v.Fun f xs) stands))

    basic-leaves : AreBasic (mul_leaves product)
    basic-leaves = let both = each-parts (λ factor. Each IsBasic (standing factor)) (mul_leaves product) begins.rest (subst (λ (xs : List U). AreBasic xs) begins.is basic) in both.0

    given-sides : (factor : ℕ) (a b : Val) → slice_get (mul_leaves product) factor ≡ Some (a ≐ b) → IsBasic a × IsBasic b
    given-sides factor a b at = basic-sides a b (each-at (λ u. Each IsBasic (standing u)) (mul_leaves product) factor (a ≐ b) basic-leaves at)

    -- where links lead from a basic value
    basic-end : (a b : Val) (links : List Link) → Leads product a links b → IsBasic a → IsBasic b
    basic-end a b links (no_link c) is = is
    basic-end a b links (forth factor c d e rest at h) is = let both = given-sides factor c d at in basic-end d e rest h both.1
    basic-end a b links (back factor c d e rest at h) is = let both = given-sides factor d c at in basic-end d e rest h both.0
    basic-end a b links (called f xs ys e pairs rest from to each h) is = absurd (no-calls f xs from)

    pub basic-ends : (xs ys : List Val) (pairs : List (List Link)) → LeadsEach product xs pairs ys → Each IsBasic xs → Each IsBasic ys
    basic-ends xs ys pairs no_pair each = tt
    basic-ends xs ys pairs (pair a b links as' bs ps h hs) each = (basic-end a b links h each.0, basic-ends as' bs ps hs each.1)

-- ---- how large lists of such values are
basic-many : (vs : List Val) → Each IsBasic vs → list_nodes vs ≤ length vs
basic-many [] each = omega arith
basic-many (a ∷ vs) each = omega (arith, basic-nodes a each.0, basic-many vs each.1, sum_by-cons value_nodes a vs)

basic-level : (vs : List Val) → Each IsBasic vs → list_depth vs ≤ 1
basic-level [] each = omega arith
basic-level (a ∷ vs) each = omega (arith, basic-depth a each.0, basic-level vs each.1, list_depth-cons a vs)

pub basic-spare : (xs ys : List Val) → Each IsBasic xs → Each IsBasic ys → HaveSpare 0 1 xs ys
basic-spare xs ys from to = record { few = omega (arith, basic-many ys to); shallow_from = basic-level xs from; shallow_to = basic-level ys to }

-- they are no larger than those that they lead to
pub basic-lighter : (product : U) (xs ys : List Val) (pairs : List (List Link)) → LeadsEach product xs pairs ys → Each IsBasic xs → list_nodes xs ≤ list_nodes ys
basic-lighter product xs ys pairs no_pair each = omega arith
basic-lighter product xs ys pairs (pair a b links as' bs ps h hs) each =
    omega (arith, basic-nodes a each.0, value-positive b, basic-lighter product as' bs ps hs each.1, sum_by-cons value_nodes a as', sum_by-cons value_nodes b bs)

pub basic-lower : (product : U) (xs ys : List Val) (pairs : List (List Link)) → LeadsEach product xs pairs ys → Each IsBasic xs → list_depth xs ≤ list_depth ys
basic-lower product xs ys pairs no_pair each = omega arith
basic-lower product xs ys pairs (pair a b links as' bs ps h hs) each =
    omega (arith, basic-depth a each.0, value_depth-positive b, basic-lower product as' bs ps hs each.1, list_depth-cons a as', list_depth-cons b bs)
