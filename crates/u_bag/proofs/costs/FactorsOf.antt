-- A product has the factors of a shape where it stands under the sums of a term of that shape, and keeps them where other places or names come in.
use Rattle.std.proofs.Common.{◌≡◌, ℕ, suc, ◌+◌, ◌*◌, ◌≤◌, Bool, true, false, cond, List, [], ◌∷◌, length, map, refl, ap, sym, subst, ◌∙◌, arith}
use Rattle.std.specs.Prelude.{nat_eq, sum_by, if◌then◌else◌}
use Rattle.std.specs.List.{flat_map}
use Rattle.std.proofs.lemmas.List.{length-map}
use Rattle.std.proofs.lemmas.List.Sums.{sum_by-cons}
use Rattle.data_model.specs.Lists.{Each}
use Rattle.u_terms.specs.Syntax.{U, Zero, One, Add, Mul, Squash, Not, Sum, Rel, Eq, Pred, Val, Bound, Free, Lit, Fun, Agg, Vals, NoVals, ValThen, constructors}
use Rattle.u_terms.specs.declared.term.Val.TheVariants as v
use Rattle.u_terms.specs.Size.{nodes, depth, value_nodes, value_depth, list_nodes, list_depth}
use Rattle.u_terms.specs.Binding.{mapped, mapped_value, mapped_row, opened, same_name, sums, value_for_place}
use Rattle.u_terms.proofs.MappedSizes.{nodes-mapped, depth-mapped}
use Rattle.u_terms.proofs.Sizes.{nodes-Rel, nodes-Eq, nodes-Pred, nodes-Not, nodes-Bound, nodes-Free, nodes-Lit, depth-Rel, depth-Eq, depth-Pred, depth-Not, depth-Bound, depth-Free, depth-Lit, list_depth-cons}
use Rattle.u_binder.specs.Changes.{exchanged, moved_at}
use Rattle.u_rules.specs.Terms.{◌≐◌, P, R, S, neg, mul_leaves}
use Rattle.u_equal.specs.Links.{is_equality, HasNoCall}
use Rattle.u_equal.specs.LinkCounts.{row_values}
use Rattle.u_equal.specs.Standing.{standing, value_standing, row_standing}
use Rattle.u_equal.proofs.products.StandingAt.{standing-Rel, standing-Eq, standing-Pred, standing-Not}
use Rattle.u_entail.specs.Carrying.{points}
use Rattle.u_entail.specs.Small.{AreBasic, IsBasic}
use Rattle.u_entail.proofs.copies.Carried.{points-pred, points-eq, points-not}
use Rattle.u_entail.proofs.products.Lists.{each-append, each-at, each-parts}
use Rattle.normal_form.proofs.Lists.{each-map}
use Rattle.shapes.specs.Shapes.{Entry, Mark, Shape}
use Rattle.shapes.specs.Small.{columns_of}
use Rattle.block_costs.specs.Costs.{equality_count, mark_count, point_count, fact_nodes}
use Rattle.term_shapes.specs.Factors.{Factor, atom, equality, difference, truth, falsehood, other, factors, sum_count, under_sums}
use Rattle.term_shapes.specs.TermShape.{HasShape}
use Rattle.term_shapes.proofs.Reading.{count-Sum, under-Sum}
use Rattle.shape_entails.specs.Values.{is_atom}
use Rattle.shape_entails.proofs.Leaves.{term_of, atom-yes}
use Rattle.shape_entails.proofs.Putting.{leaves-mapped, atom-mapped, under-mapped, count-put, around-count, around-under, without-sums}
use Rattle.u_bag.specs.Costs.{HasFactorsOf, IsBlockOf, gain_steps, of_facts, one_more}
use Rattle.u_bag.proofs.costs.Numbers.{ones, none-summed, sum-mapped}
use Rattle.u_bag.proofs.costs.Weights.{Weighs, shape-light, basic-factors, IsBasicAtom, IsBasicFact}

-- ---- basic values
basic-nodes : (x : Val) → IsBasic x → value_nodes x ≡ 1
unfolding constructors
basic-nodes (Bound place) b = nodes-Bound place
basic-nodes (Free name) b = nodes-Free name
basic-nodes (Lit number) b = nodes-Lit number
basic-nodes (Fun symbol shape arguments) b = absurd b
basic-nodes (Agg aggregate body) b = absurd b

basic-depth : (x : Val) → IsBasic x → value_depth x ≡ 1
unfolding constructors
basic-depth (Bound place) b = depth-Bound place
basic-depth (Free name) b = depth-Free name
basic-depth (Lit number) b = depth-Lit number
basic-depth (Fun symbol shape arguments) b = absurd b
basic-depth (Agg aggregate body) b = absurd b

basic-standing : (x : Val) → IsBasic x → Each IsBasic (value_standing x)
unfolding standing
basic-standing (Bound place) b = (tt, tt)
basic-standing (Free name) b = (tt, tt)
basic-standing (Lit number) b = (tt, tt)
basic-standing (Fun symbol shape arguments) b = absurd b
basic-standing (Agg aggregate body) b = absurd b

all-nodes : (vs : List Val) → Each IsBasic vs → list_nodes vs ≡ length vs
all-nodes [] each = refl
all-nodes (x ∷ vs) each = let rest = all-nodes vs each.1 in omega (arith, rest, basic-nodes x each.0, sum_by-cons value_nodes x vs)

all-flat : (vs : List Val) → Each IsBasic vs → list_depth vs ≤ 1
all-flat [] each = omega arith
all-flat (x ∷ vs) each = let rest = all-flat vs each.1 in omega (arith, rest, basic-depth x each.0, list_depth-cons x vs)

all-standing : (vs : List Val) → Each IsBasic vs → Each IsBasic (flat_map value_standing vs)
all-standing [] each = tt
all-standing (x ∷ vs) each = each-append IsBasic (value_standing x) (flat_map value_standing vs) (basic-standing x each.0) (all-standing vs each.1)

-- ---- the numbers of a factor by its kind
module _ (symbol : ℕ) (vs : List Val) (each : Each IsBasic vs) where
  nodes-atom : nodes (R symbol vs) ≡ 1 + length vs
  nodes-atom = omega (arith, nodes-Rel symbol vs, all-nodes vs each)

  nodes-truth : nodes (P symbol vs) ≡ 1 + length vs
  nodes-truth = omega (arith, nodes-Pred symbol vs, all-nodes vs each)

  nodes-falsehood : nodes (neg (P symbol vs)) ≡ 2 + length vs
  nodes-falsehood = omega (arith, nodes-truth, nodes-Not (P symbol vs))

module _ (x y : Val) (b : IsBasic x) (c : IsBasic y) where
  nodes-equality : nodes (x ≐ y) ≡ 3
  nodes-equality = omega (arith, nodes-Eq x y, basic-nodes x b, basic-nodes y c)

  nodes-difference : nodes (neg (x ≐ y)) ≡ 4
  nodes-difference = omega (arith, nodes-equality, nodes-Not (x ≐ y))

pub steps-equality : (n : ℕ) (x y : Val) → gain_steps n (x ≐ y) ≡ n + 2
unfolding gain_steps constructors
steps-equality n x y = refl

steps-truth : (n symbol : ℕ) (vs : List Val) → gain_steps n (P symbol vs) ≡ length vs * n + 5
unfolding gain_steps constructors
steps-truth n symbol vs = ap (λ (l : List Val). length l * n + 5) (points-pred symbol vs)

steps-falsehood : (n symbol : ℕ) (vs : List Val) → gain_steps n (neg (P symbol vs)) ≡ length vs * n + 5
unfolding gain_steps constructors
steps-falsehood n symbol vs = ap (λ (l : List Val). length l * n + 5) (points-not (P symbol vs) ∙ points-pred symbol vs)

steps-difference : (n : ℕ) (x y : Val) → gain_steps n (neg (x ≐ y)) ≡ 2 * n + 5
unfolding gain_steps constructors
steps-difference n x y = ap (λ (l : List Val). length l * n + 5) (points-not (x ≐ y) ∙ points-eq x y)

-- one where the test holds
abbrev yes : (U → Bool) → U → ℕ
yes test x = cond (test x) 1 0

yes-Rel : (table : ℕ) (vs : List Val) → is_equality (R table vs) ≡ false
unfolding constructors
yes-Rel table vs = refl

pub yes-Pred : (symbol : ℕ) (vs : List Val) → is_equality (P symbol vs) ≡ false
unfolding constructors
yes-Pred symbol vs = refl

pub yes-Not : (x : U) → is_equality (neg x) ≡ false
unfolding constructors
yes-Not x = refl

one-at-most : (b : Bool) → cond b 1 0 ≤ 1
one-at-most true = omega arith
one-at-most false = omega arith

no-yes : (b : Bool) → b ≡ false → cond b 1 0 ≤ 0
no-yes true e = absurd (grind (arith, e))
no-yes false e = omega arith

-- facts alone
no-fact : (f : U → ℕ) (x : U) (b : Bool) → b ≡ true → (if b then 0 else f x) ≤ 0
no-fact f x true e = omega arith
no-fact f x false e = absurd (grind (arith, e))

a-fact : (f : U → ℕ) (x : U) (n : ℕ) (b : Bool) → f x ≤ n → (if b then 0 else f x) ≤ n
a-fact f x n true h = omega arith
a-fact f x n false h = h

facts-weigh : (f : U → ℕ) (e : ℕ) (m : ℕ → ℕ)
    → ((x y : Val) → IsBasic x → IsBasic y → f (x ≐ y) ≤ e)
    → ((symbol : ℕ) (vs : List Val) → Each IsBasic vs → f (P symbol vs) ≤ m (length vs))
    → ((symbol : ℕ) (vs : List Val) → Each IsBasic vs → f (neg (P symbol vs)) ≤ m (length vs))
    → ((x y : Val) → IsBasic x → IsBasic y → f (neg (x ≐ y)) ≤ m 2)
    → Weighs (λ n. 0) e m (of_facts f)
facts-weigh f e m equalities truths falsehoods differences = record {
  atoms = λ table vs each. no-fact f (R table vs) (is_atom (R table vs)) (atom-yes table vs);
  equalities = λ x y b c. a-fact f (x ≐ y) e (is_atom (x ≐ y)) (equalities x y b c);
  truths = λ symbol vs each. a-fact f (P symbol vs) (m (length vs)) (is_atom (P symbol vs)) (truths symbol vs each);
  falsehoods = λ symbol vs each. a-fact f (neg (P symbol vs)) (m (length vs)) (is_atom (neg (P symbol vs))) (falsehoods symbol vs each);
  differences = λ x y b c. a-fact f (neg (x ≐ y)) (m 2) (is_atom (neg (x ≐ y))) (differences x y b c);
}

-- ---- what entries and marks weigh together
entries-weigh : (entries : List Entry) → sum_by (λ (entry : Entry). 2 + entry.columns) entries ≡ columns_of entries + 2 * length entries
entries-weigh [] = refl
entries-weigh (entry ∷ entries) = let rest = entries-weigh entries in omega (arith, rest, sum_by-cons (λ (x : Entry). 2 + x.columns) entry entries)

one-mark : (k n p total rest many points all before : ℕ) → total ≡ k + p * n + rest → rest ≡ k * many + n * before → all ≡ p + before → points ≡ suc many → total ≡ k * points + n * all
one-mark k n p total rest many points all before is so_far more longer =
    omega (arith, is, so_far, ap (λ (x : ℕ). n * x) more, ap (λ (x : ℕ). k * x) longer)

marks-weigh : (k n : ℕ) (marks : List Mark) → sum_by (λ (mark : Mark). k + length mark.points * n) marks ≡ k * length marks + n * sum_by (λ (mark : Mark). length mark.points) marks
marks-weigh k n [] = omega arith
marks-weigh k n (mark ∷ marks) =
    one-mark k n (length mark.points) (sum_by (λ (x : Mark). k + length x.points * n) (mark ∷ marks)) (sum_by (λ (x : Mark). k + length x.points * n) marks) (length marks) (length (mark ∷ marks))
    (sum_by (λ (x : Mark). length x.points) (mark ∷ marks)) (sum_by (λ (x : Mark). length x.points) marks) (sum_by-cons (λ (x : Mark). k + length x.points * n) mark marks) (marks-weigh k n marks)
    (sum_by-cons (λ (x : Mark). length x.points) mark marks) refl

-- ---- the factors under the sums of a term that has a shape
factor-basic : (f : Factor) → IsBasicAtom f → IsBasicFact f → Each IsBasic (standing (term_of f))
factor-basic (atom table vs) i j = subst (Each IsBasic) (sym (standing-Rel table vs)) (all-standing vs i)
factor-basic (equality x y) i j = subst (Each IsBasic) (sym (standing-Eq x y)) (each-append IsBasic (value_standing x) (value_standing y) (basic-standing x j.0) (basic-standing y j.1))
factor-basic (difference x y) i j =
    subst (Each IsBasic) (sym (standing-Not (x ≐ y) ∙ standing-Eq x y)) (each-append IsBasic (value_standing x) (value_standing y) (basic-standing x j.0) (basic-standing y j.1))
factor-basic (truth symbol vs) i j = subst (Each IsBasic) (sym (standing-Pred symbol vs)) (all-standing vs j)
factor-basic (falsehood symbol vs) i j = subst (Each IsBasic) (sym (standing-Not (P symbol vs) ∙ standing-Pred symbol vs)) (all-standing vs j)
factor-basic other i j = absurd j

factor-shallow : (f : Factor) → IsBasicAtom f → IsBasicFact f → depth (term_of f) ≤ 3
factor-shallow (atom table vs) i j = omega (arith, depth-Rel table vs, all-flat vs i)
factor-shallow (equality x y) i j = omega (arith, depth-Eq x y, basic-depth x j.0, basic-depth y j.1)
factor-shallow (difference x y) i j = omega (arith, depth-Not (x ≐ y), depth-Eq x y, basic-depth x j.0, basic-depth y j.1)
factor-shallow (truth symbol vs) i j = omega (arith, depth-Pred symbol vs, all-flat vs j)
factor-shallow (falsehood symbol vs) i j = omega (arith, depth-Not (P symbol vs), depth-Pred symbol vs, all-flat vs j)
factor-shallow other i j = absurd j

each-of-both : (Q : U → Type 0) → ((f : Factor) → IsBasicAtom f → IsBasicFact f → Q (term_of f)) → (fs : List Factor) → Each IsBasicAtom fs → Each IsBasicFact fs → Each Q (map term_of fs)
each-of-both Q make [] i j = tt
each-of-both Q make (f ∷ fs) i j = (make f i.0 j.0, each-of-both Q make fs i.1 j.1)

module _ (outs : ℕ) (w : U) (s : Shape) (h : HasShape outs w s) where
  of-facts-light : (f : U → ℕ) (e : ℕ) (m : ℕ → ℕ) → Weighs (λ n. 0) e m (of_facts f) → sum_by (of_facts f) (mul_leaves (under_sums w)) ≤ e * equality_count s + sum_by (λ (mark : Mark). m (length mark.points)) s.marks
  of-facts-light f e m light = let all = shape-light (λ n. 0) e m (of_facts f) light outs w s h in omega (arith, all, none-summed s.entries)

  few-equalities : sum_by (yes is_equality) (mul_leaves (under_sums w)) ≤ equality_count s
  few-equalities =
      let all = shape-light (λ n. 0) 1 (λ n. 0) (yes is_equality) (record {
        atoms = λ table vs each. no-yes (is_equality (R table vs)) (yes-Rel table vs);
        equalities = λ x y b c. one-at-most (is_equality (x ≐ y));
        truths = λ symbol vs each. no-yes (is_equality (P symbol vs)) (yes-Pred symbol vs);
        falsehoods = λ symbol vs each. no-yes (is_equality (neg (P symbol vs))) (yes-Not (P symbol vs));
        differences = λ x y b c. no-yes (is_equality (neg (x ≐ y))) (yes-Not (x ≐ y));
      }) outs w s h in
      omega (arith, all, none-summed s.entries, none-summed s.marks)

  few-factors : length (mul_leaves (under_sums w)) ≤ length s.entries + equality_count s + mark_count s
  few-factors =
      let all = shape-light (λ n. 1) 1 (λ n. 1) (λ x. 1) (record {
        atoms = λ table vs each. omega arith;
        equalities = λ x y b c. omega arith;
        truths = λ symbol vs each. omega arith;
        falsehoods = λ symbol vs each. omega arith;
        differences = λ x y b c. omega arith;
      }) outs w s h in
      omega (arith, all, ones (mul_leaves (under_sums w)), ones s.entries, ones s.marks)

  few-nodes : sum_by one_more (mul_leaves (under_sums w)) ≤ columns_of s.entries + 2 * length s.entries + fact_nodes s
  few-nodes =
      let all = shape-light (λ n. 2 + n) 4 (λ n. 3 + n * 1) one_more (record {
        atoms = λ table vs each. omega (arith, nodes-atom table vs each);
        equalities = λ x y b c. omega (arith, nodes-equality x y b c);
        truths = λ symbol vs each. omega (arith, nodes-truth symbol vs each);
        falsehoods = λ symbol vs each. omega (arith, nodes-falsehood symbol vs each);
        differences = λ x y b c. omega (arith, nodes-difference x y b c);
      }) outs w s h in
      omega (arith, all, entries-weigh s.entries, marks-weigh 3 1 s.marks)

  few-facts : sum_by (of_facts (λ x. 1)) (mul_leaves (under_sums w)) ≤ equality_count s + mark_count s
  few-facts =
      let all = of-facts-light (λ x. 1) 1 (λ n. 1) (facts-weigh (λ x. 1) 1 (λ n. 1) (λ x y b c. omega arith) (λ symbol vs each. omega arith) (λ symbol vs each. omega arith) (λ x y b c. omega arith)) in
      omega (arith, all, ones s.marks)

  few-fact_nodes : sum_by (of_facts one_more) (mul_leaves (under_sums w)) ≤ fact_nodes s
  few-fact_nodes =
      let all = of-facts-light one_more 4 (λ n. 3 + n * 1) (facts-weigh one_more 4 (λ n. 3 + n * 1) (λ x y b c. omega (arith, nodes-equality x y b c))
      (λ symbol vs each. omega (arith, nodes-truth symbol vs each)) (λ symbol vs each. omega (arith, nodes-falsehood symbol vs each)) (λ x y b c. omega (arith, nodes-difference x y b c))) in
      omega (arith, all, marks-weigh 3 1 s.marks)

  few-fact_steps : (n : ℕ) → sum_by (of_facts (gain_steps n)) (mul_leaves (under_sums w)) ≤ (n + 2) * equality_count s + (n * point_count s + 5 * mark_count s)
  few-fact_steps n =
      let all = of-facts-light (gain_steps n) (n + 2) (λ k. 5 + k * n) (facts-weigh (gain_steps n) (n + 2) (λ k. 5 + k * n) (λ x y b c. omega (arith, steps-equality n x y))
      (λ symbol vs each. omega (arith, steps-truth n symbol vs)) (λ symbol vs each. omega (arith, steps-falsehood n symbol vs)) (λ x y b c. omega (arith, steps-difference n x y))) in
      omega (arith, all, marks-weigh 5 n s.marks)

  pub factors-of : HasFactorsOf s (under_sums w)
  factors-of =
      let basic = basic-factors outs w s h in
      record {
        basic = subst AreBasic (sym basic.leaves) (each-of-both (λ x. Each IsBasic (standing x)) factor-basic (factors (under_sums w)) basic.atoms basic.facts);
        shallow = subst (Each (λ x. depth x ≤ 3)) (sym basic.leaves) (each-of-both (λ x. depth x ≤ 3) factor-shallow (factors (under_sums w)) basic.atoms basic.facts);
        equalities = few-equalities;
        many = few-factors;
        nodes = few-nodes;
        facts = few-facts;
        nodes_of_facts = few-fact_nodes;
        steps_of_facts = few-fact_steps;
      }

  pub block-of : (n : ℕ) → n ≡ sum_count w → IsBlockOf s n w
  block-of n many = record { sums_are = sym many; product = factors-of }

-- ---- other places and names
module _ (f : ℕ → ℕ → Val) (g : ℕ → ℕ → Val) (place_basic : (k i : ℕ) → IsBasic (f k i)) (name_basic : (k x : ℕ) → IsBasic (g k x)) where
  mutual
    unfolding standing mapped

    basic-mapped : (a : U) (k : ℕ) → Each IsBasic (standing a) → Each IsBasic (standing (mapped f g k a))
    basic-mapped Zero k h = tt
    basic-mapped One k h = tt
    basic-mapped (Add a b) k h =
        let parts = each-parts IsBasic (standing a) (standing b) h in each-append IsBasic (standing (mapped f g k a)) (standing (mapped f g k b)) (basic-mapped a k parts.0) (basic-mapped b k parts.1)
    basic-mapped (Mul a b) k h =
        let parts = each-parts IsBasic (standing a) (standing b) h in each-append IsBasic (standing (mapped f g k a)) (standing (mapped f g k b)) (basic-mapped a k parts.0) (basic-mapped b k parts.1)
    basic-mapped (Squash a) k h = basic-mapped a k h
    basic-mapped (Not a) k h = basic-mapped a k h
    basic-mapped (Sum body) k h = tt
    basic-mapped (Rel table shape arguments) k h = row-mapped arguments k h
    basic-mapped (Eq a b) k h =
        let parts = each-parts IsBasic (value_standing a) (value_standing b) h in
        each-append IsBasic (value_standing (mapped_value f g k a)) (value_standing (mapped_value f g k b)) (value-mapped a k parts.0) (value-mapped b k parts.1)
    basic-mapped (Pred symbol shape arguments) k h = row-mapped arguments k h

    value-mapped : (a : Val) (k : ℕ) → Each IsBasic (value_standing a) → Each IsBasic (value_standing (mapped_value f g k a))
    value-mapped (Bound place) k h = basic-standing (f k place) (place_basic k place)
    value-mapped (Free name) k h = basic-standing (g k name) (name_basic k name)
    value-mapped (Lit literal) k h = (tt, tt)
    value-mapped (Fun symbol shape arguments) k h = absurd (each-parts IsBasic (row_standing arguments) (Fun symbol shape arguments ∷ []) h).1.0
    value-mapped (Agg aggregate body) k h = absurd h.0

    row-mapped : {m : _} (row : Vals m) (k : ℕ) → Each IsBasic (row_standing row) → Each IsBasic (row_standing (mapped_row f g k row))
    row-mapped NoVals k h = tt
    row-mapped (ValThen a rest) k h =
        let parts = each-parts IsBasic (value_standing a) (row_standing rest) h in
        each-append IsBasic (value_standing (mapped_value f g k a)) (row_standing (mapped_row f g k rest)) (value-mapped a k parts.0) (row-mapped rest k parts.1)

  equality-mapped : (k : ℕ) (x : U) → is_equality (mapped f g k x) ≡ is_equality x
  unfolding mapped
  equality-mapped k Zero = refl
  equality-mapped k One = refl
  equality-mapped k (Add a b) = refl
  equality-mapped k (Mul a b) = refl
  equality-mapped k (Squash a) = refl
  equality-mapped k (Not a) = refl
  equality-mapped k (Sum body) = refl
  equality-mapped k (Rel table shape arguments) = refl
  equality-mapped k (Eq a b) = refl
  equality-mapped k (Pred symbol shape arguments) = refl

  row-long : {m : _} (k : ℕ) (row : Vals m) → length (row_values (mapped_row f g k row)) ≡ length (row_values row)
  unfolding mapped row_values
  row-long k NoVals = refl
  row-long k (ValThen a rest) = ap suc (row-long k rest)

  points-long : (k : ℕ) (x : U) → length (points (mapped f g k x)) ≡ length (points x)
  unfolding mapped points
  points-long k Zero = refl
  points-long k One = refl
  points-long k (Add a b) = refl
  points-long k (Mul a b) = refl
  points-long k (Squash a) = refl
  points-long k (Not a) = points-long k a
  points-long k (Sum body) = refl
  points-long k (Rel table shape arguments) = refl
  points-long k (Eq a b) = refl
  points-long k (Pred symbol shape arguments) = row-long k arguments

  steps-mapped : (n k : ℕ) (x : U) → gain_steps n (mapped f g k x) ≡ gain_steps n x
  unfolding mapped gain_steps
  steps-mapped n k Zero = ap (λ (m : ℕ). m * n + 5) (points-long k Zero)
  steps-mapped n k One = ap (λ (m : ℕ). m * n + 5) (points-long k One)
  steps-mapped n k (Add a b) = ap (λ (m : ℕ). m * n + 5) (points-long k (Add a b))
  steps-mapped n k (Mul a b) = ap (λ (m : ℕ). m * n + 5) (points-long k (Mul a b))
  steps-mapped n k (Squash a) = ap (λ (m : ℕ). m * n + 5) (points-long k (Squash a))
  steps-mapped n k (Not a) = ap (λ (m : ℕ). m * n + 5) (points-long k (Not a))
  steps-mapped n k (Sum body) = ap (λ (m : ℕ). m * n + 5) (points-long k (Sum body))
  steps-mapped n k (Rel table shape arguments) = ap (λ (m : ℕ). m * n + 5) (points-long k (Rel table shape arguments))
  steps-mapped n k (Eq a b) = refl
  steps-mapped n k (Pred symbol shape arguments) = ap (λ (m : ℕ). m * n + 5) (points-long k (Pred symbol shape arguments))

  nodes-kept : (k : ℕ) (x : U) → nodes (mapped f g k x) ≡ nodes x
  nodes-kept k x =
      nodes-mapped f g (λ j i. basic-nodes (f j i) (place_basic j i)) (λ j y. basic-nodes (g j y) (name_basic j y)) (λ j i. basic-depth (f j i) (place_basic j i))
      (λ j y. basic-depth (g j y) (name_basic j y)) x k

  depth-kept : (k : ℕ) (x : U) → depth (mapped f g k x) ≡ depth x
  depth-kept k x =
      depth-mapped f g (λ j i. basic-nodes (f j i) (place_basic j i)) (λ j y. basic-nodes (g j y) (name_basic j y)) (λ j i. basic-depth (f j i) (place_basic j i))
      (λ j y. basic-depth (g j y) (name_basic j y)) x k

  fact-mapped : (h : U → ℕ) (k : ℕ) → ((x : U) → h (mapped f g k x) ≡ h x) → (x : U) → of_facts h (mapped f g k x) ≡ of_facts h x
  fact-mapped h k same x = ap (λ (b : Bool). if b then 0 else h (mapped f g k x)) (atom-mapped f g k x) ∙ ap (λ (n : ℕ). if is_atom x then 0 else n) (same x)

  module _ (k : ℕ) (w : U) where
    summed-mapped : (h : U → ℕ) → ((x : U) → h (mapped f g k x) ≡ h x) → sum_by h (mul_leaves (mapped f g k w)) ≡ sum_by h (mul_leaves w)
    summed-mapped h same = ap (sum_by h) (leaves-mapped f g k w) ∙ sum-mapped h (mapped f g k) same (mul_leaves w)

    product-mapped : (s : Shape) → HasFactorsOf s w → HasFactorsOf s (mapped f g k w)
    product-mapped s h = record {
      basic = subst AreBasic (sym (leaves-mapped f g k w)) (each-map (λ x. Each IsBasic (standing x)) (λ x. Each IsBasic (standing x)) (mapped f g k) (λ x b. basic-mapped x k b) (mul_leaves w) h.basic);
      shallow = subst (Each (λ x. depth x ≤ 3)) (sym (leaves-mapped f g k w))
          (each-map (λ x. depth x ≤ 3) (λ x. depth x ≤ 3) (mapped f g k) (λ x b. omega (arith, b, depth-kept k x)) (mul_leaves w) h.shallow);
      equalities = let least = h.equalities in omega (arith, least, summed-mapped (yes is_equality) (λ x. ap (λ (b : Bool). cond b 1 0) (equality-mapped k x)));
      many = let least = h.many in omega (arith, least, ap length (leaves-mapped f g k w), length-map (mul_leaves w) (mapped f g k));
      nodes = let least = h.nodes in omega (arith, least, summed-mapped one_more (λ x. ap (λ (n : ℕ). 1 + n) (nodes-kept k x)));
      facts = let least = h.facts in omega (arith, least, summed-mapped (of_facts (λ x. 1)) (fact-mapped (λ x. 1) k (λ x. refl)));
      nodes_of_facts = let least = h.nodes_of_facts in omega (arith, least, summed-mapped (of_facts one_more) (fact-mapped one_more k (λ x. ap (λ (n : ℕ). 1 + n) (nodes-kept k x))));
      steps_of_facts = λ n. let least = h.steps_of_facts n in omega (arith, least, summed-mapped (of_facts (gain_steps n)) (fact-mapped (gain_steps n) k (steps-mapped n k)));
    }

opened-basic : (b : Bool) (i x : ℕ) → IsBasic (if b then Free x else Bound i)
opened-basic true i x = tt
opened-basic false i x = tt

module _ (s : Shape) where
  put-under : (f : ℕ → ℕ → Val) → ((k i : ℕ) → IsBasic (f k i)) → (w : U) → HasFactorsOf s (under_sums w) → HasFactorsOf s (under_sums (mapped f same_name 0 w))
  put-under f basic w h =
      subst (HasFactorsOf s) (sym (under-mapped f same_name 0 w)) (product-mapped f same_name basic (λ k x. tt) (0 + sum_count w) (under_sums w) s h)

  -- a block under one sum fewer, and one whose sums come in another order
  pub block-opened : (n : ℕ) (f : U) (name : ℕ) → IsBlockOf s (n + 1) (S f) → IsBlockOf s n (opened f name)
  block-opened n f name h = record {
    sums_are = let many = h.sums_are in omega (arith, many, count-Sum f, count-put (value_for_place (Free name)) 0 f);
    product = put-under (value_for_place (Free name)) (λ k i. opened-basic (nat_eq i k) i name) f (subst (HasFactorsOf s) (under-Sum f) h.product);
  }

  pub block-turned : (n turn : ℕ) (body : U) → IsBlockOf s n (S (sums turn body)) → IsBlockOf s n (S (sums turn (exchanged turn 1 body)))
  block-turned n turn body h = record {
    sums_are = let many = h.sums_are in
        omega (
          arith,
          many,
          count-Sum (sums turn body),
          count-Sum (sums turn (exchanged turn 1 body)),
          around-count turn body,
          around-count turn (exchanged turn 1 body),
          count-put (moved_at turn 1) 0 body,
        );
    product = subst (HasFactorsOf s) (sym (under-Sum (sums turn (exchanged turn 1 body)) ∙ around-under turn (exchanged turn 1 body)))
        (put-under (moved_at turn 1) (λ k i. tt) body (subst (HasFactorsOf s) (under-Sum (sums turn body) ∙ around-under turn body) h.product));
  }

  pub product-of-block : (n : ℕ) (u : U) → n ≡ 0 → IsBlockOf s n u → HasFactorsOf s u
  product-of-block n u none h = subst (HasFactorsOf s) (without-sums u (h.sums_are ∙ none)) h.product

-- opening and exchanging keep sizes
pub opened-depth : (f : U) (name : ℕ) → depth (opened f name) ≡ depth f
opened-depth f name = depth-kept (value_for_place (Free name)) same_name (λ k i. opened-basic (nat_eq i k) i name) (λ k x. tt) 0 f

pub exchanged-nodes : (turn : ℕ) (body : U) → nodes (exchanged turn 1 body) ≡ nodes body
exchanged-nodes turn body = nodes-kept (moved_at turn 1) same_name (λ k i. tt) (λ k x. tt) 0 body

pub exchanged-depth : (turn : ℕ) (body : U) → depth (exchanged turn 1 body) ≡ depth body
exchanged-depth turn body = depth-kept (moved_at turn 1) same_name (λ k i. tt) (λ k x. tt) 0 body

-- ---- calls
-- no call stands in a product of such factors
each-standing : (w : U) → AreBasic (mul_leaves w) → Each IsBasic (standing w)
unfolding standing mul_leaves
each-standing Zero h = h.0
each-standing One h = tt
each-standing (Add a b) h = h.0
each-standing (Mul a b) h =
    let parts = each-parts (λ x. Each IsBasic (standing x)) (mul_leaves a) (mul_leaves b) h in
    each-append IsBasic (standing a) (standing b) (each-standing a parts.0) (each-standing b parts.1)
each-standing (Squash a) h = h.0
each-standing (Not a) h = h.0
each-standing (Sum body) h = tt
each-standing (Rel table shape arguments) h = h.0
each-standing (Eq a b) h = h.0
each-standing (Pred symbol shape arguments) h = h.0

is-call : (f : ℕ) (xs : List Val) → IsBasic (v.Fun f xs) → ⊥
unfolding constructors
is-call f xs b = b

pub no-call : (w : U) → AreBasic (mul_leaves w) → HasNoCall (standing w)
no-call w h f xs i = is-call f xs (each-at IsBasic (standing w) i.place (v.Fun f xs) (each-standing w h) i.here)
