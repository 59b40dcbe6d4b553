-- The arguments of a step stand in its sides, and so in the terms before and after it.
use Rattle.std.proofs.Common.{◌≡◌, ℕ, zero, suc, ◌+◌, ◌≤◌, Bool, true, false, List, [], ◌∷◌, length, Option, Some, None, refl, ap, arith}
use Rattle.std.specs.Prelude.{slice_get}
use Rattle.std.proofs.lemmas.List.Sums.{sum_by-cons}
use Rattle.u_terms.specs.Syntax.{U, Zero, One, Add, Mul, Squash, Not, Sum, Rel, Eq, Pred, Val, Bound, Free, Lit, Fun, Agg, Vals, NoVals, ValThen}
use Rattle.u_terms.specs.declared.term.Val.TheVariants as v
use Rattle.u_terms.specs.declared.facts.Facts.{Facts}
use Rattle.u_terms.specs.declared.facts.Fkey.{Fkey}
use Rattle.u_terms.specs.Size.{nodes, value_nodes, row_nodes, list_nodes, depth}
use Rattle.u_terms.specs.Binding.{mapped, mapped_value, mapped_row, closed_path, same_name, sums, value_for_place}
use Rattle.u_terms.specs.Products.{product_of}
use Rattle.u_terms.proofs.MappedSizes.{closed_path-nodes, sums-nodes}
use Rattle.u_terms.proofs.Sizes as at
use Rattle.u_rules.specs.declared.rule.Arg.{Arg}
use Rattle.u_rules.specs.declared.rule.Arg.TheVariants.{Term, Body, Value, Values, Num}
use Rattle.u_rules.specs.declared.rule.Rule.{Rule}
use Rattle.u_rules.specs.declared.rule.Rule.TheVariants as rule
use Rattle.u_rules.specs.declared.faults.Misfit.{Misfit}
use Rattle.u_rules.specs.Terms.{◌⊕◌, ◌⊗◌, ◌≐◌, O, I, sq, neg, S, R, P, put, turned, equal_columns, equal_rows, key_columns, referenced}
use Rattle.u_rules.specs.Rows.{Row, row, row_with, T, B, V, L, N, key_fault, swap_fault, fkey_row}
use Rattle.u_deriv.specs.declared.step.Step.{Step, out-Step}
use Rattle.u_deriv.specs.Contexts.{Context, filled, binders}
use Rattle.u_deriv.specs.LineBounds.{argument_nodes, arguments_nodes, IsPlain}
use Rattle.u_deriv.specs.Steps.{Exchanged, Rewrites, Sides, by_rule, by_proof}
use Rattle.u_deriv.specs.Turns.{turns}
use Rattle.u_deriv.proofs.contexts.Extents.{nodes-filled, deep-filled}

-- ---- terms
pub nodes-positive : (t : U) → 1 ≤ nodes t
unfolding nodes
nodes-positive Zero = omega arith
nodes-positive One = omega arith
nodes-positive (Add a b) = omega arith
nodes-positive (Mul a b) = omega arith
nodes-positive (Squash a) = omega arith
nodes-positive (Not a) = omega arith
nodes-positive (Sum body) = omega arith
nodes-positive (Rel table shape arguments) = omega arith
nodes-positive (Eq a b) = omega arith
nodes-positive (Pred symbol shape arguments) = omega arith

value-positive : (a : Val) → 1 ≤ value_nodes a
unfolding nodes
value-positive (Bound place) = omega arith
value-positive (Free name) = omega arith
value-positive (Lit literal) = omega arith
value-positive (Fun symbol shape arguments) = omega arith
value-positive (Agg aggregate body) = omega arith

-- values put at places and names make no term smaller
module _ (g h : ℕ → ℕ → Val) where
  mutual
    unfolding nodes mapped

    larger : (t : U) (k : ℕ) → nodes t ≤ nodes (mapped g h k t)
    larger Zero k = omega arith
    larger One k = omega arith
    larger (Add a b) k = omega (arith, larger a k, larger b k)
    larger (Mul a b) k = omega (arith, larger a k, larger b k)
    larger (Squash a) k = omega (arith, larger a k)
    larger (Not a) k = omega (arith, larger a k)
    larger (Sum body) k = omega (arith, larger body (k + 1))
    larger (Rel table shape arguments) k = omega (arith, row_larger arguments k)
    larger (Eq a b) k = omega (arith, value_larger a k, value_larger b k)
    larger (Pred symbol shape arguments) k = omega (arith, row_larger arguments k)

    value_larger : (x : Val) (k : ℕ) → value_nodes x ≤ value_nodes (mapped_value g h k x)
    value_larger (Bound place) k = omega (arith, value-positive (g k place))
    value_larger (Free name) k = omega (arith, value-positive (h k name))
    value_larger (Lit literal) k = omega arith
    value_larger (Fun symbol shape arguments) k = omega (arith, row_larger arguments k)
    value_larger (Agg aggregate body) k = omega (arith, larger body (k + 1))

    row_larger : {n : _} (row : Vals n) (k : ℕ) → row_nodes row ≤ row_nodes (mapped_row g h k row)
    row_larger NoVals k = omega arith
    row_larger (ValThen x rest) k = omega (arith, value_larger x k, row_larger rest k)

put-larger : (e : Val) (f : U) → nodes f ≤ nodes (put e f)
put-larger e f = larger (value_for_place e) same_name f 0

first-in_product : (t : U) (rest : List U) → nodes t ≤ nodes (product_of (t ∷ rest))
first-in_product t [] = omega arith
first-in_product t (next ∷ rest) = omega (arith, at.nodes-Mul t (product_of (next ∷ rest)))

-- ---- the arguments of a rule
-- those from here on and so many nodes before them stand in both sides
abbrev Stands : ℕ → (List Arg → Option Row) → Type 0
Stands before f = (args : List Arg) (l r : U) → f args ≡ Some (record { fault = None; left = l; right = r }) → before + arguments_nodes args ≤ nodes l + nodes r

never : {A : Type 0} {r : Row} → ◌≡◌ {A = Option Row} None (Some r) → A
never e = absurd cc

takes-term : (before : ℕ) (f : U → List Arg → Option Row) → ((x : U) → Stands (before + nodes x) (f x)) → Stands before (T f)
takes-term before f each [] l r e = never e
takes-term before f each (Term x ∷ rest) l r e = omega (arith, each x rest l r e, sum_by-cons argument_nodes (Term x) rest)
takes-term before f each (Body x ∷ rest) l r e = never e
takes-term before f each (Value x ∷ rest) l r e = never e
takes-term before f each (Values x ∷ rest) l r e = never e
takes-term before f each (Num x ∷ rest) l r e = never e

takes-body : (before : ℕ) (f : U → List Arg → Option Row) → ((x : U) → Stands (before + nodes x) (f x)) → Stands before (B f)
takes-body before f each [] l r e = never e
takes-body before f each (Term x ∷ rest) l r e = never e
takes-body before f each (Body x ∷ rest) l r e = omega (arith, each x rest l r e, sum_by-cons argument_nodes (Body x) rest)
takes-body before f each (Value x ∷ rest) l r e = never e
takes-body before f each (Values x ∷ rest) l r e = never e
takes-body before f each (Num x ∷ rest) l r e = never e

takes-value : (before : ℕ) (f : Val → List Arg → Option Row) → ((a : Val) → Stands (before + value_nodes a) (f a)) → Stands before (V f)
takes-value before f each [] l r e = never e
takes-value before f each (Term x ∷ rest) l r e = never e
takes-value before f each (Body x ∷ rest) l r e = never e
takes-value before f each (Value x ∷ rest) l r e = omega (arith, each x rest l r e, sum_by-cons argument_nodes (Value x) rest)
takes-value before f each (Values x ∷ rest) l r e = never e
takes-value before f each (Num x ∷ rest) l r e = never e

takes-values : (before : ℕ) (f : List Val → List Arg → Option Row) → ((s : List Val) → Stands (before + (1 + list_nodes s)) (f s)) → Stands before (L f)
takes-values before f each [] l r e = never e
takes-values before f each (Term x ∷ rest) l r e = never e
takes-values before f each (Body x ∷ rest) l r e = never e
takes-values before f each (Value x ∷ rest) l r e = never e
takes-values before f each (Values x ∷ rest) l r e = omega (arith, each x rest l r e, sum_by-cons argument_nodes (Values x) rest)
takes-values before f each (Num x ∷ rest) l r e = never e

takes-number : (before : ℕ) (f : ℕ → List Arg → Option Row) → ((m : ℕ) → Stands (before + 1) (f m)) → Stands before (N f)
takes-number before f each [] l r e = never e
takes-number before f each (Term x ∷ rest) l r e = never e
takes-number before f each (Body x ∷ rest) l r e = never e
takes-number before f each (Value x ∷ rest) l r e = never e
takes-number before f each (Values x ∷ rest) l r e = never e
takes-number before f each (Num x ∷ rest) l r e = omega (arith, each x rest l r e, sum_by-cons argument_nodes (Num x) rest)

takes-no_more : (before : ℕ) (wrong : Option Misfit) (x y : U) → (wrong ≡ None → before ≤ nodes x + nodes y) → Stands before (row_with wrong x y)
takes-no_more before wrong x y fits [] l r e =
    let fault : wrong ≡ None = ap (λ (o : Option Row). fault-of o) e in
    omega (arith, fits fault, ap (λ (o : Option Row). nodes (left-of o)) e, ap (λ (o : Option Row). nodes (right-of o)) e)
  where
    fault-of : Option Row → Option Misfit
    fault-of None = None
    fault-of (Some r) = r.fault

    left-of : Option Row → U
    left-of None = O
    left-of (Some r) = r.left

    right-of : Option Row → U
    right-of None = O
    right-of (Some r) = r.right
takes-no_more before wrong x y fits (a ∷ rest) l r e = never e

-- ---- rule by rule
one-term : (f g : U → U) → ((x : U) → nodes x ≤ nodes (f x) + nodes (g x)) → Stands 0 (T (λ x. row_with None (f x) (g x)))
one-term f g fits = takes-term _ _ (λ x. takes-no_more _ None (f x) (g x) (λ e. omega (arith, fits x)))

two-terms : (f g : U → U → U) → ((x y : U) → nodes x + nodes y ≤ nodes (f x y) + nodes (g x y)) → Stands 0 (T (λ x. T (λ y. row_with None (f x y) (g x y))))
two-terms f g fits = takes-term _ _ (λ x. takes-term _ _ (λ y. takes-no_more _ None (f x y) (g x y) (λ e. omega (arith, fits x y))))

two-values : (f g : Val → Val → U) → ((a b : Val) → value_nodes a + value_nodes b ≤ nodes (f a b) + nodes (g a b)) → Stands 0 (V (λ a. V (λ b. row_with None (f a b) (g a b))))
two-values f g fits = takes-value _ _ (λ a. takes-value _ _ (λ b. takes-no_more _ None (f a b) (g a b) (λ e. omega (arith, fits a b))))

some-turn : (a b : ℕ) → swap_fault a b ≡ None → 1 ≤ a
some-turn zero b e = absurd cc
some-turn (suc a) b e = omega arith

key-stands : (F : Facts) → Stands 0 (row F rule.Key)
key-stands F =
    takes-number _ _ (λ t. takes-number _ _ (λ i. takes-values _ _ (λ s. takes-values _ _ (λ r. takes-no_more _ (key_fault F t i s r) _ _ (λ e. omega (arith, fits t (key_columns F t i) s r))))))
  where
    fits : (t : ℕ) (columns : List ℕ) (s r : List Val)
        → 4 + list_nodes s + list_nodes r ≤ nodes (product_of (R t s ∷ (R t r ∷ equal_columns s columns r columns))) + nodes (product_of (R t s ∷ equal_rows s r))
    fits t columns s r =
        omega (
          arith,
          at.nodes-Mul (R t s) (product_of (R t r ∷ equal_columns s columns r columns)),
          first-in_product (R t r) (equal_columns s columns r columns),
          first-in_product (R t s) (equal_rows s r),
          at.nodes-Rel t s,
          at.nodes-Rel t r,
        )

fkey-stands : (F : Facts) → Stands 0 (row F rule.Fkey)
fkey-stands F = takes-number _ _ (λ i. takes-values _ _ (λ s. of-key (slice_get F.fkeys i) s))
  where
    of-key : (key : Option Fkey) (s : List Val) → Stands (1 + (1 + list_nodes s)) (fkey_row F key s)
    of-key None s = takes-no_more _ _ O O (λ e. absurd cc)
    of-key (Some f) s =
        takes-no_more _ _ (R f.from s) (R f.from s ⊗ referenced F f s)
        (λ e. omega (arith, at.nodes-Rel f.from s, at.nodes-Mul (R f.from s) (referenced F f s)))

swap-stands : (F : Facts) → Stands 0 (row F rule.SumSwap)
swap-stands F = takes-number _ _ (λ a. takes-number _ _ (λ b. takes-body _ _ (λ f. takes-no_more _ (swap_fault a b) (sums (a + b) f) (sums (a + b) (turned a b f)) (λ e. omega (arith, fits a b f e)))))
  where
    fits : (a b : ℕ) (f : U) → swap_fault a b ≡ None → 2 + nodes f ≤ nodes (sums (a + b) f) + nodes (sums (a + b) (turned a b f))
    fits a b f e = omega (arith, sums-nodes (a + b) f, sums-nodes (a + b) (turned a b f), some-turn a b e, nodes-positive (turned a b f))

rule-stands : (F : Facts) (q : Rule) → (q ≡ rule.SqFix → ⊥) → (q ≡ rule.SumUse → ⊥) → Stands 0 (row F q)
rule-stands F rule.AddAc p u = two-terms (λ x y. x) (λ x y. y) (λ x y. omega arith)
rule-stands F rule.MulAc p u = two-terms (λ x y. x) (λ x y. y) (λ x y. omega arith)
rule-stands F rule.MulZero p u = one-term (λ x. x ⊗ O) (λ x. O) (λ x. omega (arith, at.nodes-Mul x O))
rule-stands F rule.Distr p u =
    takes-term _ _ (λ x. takes-term _ _ (λ y. takes-term _ _ (λ z. takes-no_more _ None (x ⊗ (y ⊕ z)) (x ⊗ y ⊕ x ⊗ z) (λ e. omega (arith, at.nodes-Mul x (y ⊕ z), at.nodes-Add y z)))))
rule-stands F rule.SqZero p u = takes-no_more _ None (sq O) O (λ e. omega arith)
rule-stands F rule.SqOne p u = one-term (λ x. sq (I ⊕ x)) (λ x. I) (λ x. omega (arith, at.nodes-Squash (I ⊕ x), at.nodes-Add I x))
rule-stands F rule.SqAdd p u =
    two-terms (λ x y. sq (sq x ⊕ y)) (λ x y. sq (x ⊕ y)) (λ x y. omega (arith, at.nodes-Squash (x ⊕ y), at.nodes-Add x y))
rule-stands F rule.SqMul p u =
    two-terms (λ x y. sq x ⊗ sq y) (λ x y. sq (x ⊗ y)) (λ x y. omega (arith, at.nodes-Squash (x ⊗ y), at.nodes-Mul x y))
rule-stands F rule.SqDup p u = one-term (λ x. sq x ⊗ sq x) (λ x. sq x) (λ x. omega (arith, at.nodes-Squash x))
rule-stands F rule.SqAbs p u = one-term (λ x. x ⊗ sq x) (λ x. x) (λ x. omega arith)
rule-stands F rule.SqFix p u = absurd (p refl)
rule-stands F rule.SqPart p u =
    two-terms (λ x y. sq x ⊗ sq (x ⊕ y)) (λ x y. sq x) (λ x y. omega (arith, at.nodes-Mul (sq x) (sq (x ⊕ y)), at.nodes-Squash (x ⊕ y), at.nodes-Add x y))
rule-stands F rule.SqEq p u = two-values (λ a b. sq (a ≐ b)) (λ a b. a ≐ b) (λ a b. omega (arith, at.nodes-Eq a b))
rule-stands F rule.SqPred p u =
    takes-number _ _ (λ m. takes-values _ _ (λ s. takes-no_more _ None (sq (P m s)) (P m s) (λ e. omega (arith, at.nodes-Squash (P m s), at.nodes-Pred m s))))
rule-stands F rule.NotZero p u = takes-no_more _ None (neg O) I (λ e. omega arith)
rule-stands F rule.NotOne p u = takes-no_more _ None (neg I) O (λ e. omega arith)
rule-stands F rule.NotMul p u =
    two-terms (λ x y. neg (x ⊗ y)) (λ x y. sq (neg x ⊕ neg y)) (λ x y. omega (arith, at.nodes-Not (x ⊗ y), at.nodes-Mul x y))
rule-stands F rule.NotAdd p u =
    two-terms (λ x y. neg (x ⊕ y)) (λ x y. neg x ⊗ neg y) (λ x y. omega (arith, at.nodes-Not (x ⊕ y), at.nodes-Add x y))
rule-stands F rule.NotSq p u = one-term (λ x. neg (sq x)) (λ x. neg x) (λ x. omega (arith, at.nodes-Not x))
rule-stands F rule.SqNot p u = one-term (λ x. sq (neg x)) (λ x. neg x) (λ x. omega (arith, at.nodes-Not x))
rule-stands F rule.NotSelf p u = one-term (λ x. x ⊗ neg x) (λ x. O) (λ x. omega (arith, at.nodes-Mul x (neg x)))
rule-stands F rule.NotNot p u = one-term (λ x. neg (neg x)) (λ x. sq x) (λ x. omega (arith, at.nodes-Squash x))
rule-stands F rule.Split p u = one-term (λ x. sq x ⊕ neg x) (λ x. I) (λ x. omega (arith, at.nodes-Add (sq x) (neg x), at.nodes-Squash x))
rule-stands F rule.SumZero p u = takes-no_more _ None (S O) O (λ e. omega arith)
rule-stands F rule.SumAdd p u =
    takes-body _ _ (λ f. takes-body _ _ (λ g. takes-no_more _ None (S (f ⊕ g)) (S f ⊕ S g) (λ e. omega (arith, at.nodes-Sum (f ⊕ g), at.nodes-Add f g))))
rule-stands F rule.SumSwap p u = swap-stands F
rule-stands F rule.SumMul p u =
    takes-term _ _ (λ x. takes-body _ _ (λ f. takes-no_more _ None (x ⊗ S f) (S (x ⊗ f)) (λ e. omega (arith, at.nodes-Mul x (S f), at.nodes-Sum f))))
rule-stands F rule.SumSq p u = takes-body _ _ (λ f. takes-no_more _ None (sq (S f)) (sq (S (sq f))) (λ e. omega (arith, at.nodes-Squash (S f), at.nodes-Sum f)))
rule-stands F rule.SumPoint p u =
    takes-value _ _ (λ a. takes-body _ _ (λ f. takes-no_more _ None (S ((v.Bound 0 ≐ a) ⊗ f)) (put a f)
    (λ e. omega (arith, at.nodes-Sum ((v.Bound 0 ≐ a) ⊗ f), at.nodes-Mul (v.Bound 0 ≐ a) f, at.nodes-Eq (v.Bound 0) a))))
rule-stands F rule.SumUse p u = absurd (u refl)
rule-stands F rule.EqRefl p u = takes-value _ _ (λ a. takes-no_more _ None (a ≐ a) I (λ e. omega (arith, at.nodes-Eq a a)))
rule-stands F rule.EqSym p u = two-values (λ a b. a ≐ b) (λ a b. b ≐ a) (λ a b. omega (arith, at.nodes-Eq a b))
rule-stands F rule.EqSubst p u =
    takes-value _ _ (λ a. takes-value _ _ (λ b. takes-body _ _ (λ f. takes-no_more _ None ((a ≐ b) ⊗ put a f) ((a ≐ b) ⊗ put b f)
    (λ e. omega (arith, at.nodes-Mul (a ≐ b) (put a f), at.nodes-Eq a b, put-larger a f)))))
rule-stands F rule.EqSplit p u = two-values (λ a b. (a ≐ b) ⊕ neg (a ≐ b)) (λ a b. I) (λ a b. omega (arith, at.nodes-Add (a ≐ b) (neg (a ≐ b)), at.nodes-Eq a b))
rule-stands F rule.Key p u = key-stands F
rule-stands F rule.Fkey p u = fkey-stands F

-- ---- a step
part-smaller : (outs k : ℕ) (c : Context) (t whole : U) → whole ≡ filled c (closed_path t outs k) → nodes t ≤ nodes whole
part-smaller outs k c t whole is =
    omega (arith, ap nodes is, nodes-filled c (closed_path t outs k) O, at.nodes-Zero, nodes-positive (filled c O), closed_path-nodes t outs k)

sides-stand : (F : Facts) (forward : Bool) (s : Step) (l r : U) → IsPlain s → Sides F forward s l r → arguments_nodes (out-Step s).args ≤ nodes l + nodes r
sides-stand F true s l r plain i = omega (arith, rule-stands F (out-Step s).rule plain.proves_nothing plain.uses_nothing (out-Step s).args l r i.row)
sides-stand F false s l r plain i = omega (arith, rule-stands F (out-Step s).rule plain.proves_nothing plain.uses_nothing (out-Step s).args r l i.row)

exchanged-stand : (F : Facts) (outs : ℕ) (before after : U) (s : Step) → IsPlain s → Exchanged F outs before s after → arguments_nodes (out-Step s).args ≤ nodes before + nodes after
exchanged-stand F outs before after s plain x =
    let k : ℕ = binders x.replaced.context in
    omega (
      arith,
      sides-stand F (out-Step s).forward s x.from x.to plain x.sides,
      part-smaller outs k x.replaced.context x.from before x.replaced.is_from,
      part-smaller outs k x.replaced.context x.to after x.replaced.is_to,
    )

pub arguments-stand : (F : Facts) (outs : ℕ) (before after : U) (s : Step) → IsPlain s → Rewrites F outs before s after → arguments_nodes (out-Step s).args ≤ nodes before + nodes after
arguments-stand F outs before after s plain (by_rule x other inner) = exchanged-stand F outs before after s plain x
arguments-stand F outs before after s plain (by_proof square x is args inner) = absurd (plain.proves_nothing is)

turns-few : (F : Facts) (outs : ℕ) (before after : U) (s : Step) → Exchanged F outs before s after → length (turns (out-Step s).path) ≤ depth before
turns-few F outs before after s x =
    let k : ℕ = binders x.replaced.context in
    omega (arith, deep-filled x.replaced.context (closed_path x.from outs k), ap length x.replaced.at_path, ap depth x.replaced.is_from)

pub path-fits : (F : Facts) (outs : ℕ) (before after : U) (s : Step) → Rewrites F outs before s after → length (turns (out-Step s).path) ≤ depth before
path-fits F outs before after s (by_rule x other inner) = turns-few F outs before after s x
path-fits F outs before after s (by_proof square x is args inner) = turns-few F outs before after s x

pub no-inner : (F : Facts) (outs : ℕ) (before after : U) (s : Step) → IsPlain s → Rewrites F outs before s after → (out-Step s).inner ≡ []
no-inner F outs before after s plain (by_rule x other inner) = inner
no-inner F outs before after s plain (by_proof square x is args inner) = absurd (plain.proves_nothing is)

pub ruleset laws = (arguments-stand, path-fits, no-inner)
