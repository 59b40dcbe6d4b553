-- The sides of a step stand in the terms before and after it, and so do the arguments of a plain one: it is small where the two terms are.
use Rattle.std.proofs.Common.{◌≡◌, ℕ, ◌+◌, ◌<◌, ◌≤◌, ◌^◌, Bool, true, false, List, [], ◌∷◌, length, Option, Some, None, refl, sym, ap, subst, inl, inr, arith}
use Rattle.std.specs.Prelude.{slice_get}
use Rattle.data_model.specs.Lists.{Each}
use Rattle.u_terms.specs.Syntax.{U, Zero, One, Add, Mul, Squash, Not, Sum, Rel, Eq, Pred, Val, Bound, Free, Lit, Fun, Agg, Vals, NoVals, ValThen}
use Rattle.u_terms.specs.declared.term.Val.TheVariants as v
use Rattle.u_terms.specs.declared.facts.Facts.{Facts}
use Rattle.u_terms.specs.declared.facts.Fkey.{Fkey}
use Rattle.u_terms.specs.Size.{nodes, value_nodes, row_nodes, depth}
use Rattle.u_terms.specs.Binding.{mapped, mapped_value, mapped_row, closed_path, same_name, sums, value_for_place}
use Rattle.u_terms.specs.Products.{product_of}
use Rattle.u_terms.proofs.MappedSizes.{closed_path-nodes, closed_path-depth, sums-nodes, sums-depth}
use Rattle.u_terms.proofs.Sizes as at
use Rattle.u_rules.specs.declared.rule.Arg.{Arg}
use Rattle.u_rules.specs.declared.rule.Arg.TheVariants.{Term, Body, Value, Values, Num}
use Rattle.u_rules.specs.declared.rule.Rule.{Rule}
use Rattle.u_rules.specs.declared.rule.Rule.TheVariants as rule
use Rattle.u_rules.specs.declared.faults.Misfit.{Misfit}
use Rattle.u_rules.specs.Measures.{measure_of, sizes_of}
use Rattle.u_rules.specs.Terms.{◌⊕◌, ◌⊗◌, ◌≐◌, O, I, sq, neg, S, R, P, put, turned, equal_columns, key_columns, referenced}
use Rattle.u_rules.specs.Rows.{Row, row, row_with, T, B, V, L, N, key_fault, swap_fault, fkey_row}
use Rattle.u_rules.proofs.terms.Measured.{deeper}
use Rattle.u_deriv.specs.declared.step.Step.{Step, out-Step}
use Rattle.u_deriv.specs.Contexts.{Context, filled, binders}
use Rattle.u_deriv.specs.LineBounds.{IsPlain, lines_bound}
use Rattle.u_deriv.specs.Steps.{Rewrites, Sides, by_rule, by_proof}
use Rattle.u_deriv.proofs.steps.Arguments.{nodes-positive}
use Rattle.u_deriv.proofs.contexts.Extents.{nodes-filled, deep-filled}
use Rattle.u_moves.specs.Derivations as moves
use Rattle.u_moves.specs.Derivations.{Derivation, IsSound, ReplaysThrough, first_then}
use Rattle.u_moves.proofs.steps.Chains.{starts}
use Rattle.proof_text.proofs.writing.LineBounds.{lines-short}
use Rattle.proof_text.proofs.writing.LongTexts.{length-proof}
use Rattle.proof_text.specs.Limits.{most_nodes, most_depth}
use Rattle.proof_text.specs.Written.{IsSmall as IsSmallArgument}
use Rattle.proof_check.specs.Limits.{IsWithin, SidesAreSmall, most_steps}
use Rattle.u_prover.specs.Proving.{HasLongText, IsSmallStep, KeepsCounts, PassesOne, most_proof_bytes}
use Rattle.u_prover.proofs.Fitting.{number-short}

-- ---- within the limits of a term
abbrev Small : U → Type 0
Small t = IsSmallArgument (Term t)

abbrev SmallValue : Val → Type 0
SmallValue a = IsSmallArgument (Value a)

abbrev SmallValues : List Val → Type 0
SmallValues s = IsSmallArgument (Values s)

add-left : (x y : U) → Small (x ⊕ y) → Small x
add-left x y s = (omega (arith, s.0, at.nodes-Add x y), omega (arith, s.1, at.depth-Add x y))

add-right : (x y : U) → Small (x ⊕ y) → Small y
add-right x y s = (omega (arith, s.0, at.nodes-Add x y), omega (arith, s.1, at.depth-Add x y))

mul-left : (x y : U) → Small (x ⊗ y) → Small x
mul-left x y s = (omega (arith, s.0, at.nodes-Mul x y), omega (arith, s.1, at.depth-Mul x y))

mul-right : (x y : U) → Small (x ⊗ y) → Small y
mul-right x y s = (omega (arith, s.0, at.nodes-Mul x y), omega (arith, s.1, at.depth-Mul x y))

in-squash : (x : U) → Small (sq x) → Small x
in-squash x s = (omega (arith, s.0, at.nodes-Squash x), omega (arith, s.1, at.depth-Squash x))

in-not : (x : U) → Small (neg x) → Small x
in-not x s = (omega (arith, s.0, at.nodes-Not x), omega (arith, s.1, at.depth-Not x))

in-sum : (f : U) → Small (S f) → Small f
in-sum f s = (omega (arith, s.0, at.nodes-Sum f), omega (arith, s.1, at.depth-Sum f))

in-sums : (count : ℕ) (f : U) → Small (sums count f) → Small f
in-sums count f s = (omega (arith, s.0, sums-nodes count f), omega (arith, s.1, sums-depth count f))

eq-left : (a b : Val) → Small (a ≐ b) → SmallValue a
eq-left a b s = (omega (arith, s.0, at.nodes-Eq a b), omega (arith, s.1, at.depth-Eq a b))

eq-right : (a b : Val) → Small (a ≐ b) → SmallValue b
eq-right a b s = (omega (arith, s.0, at.nodes-Eq a b), omega (arith, s.1, at.depth-Eq a b))

in-relation : (table : ℕ) (s : List Val) → Small (R table s) → SmallValues s
in-relation table s h = (omega (arith, h.0, at.nodes-Rel table s), omega (arith, h.1, at.depth-Rel table s))

in-predicate : (symbol : ℕ) (s : List Val) → Small (P symbol s) → SmallValues s
in-predicate symbol s h = (omega (arith, h.0, at.nodes-Pred symbol s), omega (arith, h.1, at.depth-Pred symbol s))

first-factor : (t : U) (rest : List U) → Small (product_of (t ∷ rest)) → Small t
first-factor t [] s = s
first-factor t (next ∷ rest) s = mul-left t (product_of (next ∷ rest)) s

-- ---- values put at places make no term smaller
value-positive : (a : Val) → 1 ≤ value_nodes a
unfolding nodes
value-positive (Bound place) = omega arith
value-positive (Free name) = omega arith
value-positive (Lit literal) = omega arith
value-positive (Fun symbol shape arguments) = omega arith
value-positive (Agg aggregate body) = omega arith

module _ (g h : ℕ → ℕ → Val) where
  mutual
    unfolding nodes mapped

    larger : (t : U) (k : ℕ) → nodes t ≤ nodes (mapped g h k t)
    larger Zero k = omega arith
    larger One k = omega arith
    larger (Add a b) k = omega (arith, larger a k, larger b k)
    larger (Mul a b) k = omega (arith, larger a k, larger b k)
    larger (Squash a) k = omega (arith, larger a k)
    larger (Not a) k = omega (arith, larger a k)
    larger (Sum body) k = omega (arith, larger body (k + 1))
    larger (Rel table shape arguments) k = omega (arith, row_larger arguments k)
    larger (Eq a b) k = omega (arith, value_larger a k, value_larger b k)
    larger (Pred symbol shape arguments) k = omega (arith, row_larger arguments k)

    value_larger : (x : Val) (k : ℕ) → value_nodes x ≤ value_nodes (mapped_value g h k x)
    value_larger (Bound place) k = omega (arith, value-positive (g k place))
    value_larger (Free name) k = omega (arith, value-positive (h k name))
    value_larger (Lit literal) k = omega arith
    value_larger (Fun symbol shape arguments) k = omega (arith, row_larger arguments k)
    value_larger (Agg aggregate body) k = omega (arith, larger body (k + 1))

    row_larger : {n : _} (row : Vals n) (k : ℕ) → row_nodes row ≤ row_nodes (mapped_row g h k row)
    row_larger NoVals k = omega arith
    row_larger (ValThen x rest) k = omega (arith, value_larger x k, row_larger rest k)

before-put : (e : Val) (f : U) → Small (put e f) → Small f
before-put e f s = (omega (arith, s.0, larger (value_for_place e) same_name f 0), omega (arith, s.1, deeper (value_for_place e) same_name f 0))

-- ---- the arguments of a rule
-- those from here on are small, and this holds of those before them, where both sides are small
abbrev Fits : Type 0 → (List Arg → Option Row) → Type 0
Fits Before f = (args : List Arg) (l r : U) → f args ≡ Some (record { fault = None; left = l; right = r }) → Small l → Small r → Before × Each IsSmallArgument args

never : {A : Type 0} {r : Row} → ◌≡◌ {A = Option Row} None (Some r) → A
never e = absurd cc

takes-term : (Before : Type 0) (f : U → List Arg → Option Row) → ((x : U) → Fits (Before × Small x) (f x)) → Fits Before (T f)
takes-term Before f each [] l r e sl sr = never e
takes-term Before f each (Term x ∷ rest) l r e sl sr = let h = each x rest l r e sl sr in (h.0.0, (h.0.1, h.1))
takes-term Before f each (Body x ∷ rest) l r e sl sr = never e
takes-term Before f each (Value x ∷ rest) l r e sl sr = never e
takes-term Before f each (Values x ∷ rest) l r e sl sr = never e
takes-term Before f each (Num x ∷ rest) l r e sl sr = never e

takes-body : (Before : Type 0) (f : U → List Arg → Option Row) → ((x : U) → Fits (Before × Small x) (f x)) → Fits Before (B f)
takes-body Before f each [] l r e sl sr = never e
takes-body Before f each (Term x ∷ rest) l r e sl sr = never e
takes-body Before f each (Body x ∷ rest) l r e sl sr = let h = each x rest l r e sl sr in (h.0.0, (h.0.1, h.1))
takes-body Before f each (Value x ∷ rest) l r e sl sr = never e
takes-body Before f each (Values x ∷ rest) l r e sl sr = never e
takes-body Before f each (Num x ∷ rest) l r e sl sr = never e

takes-value : (Before : Type 0) (f : Val → List Arg → Option Row) → ((a : Val) → Fits (Before × SmallValue a) (f a)) → Fits Before (V f)
takes-value Before f each [] l r e sl sr = never e
takes-value Before f each (Term x ∷ rest) l r e sl sr = never e
takes-value Before f each (Body x ∷ rest) l r e sl sr = never e
takes-value Before f each (Value x ∷ rest) l r e sl sr = let h = each x rest l r e sl sr in (h.0.0, (h.0.1, h.1))
takes-value Before f each (Values x ∷ rest) l r e sl sr = never e
takes-value Before f each (Num x ∷ rest) l r e sl sr = never e

takes-values : (Before : Type 0) (f : List Val → List Arg → Option Row) → ((s : List Val) → Fits (Before × SmallValues s) (f s)) → Fits Before (L f)
takes-values Before f each [] l r e sl sr = never e
takes-values Before f each (Term x ∷ rest) l r e sl sr = never e
takes-values Before f each (Body x ∷ rest) l r e sl sr = never e
takes-values Before f each (Value x ∷ rest) l r e sl sr = never e
takes-values Before f each (Values x ∷ rest) l r e sl sr = let h = each x rest l r e sl sr in (h.0.0, (h.0.1, h.1))
takes-values Before f each (Num x ∷ rest) l r e sl sr = never e

takes-number : (Before : Type 0) (f : ℕ → List Arg → Option Row) → ((m : ℕ) → Fits Before (f m)) → Fits Before (N f)
takes-number Before f each [] l r e sl sr = never e
takes-number Before f each (Term x ∷ rest) l r e sl sr = never e
takes-number Before f each (Body x ∷ rest) l r e sl sr = never e
takes-number Before f each (Value x ∷ rest) l r e sl sr = never e
takes-number Before f each (Values x ∷ rest) l r e sl sr = never e
takes-number Before f each (Num x ∷ rest) l r e sl sr = let h = each x rest l r e sl sr in (h.0, (tt, h.1))

takes-no_more : (Before : Type 0) (wrong : Option Misfit) (x y : U) → (wrong ≡ None → Small x → Small y → Before) → Fits Before (row_with wrong x y)
takes-no_more Before wrong x y fits [] l r e sl sr =
    let fault : wrong ≡ None = ap (λ (o : Option Row). fault-of o) e in
    let left : x ≡ l = ap (λ (o : Option Row). left-of o) e in
    let right : y ≡ r = ap (λ (o : Option Row). right-of o) e in
    (fits fault (subst Small (sym left) sl) (subst Small (sym right) sr), tt)
  where
    fault-of : Option Row → Option Misfit
    fault-of None = None
    fault-of (Some r) = r.fault

    left-of : Option Row → U
    left-of None = O
    left-of (Some r) = r.left

    right-of : Option Row → U
    right-of None = O
    right-of (Some r) = r.right
takes-no_more Before wrong x y fits (a ∷ rest) l r e sl sr = never e

-- ---- rule by rule
none-wrong : (Before : Type 0) (x y : U) → (Small x → Small y → Before) → Fits Before (row_with None x y)
none-wrong Before x y fits = takes-no_more Before None x y (λ e. fits)

one-term : (f g : U → U) → ((x : U) → Small (f x) → Small (g x) → Small x) → Fits (Unit {0}) (T (λ x. row_with None (f x) (g x)))
one-term f g fits = takes-term _ _ (λ x. none-wrong _ (f x) (g x) (λ l r. (tt, fits x l r)))

two-terms : (f g : U → U → U) → ((x y : U) → Small (f x y) → Small (g x y) → Small x × Small y) → Fits (Unit {0}) (T (λ x. T (λ y. row_with None (f x y) (g x y))))
two-terms f g fits = takes-term _ _ (λ x. takes-term _ _ (λ y. none-wrong _ (f x y) (g x y) (λ l r. let h = fits x y l r in ((tt, h.0), h.1))))

two-values : (f g : Val → Val → U) → ((a b : Val) → Small (f a b) → Small (g a b) → SmallValue a × SmallValue b) → Fits (Unit {0}) (V (λ a. V (λ b. row_with None (f a b) (g a b))))
two-values f g fits = takes-value _ _ (λ a. takes-value _ _ (λ b. none-wrong _ (f a b) (g a b) (λ l r. let h = fits a b l r in ((tt, h.0), h.1))))

fkey-fits : (F : Facts) → Fits (Unit {0}) (row F rule.Fkey)
fkey-fits F = takes-number _ _ (λ i. takes-values _ _ (λ s. of-key (slice_get F.fkeys i) s))
  where
    of-key : (key : Option Fkey) (s : List Val) → Fits (Unit {0} × SmallValues s) (fkey_row F key s)
    of-key None s = takes-no_more _ _ O O (λ e. absurd cc)
    of-key (Some f) s = takes-no_more _ _ (R f.from s) (R f.from s ⊗ referenced F f s) (λ e l r. (tt, in-relation f.from s l))

rule-fits : (F : Facts) (q : Rule) → (q ≡ rule.SumUse → ⊥) → Fits (Unit {0}) (row F q)
rule-fits F rule.AddAc u = two-terms (λ x y. x) (λ x y. y) (λ x y l r. (l, r))
rule-fits F rule.MulAc u = two-terms (λ x y. x) (λ x y. y) (λ x y l r. (l, r))
rule-fits F rule.MulZero u = one-term (λ x. x ⊗ O) (λ x. O) (λ x l r. mul-left x O l)
rule-fits F rule.Distr u =
    takes-term _ _ (λ x. takes-term _ _ (λ y. takes-term _ _ (λ z. none-wrong _ (x ⊗ (y ⊕ z)) (x ⊗ y ⊕ x ⊗ z) (λ l r.
    let sum = mul-right x (y ⊕ z) l in (((tt, mul-left x (y ⊕ z) l), add-left y z sum), add-right y z sum)))))
rule-fits F rule.SqZero u = none-wrong _ (sq O) O (λ l r. tt)
rule-fits F rule.SqOne u = one-term (λ x. sq (I ⊕ x)) (λ x. I) (λ x l r. add-right I x (in-squash (I ⊕ x) l))
rule-fits F rule.SqAdd u =
    two-terms (λ x y. sq (sq x ⊕ y)) (λ x y. sq (x ⊕ y)) (λ x y l r. let sum = in-squash (x ⊕ y) r in (add-left x y sum, add-right x y sum))
rule-fits F rule.SqMul u =
    two-terms (λ x y. sq x ⊗ sq y) (λ x y. sq (x ⊗ y)) (λ x y l r. let product = in-squash (x ⊗ y) r in (mul-left x y product, mul-right x y product))
rule-fits F rule.SqDup u = one-term (λ x. sq x ⊗ sq x) (λ x. sq x) (λ x l r. in-squash x r)
rule-fits F rule.SqAbs u = one-term (λ x. x ⊗ sq x) (λ x. x) (λ x l r. r)
rule-fits F rule.SqFix u = one-term (λ x. sq x) (λ x. x) (λ x l r. r)
rule-fits F rule.SqPart u =
    two-terms (λ x y. sq x ⊗ sq (x ⊕ y)) (λ x y. sq x) (λ x y l r. (in-squash x r, add-right x y (in-squash (x ⊕ y) (mul-right (sq x) (sq (x ⊕ y)) l))))
rule-fits F rule.SqEq u = two-values (λ a b. sq (a ≐ b)) (λ a b. a ≐ b) (λ a b l r. (eq-left a b r, eq-right a b r))
rule-fits F rule.SqPred u = takes-number _ _ (λ m. takes-values _ _ (λ s. none-wrong _ (sq (P m s)) (P m s) (λ l r. (tt, in-predicate m s r))))
rule-fits F rule.NotZero u = none-wrong _ (neg O) I (λ l r. tt)
rule-fits F rule.NotOne u = none-wrong _ (neg I) O (λ l r. tt)
rule-fits F rule.NotMul u =
    two-terms (λ x y. neg (x ⊗ y)) (λ x y. sq (neg x ⊕ neg y)) (λ x y l r. let product = in-not (x ⊗ y) l in (mul-left x y product, mul-right x y product))
rule-fits F rule.NotAdd u =
    two-terms (λ x y. neg (x ⊕ y)) (λ x y. neg x ⊗ neg y) (λ x y l r. let sum = in-not (x ⊕ y) l in (add-left x y sum, add-right x y sum))
rule-fits F rule.NotSq u = one-term (λ x. neg (sq x)) (λ x. neg x) (λ x l r. in-not x r)
rule-fits F rule.SqNot u = one-term (λ x. sq (neg x)) (λ x. neg x) (λ x l r. in-not x r)
rule-fits F rule.NotSelf u = one-term (λ x. x ⊗ neg x) (λ x. O) (λ x l r. mul-left x (neg x) l)
rule-fits F rule.NotNot u = one-term (λ x. neg (neg x)) (λ x. sq x) (λ x l r. in-squash x r)
rule-fits F rule.Split u = one-term (λ x. sq x ⊕ neg x) (λ x. I) (λ x l r. in-squash x (add-left (sq x) (neg x) l))
rule-fits F rule.SumZero u = none-wrong _ (S O) O (λ l r. tt)
rule-fits F rule.SumAdd u =
    takes-body _ _ (λ f. takes-body _ _ (λ g. none-wrong _ (S (f ⊕ g)) (S f ⊕ S g) (λ l r. let sum = in-sum (f ⊕ g) l in ((tt, add-left f g sum), add-right f g sum))))
rule-fits F rule.SumSwap u =
    takes-number _ _ (λ a. takes-number _ _ (λ b. takes-body _ _ (λ f. takes-no_more _ (swap_fault a b) (sums (a + b) f) (sums (a + b) (turned a b f)) (λ e l r. (tt, in-sums (a + b) f l)))))
rule-fits F rule.SumMul u =
    takes-term _ _ (λ x. takes-body _ _ (λ f. none-wrong _ (x ⊗ S f) (S (x ⊗ f)) (λ l r. ((tt, mul-left x (S f) l), in-sum f (mul-right x (S f) l)))))
rule-fits F rule.SumSq u = takes-body _ _ (λ f. none-wrong _ (sq (S f)) (sq (S (sq f))) (λ l r. (tt, in-sum f (in-squash (S f) l))))
rule-fits F rule.SumPoint u =
    takes-value _ _ (λ a. takes-body _ _ (λ f. none-wrong _ (S ((v.Bound 0 ≐ a) ⊗ f)) (put a f) (λ l r.
    let product = in-sum ((v.Bound 0 ≐ a) ⊗ f) l in ((tt, eq-right (v.Bound 0) a (mul-left (v.Bound 0 ≐ a) f product)), mul-right (v.Bound 0 ≐ a) f product))))
rule-fits F rule.SumUse u = absurd (u refl)
rule-fits F rule.EqRefl u = takes-value _ _ (λ a. none-wrong _ (a ≐ a) I (λ l r. (tt, eq-left a a l)))
rule-fits F rule.EqSym u = two-values (λ a b. a ≐ b) (λ a b. b ≐ a) (λ a b l r. (eq-left a b l, eq-right a b l))
rule-fits F rule.EqSubst u =
    takes-value _ _ (λ a. takes-value _ _ (λ b. takes-body _ _ (λ f. none-wrong _ ((a ≐ b) ⊗ put a f) ((a ≐ b) ⊗ put b f) (λ l r.
    let equality = mul-left (a ≐ b) (put a f) l in (((tt, eq-left a b equality), eq-right a b equality), before-put a f (mul-right (a ≐ b) (put a f) l))))))
rule-fits F rule.EqSplit u =
    two-values (λ a b. (a ≐ b) ⊕ neg (a ≐ b)) (λ a b. I) (λ a b l r. let equality = add-left (a ≐ b) (neg (a ≐ b)) l in (eq-left a b equality, eq-right a b equality))
rule-fits F rule.Key u =
    takes-number _ _ (λ t. takes-number _ _ (λ i. takes-values _ _ (λ s. takes-values _ _ (λ r. takes-no_more _ (key_fault F t i s r) _ _ (λ e left right.
    let others = R t r ∷ equal_columns s (key_columns F t i) r (key_columns F t i) in
    ((tt, in-relation t s (first-factor (R t s) others left)), in-relation t r (first-factor (R t r) _ (mul-right (R t s) (product_of others) left))))))))
rule-fits F rule.Fkey u = fkey-fits F

-- ---- a step
part-small : (outs k : ℕ) (c : Context) (t whole : U) → whole ≡ filled c (closed_path t outs k) → Small whole → Small t
part-small outs k c t whole is s = (
  omega (arith, s.0, ap nodes is, nodes-filled c (closed_path t outs k) O, at.nodes-Zero, nodes-positive (filled c O), closed_path-nodes t outs k),
  omega (arith, s.1, ap depth is, deep-filled c (closed_path t outs k), closed_path-depth t outs k),
)

sides-small : (o : Option Row) (l r : U) → o ≡ Some (record { fault = None; left = l; right = r }) → Small l → Small r → SidesAreSmall (sizes_of o)
unfolding measure_of
sides-small o l r e sl sr = subst (λ (x : Option Row). SidesAreSmall (sizes_of x)) (sym e) (record {
  left = record { few = omega (arith, sl.0); flat = omega (arith, sl.1) };
  right = record { few = omega (arith, sr.0); flat = omega (arith, sr.1) };
})

row-small : (F : Facts) (s : Step) (l r : U) → IsPlain s → row F (out-Step s).rule (out-Step s).args ≡ Some (record { fault = None; left = l; right = r }) → Small l → Small r → IsSmallStep F s
row-small F s l r plain e sl sr = record {
  plain = plain.proves_nothing;
  arguments = (rule-fits F (out-Step s).rule plain.uses_nothing (out-Step s).args l r e sl sr).1;
  sides = sides-small (row F (out-Step s).rule (out-Step s).args) l r e sl sr;
}

sides-fit : (F : Facts) (forward : Bool) (s : Step) (from to : U) → IsPlain s → Sides F forward s from to → Small from → Small to → IsSmallStep F s
sides-fit F true s from to plain i small-from small-to = row-small F s from to plain i.row small-from small-to
sides-fit F false s from to plain i small-from small-to = row-small F s to from plain i.row small-to small-from

pub step-small : (F : Facts) (outs : ℕ) (before after : U) (s : Step) → IsPlain s → Rewrites F outs before s after
    → IsSmallArgument (Term before) → IsSmallArgument (Term after) → IsSmallStep F s
step-small F outs before after s plain (by_rule x other inner) small-before small-after =
    let k : ℕ = binders x.replaced.context in
    sides-fit F (out-Step s).forward s x.from x.to plain x.sides
    (part-small outs k x.replaced.context x.from before x.replaced.is_from small-before)
    (part-small outs k x.replaced.context x.to after x.replaced.is_to small-after)
step-small F outs before after s plain (by_proof square x is args inner) small-before small-after = absurd (plain.proves_nothing is)

-- ---- a derivation
steps-small : (F : Facts) (outs n m : ℕ) → n ≤ most_nodes → m ≤ most_depth → (a b : U) (xs : List Step) → Each IsPlain xs → ReplaysThrough (moves.IsWithin n m) F outs a xs b
    → Each (IsSmallStep F) xs
steps-small F outs n m few flat a b [] each through = tt
steps-small F outs n m few flat a b (s ∷ xs) each (first_then {middle = d} from step rest) =
    let to = starts F (moves.IsWithin n m) outs d b xs rest in (
      step-small F outs a d s each.0 step (omega (arith, from.few, few), omega (arith, from.shallow, flat)) (omega (arith, to.few, few), omega (arith, to.shallow, flat)),
      steps-small F outs n m few flat d b xs each.1 rest,
    )

-- one of plain steps passes no limit, where these numbers do not: with the lines that have a bound stand the first lines and the last one
pub none-passed : (d : Derivation) → IsSound d → Each IsPlain d.steps → length d.steps ≤ most_steps → IsWithin d.nodes d.depth → lines_bound d.steps + 32 ≤ most_proof_bytes
    → PassesOne d → ⊥
none-passed d sound plain few within short passes = elim passes [ inl passes ↦ passes counts | inr long ↦ too-long long ]
  where
    counts : KeepsCounts d
    counts = record { few = few; within = within; small = steps-small d.facts d.outs d.nodes d.depth within.few within.flat d.from d.to d.steps plain sound.replays }

    too-long : HasLongText d → ⊥
    too-long long =
        let word : d.outs < 2 ^ 32 = omega (arith, sound.room) in
        absurd (omega (arith, long.long, short, length-proof d.outs d.steps, lines-short d.steps long.writable, number-short d.outs word))
