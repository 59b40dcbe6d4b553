-- The definitions at terms as code builds them, and on lists that are one longer.
use Rattle.std.proofs.Common.{◌≡◌, ℕ, suc, ◌+◌, List, [], ◌∷◌, ◌++◌, Option, Some, None, refl, ap, sym, ◌∙◌, append_assoc, arith}
use Rattle.std.proofs.lemmas.List.{append-nil, replicate-append-replicate}
use Rattle.std.specs.Prelude.{option_map, option_and_then, replicate, slice_get, slice_set}
use Rattle.u_terms.specs.declared.term.U.TheVariants as u
use Rattle.u_terms.specs.Syntax.{U, Zero, One, Add, Mul, Squash, Not, Sum, Rel, Eq, Pred, Val, row_of, constructors}
use Rattle.shapes.specs.Options.{both_of}
use Rattle.shapes.specs.Shapes.{Point}
use Rattle.term_shapes.specs.Factors.{atom, equality, difference, truth, falsehood, other, listed, negated, factors, sum_count, under_sums}
use Rattle.term_shapes.specs.TermShape.{Atoms, with_atom, folded, Points, value_point, value_points, product_shape, pointed, all_points}

-- ---- terms as code builds them
pub listed-row : (vs : List Val) → listed (row_of vs) ≡ vs
unfolding constructors
listed-row [] = refl
listed-row (v ∷ vs) = ap (λ (more : List Val). v ∷ more) (listed-row vs)

pub factors-Zero : factors u.Zero ≡ other ∷ []
unfolding factors constructors
factors-Zero = refl

pub factors-One : factors u.One ≡ []
unfolding factors constructors
factors-One = refl

pub factors-Add : (a b : U) → factors (u.Add a b) ≡ other ∷ []
unfolding factors constructors
factors-Add a b = refl

pub factors-Mul : (a b : U) → factors (u.Mul a b) ≡ factors a ++ factors b
unfolding factors constructors
factors-Mul a b = refl

pub factors-Squash : (a : U) → factors (u.Squash a) ≡ other ∷ []
unfolding factors constructors
factors-Squash a = refl

pub factors-Not : (a : U) → factors (u.Not a) ≡ negated a ∷ []
unfolding factors constructors
factors-Not a = refl

pub factors-Sum : (a : U) → factors (u.Sum a) ≡ other ∷ []
unfolding factors constructors
factors-Sum a = refl

pub factors-Rel : (table : ℕ) (vs : List Val) → factors (u.Rel table vs) ≡ atom table vs ∷ []
unfolding factors constructors
factors-Rel table vs = ap (λ (l : List Val). atom table l ∷ []) (listed-row vs)

pub factors-Eq : (a b : Val) → factors (u.Eq a b) ≡ equality a b ∷ []
unfolding factors constructors
factors-Eq a b = refl

pub factors-Pred : (symbol : ℕ) (vs : List Val) → factors (u.Pred symbol vs) ≡ truth symbol vs ∷ []
unfolding factors constructors
factors-Pred symbol vs = ap (λ (l : List Val). truth symbol l ∷ []) (listed-row vs)

pub negated-Eq : (a b : Val) → negated (u.Eq a b) ≡ difference a b
unfolding negated constructors
negated-Eq a b = refl

pub negated-Pred : (symbol : ℕ) (vs : List Val) → negated (u.Pred symbol vs) ≡ falsehood symbol vs
unfolding negated constructors
negated-Pred symbol vs = ap (falsehood symbol) (listed-row vs)

pub negated-Zero : negated (u.Zero) ≡ other
unfolding negated constructors
negated-Zero = refl

pub count-Zero : sum_count (u.Zero) ≡ 0
unfolding sum_count constructors
count-Zero = refl

pub under-Zero : under_sums (u.Zero) ≡ (u.Zero)
unfolding under_sums constructors
under-Zero = refl

pub negated-One : negated (u.One) ≡ other
unfolding negated constructors
negated-One = refl

pub count-One : sum_count (u.One) ≡ 0
unfolding sum_count constructors
count-One = refl

pub under-One : under_sums (u.One) ≡ (u.One)
unfolding under_sums constructors
under-One = refl

pub negated-Add : (a b : U) → negated (u.Add a b) ≡ other
unfolding negated constructors
negated-Add a b = refl

pub count-Add : (a b : U) → sum_count (u.Add a b) ≡ 0
unfolding sum_count constructors
count-Add a b = refl

pub under-Add : (a b : U) → under_sums (u.Add a b) ≡ (u.Add a b)
unfolding under_sums constructors
under-Add a b = refl

pub negated-Mul : (a b : U) → negated (u.Mul a b) ≡ other
unfolding negated constructors
negated-Mul a b = refl

pub count-Mul : (a b : U) → sum_count (u.Mul a b) ≡ 0
unfolding sum_count constructors
count-Mul a b = refl

pub under-Mul : (a b : U) → under_sums (u.Mul a b) ≡ (u.Mul a b)
unfolding under_sums constructors
under-Mul a b = refl

pub negated-Squash : (a : U) → negated (u.Squash a) ≡ other
unfolding negated constructors
negated-Squash a = refl

pub count-Squash : (a : U) → sum_count (u.Squash a) ≡ 0
unfolding sum_count constructors
count-Squash a = refl

pub under-Squash : (a : U) → under_sums (u.Squash a) ≡ (u.Squash a)
unfolding under_sums constructors
under-Squash a = refl

pub negated-Not : (a : U) → negated (u.Not a) ≡ other
unfolding negated constructors
negated-Not a = refl

pub count-Not : (a : U) → sum_count (u.Not a) ≡ 0
unfolding sum_count constructors
count-Not a = refl

pub under-Not : (a : U) → under_sums (u.Not a) ≡ (u.Not a)
unfolding under_sums constructors
under-Not a = refl

pub negated-Sum : (a : U) → negated (u.Sum a) ≡ other
unfolding negated constructors
negated-Sum a = refl

pub count-Sum : (a : U) → sum_count (u.Sum a) ≡ suc (sum_count a)
unfolding sum_count constructors
count-Sum a = refl

pub under-Sum : (a : U) → under_sums (u.Sum a) ≡ under_sums a
unfolding under_sums constructors
under-Sum a = refl

pub negated-Rel : (table : ℕ) (vs : List Val) → negated (u.Rel table vs) ≡ other
unfolding negated constructors
negated-Rel table vs = refl

pub count-Rel : (table : ℕ) (vs : List Val) → sum_count (u.Rel table vs) ≡ 0
unfolding sum_count constructors
count-Rel table vs = refl

pub under-Rel : (table : ℕ) (vs : List Val) → under_sums (u.Rel table vs) ≡ (u.Rel table vs)
unfolding under_sums constructors
under-Rel table vs = refl

pub count-Eq : (a b : Val) → sum_count (u.Eq a b) ≡ 0
unfolding sum_count constructors
count-Eq a b = refl

pub under-Eq : (a b : Val) → under_sums (u.Eq a b) ≡ (u.Eq a b)
unfolding under_sums constructors
under-Eq a b = refl

pub count-Pred : (symbol : ℕ) (vs : List Val) → sum_count (u.Pred symbol vs) ≡ 0
unfolding sum_count constructors
count-Pred symbol vs = refl

pub under-Pred : (symbol : ℕ) (vs : List Val) → under_sums (u.Pred symbol vs) ≡ (u.Pred symbol vs)
unfolding under_sums constructors
under-Pred symbol vs = refl

pub under-bare : (outs sums : ℕ) (w : U) → sum_count w ≡ 0 → under_sums w ≡ w → product_shape outs sums (factors w) ≡ product_shape outs (sums + sum_count w) (factors (under_sums w))
under-bare outs sums w none same =
    let e : sums ≡ sums + sum_count w = omega (arith, none) in
    ap (λ n. product_shape outs n (factors w)) e ∙ ap (λ (x : U). product_shape outs (sums + sum_count w) (factors x)) (sym same)

-- ---- folds
and-then-twice : {A B C : Type 0} (f : A → Option B) (g : B → Option C) (h : A → Option C) (o : Option A) → ((a : A) → h a ≡ option_and_then g (f a)) → option_and_then h o ≡ option_and_then g (option_and_then f o)
and-then-twice f g h None e = refl
and-then-twice f g h (Some a) e = e a

pub folded-append : {S X : Type 0} (step : S → X → Option S) (s : S) (xs ys : List X) → folded step s (xs ++ ys) ≡ option_and_then (λ more. folded step more ys) (folded step s xs)
folded-append step s [] ys = refl
folded-append step s (x ∷ xs) ys =
    and-then-twice (λ more. folded step more xs) (λ more. folded step more ys) (λ more. folded step more (xs ++ ys)) (step s x) (λ more. folded-append step more xs ys)

pub negated-no_atom : (atoms : Atoms) (w : U) → with_atom atoms (negated w) ≡ Some atoms
unfolding negated
negated-no_atom atoms Zero = refl
negated-no_atom atoms One = refl
negated-no_atom atoms (Add a b) = refl
negated-no_atom atoms (Mul a b) = refl
negated-no_atom atoms (Squash a) = refl
negated-no_atom atoms (Not a) = refl
negated-no_atom atoms (Sum a) = refl
negated-no_atom atoms (Rel t s vs) = refl
negated-no_atom atoms (Eq a b) = refl
negated-no_atom atoms (Pred p s vs) = refl

pub ruleset walks = (factors-Zero, factors-One, factors-Add, factors-Mul, factors-Squash, factors-Not, factors-Sum, factors-Rel, factors-Eq, factors-Pred, negated-Eq, negated-Pred, negated-no_atom, folded-append)

pub ruleset under = (negated-Zero, count-Zero, under-Zero, negated-One, count-One, under-One, negated-Add, count-Add, under-Add, negated-Mul, count-Mul, under-Mul, negated-Squash, count-Squash, under-Squash, negated-Not, count-Not, under-Not, negated-Sum, count-Sum, under-Sum, negated-Rel, count-Rel, under-Rel, count-Eq, under-Eq, count-Pred, under-Pred, under-bare)

-- ---- lists
abbrev pub points_after : List Point → Points → List Val → Option (List Point)
points_after found points rest = option_map (λ ps. found ++ ps) (value_points points rest)

pub points-first : (points : Points) (values : List Val) → value_points points values ≡ points_after [] points values
points-first points values = at_rest (value_points points values)
  where
    at_rest : (o : Option (List Point)) → o ≡ option_map (λ ps. [] ++ ps) o
    at_rest None = refl
    at_rest (Some ps) = refl

pub points-last : (found : List Point) (points : Points) → points_after found points [] ≡ Some found
points-last found points = ap Some (append-nil found)

pub points-next : (found : List Point) (points : Points) (v : Val) (rest : List Val) (p : Point) → value_point points v ≡ Some p
    → points_after found points (v ∷ rest) ≡ points_after (found ++ p ∷ []) points rest
points-next found points v rest p h =
    ap (λ (o : Option Point). option_map (λ ps. found ++ ps) (both_of (λ q ps. q ∷ ps) o (value_points points rest))) h ∙ at_rest (value_points points rest)
  where
    at_rest : (o : Option (List Point)) → option_map (λ ps. found ++ ps) (both_of (λ q ps. q ∷ ps) (Some p) o) ≡ option_map (λ ps. (found ++ p ∷ []) ++ ps) o
    at_rest None = refl
    at_rest (Some ps) = ap Some (sym (append_assoc found (p ∷ []) ps))

pub points-stop : (found : List Point) (points : Points) (v : Val) (rest : List Val) → value_point points v ≡ None → points_after found points (v ∷ rest) ≡ None
points-stop found points v rest h = ap (λ (o : Option Point). option_map (λ ps. found ++ ps) (both_of (λ q ps. q ∷ ps) o (value_points points rest))) h

-- ---- points of all
abbrev pub all_after : List Point → Points → Option (List Point)
all_after found rest = option_map (λ ps. found ++ ps) (all_points rest)

pub all-first : (points : Points) → all_points points ≡ all_after [] points
all-first points = at_rest (all_points points)
  where
    at_rest : (o : Option (List Point)) → o ≡ option_map (λ ps. [] ++ ps) o
    at_rest None = refl
    at_rest (Some ps) = refl

pub all-last : (found : List Point) → all_after found [] ≡ Some found
all-last found = ap Some (append-nil found)

pub all-next : (found : List Point) (p : Point) (rest : Points) → all_after found (Some p ∷ rest) ≡ all_after (found ++ p ∷ []) rest
all-next found p rest = at_rest (all_points rest)
  where
    at_rest : (o : Option (List Point)) → option_map (λ ps. found ++ ps) (both_of (λ q ps. q ∷ ps) (Some p) o) ≡ option_map (λ ps. (found ++ p ∷ []) ++ ps) o
    at_rest None = refl
    at_rest (Some ps) = ap Some (sym (append_assoc found (p ∷ []) ps))

pub all-stop : (found : List Point) (rest : Points) → all_after found (None ∷ rest) ≡ None
all-stop found rest = refl

-- ---- places
pub none-longer : (n : ℕ) → replicate {A = Option Point} n None ++ None ∷ [] ≡ replicate (n + 1) None
none-longer n = replicate-append-replicate n 1 None

pub pointed-empty : (points : Points) (place : ℕ) (p : Point) → slice_get points place ≡ Some None → pointed points place p ≡ Some (slice_set points place (Some p))
pointed-empty points place p h =
    ap (λ (o : Option (Option Point)). elim o as (λ _. Option Points) [ None ↦ None | Some (Some q) ↦ None | Some None ↦ Some (slice_set points place (Some p)) ]) h

pub pointed-taken : (points : Points) (place : ℕ) (p q : Point) → slice_get points place ≡ Some (Some q) → pointed points place p ≡ None
pointed-taken points place p q h =
    ap (λ (o : Option (Option Point)). elim o as (λ _. Option Points) [ None ↦ None | Some (Some q) ↦ None | Some None ↦ Some (slice_set points place (Some p)) ]) h

pub pointed-past : (points : Points) (place : ℕ) (p : Point) → slice_get points place ≡ None → pointed points place p ≡ None
pointed-past points place p h =
    ap (λ (o : Option (Option Point)). elim o as (λ _. Option Points) [ None ↦ None | Some (Some q) ↦ None | Some None ↦ Some (slice_set points place (Some p)) ]) h

pub ruleset places = (pointed-empty, pointed-taken, pointed-past)

pub ruleset lists = (points-first, points-last, points-next, points-stop, all-first, all-last, all-next, all-stop, none-longer)
