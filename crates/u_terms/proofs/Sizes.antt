-- `nodes` and `depth` at each constructor as code writes it, and of a list.
use Rattle.std.proofs.Common.{◌≡◌, ℕ, zero, suc, ◌+◌, ◌<◌, ◌≤◌, max, List, [], ◌∷◌, ◌++◌, length, get_or, map, take, drop, fold, refl, ap, sym, subst, ◌∙◌, arith}
use Rattle.std.proofs.lemmas.List.Sums.{sum_by-cons}
use Rattle.u_terms.specs.declared.term.U.TheVariants as u
use Rattle.u_terms.specs.declared.term.Val.TheVariants as v
use Rattle.u_terms.specs.Syntax.{U, Zero, One, Add, Mul, Squash, Not, Sum, Rel, Eq, Pred, Val, row_of, constructors}
use Rattle.u_terms.specs.Size.{nodes, value_nodes, row_nodes, list_nodes, depth, value_depth, row_depth, list_depth}

pub row_nodes-list : (vs : List Val) → row_nodes (row_of vs) ≡ list_nodes vs
unfolding nodes constructors
row_nodes-list [] = refl
row_nodes-list (v ∷ vs) = ap (λ (m : ℕ). value_nodes v + m) (row_nodes-list vs) ∙ sym (sum_by-cons value_nodes v vs)

pub nodes-Zero : nodes u.Zero ≡ 1
unfolding nodes constructors
nodes-Zero = refl

pub nodes-One : nodes u.One ≡ 1
unfolding nodes constructors
nodes-One = refl

pub nodes-Add : (a b : U) → nodes (u.Add a b) ≡ 1 + nodes a + nodes b
unfolding nodes constructors
nodes-Add a b = refl

pub nodes-Mul : (a b : U) → nodes (u.Mul a b) ≡ 1 + nodes a + nodes b
unfolding nodes constructors
nodes-Mul a b = refl

pub nodes-Squash : (a : U) → nodes (u.Squash a) ≡ 1 + nodes a
unfolding nodes constructors
nodes-Squash a = refl

pub nodes-Not : (a : U) → nodes (u.Not a) ≡ 1 + nodes a
unfolding nodes constructors
nodes-Not a = refl

pub nodes-Sum : (body : U) → nodes (u.Sum body) ≡ 1 + nodes body
unfolding nodes constructors
nodes-Sum body = refl

pub nodes-Rel : (table : ℕ) (vs : List Val) → nodes (u.Rel table vs) ≡ 1 + list_nodes vs
unfolding nodes constructors
nodes-Rel table vs = ap (λ (m : ℕ). 1 + m) (row_nodes-list vs)

pub nodes-Eq : (a b : Val) → nodes (u.Eq a b) ≡ 1 + value_nodes a + value_nodes b
unfolding nodes constructors
nodes-Eq a b = refl

pub nodes-Pred : (symbol : ℕ) (vs : List Val) → nodes (u.Pred symbol vs) ≡ 1 + list_nodes vs
unfolding nodes constructors
nodes-Pred symbol vs = ap (λ (m : ℕ). 1 + m) (row_nodes-list vs)

pub nodes-Bound : (place : ℕ) → value_nodes (v.Bound place) ≡ 1
unfolding nodes constructors
nodes-Bound place = refl

pub nodes-Free : (name : ℕ) → value_nodes (v.Free name) ≡ 1
unfolding nodes constructors
nodes-Free name = refl

pub nodes-Lit : (literal : ℕ) → value_nodes (v.Lit literal) ≡ 1
unfolding nodes constructors
nodes-Lit literal = refl

pub nodes-Fun : (symbol : ℕ) (vs : List Val) → value_nodes (v.Fun symbol vs) ≡ 1 + list_nodes vs
unfolding nodes constructors
nodes-Fun symbol vs = ap (λ (m : ℕ). 1 + m) (row_nodes-list vs)

pub nodes-Agg : (aggregate : ℕ) (body : U) → value_nodes (v.Agg aggregate body) ≡ 1 + nodes body
unfolding nodes constructors
nodes-Agg aggregate body = refl

pub ruleset nodes_at = (
  nodes-Zero,
  nodes-One,
  nodes-Add,
  nodes-Mul,
  nodes-Squash,
  nodes-Not,
  nodes-Sum,
  nodes-Rel,
  nodes-Eq,
  nodes-Pred,
  nodes-Bound,
  nodes-Free,
  nodes-Lit,
  nodes-Fun,
  nodes-Agg,
)

-- ---- depth
most-from : (most : ℕ) (vs : List Val) → fold (λ m v. max m (value_depth v)) most vs ≡ max most (list_depth vs)
most-from most [] = omega arith
most-from most (v ∷ vs) = omega (arith, most-from (max most (value_depth v)) vs, most-from (max 0 (value_depth v)) vs)

pub list_depth-cons : (v : Val) (vs : List Val) → list_depth (v ∷ vs) ≡ max (value_depth v) (list_depth vs)
list_depth-cons v vs = omega (arith, most-from (max 0 (value_depth v)) vs)

-- no value is deeper than the list
pub value_depth-get_or : (vs : List Val) (i : ℕ) (d : Val) → i < length vs → value_depth (get_or vs i d) ≤ list_depth vs
value_depth-get_or [] i d h = absurd (omega arith)
value_depth-get_or (v ∷ vs) zero d h = omega (arith, list_depth-cons v vs)
value_depth-get_or (v ∷ vs) (suc i) d h = omega (arith, list_depth-cons v vs, value_depth-get_or vs i d (omega arith))

pub value_depth-item : (vs : List Val) (i : ℕ) (v : Val) → i < length vs → v ≡ get_or vs i v → value_depth v ≤ list_depth vs
value_depth-item vs i v h is = subst (λ (w : Val). value_depth w ≤ list_depth vs) (sym is) (value_depth-get_or vs i v h)

unchanged-ahead : (f : Val → Val) (vs : List Val) (i : ℕ) (d : Val) → get_or (map f (take i vs) ++ drop i vs) i d ≡ get_or vs i d
unchanged-ahead f [] zero d = refl
unchanged-ahead f [] (suc i) d = refl
unchanged-ahead f (v ∷ vs) zero d = refl
unchanged-ahead f (v ∷ vs) (suc i) d = unchanged-ahead f vs i d

-- nor is one that a loop, which maps the values in place, has still to reach
pub value_depth-ahead : (f : Val → Val) (now vs : List Val) (i : ℕ) (v : Val) → i < length vs → now ≡ map f (take i vs) ++ drop i vs
    → v ≡ get_or now i v → value_depth v ≤ list_depth vs
value_depth-ahead f now vs i v h invariant is =
    value_depth-item vs i v h (is ∙ (ap (λ (l : List Val). get_or l i v) invariant ∙ unchanged-ahead f vs i v))

pub depth-positive : (u : U) → 1 ≤ depth u
unfolding depth
depth-positive Zero = omega arith
depth-positive One = omega arith
depth-positive (Add a b) = omega arith
depth-positive (Mul a b) = omega arith
depth-positive (Squash a) = omega arith
depth-positive (Not a) = omega arith
depth-positive (Sum body) = omega arith
depth-positive (Rel table shape arguments) = omega arith
depth-positive (Eq a b) = omega arith
depth-positive (Pred symbol shape arguments) = omega arith

pub row_depth-list : (vs : List Val) → row_depth (row_of vs) ≡ list_depth vs
unfolding depth constructors
row_depth-list [] = refl
row_depth-list (v ∷ vs) = ap (λ (m : ℕ). max (value_depth v) m) (row_depth-list vs) ∙ sym (list_depth-cons v vs)

pub depth-Zero : depth u.Zero ≡ 1
unfolding depth constructors
depth-Zero = refl

pub depth-One : depth u.One ≡ 1
unfolding depth constructors
depth-One = refl

pub depth-Add : (a b : U) → depth (u.Add a b) ≡ 1 + max (depth a) (depth b)
unfolding depth constructors
depth-Add a b = refl

pub depth-Mul : (a b : U) → depth (u.Mul a b) ≡ 1 + max (depth a) (depth b)
unfolding depth constructors
depth-Mul a b = refl

pub depth-Squash : (a : U) → depth (u.Squash a) ≡ 1 + depth a
unfolding depth constructors
depth-Squash a = refl

pub depth-Not : (a : U) → depth (u.Not a) ≡ 1 + depth a
unfolding depth constructors
depth-Not a = refl

pub depth-Sum : (body : U) → depth (u.Sum body) ≡ 1 + depth body
unfolding depth constructors
depth-Sum body = refl

pub depth-Rel : (table : ℕ) (vs : List Val) → depth (u.Rel table vs) ≡ 1 + list_depth vs
unfolding depth constructors
depth-Rel table vs = ap (λ (m : ℕ). 1 + m) (row_depth-list vs)

pub depth-Eq : (a b : Val) → depth (u.Eq a b) ≡ 1 + max (value_depth a) (value_depth b)
unfolding depth constructors
depth-Eq a b = refl

pub depth-Pred : (symbol : ℕ) (vs : List Val) → depth (u.Pred symbol vs) ≡ 1 + list_depth vs
unfolding depth constructors
depth-Pred symbol vs = ap (λ (m : ℕ). 1 + m) (row_depth-list vs)

pub depth-Bound : (place : ℕ) → value_depth (v.Bound place) ≡ 1
unfolding depth constructors
depth-Bound place = refl

pub depth-Free : (name : ℕ) → value_depth (v.Free name) ≡ 1
unfolding depth constructors
depth-Free name = refl

pub depth-Lit : (literal : ℕ) → value_depth (v.Lit literal) ≡ 1
unfolding depth constructors
depth-Lit literal = refl

pub depth-Fun : (symbol : ℕ) (vs : List Val) → value_depth (v.Fun symbol vs) ≡ 1 + list_depth vs
unfolding depth constructors
depth-Fun symbol vs = ap (λ (m : ℕ). 1 + m) (row_depth-list vs)

pub depth-Agg : (aggregate : ℕ) (body : U) → value_depth (v.Agg aggregate body) ≡ 1 + depth body
unfolding depth constructors
depth-Agg aggregate body = refl

pub ruleset depth_at = (
  depth-Zero,
  depth-One,
  depth-Add,
  depth-Mul,
  depth-Squash,
  depth-Not,
  depth-Sum,
  depth-Rel,
  depth-Eq,
  depth-Pred,
  depth-Bound,
  depth-Free,
  depth-Lit,
  depth-Fun,
  depth-Agg,
)
