-- Outlines at each constructor as code puts them together, and of lists; and no place dangles inside k binders exactly where k are enough.
use Rattle.std.proofs.Common.{◌≡◌, ℕ, ◌+◌, ◌-◌, ◌<◌, ◌≤◌, max, List, [], ◌∷◌, ◌++◌, take, get_or, length, fold, refl, ap, sym, ◌∙◌, arith}
use Rattle.std.proofs.lemmas.List.{take_more}
use Rattle.std.proofs.lemmas.List.Sums.{sum_by-append}
use Rattle.u_terms.specs.Syntax.{U, Zero, One, Add, Mul, Squash, Not, Sum, Rel, Eq, Pred, Val, Bound, Free, Lit, Fun, Agg, Vals, NoVals, ValThen, row_of, constructors}
use Rattle.u_terms.specs.declared.term.U.TheVariants as u
use Rattle.u_terms.specs.declared.term.Val.TheVariants as v
use Rattle.u_terms.specs.Size.{nodes, value_nodes, list_nodes, depth, value_depth, list_depth}
use Rattle.u_terms.specs.Names.{fresh, value_fresh, list_fresh}
use Rattle.u_terms.specs.Places.{IsClosed, IsClosedValue, IsClosedRow}
use Rattle.u_terms.proofs.Sizes as size
use Rattle.u_terms.proofs.FreeNames as name
use Rattle.u_rules.specs.Measures.{capped}
use Rattle.u_deriv.specs.declared.outlines.Outline.{Outline}
use Rattle.u_deriv.specs.Outlining.{dangling, value_dangling, row_dangling, list_dangling, outline_of, value_outline, list_outline, and, below, under}

abbrev of : ℕ → ℕ → ℕ → ℕ → Outline
of n d b f = record { nodes = capped n; depth = capped d; binders = b; names = f }

-- ---- dangling places of lists
most-from : (most : ℕ) (vs : List Val) → fold (λ m w. max m (value_dangling w)) most vs ≡ max most (list_dangling vs)
most-from most [] = omega arith
most-from most (x ∷ vs) = omega (arith, most-from (max most (value_dangling x)) vs, most-from (max 0 (value_dangling x)) vs)

list_dangling-cons : (x : Val) (vs : List Val) → list_dangling (x ∷ vs) ≡ max (value_dangling x) (list_dangling vs)
list_dangling-cons x vs = omega (arith, most-from (max 0 (value_dangling x)) vs)

row_dangling-list : (vs : List Val) → row_dangling (row_of vs) ≡ list_dangling vs
unfolding dangling constructors
row_dangling-list [] = refl
row_dangling-list (x ∷ vs) = ap (λ (m : ℕ). max (value_dangling x) m) (row_dangling-list vs) ∙ sym (list_dangling-cons x vs)

-- ---- put together
leaf : (n d b f : ℕ) → n ≡ 1 → d ≡ 1 → of n d b f ≡ record { nodes = 1; depth = 1; binders = b; names = f }
leaf n d b f en ed =
    let p : capped n ≡ 1 = omega (arith, en) in
    let q : capped d ≡ 1 = omega (arith, ed) in
    rw (p, q) refl

one : (n d m e b f : ℕ) → n ≡ 1 + m → d ≡ 1 + e → of n d b f ≡ below (of m e b f)
one n d m e b f en ed =
    let p : capped n ≡ capped (capped m + 1) = omega (arith, en) in
    let q : capped d ≡ capped (capped e + 1) = omega (arith, ed) in
    rw (p, q) refl

bound : (n d m e b f : ℕ) → n ≡ 1 + m → d ≡ 1 + e → of n d (b - 1) f ≡ under (of m e b f)
bound n d m e b f en ed =
    let p : capped n ≡ capped (capped m + 1) = omega (arith, en) in
    let q : capped d ≡ capped (capped e + 1) = omega (arith, ed) in
    rw (p, q) refl

two : (n d na nb da db ba bb fa fb : ℕ) → n ≡ 1 + na + nb → d ≡ 1 + max da db
    → of n d (max ba bb) (max fa fb) ≡ below (and (of na da ba fa) (of nb db bb fb))
two n d na nb da db ba bb fa fb en ed =
    let p : capped n ≡ capped (capped (capped na + capped nb) + 1) = omega (arith, en) in
    let q : capped d ≡ capped (max (capped da) (capped db) + 1) = omega (arith, ed) in
    rw (p, q) refl

pub outline-Zero : outline_of u.Zero ≡ record { nodes = 1; depth = 1; binders = 0; names = 0 }
unfolding outline_of value_outline list_outline dangling fresh constructors
outline-Zero = leaf _ _ 0 0 size.nodes-Zero size.depth-Zero

pub outline-One : outline_of u.One ≡ record { nodes = 1; depth = 1; binders = 0; names = 0 }
unfolding outline_of value_outline list_outline dangling fresh constructors
outline-One = leaf _ _ 0 0 size.nodes-One size.depth-One

pub outline-Add : (a b : U) → outline_of (u.Add a b) ≡ below (and (outline_of a) (outline_of b))
unfolding outline_of value_outline list_outline dangling fresh constructors
outline-Add a b = two _ _ (nodes a) (nodes b) (depth a) (depth b) (dangling a) (dangling b) (fresh a) (fresh b) (size.nodes-Add a b) (size.depth-Add a b)

pub outline-Mul : (a b : U) → outline_of (u.Mul a b) ≡ below (and (outline_of a) (outline_of b))
unfolding outline_of value_outline list_outline dangling fresh constructors
outline-Mul a b = two _ _ (nodes a) (nodes b) (depth a) (depth b) (dangling a) (dangling b) (fresh a) (fresh b) (size.nodes-Mul a b) (size.depth-Mul a b)

pub outline-Squash : (a : U) → outline_of (u.Squash a) ≡ below (outline_of a)
unfolding outline_of value_outline list_outline dangling fresh constructors
outline-Squash a = one _ _ (nodes a) (depth a) (dangling a) (fresh a) (size.nodes-Squash a) (size.depth-Squash a)

pub outline-Not : (a : U) → outline_of (u.Not a) ≡ below (outline_of a)
unfolding outline_of value_outline list_outline dangling fresh constructors
outline-Not a = one _ _ (nodes a) (depth a) (dangling a) (fresh a) (size.nodes-Not a) (size.depth-Not a)

pub outline-Sum : (body : U) → outline_of (u.Sum body) ≡ under (outline_of body)
unfolding outline_of value_outline list_outline dangling fresh constructors
outline-Sum body = bound _ _ (nodes body) (depth body) (dangling body) (fresh body) (size.nodes-Sum body) (size.depth-Sum body)

pub outline-Rel : (table : ℕ) (vs : List Val) → outline_of (u.Rel table vs) ≡ below (list_outline vs)
unfolding outline_of value_outline list_outline dangling fresh constructors
outline-Rel table vs =
    rw (row_dangling-list vs, name.row_fresh-list vs)
    (one _ _ (list_nodes vs) (list_depth vs) (list_dangling vs) (list_fresh vs) (size.nodes-Rel table vs) (size.depth-Rel table vs))

pub outline-Pred : (symbol : ℕ) (vs : List Val) → outline_of (u.Pred symbol vs) ≡ below (list_outline vs)
unfolding outline_of value_outline list_outline dangling fresh constructors
outline-Pred symbol vs =
    rw (row_dangling-list vs, name.row_fresh-list vs)
    (one _ _ (list_nodes vs) (list_depth vs) (list_dangling vs) (list_fresh vs) (size.nodes-Pred symbol vs) (size.depth-Pred symbol vs))

pub outline-Eq : (a b : Val) → outline_of (u.Eq a b) ≡ below (and (value_outline a) (value_outline b))
unfolding outline_of value_outline list_outline dangling fresh constructors
outline-Eq a b = two _ _ (value_nodes a) (value_nodes b) (value_depth a) (value_depth b) (value_dangling a) (value_dangling b) (value_fresh a) (value_fresh b) (size.nodes-Eq a b) (size.depth-Eq a b)

pub outline-Bound : (place : ℕ) → value_outline (v.Bound place) ≡ record { nodes = 1; depth = 1; binders = place + 1; names = 0 }
unfolding outline_of value_outline list_outline dangling fresh constructors
outline-Bound place = leaf _ _ (place + 1) 0 (size.nodes-Bound place) (size.depth-Bound place)

pub outline-Free : (x : ℕ) → value_outline (v.Free x) ≡ record { nodes = 1; depth = 1; binders = 0; names = x + 1 }
unfolding outline_of value_outline list_outline dangling fresh constructors
outline-Free x = leaf _ _ 0 (x + 1) (size.nodes-Free x) (size.depth-Free x)

pub outline-Lit : (literal : ℕ) → value_outline (v.Lit literal) ≡ record { nodes = 1; depth = 1; binders = 0; names = 0 }
unfolding outline_of value_outline list_outline dangling fresh constructors
outline-Lit literal = leaf _ _ 0 0 (size.nodes-Lit literal) (size.depth-Lit literal)

pub outline-Fun : (symbol : ℕ) (vs : List Val) → value_outline (v.Fun symbol vs) ≡ below (list_outline vs)
unfolding outline_of value_outline list_outline dangling fresh constructors
outline-Fun symbol vs =
    rw (row_dangling-list vs, name.row_fresh-list vs)
    (one _ _ (list_nodes vs) (list_depth vs) (list_dangling vs) (list_fresh vs) (size.nodes-Fun symbol vs) (size.depth-Fun symbol vs))

pub outline-Agg : (aggregate : ℕ) (body : U) → value_outline (v.Agg aggregate body) ≡ under (outline_of body)
unfolding outline_of value_outline list_outline dangling fresh constructors
outline-Agg aggregate body = bound _ _ (nodes body) (depth body) (dangling body) (fresh body) (size.nodes-Agg aggregate body) (size.depth-Agg aggregate body)

pub ruleset outlines_at = (outline-Zero, outline-One, outline-Add, outline-Mul, outline-Squash, outline-Not, outline-Sum, outline-Rel, outline-Eq, outline-Pred, outline-Bound, outline-Free, outline-Lit, outline-Fun, outline-Agg)

-- ---- of lists
pub outline-none : list_outline [] ≡ record { nodes = 0; depth = 0; binders = 0; names = 0 }
unfolding list_outline
outline-none = refl

pub ruleset lists_at = (outline-none)

most-more : (f : Val → ℕ) (most : ℕ) (vs : List Val) (x : Val) → fold (λ m w. max m (f w)) most (vs ++ x ∷ []) ≡ max (fold (λ m w. max m (f w)) most vs) (f x)
most-more f most [] x = refl
most-more f most (y ∷ vs) x = most-more f (max most (f y)) vs x

outline-more : (vs : List Val) (x : Val) → list_outline (vs ++ x ∷ []) ≡ and (list_outline vs) (value_outline x)
unfolding list_outline value_outline
outline-more vs x =
    let p : list_nodes (vs ++ x ∷ []) ≡ list_nodes vs + value_nodes x = sum_by-append value_nodes vs (x ∷ []) ∙ omega arith in
    let q : list_depth (vs ++ x ∷ []) ≡ max (list_depth vs) (value_depth x) = most-more value_depth 0 vs x in
    let r : list_dangling (vs ++ x ∷ []) ≡ max (list_dangling vs) (value_dangling x) = most-more value_dangling 0 vs x in
    let s : list_fresh (vs ++ x ∷ []) ≡ max (list_fresh vs) (value_fresh x) = most-more value_fresh 0 vs x in
    let e : capped (list_nodes (vs ++ x ∷ [])) ≡ capped (capped (list_nodes vs) + capped (value_nodes x)) = omega (arith, p) in
    let f : capped (list_depth (vs ++ x ∷ [])) ≡ max (capped (list_depth vs)) (capped (value_depth x)) = omega (arith, q) in
    rw (e, f, r, s) refl

pub outline-taken : (vs : List Val) (i : ℕ) (x : Val) → i < length vs → x ≡ get_or vs i x → list_outline (take (i + 1) vs) ≡ and (list_outline (take i vs)) (value_outline x)
outline-taken vs i x h is = ap list_outline (take_more vs i x h ∙ ap (λ (y : Val). take i vs ++ y ∷ []) (sym is)) ∙ outline-more (take i vs) x

-- ---- closed
mutual
  unfolding IsClosed dangling

  closed-enough : (t : U) (k : ℕ) → dangling t ≤ k → IsClosed k t
  closed-enough Zero k h = tt
  closed-enough One k h = tt
  closed-enough (Add a b) k h = (closed-enough a k (omega arith), closed-enough b k (omega arith))
  closed-enough (Mul a b) k h = (closed-enough a k (omega arith), closed-enough b k (omega arith))
  closed-enough (Squash a) k h = closed-enough a k h
  closed-enough (Not a) k h = closed-enough a k h
  closed-enough (Sum body) k h = closed-enough body (k + 1) (omega arith)
  closed-enough (Rel table shape arguments) k h = row_closed-enough arguments k h
  closed-enough (Eq a b) k h = (value_closed-enough a k (omega arith), value_closed-enough b k (omega arith))
  closed-enough (Pred symbol shape arguments) k h = row_closed-enough arguments k h

  value_closed-enough : (x : Val) (k : ℕ) → value_dangling x ≤ k → IsClosedValue k x
  value_closed-enough (Bound place) k h = omega arith
  value_closed-enough (Free name) k h = tt
  value_closed-enough (Lit literal) k h = tt
  value_closed-enough (Fun symbol shape arguments) k h = row_closed-enough arguments k h
  value_closed-enough (Agg aggregate body) k h = closed-enough body (k + 1) (omega arith)

  row_closed-enough : {n : _} (row : Vals n) (k : ℕ) → row_dangling row ≤ k → IsClosedRow k row
  row_closed-enough NoVals k h = tt
  row_closed-enough (ValThen x rest) k h = (value_closed-enough x k (omega arith), row_closed-enough rest k (omega arith))

mutual
  unfolding IsClosed dangling

  enough-closed : (t : U) (k : ℕ) → IsClosed k t → dangling t ≤ k
  enough-closed Zero k h = omega arith
  enough-closed One k h = omega arith
  enough-closed (Add a b) k h = omega (arith, enough-closed a k h.0, enough-closed b k h.1)
  enough-closed (Mul a b) k h = omega (arith, enough-closed a k h.0, enough-closed b k h.1)
  enough-closed (Squash a) k h = enough-closed a k h
  enough-closed (Not a) k h = enough-closed a k h
  enough-closed (Sum body) k h = omega (arith, enough-closed body (k + 1) h)
  enough-closed (Rel table shape arguments) k h = row_enough-closed arguments k h
  enough-closed (Eq a b) k h = omega (arith, value_enough-closed a k h.0, value_enough-closed b k h.1)
  enough-closed (Pred symbol shape arguments) k h = row_enough-closed arguments k h

  value_enough-closed : (x : Val) (k : ℕ) → IsClosedValue k x → value_dangling x ≤ k
  value_enough-closed (Bound place) k h = omega (arith, h)
  value_enough-closed (Free name) k h = omega arith
  value_enough-closed (Lit literal) k h = omega arith
  value_enough-closed (Fun symbol shape arguments) k h = row_enough-closed arguments k h
  value_enough-closed (Agg aggregate body) k h = omega (arith, enough-closed body (k + 1) h)

  row_enough-closed : {n : _} (row : Vals n) (k : ℕ) → IsClosedRow k row → row_dangling row ≤ k
  row_enough-closed NoVals k h = omega arith
  row_enough-closed (ValThen x rest) k h = omega (arith, value_enough-closed x k h.0, row_enough-closed rest k h.1)

pub closed-none : (t : U) → dangling t ≡ 0 → IsClosed 0 t
closed-none t is = closed-enough t 0 (omega (arith, is))

pub none-closed : (t : U) → IsClosed 0 t → dangling t ≡ 0
none-closed t is = omega (arith, enough-closed t 0 is)
