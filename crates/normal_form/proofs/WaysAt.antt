-- `ways` at each constructor as code writes it, and of a list; products that stop at a most.
use Rattle.std.proofs.Common.{◌≡◌, ℕ, ◌+◌, ◌*◌, ◌≤◌, ◌<◌, inl, inr, min, List, [], ◌∷◌, ◌++◌, refl, ap, sym, ◌∙◌, arith}
use Rattle.std.specs.Prelude.{fold}
use Rattle.std.proofs.lemmas.Bool.{cases_lt}
use Rattle.std.proofs.Math.Nat.{mul-le-mul_left, mul-le-mul_right, one-le-mul}
use Rattle.u_terms.specs.declared.term.U.TheVariants as u
use Rattle.u_terms.specs.declared.term.Val.TheVariants as v
use Rattle.u_terms.specs.Syntax.{U, Zero, One, Add, Mul, Squash, Not, Sum, Rel, Eq, Pred, Val, Bound, Free, Lit, Fun, Agg, Vals, NoVals, ValThen, row_of, constructors}
use Rattle.normal_form.specs.Ways.{ways, value_ways, row_ways, list_ways}

-- ---- lists
ways-from : (product : ℕ) (vs : List Val) → fold (λ m v. m * value_ways v) product vs ≡ product * list_ways vs
ways-from product [] = omega arith
ways-from product (v ∷ vs) = ways-from (product * value_ways v) vs ∙ (let e = ways-from (1 * value_ways v) vs in regroup product (value_ways v) (list_ways vs) (fold (λ m v. m * value_ways v) (1 * value_ways v) vs) e)
  where
    regroup : (p x y z : ℕ) → z ≡ 1 * x * y → p * x * y ≡ p * z
    regroup p x y z e = omega (arith, ap (λ (n : ℕ). p * n) e)

pub list_ways-cons : (v : Val) (vs : List Val) → list_ways (v ∷ vs) ≡ value_ways v * list_ways vs
list_ways-cons v vs = let e = ways-from (1 * value_ways v) vs in omega (arith, e)

row_ways-list : (vs : List Val) → row_ways (row_of vs) ≡ list_ways vs
unfolding ways constructors
row_ways-list [] = refl
row_ways-list (v ∷ vs) = ap (λ (m : ℕ). value_ways v * m) (row_ways-list vs) ∙ sym (list_ways-cons v vs)

pub list_ways-push : (vs : List Val) (v : Val) → list_ways (vs ++ v ∷ []) ≡ list_ways vs * value_ways v
list_ways-push [] v = refl
list_ways-push (w ∷ vs) v = more (list_ways ((w ∷ vs) ++ v ∷ [])) (value_ways w) (list_ways (vs ++ v ∷ [])) (list_ways vs) (value_ways v) (list_ways (w ∷ vs)) (list_ways-cons w (vs ++ v ∷ [])) (list_ways-push vs v) (list_ways-cons w vs)
  where
    more : (a w b c v d : ℕ) → a ≡ w * b → b ≡ c * v → d ≡ w * c → a ≡ d * v
    more a w b c v d e f g = e ∙ ap (λ (n : ℕ). w * n) f ∙ omega (arith, ap (λ (n : ℕ). n * v) g)

-- ---- at least 1
mutual
  unfolding ways

  pub ways-positive : (a : U) → 1 ≤ ways a
  ways-positive Zero = omega arith
  ways-positive One = omega arith
  ways-positive (Add a b) = omega (arith, ways-positive a, ways-positive b)
  ways-positive (Mul a b) = one-le-mul (ways-positive a) (ways-positive b)
  ways-positive (Squash a) = ways-positive a
  ways-positive (Not a) = ways-positive a
  ways-positive (Sum body) = ways-positive body
  ways-positive (Rel table shape arguments) = row_ways-positive arguments
  ways-positive (Eq a b) = one-le-mul (value_ways-positive a) (value_ways-positive b)
  ways-positive (Pred symbol shape arguments) = row_ways-positive arguments

  pub value_ways-positive : (a : Val) → 1 ≤ value_ways a
  value_ways-positive (Bound place) = omega arith
  value_ways-positive (Free name) = omega arith
  value_ways-positive (Lit literal) = omega arith
  value_ways-positive (Fun symbol shape arguments) = row_ways-positive arguments
  value_ways-positive (Agg aggregate body) = ways-positive body

  pub row_ways-positive : {n : _} (row : Vals n) → 1 ≤ row_ways row
  row_ways-positive NoVals = omega arith
  row_ways-positive (ValThen value rest) = one-le-mul (value_ways-positive value) (row_ways-positive rest)

pub list_ways-positive : (vs : List Val) → 1 ≤ list_ways vs
list_ways-positive [] = omega arith
list_ways-positive (v ∷ vs) = let h : 1 ≤ value_ways v * list_ways vs = one-le-mul (value_ways-positive v) (list_ways-positive vs) in omega (arith, list_ways-cons v vs, h)

-- ---- products that stop at a most
pub capped : (x y m : ℕ) → 1 ≤ x → 1 ≤ y → 1 ≤ m → min (min x m * min y m) m ≡ min (x * y) m
capped x y m hx hy hm = elim (cases_lt m x) [
  | inr small ↦ elim (cases_lt m y) [
    | inr low ↦ let a : min x m ≡ x = omega arith in let b : min y m ≡ y = omega arith in ap (λ (p : ℕ). min p m) (ap (λ (n : ℕ). n * min y m) a ∙ ap (λ (n : ℕ). x * n) b)
    | inl high ↦ let p = past y x m hx high in let b : min y m ≡ m = omega arith in let q : m ≤ min x m * m = mul_past (min x m) m (omega arith) in
        omega (arith, p, q, ap (λ (n : ℕ). min x m * n) b, mul-swap x y)
  ]
  | inl large ↦ let p = past x y m hy large in let a : min x m ≡ m = omega arith in let q : m ≤ min y m * m = mul_past (min y m) m (omega arith) in
      omega (arith, p, q, ap (λ (n : ℕ). n * min y m) a, mul-swap m (min y m))
]
  where
    mul-swap : (a b : ℕ) → a * b ≡ b * a
    mul-swap a b = omega arith

    mul_past : (k m : ℕ) → 1 ≤ k → m ≤ k * m
    mul_past k m h = let p : 1 * m ≤ k * m = mul-le-mul_right m h in omega (arith, p)

    past : (a b m : ℕ) → 1 ≤ b → m < a → m ≤ a * b
    past a b m h k = let p : a * 1 ≤ a * b = mul-le-mul_left a h in omega (arith, p)

pub multiplied : (r a b x y w m : ℕ) → r ≡ min (a * b) m → a ≡ min x m → b ≡ min y m → w ≡ x * y → 1 ≤ x → 1 ≤ y → 1 ≤ m → r ≡ min w m
multiplied r a b x y w m is left right whole hx hy hm =
    is ∙ ap (λ (n : ℕ). min (n * b) m) left ∙ ap (λ (n : ℕ). min (min x m * n) m) right ∙ capped x y m hx hy hm ∙ ap (λ (n : ℕ). min n m) (sym whole)

pub ways-Zero : ways u.Zero ≡ 1
unfolding ways constructors
ways-Zero = refl

pub ways-One : ways u.One ≡ 1
unfolding ways constructors
ways-One = refl

pub ways-Add : (a : U) (b : U) → ways (u.Add a b) ≡ ways a + ways b
unfolding ways constructors
ways-Add a b = refl

pub ways-Mul : (a : U) (b : U) → ways (u.Mul a b) ≡ ways a * ways b
unfolding ways constructors
ways-Mul a b = refl

pub ways-Squash : (a : U) → ways (u.Squash a) ≡ ways a
unfolding ways constructors
ways-Squash a = refl

pub ways-Not : (a : U) → ways (u.Not a) ≡ ways a
unfolding ways constructors
ways-Not a = refl

pub ways-Sum : (body : U) → ways (u.Sum body) ≡ ways body
unfolding ways constructors
ways-Sum body = refl

pub ways-Rel : (table : ℕ) (vs : List Val) → ways (u.Rel table vs) ≡ list_ways vs
unfolding ways constructors
ways-Rel table vs = row_ways-list vs

pub ways-Eq : (a : Val) (b : Val) → ways (u.Eq a b) ≡ value_ways a * value_ways b
unfolding ways constructors
ways-Eq a b = refl

pub ways-Pred : (symbol : ℕ) (vs : List Val) → ways (u.Pred symbol vs) ≡ list_ways vs
unfolding ways constructors
ways-Pred symbol vs = row_ways-list vs

pub ways-Bound : (place : ℕ) → value_ways (v.Bound place) ≡ 1
unfolding ways constructors
ways-Bound place = refl

pub ways-Free : (name : ℕ) → value_ways (v.Free name) ≡ 1
unfolding ways constructors
ways-Free name = refl

pub ways-Lit : (literal : ℕ) → value_ways (v.Lit literal) ≡ 1
unfolding ways constructors
ways-Lit literal = refl

pub ways-Agg : (aggregate : ℕ) (body : U) → value_ways (v.Agg aggregate body) ≡ ways body
unfolding ways constructors
ways-Agg aggregate body = refl

pub ways-Fun : (symbol : ℕ) (vs : List Val) → value_ways (v.Fun symbol vs) ≡ list_ways vs
unfolding ways constructors
ways-Fun symbol vs = row_ways-list vs

pub ruleset ways_at = (ways-Zero, ways-One, ways-Add, ways-Mul, ways-Squash, ways-Not, ways-Sum, ways-Rel, ways-Eq, ways-Pred, ways-Bound, ways-Free, ways-Lit, ways-Agg, ways-Fun)
