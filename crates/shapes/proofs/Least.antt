-- What stands for a class decides the least equivalence that holds the equalities.
use Rattle.std.proofs.Common.{◌≡◌, ℕ, Bool, true, false, List, [], ◌∷◌, refl, ap, sym, ◌∙◌, subst, arith, inl, inr}
use Rattle.std.specs.Prelude.{nat_eq, ◌&&◌, if◌then◌else◌}
use Rattle.std.proofs.lemmas.Bool.{cases_Bool}
use Rattle.std.proofs.lemmas.Bool.Decides.{nat_tests}
use Rattle.shapes.specs.Shapes.{Point, column, literal, Shape}
use Rattle.shapes.specs.Alike.{Given, given_first, given_later, EqualBy, itself, given, other_way, through, Equal}
use Rattle.shapes.specs.Tests.{same_point, stands_for, equal}

and-both : (a b : Bool) → (a && b) ≡ true → (a ≡ true) × (b ≡ true)
and-both true b h = (refl, h)
and-both false b h = absurd (let e : false ≡ true = h in grind arith)

same-number : (a b : ℕ) → nat_eq a b ≡ true → a ≡ b
same-number a b h = grind (arith, nat_tests)

number-itself : (a : ℕ) → nat_eq a a ≡ true
number-itself a = grind (arith, nat_tests)

pub same-point : (p q : Point) → same_point p q ≡ true → p ≡ q
same-point (column e c) (column f d) h =
    let parts = and-both (nat_eq e f) (nat_eq c d) h in
    ap (λ x. column x c) (same-number e f parts.0) ∙ ap (λ x. column f x) (same-number c d parts.1)
same-point (column e c) (literal b) h = absurd (let e : false ≡ true = h in grind arith)
same-point (literal a) (column f d) h = absurd (let e : false ≡ true = h in grind arith)
same-point (literal a) (literal b) h = ap literal (same-number a b h)

pub point-itself : (p : Point) → same_point p p ≡ true
point-itself (column e c) = rw (number-itself e, number-itself c) refl
point-itself (literal a) = number-itself a

-- ---- against the relation
weaker : (e : Point × Point) (es : List (Point × Point)) (p q : Point) → EqualBy es p q → EqualBy (e ∷ es) p q
weaker e es p q (itself a) = itself a
weaker e es p q (given a b g) = given a b (given_later g)
weaker e es p q (other_way a b h) = other_way a b (weaker e es a b h)
weaker e es p q (through a b c h k) = through a b c (weaker e es a b h) (weaker e es b c k)

-- a point is equal to what stands for it
equal-stands : (es : List (Point × Point)) (p : Point) → EqualBy es p (stands_for es p)
equal-stands [] p = itself p
equal-stands (e ∷ es) p = elim (cases_Bool (same_point (stands_for es p) (stands_for es e.1))) [
  | inl is ↦
      let here : stands_for es p ≡ stands_for es e.1 = same-point (stands_for es p) (stands_for es e.1) is in
      let one : EqualBy (e ∷ es) p (stands_for es e.1) = subst (λ (q : Point). EqualBy (e ∷ es) p q) here (weaker e es p (stands_for es p) (equal-stands es p)) in
      let two : EqualBy (e ∷ es) (stands_for es e.1) e.1 = other_way e.1 (stands_for es e.1) (weaker e es e.1 (stands_for es e.1) (equal-stands es e.1)) in
      let three : EqualBy (e ∷ es) e.1 e.0 = other_way e.0 e.1 (given e.0 e.1 given_first) in
      let four : EqualBy (e ∷ es) e.0 (stands_for es e.0) = weaker e es e.0 (stands_for es e.0) (equal-stands es e.0) in
      rw is (through p e.1 (stands_for es e.0) (through p (stands_for es e.1) e.1 one two) (through e.1 e.0 (stands_for es e.0) three four))
  | inr isnt ↦ rw isnt (weaker e es p (stands_for es p) (equal-stands es p))
]

-- points of an equality have one that stands for both
merged : (e : Point × Point) (es : List (Point × Point)) (p q : Point) → stands_for es p ≡ stands_for es q → stands_for (e ∷ es) p ≡ stands_for (e ∷ es) q
merged e es p q h = ap (λ (r : Point). if same_point r (stands_for es e.1) then stands_for es e.0 else r) h

-- both sides of the first equality
head : (e : Point × Point) (es : List (Point × Point)) → stands_for (e ∷ es) e.0 ≡ stands_for (e ∷ es) e.1
head e es = left ∙ sym right
  where
    right : stands_for (e ∷ es) e.1 ≡ stands_for es e.0
    right = let same = point-itself (stands_for es e.1) in rw same refl

    left : stands_for (e ∷ es) e.0 ≡ stands_for es e.0
    left = elim (cases_Bool (same_point (stands_for es e.0) (stands_for es e.1))) [ inl is ↦ rw is refl | inr isnt ↦ rw isnt refl ]

given-one : (es : List (Point × Point)) (p q : Point) → Given es p q → stands_for es p ≡ stands_for es q
given-one es p q (given_first {e = d} {es = more}) = head d more
given-one es p q (given_later {e = d} {es = more} {p = a} {q = b} g) = merged d more a b (given-one more a b g)

stands-equal : (es : List (Point × Point)) (p q : Point) → EqualBy es p q → stands_for es p ≡ stands_for es q
stands-equal es p q (itself a) = refl
stands-equal es p q (given a b g) = given-one es a b g
stands-equal es p q (other_way a b h) = sym (stands-equal es a b h)
stands-equal es p q (through a b c h k) = stands-equal es a b h ∙ stands-equal es b c k

-- so the test is exactly that relation
pub tested : (s : Shape) (p q : Point) → Equal s p q → equal s p q ≡ true
tested s p q h = rw (stands-equal s.equalities p q h) (point-itself (stands_for s.equalities q))

pub shown : (s : Shape) (p q : Point) → equal s p q ≡ true → Equal s p q
shown s p q h =
    let es : List (Point × Point) = s.equalities in
    let e : stands_for es p ≡ stands_for es q = same-point (stands_for es p) (stands_for es q) h in
    through p (stands_for es q) q (subst (λ (r : Point). EqualBy es p r) e (equal-stands es p)) (other_way q (stands_for es q) (equal-stands es q))
