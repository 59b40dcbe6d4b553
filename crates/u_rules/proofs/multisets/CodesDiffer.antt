-- No two terms have one code, whatever follows.
use Rattle.std.proofs.Common.{◌≡◌, ℕ, List, [], ◌∷◌, ◌++◌, refl, ap, sym, ◌∙◌, arith}
use Rattle.std.proofs.lemmas.List.{append-nil, append_assoc}
use Rattle.u_terms.specs.declared.term.U.TheOpen.{U-F, Val-F}
use Rattle.u_terms.specs.declared.term.U.TheViews.{out-U, out-Val, roll-U, roll-Val, roll-out-U, roll-out-Val, rolls-Zero, rolls-One, rolls-Add, rolls-Mul, rolls-Squash, rolls-Not, rolls-Sum, rolls-Rel, rolls-Eq, rolls-Pred, rolls-Bound, rolls-Free, rolls-Lit, rolls-Fun, rolls-Agg}
use Rattle.u_terms.specs.declared.term.U.TheVariants as u
use Rattle.u_terms.specs.declared.term.Val.TheVariants as v
use Rattle.u_terms.specs.Syntax.{U, Zero, One, Add, Mul, Squash, Not, Sum, Rel, Eq, Pred, Val, Bound, Free, Lit, Fun, Agg, Vals, NoVals, ValThen, Shape, long, shape_of, row_of, constructors}
use Rattle.u_rules.specs.Codes.{code, value_code, row_code, list_code}
use Rattle.u_rules.proofs.multisets.CodesAt.{code-Zero, code-One, code-Add, code-Mul, code-Squash, code-Not, code-Sum, code-Rel, code-Eq, code-Pred, code-Bound, code-Free, code-Lit, code-Fun, code-Agg}

head : List ℕ → ℕ
head [] = 0
head (x ∷ xs) = x

rest : List ℕ → List ℕ
rest [] = []
rest (x ∷ xs) = xs

heads : (x y : ℕ) (xs ys : List ℕ) → x ∷ xs ≡ y ∷ ys → x ≡ y
unfolding head
heads x y xs ys e = ap head e

rests : (x y : ℕ) (xs ys : List ℕ) → x ∷ xs ≡ y ∷ ys → xs ≡ ys
unfolding rest
rests x y xs ys e = ap rest e

-- two codes after each other
two : (a b s c d t : List ℕ) → (a ++ b) ++ s ≡ (c ++ d) ++ t → a ++ (b ++ s) ≡ c ++ (d ++ t)
two a b s c d t e = sym (append_assoc a b s) ∙ e ∙ append_assoc c d t

both : {A B C : Type 0} (f : A → B → C) (a b : A) (c d : B) → a ≡ b → c ≡ d → f a c ≡ f b d
both f a b c d e g = ap (λ z. f z c) e ∙ ap (λ z. f b z) g

-- ---- one level at a time
abbrev layer_code : U-F U Val → List ℕ
layer_code U-F.Zero = 0 ∷ []
layer_code U-F.One = 1 ∷ []
layer_code (U-F.Add y z) = 2 ∷ (code y ++ code z)
layer_code (U-F.Mul y z) = 3 ∷ (code y ++ code z)
layer_code (U-F.Squash y) = 4 ∷ code y
layer_code (U-F.Not y) = 5 ∷ code y
layer_code (U-F.Sum y) = 6 ∷ code y
layer_code (U-F.Rel y z) = 7 ∷ (y ∷ list_code z)
layer_code (U-F.Eq y z) = 8 ∷ (value_code y ++ value_code z)
layer_code (U-F.Pred y z) = 9 ∷ (y ∷ list_code z)

abbrev value_layer_code : Val-F U Val → List ℕ
value_layer_code (Val-F.Bound y) = 0 ∷ (y ∷ [])
value_layer_code (Val-F.Free y) = 1 ∷ (y ∷ [])
value_layer_code (Val-F.Lit y) = 2 ∷ (y ∷ [])
value_layer_code (Val-F.Fun y z) = 3 ∷ (y ∷ list_code z)
value_layer_code (Val-F.Agg y z) = 4 ∷ (y ∷ code z)

code-roll : (d : U-F U Val) → code (roll-U d) ≡ layer_code d
code-roll U-F.Zero = ap code rolls-Zero ∙ code-Zero
code-roll U-F.One = ap code rolls-One ∙ code-One
code-roll (U-F.Add y z) = ap code (rolls-Add y z) ∙ code-Add y z
code-roll (U-F.Mul y z) = ap code (rolls-Mul y z) ∙ code-Mul y z
code-roll (U-F.Squash y) = ap code (rolls-Squash y) ∙ code-Squash y
code-roll (U-F.Not y) = ap code (rolls-Not y) ∙ code-Not y
code-roll (U-F.Sum y) = ap code (rolls-Sum y) ∙ code-Sum y
code-roll (U-F.Rel y z) = ap code (rolls-Rel y z) ∙ code-Rel y z
code-roll (U-F.Eq y z) = ap code (rolls-Eq y z) ∙ code-Eq y z
code-roll (U-F.Pred y z) = ap code (rolls-Pred y z) ∙ code-Pred y z

value_code-roll : (d : Val-F U Val) → value_code (roll-Val d) ≡ value_layer_code d
value_code-roll (Val-F.Bound y) = ap value_code (rolls-Bound y) ∙ code-Bound y
value_code-roll (Val-F.Free y) = ap value_code (rolls-Free y) ∙ code-Free y
value_code-roll (Val-F.Lit y) = ap value_code (rolls-Lit y) ∙ code-Lit y
value_code-roll (Val-F.Fun y z) = ap value_code (rolls-Fun y z) ∙ code-Fun y z
value_code-roll (Val-F.Agg y z) = ap value_code (rolls-Agg y z) ∙ code-Agg y z

code-out : (b : U) (t : List ℕ) → code b ++ t ≡ layer_code (out-U b) ++ t
code-out b t = ap (λ (xs : List ℕ). xs ++ t) (ap code (sym (roll-out-U b)) ∙ code-roll (out-U b))

value_code-out : (b : Val) (t : List ℕ) → value_code b ++ t ≡ value_layer_code (out-Val b) ++ t
value_code-out b t = ap (λ (xs : List ℕ). xs ++ t) (ap value_code (sym (roll-out-Val b)) ∙ value_code-roll (out-Val b))

-- ---- rows of values
list_of : {n : _} → Vals n → List Val
list_of NoVals = []
list_of (ValThen value rest) = value ∷ list_of rest

-- whatever is made of a shape and a row is made of the list
rolled : {X : Type 0} (call : (shape : Shape) → Vals (long shape) → X) (shape : Shape) (row : Vals (long shape)) → call shape row ≡ call (shape_of (list_of row)) (row_of (list_of row))
unfolding list_of constructors
rolled call [] NoVals = refl
rolled call (x ∷ shape) (ValThen value rest) = rolled (λ sh row. call (tt ∷ sh) (ValThen value row)) shape rest

mutual
  unfolding code list_of constructors

  same_term : (a b : U) (s t : List ℕ) → code a ++ s ≡ code b ++ t → (a ≡ b) × (s ≡ t)
  same_term Zero b s t e = (elim (out-U b) as (λ d. b ≡ roll-U d → code (Zero) ++ s ≡ layer_code d ++ t → (Zero ≡ b) × (s ≡ t)) [
    | U-F.Zero ↦ λ is g. (sym (is ∙ rolls-Zero), rests _ _ _ _ g)
    | _ ↦ λ is g. absurd (omega (arith, heads _ _ _ _ g))
  ]) (sym (roll-out-U b)) (e ∙ code-out b t)
  same_term One b s t e = (elim (out-U b) as (λ d. b ≡ roll-U d → code (One) ++ s ≡ layer_code d ++ t → (One ≡ b) × (s ≡ t)) [
    | U-F.One ↦ λ is g. (sym (is ∙ rolls-One), rests _ _ _ _ g)
    | _ ↦ λ is g. absurd (omega (arith, heads _ _ _ _ g))
  ]) (sym (roll-out-U b)) (e ∙ code-out b t)
  same_term (Add a c) b s t e = (elim (out-U b) as (λ d. b ≡ roll-U d → code (Add a c) ++ s ≡ layer_code d ++ t → (Add a c ≡ b) × (s ≡ t)) [
    | U-F.Add y z ↦ λ is g. let p = same_term a y (code c ++ s) (code z ++ t) (two (code a) (code c) s (code y) (code z) t (rests _ _ _ _ g)) in let q = same_term c z s t p.1 in (both u.Add a y c z p.0 q.0 ∙ sym (is ∙ rolls-Add y z), q.1)
    | _ ↦ λ is g. absurd (omega (arith, heads _ _ _ _ g))
  ]) (sym (roll-out-U b)) (e ∙ code-out b t)
  same_term (Mul a c) b s t e = (elim (out-U b) as (λ d. b ≡ roll-U d → code (Mul a c) ++ s ≡ layer_code d ++ t → (Mul a c ≡ b) × (s ≡ t)) [
    | U-F.Mul y z ↦ λ is g. let p = same_term a y (code c ++ s) (code z ++ t) (two (code a) (code c) s (code y) (code z) t (rests _ _ _ _ g)) in let q = same_term c z s t p.1 in (both u.Mul a y c z p.0 q.0 ∙ sym (is ∙ rolls-Mul y z), q.1)
    | _ ↦ λ is g. absurd (omega (arith, heads _ _ _ _ g))
  ]) (sym (roll-out-U b)) (e ∙ code-out b t)
  same_term (Squash a) b s t e = (elim (out-U b) as (λ d. b ≡ roll-U d → code (Squash a) ++ s ≡ layer_code d ++ t → (Squash a ≡ b) × (s ≡ t)) [
    | U-F.Squash y ↦ λ is g. let p = same_term a y s t (rests _ _ _ _ g) in (ap u.Squash p.0 ∙ sym (is ∙ rolls-Squash y), p.1)
    | _ ↦ λ is g. absurd (omega (arith, heads _ _ _ _ g))
  ]) (sym (roll-out-U b)) (e ∙ code-out b t)
  same_term (Not a) b s t e = (elim (out-U b) as (λ d. b ≡ roll-U d → code (Not a) ++ s ≡ layer_code d ++ t → (Not a ≡ b) × (s ≡ t)) [
    | U-F.Not y ↦ λ is g. let p = same_term a y s t (rests _ _ _ _ g) in (ap u.Not p.0 ∙ sym (is ∙ rolls-Not y), p.1)
    | _ ↦ λ is g. absurd (omega (arith, heads _ _ _ _ g))
  ]) (sym (roll-out-U b)) (e ∙ code-out b t)
  same_term (Sum a) b s t e = (elim (out-U b) as (λ d. b ≡ roll-U d → code (Sum a) ++ s ≡ layer_code d ++ t → (Sum a ≡ b) × (s ≡ t)) [
    | U-F.Sum y ↦ λ is g. let p = same_term a y s t (rests _ _ _ _ g) in (ap u.Sum p.0 ∙ sym (is ∙ rolls-Sum y), p.1)
    | _ ↦ λ is g. absurd (omega (arith, heads _ _ _ _ g))
  ]) (sym (roll-out-U b)) (e ∙ code-out b t)
  same_term (Rel a shape c) b s t e = (elim (out-U b) as (λ d. b ≡ roll-U d → code (Rel a shape c) ++ s ≡ layer_code d ++ t → (Rel a shape c ≡ b) × (s ≡ t)) [
    | U-F.Rel y z ↦ λ is g. let p = same_row c z s t (rests _ _ _ _ (rests _ _ _ _ g)) in (rolled (λ sh row. Rel a sh row) shape c ∙ both u.Rel a y (list_of c) z (heads _ _ _ _ (rests _ _ _ _ g)) p.0 ∙ sym (is ∙ rolls-Rel y z), p.1)
    | _ ↦ λ is g. absurd (omega (arith, heads _ _ _ _ g))
  ]) (sym (roll-out-U b)) (e ∙ code-out b t)
  same_term (Eq a c) b s t e = (elim (out-U b) as (λ d. b ≡ roll-U d → code (Eq a c) ++ s ≡ layer_code d ++ t → (Eq a c ≡ b) × (s ≡ t)) [
    | U-F.Eq y z ↦ λ is g. let p = same_val a y (value_code c ++ s) (value_code z ++ t) (two (value_code a) (value_code c) s (value_code y) (value_code z) t (rests _ _ _ _ g)) in let q = same_val c z s t p.1 in (both u.Eq a y c z p.0 q.0 ∙ sym (is ∙ rolls-Eq y z), q.1)
    | _ ↦ λ is g. absurd (omega (arith, heads _ _ _ _ g))
  ]) (sym (roll-out-U b)) (e ∙ code-out b t)
  same_term (Pred a shape c) b s t e = (elim (out-U b) as (λ d. b ≡ roll-U d → code (Pred a shape c) ++ s ≡ layer_code d ++ t → (Pred a shape c ≡ b) × (s ≡ t)) [
    | U-F.Pred y z ↦ λ is g. let p = same_row c z s t (rests _ _ _ _ (rests _ _ _ _ g)) in (rolled (λ sh row. Pred a sh row) shape c ∙ both u.Pred a y (list_of c) z (heads _ _ _ _ (rests _ _ _ _ g)) p.0 ∙ sym (is ∙ rolls-Pred y z), p.1)
    | _ ↦ λ is g. absurd (omega (arith, heads _ _ _ _ g))
  ]) (sym (roll-out-U b)) (e ∙ code-out b t)

  same_val : (a b : Val) (s t : List ℕ) → value_code a ++ s ≡ value_code b ++ t → (a ≡ b) × (s ≡ t)
  same_val (Bound a) b s t e = (elim (out-Val b) as (λ d. b ≡ roll-Val d → value_code (Bound a) ++ s ≡ value_layer_code d ++ t → (Bound a ≡ b) × (s ≡ t)) [
    | Val-F.Bound y ↦ λ is g. (ap v.Bound (heads _ _ _ _ (rests _ _ _ _ g)) ∙ sym (is ∙ rolls-Bound y), rests _ _ _ _ (rests _ _ _ _ g))
    | _ ↦ λ is g. absurd (omega (arith, heads _ _ _ _ g))
  ]) (sym (roll-out-Val b)) (e ∙ value_code-out b t)
  same_val (Free a) b s t e = (elim (out-Val b) as (λ d. b ≡ roll-Val d → value_code (Free a) ++ s ≡ value_layer_code d ++ t → (Free a ≡ b) × (s ≡ t)) [
    | Val-F.Free y ↦ λ is g. (ap v.Free (heads _ _ _ _ (rests _ _ _ _ g)) ∙ sym (is ∙ rolls-Free y), rests _ _ _ _ (rests _ _ _ _ g))
    | _ ↦ λ is g. absurd (omega (arith, heads _ _ _ _ g))
  ]) (sym (roll-out-Val b)) (e ∙ value_code-out b t)
  same_val (Lit a) b s t e = (elim (out-Val b) as (λ d. b ≡ roll-Val d → value_code (Lit a) ++ s ≡ value_layer_code d ++ t → (Lit a ≡ b) × (s ≡ t)) [
    | Val-F.Lit y ↦ λ is g. (ap v.Lit (heads _ _ _ _ (rests _ _ _ _ g)) ∙ sym (is ∙ rolls-Lit y), rests _ _ _ _ (rests _ _ _ _ g))
    | _ ↦ λ is g. absurd (omega (arith, heads _ _ _ _ g))
  ]) (sym (roll-out-Val b)) (e ∙ value_code-out b t)
  same_val (Fun a shape c) b s t e = (elim (out-Val b) as (λ d. b ≡ roll-Val d → value_code (Fun a shape c) ++ s ≡ value_layer_code d ++ t → (Fun a shape c ≡ b) × (s ≡ t)) [
    | Val-F.Fun y z ↦ λ is g. let p = same_row c z s t (rests _ _ _ _ (rests _ _ _ _ g)) in (rolled (λ sh row. Fun a sh row) shape c ∙ both v.Fun a y (list_of c) z (heads _ _ _ _ (rests _ _ _ _ g)) p.0 ∙ sym (is ∙ rolls-Fun y z), p.1)
    | _ ↦ λ is g. absurd (omega (arith, heads _ _ _ _ g))
  ]) (sym (roll-out-Val b)) (e ∙ value_code-out b t)
  same_val (Agg a c) b s t e = (elim (out-Val b) as (λ d. b ≡ roll-Val d → value_code (Agg a c) ++ s ≡ value_layer_code d ++ t → (Agg a c ≡ b) × (s ≡ t)) [
    | Val-F.Agg y z ↦ λ is g. let p = same_term c z s t (rests _ _ _ _ (rests _ _ _ _ g)) in (both v.Agg a y c z (heads _ _ _ _ (rests _ _ _ _ g)) p.0 ∙ sym (is ∙ rolls-Agg y z), p.1)
    | _ ↦ λ is g. absurd (omega (arith, heads _ _ _ _ g))
  ]) (sym (roll-out-Val b)) (e ∙ value_code-out b t)

  same_row : {n : _} (a : Vals n) (vs : List Val) (s t : List ℕ) → row_code a ++ s ≡ list_code vs ++ t → (list_of a ≡ vs) × (s ≡ t)
  same_row NoVals [] s t e = (refl, rests _ _ _ _ e)
  same_row NoVals (w ∷ vs) s t e = absurd (omega (arith, heads _ _ _ _ e))
  same_row (ValThen a xs) [] s t e = absurd (omega (arith, heads _ _ _ _ e))
  same_row (ValThen a xs) (w ∷ vs) s t e =
      let p = same_val a w (row_code xs ++ s) (list_code vs ++ t) (two (value_code a) (row_code xs) s (value_code w) (list_code vs) t (rests _ _ _ _ e)) in
      let q = same_row xs vs s t p.1 in
      (both (λ y z. y ∷ z) a w (list_of xs) vs p.0 q.0, q.1)

pub code-injective : (a b : U) → code a ≡ code b → a ≡ b
code-injective a b e = (same_term a b [] [] (append-nil (code a) ∙ e ∙ sym (append-nil (code b)))).0
