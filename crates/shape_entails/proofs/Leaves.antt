-- The factors that shapes are read from are the leaves of the product.
use Rattle.std.proofs.Common.{◌≡◌, ℕ, Bool, true, false, cond, List, [], ◌∷◌, ◌++◌, map, refl, ap, sym, ◌∙◌, arith}
use Rattle.std.proofs.lemmas.List.{append-nil, map-append}
use Rattle.std.proofs.lemmas.List.Elements.{filter-append}
use Rattle.std.specs.List.{filter}
use Rattle.u_terms.specs.Syntax.{U, Zero, One, Add, Mul, Squash, Not, Sum, Rel, Eq, Pred, Val, Vals, NoVals, ValThen, Shape, long, shape_of, row_of, constructors}
use Rattle.u_rules.specs.Terms.{◌≐◌, O, P, R, neg, mul_leaves}
use Rattle.term_shapes.specs.Factors.{Factor, atom, equality, difference, truth, falsehood, other, listed, negated, factors}
use Rattle.term_shapes.proofs.Reading.{listed-row}
use Rattle.shape_entails.specs.Values.{is_atom, table_of, row_of_atom}

-- ---- rows as lists
rolled : {X : Type 0} (call : (shape : Shape) → Vals (long shape) → X) (shape : Shape) (row : Vals (long shape)) → call shape row ≡ call (shape_of (listed row)) (row_of (listed row))
unfolding constructors
rolled call [] NoVals = refl
rolled call (x ∷ shape) (ValThen value rest) = rolled (λ sh row. call (tt ∷ sh) (ValThen value row)) shape rest

rel-rolled : (table : ℕ) (shape : Shape) (row : Vals (long shape)) → Rel table shape row ≡ R table (listed row)
unfolding constructors
rel-rolled table shape row = rolled (λ sh r. Rel table sh r) shape row

pred-rolled : (symbol : ℕ) (shape : Shape) (row : Vals (long shape)) → Pred symbol shape row ≡ P symbol (listed row)
unfolding constructors
pred-rolled symbol shape row = rolled (λ sh r. Pred symbol sh r) shape row

-- ---- factors as terms
abbrev pub term_of : Factor → U
term_of (atom table values) = R table values
term_of (equality a b) = a ≐ b
term_of (difference a b) = neg (a ≐ b)
term_of (truth symbol values) = P symbol values
term_of (falsehood symbol values) = neg (P symbol values)
term_of other = O

abbrev pub IsKnown : Factor → Type 0
IsKnown other = ⊥
IsKnown _ = Unit {0}

abbrev pub AreKnown : List Factor → Type 0
AreKnown [] = Unit {0}
AreKnown (f ∷ fs) = IsKnown f × AreKnown fs

known-parts : (fs gs : List Factor) → AreKnown (fs ++ gs) → AreKnown fs × AreKnown gs
known-parts [] gs h = (tt, h)
known-parts (f ∷ fs) gs h = let k = known-parts fs gs h.1 in ((h.0, k.0), k.1)

negated-term : (w : U) → IsKnown (negated w) → neg w ≡ term_of (negated w)
unfolding negated
negated-term Zero h = absurd h
negated-term One h = absurd h
negated-term (Add a b) h = absurd h
negated-term (Mul a b) h = absurd h
negated-term (Squash a) h = absurd h
negated-term (Not a) h = absurd h
negated-term (Sum a) h = absurd h
negated-term (Rel table shape row) h = absurd h
negated-term (Eq a b) h = refl
negated-term (Pred symbol shape row) h = ap neg (pred-rolled symbol shape row)

not-opened : (a : U) → Not a ≡ neg a
unfolding constructors
not-opened a = refl

pub leaves-are : (w : U) → AreKnown (factors w) → mul_leaves w ≡ map term_of (factors w)
unfolding factors mul_leaves
leaves-are Zero h = absurd h.0
leaves-are One h = refl
leaves-are (Add a b) h = absurd h.0
leaves-are (Mul a b) h =
    let k = known-parts (factors a) (factors b) h in
    ap (λ (us : List U). us ++ mul_leaves b) (leaves-are a k.0) ∙ ap (λ (us : List U). map term_of (factors a) ++ us) (leaves-are b k.1)
    ∙ sym (map-append term_of (factors a) (factors b))
leaves-are (Squash a) h = absurd h.0
leaves-are (Not a) h = ap (λ (u : U). u ∷ []) (not-opened a ∙ negated-term a h.0)
leaves-are (Sum a) h = absurd h.0
leaves-are (Rel table shape row) h = ap (λ (u : U). u ∷ []) (rel-rolled table shape row)
leaves-are (Eq a b) h = refl
leaves-are (Pred symbol shape row) h = ap (λ (u : U). u ∷ []) (pred-rolled symbol shape row)

-- ---- atoms
pub atom-yes : (table : ℕ) (values : List Val) → is_atom (R table values) ≡ true
unfolding is_atom constructors
atom-yes table values = refl

pub atom-Eq : (a b : Val) → is_atom (a ≐ b) ≡ false
unfolding is_atom constructors
atom-Eq a b = refl

pub atom-Not : (w : U) → is_atom (neg w) ≡ false
unfolding is_atom constructors
atom-Not w = refl

pub atom-Pred : (symbol : ℕ) (values : List Val) → is_atom (P symbol values) ≡ false
unfolding is_atom constructors
atom-Pred symbol values = refl

pub table-atom : (table : ℕ) (values : List Val) → table_of (R table values) ≡ table
unfolding table_of constructors
table-atom table values = refl

pub row-atom : (table : ℕ) (values : List Val) → row_of_atom (R table values) ≡ values
unfolding row_of_atom constructors
row-atom table values = listed-row values

-- an atom is its table and its row
pub atom-is : (x : U) → is_atom x ≡ true → x ≡ R (table_of x) (row_of_atom x)
unfolding is_atom table_of row_of_atom
atom-is Zero h = absurd (grind (arith, h))
atom-is One h = absurd (grind (arith, h))
atom-is (Add a b) h = absurd (grind (arith, h))
atom-is (Mul a b) h = absurd (grind (arith, h))
atom-is (Squash a) h = absurd (grind (arith, h))
atom-is (Not a) h = absurd (grind (arith, h))
atom-is (Sum a) h = absurd (grind (arith, h))
atom-is (Rel table shape row) h = rel-rolled table shape row
atom-is (Eq a b) h = absurd (grind (arith, h))
atom-is (Pred symbol shape row) h = absurd (grind (arith, h))

-- ---- the rows of factors, one more at the end
abbrev pub rows_among : List U → List (List Val)
rows_among xs = map row_of_atom (filter is_atom xs)

pub atoms-more : (xs : List U) (table : ℕ) (values : List Val) → filter is_atom (xs ++ R table values ∷ []) ≡ filter is_atom xs ++ R table values ∷ []
atoms-more xs table values = filter-append is_atom xs (R table values ∷ []) ∙ ap (λ (ys : List U). filter is_atom xs ++ ys) (alone (is_atom (R table values)) (atom-yes table values))
  where
    alone : (b : Bool) → b ≡ true → cond b (R table values ∷ []) [] ≡ R table values ∷ []
    alone true e = refl
    alone false e = absurd (grind (arith, e))

pub atoms-other : (xs : List U) (y : U) → is_atom y ≡ false → filter is_atom (xs ++ y ∷ []) ≡ filter is_atom xs
atoms-other xs y h = filter-append is_atom xs (y ∷ []) ∙ ap (λ (ys : List U). filter is_atom xs ++ ys) (alone (is_atom y) h) ∙ append-nil (filter is_atom xs)
  where
    alone : (b : Bool) → b ≡ false → cond b (y ∷ []) [] ≡ []
    alone false e = refl
    alone true e = absurd (grind (arith, e))

pub rows-more : (xs : List U) (table : ℕ) (values : List Val) → rows_among (xs ++ R table values ∷ []) ≡ rows_among xs ++ values ∷ []
rows-more xs table values =
    ap (map row_of_atom) (atoms-more xs table values) ∙ map-append row_of_atom (filter is_atom xs) (R table values ∷ [])
    ∙ ap (λ (y : List Val). rows_among xs ++ y ∷ []) (row-atom table values)

pub atom-Zero : is_atom O ≡ false
unfolding is_atom constructors
atom-Zero = refl
