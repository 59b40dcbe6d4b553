-- Other values at the places of a product: its shape stays, and the values of its points are the other ones.
use Rattle.std.proofs.Common.{◌≡◌, ℕ, zero, suc, ◌+◌, ◌<◌, ◌≤◌, ◌⊎◌, inl, inr, Bool, true, false, cond, List, [], ◌∷◌, ◌++◌, length, map, get_or, refl, ap, sym, ◌∙◌, subst, arith}
use Rattle.std.specs.Prelude.{option_map}
use Rattle.std.specs.List.{filter}
use Rattle.std.proofs.lemmas.List.{map-append, length-map}
use Rattle.std.proofs.lemmas.Option.{slice_get-map}
use Rattle.u_terms.specs.Size.{depth}
use Rattle.u_terms.proofs.Sizes.{depth-positive, depth-Sum}
use Rattle.u_terms.specs.Syntax.{U, Zero, One, Add, Mul, Squash, Not, Sum, Rel, Eq, Pred, Val, Vals, NoVals, ValThen, constructors}
use Rattle.u_terms.specs.declared.term.Val.TheVariants as v
use Rattle.u_terms.specs.Binding.{mapped, mapped_value, mapped_row, same_name, sums}
use Rattle.u_terms.proofs.Mapped.{mapped-Not, mapped-Rel, mapped-Eq, mapped-Pred, mapped-Free, mapped-Lit}
use Rattle.u_terms.specs.declared.term.U.TheVariants as u
use Rattle.u_rules.specs.Terms.{◌≐◌, R, P, neg, mul_leaves}
use Rattle.u_equal.specs.Standing.{IsIn}
use Rattle.u_equal.proofs.products.Members.{in-head, in-rest, in-cons, in-none}
use Rattle.shapes.specs.Shapes.{Entry, Point, column, literal, Kind, holds, fails, differ, Mark, Shape, entry_of}
use Rattle.term_shapes.specs.Factors.{listed, sum_count, under_sums}
use Rattle.term_shapes.proofs.Reading.{count-Sum, under-Sum}
use Rattle.shape_entails.specs.Values.{IsFactor, is_atom, table_of, row_of_atom, atoms, rows, value_in, point_value, mark_term, mark_of}
use Rattle.shape_entails.specs.Places.{IsAround}
use Rattle.shape_entails.specs.ProductOf.{IsSaid, atom, equality, output, turned_output, mark, entry_of_atom, atom_of, IsProductOf}

-- ---- items of a list that is mapped
in-map : {X Y : Type 0} (f : X → Y) (xs : List X) (x : X) → IsIn x xs → IsIn (f x) (map f xs)
in-map f xs x i = record { place = i.place; here = slice_get-map f xs i.place ∙ ap (option_map f) i.here }

record CameFrom {X Y : Type 0} (f : X → Y) (xs : List X) (y : Y) : Type 0 where
  from : X
  is_in : IsIn from xs
  is : f from ≡ y

came-from : {X Y : Type 0} (f : X → Y) (xs : List X) (y : Y) → IsIn y (map f xs) → CameFrom f xs y
came-from f [] y i = absurd (in-none y i)
came-from f (x ∷ xs) y i = elim (in-cons (f x) (map f xs) y i) [
  | inl same ↦ record { from = x; is_in = in-head x xs; is = sym same }
  | inr later ↦ let k = came-from f xs y later in record { from = k.from; is_in = in-rest x xs k.from k.is_in; is = k.is }
]

map-twice : {X Y Z : Type 0} (f : X → Y) (g : Y → Z) (h : X → Z) → ((x : X) → g (f x) ≡ h x) → (xs : List X) → map g (map f xs) ≡ map h xs
map-twice f g h same [] = refl
map-twice f g h same (x ∷ xs) = ap (λ z. z ∷ map g (map f xs)) (same x) ∙ ap (λ zs. h x ∷ zs) (map-twice f g h same xs)

get-map : {X Y : Type 0} (f : X → Y) (xs : List X) (i : ℕ) (d : X) (e : Y) → f d ≡ e → get_or (map f xs) i e ≡ f (get_or xs i d)
get-map f [] i d e same = sym same
get-map f (x ∷ xs) zero d e same = refl
get-map f (x ∷ xs) (suc i) d e same = get-map f xs i d e same

filter-map : {X : Type 0} (test : X → Bool) (f : X → X) → ((x : X) → test (f x) ≡ test x) → (xs : List X) → filter test (map f xs) ≡ map f (filter test xs)
filter-map test f same [] = refl
filter-map test f same (x ∷ xs) = ap (λ b. cond b (f x ∷ filter test (map f xs)) (filter test (map f xs))) (same x) ∙ at (test x) (filter-map test f same xs)
  where
    at : (b : Bool) → filter test (map f xs) ≡ map f (filter test xs) → cond b (f x ∷ filter test (map f xs)) (filter test (map f xs)) ≡ map f (cond b (x ∷ filter test xs) (filter test xs))
    at true e = ap (λ ys. f x ∷ ys) e
    at false e = e

-- ---- sums
module _ (f g : ℕ → ℕ → Val) where
  pub count-mapped : (k : ℕ) (w : U) → sum_count (mapped f g k w) ≡ sum_count w
  unfolding mapped sum_count
  count-mapped k Zero = refl
  count-mapped k One = refl
  count-mapped k (Add a b) = refl
  count-mapped k (Mul a b) = refl
  count-mapped k (Squash a) = refl
  count-mapped k (Not a) = refl
  count-mapped k (Sum body) = ap suc (count-mapped (k + 1) body)
  count-mapped k (Rel table shape arguments) = refl
  count-mapped k (Eq a b) = refl
  count-mapped k (Pred symbol shape arguments) = refl

  deeper : (k n : ℕ) (w : U) → n ≡ k → mapped f g k w ≡ mapped f g n w
  deeper k n w e = ap (λ i. mapped f g i w) (sym e)

  pub under-mapped : (k : ℕ) (w : U) → under_sums (mapped f g k w) ≡ mapped f g (k + sum_count w) (under_sums w)
  unfolding mapped sum_count under_sums
  under-mapped k Zero = refl
  under-mapped k One = refl
  under-mapped k (Add a b) = deeper k (k + 0) (Add a b) (omega arith)
  under-mapped k (Mul a b) = deeper k (k + 0) (Mul a b) (omega arith)
  under-mapped k (Squash a) = deeper k (k + 0) (Squash a) (omega arith)
  under-mapped k (Not a) = deeper k (k + 0) (Not a) (omega arith)
  under-mapped k (Sum body) = under-mapped (k + 1) body ∙ deeper (k + 1 + sum_count body) (k + suc (sum_count body)) (under_sums body) (omega arith)
  under-mapped k (Rel table shape arguments) = deeper k (k + 0) (Rel table shape arguments) (omega arith)
  under-mapped k (Eq a b) = deeper k (k + 0) (Eq a b) (omega arith)
  under-mapped k (Pred symbol shape arguments) = deeper k (k + 0) (Pred symbol shape arguments) (omega arith)

  pub leaves-mapped : (k : ℕ) (w : U) → mul_leaves (mapped f g k w) ≡ map (mapped f g k) (mul_leaves w)
  unfolding mapped mul_leaves
  leaves-mapped k Zero = refl
  leaves-mapped k One = refl
  leaves-mapped k (Add a b) = refl
  leaves-mapped k (Mul a b) =
      ap (λ (us : List U). us ++ mul_leaves (mapped f g k b)) (leaves-mapped k a) ∙ ap (λ (us : List U). map (mapped f g k) (mul_leaves a) ++ us) (leaves-mapped k b)
      ∙ sym (map-append (mapped f g k) (mul_leaves a) (mul_leaves b))
  leaves-mapped k (Squash a) = refl
  leaves-mapped k (Not a) = refl
  leaves-mapped k (Sum body) = refl
  leaves-mapped k (Rel table shape arguments) = refl
  leaves-mapped k (Eq a b) = refl
  leaves-mapped k (Pred symbol shape arguments) = refl

  -- ---- atoms
  pub atom-mapped : (k : ℕ) (x : U) → is_atom (mapped f g k x) ≡ is_atom x
  unfolding mapped is_atom
  atom-mapped k Zero = refl
  atom-mapped k One = refl
  atom-mapped k (Add a b) = refl
  atom-mapped k (Mul a b) = refl
  atom-mapped k (Squash a) = refl
  atom-mapped k (Not a) = refl
  atom-mapped k (Sum body) = refl
  atom-mapped k (Rel table shape arguments) = refl
  atom-mapped k (Eq a b) = refl
  atom-mapped k (Pred symbol shape arguments) = refl

  table-mapped : (k : ℕ) (x : U) → table_of (mapped f g k x) ≡ table_of x
  unfolding mapped table_of
  table-mapped k Zero = refl
  table-mapped k One = refl
  table-mapped k (Add a b) = refl
  table-mapped k (Mul a b) = refl
  table-mapped k (Squash a) = refl
  table-mapped k (Not a) = refl
  table-mapped k (Sum body) = refl
  table-mapped k (Rel table shape arguments) = refl
  table-mapped k (Eq a b) = refl
  table-mapped k (Pred symbol shape arguments) = refl

  listed-mapped : {m : _} (k : ℕ) (vs : Vals m) → listed (mapped_row f g k vs) ≡ map (mapped_value f g k) (listed vs)
  unfolding mapped
  listed-mapped k NoVals = refl
  listed-mapped k (ValThen value vs) = ap (λ (l : List Val). mapped_value f g k value ∷ l) (listed-mapped k vs)

  row-mapped : (k : ℕ) (x : U) → row_of_atom (mapped f g k x) ≡ map (mapped_value f g k) (row_of_atom x)
  unfolding mapped row_of_atom
  row-mapped k Zero = refl
  row-mapped k One = refl
  row-mapped k (Add a b) = refl
  row-mapped k (Mul a b) = refl
  row-mapped k (Squash a) = refl
  row-mapped k (Not a) = refl
  row-mapped k (Sum body) = refl
  row-mapped k (Rel table shape arguments) = listed-mapped k arguments
  row-mapped k (Eq a b) = refl
  row-mapped k (Pred symbol shape arguments) = refl

  atoms-mapped : (k : ℕ) (w : U) → atoms (mapped f g k w) ≡ map (mapped f g k) (atoms w)
  atoms-mapped k w = ap (filter is_atom) (leaves-mapped k w) ∙ filter-map is_atom (mapped f g k) (atom-mapped k) (mul_leaves w)

  rows-mapped : (k : ℕ) (w : U) → rows (mapped f g k w) ≡ map (map (mapped_value f g k)) (rows w)
  rows-mapped k w =
      ap (map row_of_atom) (atoms-mapped k w) ∙ map-twice (mapped f g k) row_of_atom (λ x. map (mapped_value f g k) (row_of_atom x)) (row-mapped k) (atoms w)
      ∙ sym (map-twice row_of_atom (map (mapped_value f g k)) (λ x. map (mapped_value f g k) (row_of_atom x)) (λ x. refl) (atoms w))

  entry-mapped : (k : ℕ) (x : U) → entry_of_atom (mapped f g k x) ≡ entry_of_atom x
  entry-mapped k x =
      ap (λ n. let e : Entry = record { table = n; columns = length (row_of_atom (mapped f g k x)) } in e) (table-mapped k x)
      ∙ ap (λ n. let e : Entry = record { table = table_of x; columns = n } in e) (ap length (row-mapped k x) ∙ length-map (row_of_atom x) (mapped_value f g k))

  -- ---- values
  value-in-mapped : (k : ℕ) (rs : List (List Val)) (p : Point) → value_in (map (map (mapped_value f g k)) rs) p ≡ mapped_value f g k (value_in rs p)
  value-in-mapped k rs (column e c) =
      ap (λ (row : List Val). get_or row c (v.Lit 0)) (get-map (map (mapped_value f g k)) rs e [] [] refl)
      ∙ get-map (mapped_value f g k) (get_or rs e []) c (v.Lit 0) (v.Lit 0) (mapped-Lit f g k 0)
  value-in-mapped k rs (literal number) = sym (mapped-Lit f g k number)

  pub value-mapped : (k : ℕ) (w : U) (p : Point) → point_value (mapped f g k w) p ≡ mapped_value f g k (point_value w p)
  value-mapped k w p = ap (λ (rs : List (List Val)). value_in rs p) (rows-mapped k w) ∙ value-in-mapped k (rows w) p

  term-mapped : (k : ℕ) (kind : Kind) (values : List Val) → mapped f g k (mark_term kind values) ≡ mark_term kind (map (mapped_value f g k) values)
  term-mapped k (holds symbol) values = mapped-Pred f g k symbol values
  term-mapped k (fails symbol) values = mapped-Not f g k (P symbol values) ∙ ap neg (mapped-Pred f g k symbol values)
  term-mapped k differ values =
      mapped-Not f g k (get_or values 0 (v.Lit 0) ≐ get_or values 1 (v.Lit 0)) ∙ ap neg (mapped-Eq f g k (get_or values 0 (v.Lit 0)) (get_or values 1 (v.Lit 0)))
      ∙ ap (λ (a : Val). neg (a ≐ mapped_value f g k (get_or values 1 (v.Lit 0)))) (sym (get-map (mapped_value f g k) values 0 (v.Lit 0) (v.Lit 0) (mapped-Lit f g k 0)))
      ∙ ap (λ (b : Val). neg (get_or (map (mapped_value f g k) values) 0 (v.Lit 0) ≐ b)) (sym (get-map (mapped_value f g k) values 1 (v.Lit 0) (v.Lit 0) (mapped-Lit f g k 0)))

  mark-mapped : (k : ℕ) (w : U) (m : Mark) → mapped f g k (mark_of w m) ≡ mark_of (mapped f g k w) m
  mark-mapped k w m =
      term-mapped k m.kind (map (point_value w) m.points)
      ∙ ap (mark_term m.kind) (map-twice (point_value w) (mapped_value f g k) (point_value (mapped f g k w)) (λ p. sym (value-mapped k w p)) m.points)

-- ---- the shape stays
module _ (at_place : ℕ → ℕ → Val) (k : ℕ) (s : Shape) (w : U) (h : IsProductOf s w) where
  factor-after : (x : U) → IsFactor x w → IsFactor (mapped at_place same_name k x) (mapped at_place same_name k w)
  factor-after x i = subst (IsIn (mapped at_place same_name k x)) (sym (leaves-mapped at_place same_name k w)) (in-map (mapped at_place same_name k) (mul_leaves w) x i)

  equality-moves : (p q : Point) → mapped at_place same_name k (point_value w p ≐ point_value w q) ≡ (point_value (mapped at_place same_name k w) p ≐ point_value (mapped at_place same_name k w) q)
  equality-moves p q =
      mapped-Eq at_place same_name k (point_value w p) (point_value w q)
      ∙ ap (λ (a : Val). a ≐ mapped_value at_place same_name k (point_value w q)) (sym (value-mapped at_place same_name k w p))
      ∙ ap (λ (b : Val). point_value (mapped at_place same_name k w) p ≐ b) (sym (value-mapped at_place same_name k w q))

  output-moves : (n : ℕ) (p : Point) → mapped at_place same_name k (v.Free n ≐ point_value w p) ≡ (v.Free n ≐ point_value (mapped at_place same_name k w) p)
  output-moves n p =
      mapped-Eq at_place same_name k (v.Free n) (point_value w p) ∙ ap (λ (a : Val). a ≐ mapped_value at_place same_name k (point_value w p)) (mapped-Free at_place same_name k n)
      ∙ ap (λ (b : Val). v.Free n ≐ b) (sym (value-mapped at_place same_name k w p))

  turned-moves : (n : ℕ) (p : Point) → mapped at_place same_name k (point_value w p ≐ v.Free n) ≡ (point_value (mapped at_place same_name k w) p ≐ v.Free n)
  turned-moves n p =
      mapped-Eq at_place same_name k (point_value w p) (v.Free n) ∙ ap (λ (b : Val). mapped_value at_place same_name k (point_value w p) ≐ b) (mapped-Free at_place same_name k n)
      ∙ ap (λ (a : Val). a ≐ v.Free n) (sym (value-mapped at_place same_name k w p))

  atom-moves : (e : ℕ) → mapped at_place same_name k (atom_of s w e) ≡ atom_of s (mapped at_place same_name k w) e
  atom-moves e =
      mapped-Rel at_place same_name k (entry_of s.entries e).table (get_or (rows w) e [])
      ∙ ap (R (entry_of s.entries e).table)
      (sym (ap (λ (rs : List (List Val)). get_or rs e []) (rows-mapped at_place same_name k w) ∙ get-map (map (mapped_value at_place same_name k)) (rows w) e [] [] refl))

  outputs-after : (n : ℕ) (p : Point) → IsFactor (v.Free n ≐ point_value w p) w ⊎ IsFactor (point_value w p ≐ v.Free n) w
      → IsFactor (v.Free n ≐ point_value (mapped at_place same_name k w) p) (mapped at_place same_name k w) ⊎ IsFactor (point_value (mapped at_place same_name k w) p ≐ v.Free n) (mapped at_place same_name k w)
  outputs-after n p (inl i) = inl (subst (λ (x : U). IsFactor x (mapped at_place same_name k w)) (output-moves n p) (factor-after (v.Free n ≐ point_value w p) i))
  outputs-after n p (inr i) = inr (subst (λ (x : U). IsFactor x (mapped at_place same_name k w)) (turned-moves n p) (factor-after (point_value w p ≐ v.Free n) i))

  said-after : (x : U) → IsSaid s w x → IsSaid s (mapped at_place same_name k w) (mapped at_place same_name k x)
  said-after x (atom e less) = subst (IsSaid s (mapped at_place same_name k w)) (sym (atom-moves e)) (atom e less)
  said-after x (equality p q g) = subst (IsSaid s (mapped at_place same_name k w)) (sym (equality-moves p q)) (equality p q g)
  said-after x (output n p g) = subst (IsSaid s (mapped at_place same_name k w)) (sym (output-moves n p)) (output n p g)
  said-after x (turned_output n p g) = subst (IsSaid s (mapped at_place same_name k w)) (sym (turned-moves n p)) (turned_output n p g)
  said-after x (mark m i) = subst (IsSaid s (mapped at_place same_name k w)) (sym (mark-mapped at_place same_name k w m)) (mark m i)

  pub product-put : IsProductOf s (mapped at_place same_name k w)
  product-put = record {
    whole = h.whole;
    entries = ap (map entry_of_atom) (atoms-mapped at_place same_name k w)
        ∙ map-twice (mapped at_place same_name k) entry_of_atom entry_of_atom (entry-mapped at_place same_name k) (atoms w) ∙ h.entries;
    equalities = λ p q g. subst (λ (x : U). IsFactor x (mapped at_place same_name k w)) (equality-moves p q) (factor-after (point_value w p ≐ point_value w q) (h.equalities p q g));
    outputs = λ n p g. outputs-after n p (h.outputs n p g);
    marks = λ m i. subst (λ (x : U). IsFactor x (mapped at_place same_name k w)) (mark-mapped at_place same_name k w m) (factor-after (mark_of w m) (h.marks m i));
    each = λ x i.
        let from = came-from (mapped at_place same_name k) (mul_leaves w) x (subst (IsIn x) (leaves-mapped at_place same_name k w) i) in
        subst (IsSaid s (mapped at_place same_name k w)) from.is (said-after from.from (h.each from.from from.is_in));
  }

-- ---- under sums
pub put-under : (at_place : ℕ → ℕ → Val) (k : ℕ) (s : Shape) (w : U) → IsProductOf s (under_sums w) → IsProductOf s (under_sums (mapped at_place same_name k w))
put-under at_place k s w h = subst (IsProductOf s) (sym (under-mapped at_place same_name k w)) (product-put at_place (k + sum_count w) s (under_sums w) h)

pub value-under : (at_place : ℕ → ℕ → Val) (k : ℕ) (w : U) (p : Point)
    → point_value (under_sums (mapped at_place same_name k w)) p ≡ mapped_value at_place same_name (k + sum_count w) (point_value (under_sums w) p)
value-under at_place k w p = ap (λ (u : U). point_value u p) (under-mapped at_place same_name k w) ∙ value-mapped at_place same_name (k + sum_count w) (under_sums w) p

pub count-put : (at_place : ℕ → ℕ → Val) (k : ℕ) (w : U) → sum_count (mapped at_place same_name k w) ≡ sum_count w
count-put at_place k w = count-mapped at_place same_name k w

pub value-put : (at_place : ℕ → ℕ → Val) (k : ℕ) (w : U) (p : Point) → point_value (mapped at_place same_name k w) p ≡ mapped_value at_place same_name k (point_value w p)
value-put at_place k w p = value-mapped at_place same_name k w p

pub around-under : (n : ℕ) (w : U) → under_sums (sums n w) ≡ under_sums w
around-under zero w = refl
around-under (suc n) w = under-Sum (sums n w) ∙ around-under n w

pub around-count : (n : ℕ) (w : U) → sum_count (sums n w) ≡ n + sum_count w
around-count zero w = omega arith
around-count (suc n) w = let k = around-count n w in count-Sum (sums n w) ∙ omega (arith, k)

pub without-sums : (w : U) → sum_count w ≡ 0 → under_sums w ≡ w
unfolding sum_count under_sums
without-sums Zero h = refl
without-sums One h = refl
without-sums (Add a b) h = refl
without-sums (Mul a b) h = refl
without-sums (Squash a) h = refl
without-sums (Not a) h = refl
without-sums (Sum body) h = absurd (omega (arith, h))
without-sums (Rel table shape arguments) h = refl
without-sums (Eq a b) h = refl
without-sums (Pred symbol shape arguments) h = refl

pub inside-sums : (n : ℕ) (w : U) → n ≤ sum_count w → IsAround n w
unfolding sum_count constructors
inside-sums zero w low = record { inside = w; is = refl }
inside-sums (suc n) (Sum body) low = let k = inside-sums n body (omega (arith, low)) in record { inside = k.inside; is = ap u.Sum k.is }
inside-sums (suc n) Zero low = absurd (omega (arith, low))
inside-sums (suc n) One low = absurd (omega (arith, low))
inside-sums (suc n) (Add a b) low = absurd (omega (arith, low))
inside-sums (suc n) (Mul a b) low = absurd (omega (arith, low))
inside-sums (suc n) (Squash a) low = absurd (omega (arith, low))
inside-sums (suc n) (Not a) low = absurd (omega (arith, low))
inside-sums (suc n) (Rel table shape arguments) low = absurd (omega (arith, low))
inside-sums (suc n) (Eq a b) low = absurd (omega (arith, low))
inside-sums (suc n) (Pred symbol shape arguments) low = absurd (omega (arith, low))

-- each sum stands on the way inward
pub shallow-sums : (w : U) → sum_count w < depth w
unfolding sum_count constructors
shallow-sums (Sum body) = let below = shallow-sums body in omega (arith, below, depth-Sum body)
shallow-sums w = let some = depth-positive w in omega (arith, some)

pub ruleset laws = (inside-sums, shallow-sums, value-put, value-under, count-put, around-under, around-count, without-sums)
