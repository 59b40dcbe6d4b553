-- The product under the sums of a term is that of the term's shape.
use Rattle.std.proofs.Common.{◌≡◌, ℕ, zero, suc, ◌<◌, inl, inr, Bool, true, false, cond, List, [], ◌∷◌, length, map, get_or, Some, None, refl, ap, sym, ◌∙◌, subst, arith}
use Rattle.std.specs.Prelude.{◌⊎◌, slice_get}
use Rattle.std.specs.List.{filter, list_all}
use Rattle.std.proofs.lemmas.List.{length-map}
use Rattle.std.proofs.lemmas.Option.{same_Some, none-some, slice_get_within, slice_get-get_or}
use Rattle.u_terms.specs.Syntax.{U, Val, Bound, constructors}
use Rattle.u_terms.specs.declared.term.Val.TheVariants as v
use Rattle.u_rules.specs.Terms.{◌≐◌, R, mul_leaves}
use Rattle.u_equal.specs.Standing.{IsIn}
use Rattle.u_equal.proofs.products.Members.{in-head, in-rest, in-cons, in-none}
use Rattle.shapes.specs.Shapes.{Entry, Point, column, literal, Mark, Shape, entry_of, MarkIn, IsPoint, IsWhole}
use Rattle.shapes.proofs.Found.{and-both}
use Rattle.shapes.specs.Alike.{Given}
use Rattle.term_shapes.specs.Factors.{factors, sum_count, under_sums}
use Rattle.term_shapes.specs.TermShape.{Atoms, Points, Said, folded, with_atom, no_atoms, with_factor, nothing_said, all_points, has_point, shape_said, value_point, HasShape}
use Rattle.term_shapes.proofs.WholeShapes.{shapes-whole}
use Rattle.shape_entails.specs.Values.{is_atom, row_of_atom, atoms, rows, value_in, point_value, mark_in}
use Rattle.shape_entails.specs.ProductOf.{IsSaid, atom, equality, output, turned_output, mark, entry_of_atom, atom_of, IsProductOf}
use Rattle.shape_entails.specs.Places.{HasAtoms, IsPlace, ArePlaces}
use Rattle.shape_entails.proofs.Leaves.{term_of, AreKnown, leaves-are, atom-yes, atom-is, rows_among}
use Rattle.term_shapes.proofs.Walked.{read-of}
use Rattle.shape_entails.proofs.Walks.{AtRow, At, at-value, IsPlaced, AtomsDone, atoms-done, value-is}
use Rattle.shape_entails.proofs.Heard.{IsHeard, an_atom, an_equality, an_output, a_turned, a_mark, SaidDone, all-said, outputs-given, outputs-kept}

-- ---- atoms by their numbers
filtered-yes : {X : Type 0} (test : X → Bool) (xs : List X) (e : ℕ) (x : X) → slice_get (filter test xs) e ≡ Some x → test x ≡ true
filtered-yes test [] e x h = absurd (none-some x h)
filtered-yes test (y ∷ xs) e x h = at (test y) refl e h (λ k g. filtered-yes test xs k x g)
  where
    at : (b : Bool) → test y ≡ b → (e : ℕ) → slice_get (cond b (y ∷ filter test xs) (filter test xs)) e ≡ Some x → ((k : ℕ) → slice_get (filter test xs) k ≡ Some x → test x ≡ true) → test x ≡ true
    at true is zero h rest = ap test (sym (same_Some y x h)) ∙ is
    at true is (suc e) h rest = rest e h
    at false is e h rest = rest e h

pub in-filtered : {X : Type 0} (test : X → Bool) (xs : List X) (x : X) → test x ≡ true → IsIn x xs → IsIn x (filter test xs)
in-filtered test [] x is i = absurd (in-none x i)
in-filtered test (y ∷ xs) x is i = elim (in-cons y xs x i) [
  | inl same ↦ first (test y) (ap test (sym same) ∙ is) same
  | inr later ↦ after (test y) (in-filtered test xs x is later)
]
  where
    first : (b : Bool) → b ≡ true → x ≡ y → IsIn x (cond b (y ∷ filter test xs) (filter test xs))
    first true e same = subst (λ z. IsIn z (y ∷ filter test xs)) (sym same) (in-head y (filter test xs))
    first false e same = absurd (grind (arith, e))

    after : (b : Bool) → IsIn x (filter test xs) → IsIn x (cond b (y ∷ filter test xs) (filter test xs))
    after true i = in-rest y (filter test xs) x i
    after false i = i

entry-at : (ys : List U) (e : ℕ) (x : U) → slice_get ys e ≡ Some x → entry_of (map entry_of_atom ys) e ≡ entry_of_atom x
entry-at [] e x h = absurd (none-some x h)
entry-at (y ∷ ys) zero x h = ap entry_of_atom (same_Some y x h)
entry-at (y ∷ ys) (suc e) x h = entry-at ys e x h

row-at : (ys : List U) (e : ℕ) (x : U) → slice_get ys e ≡ Some x → get_or (map row_of_atom ys) e [] ≡ row_of_atom x
row-at [] e x h = absurd (none-some x h)
row-at (y ∷ ys) zero x h = ap row_of_atom (same_Some y x h)
row-at (y ∷ ys) (suc e) x h = row-at ys e x h

-- the atom of an entry, among these terms
abbrev atom_among : List Entry → List U → ℕ → U
atom_among entries xs e = R (entry_of entries e).table (get_or (rows_among xs) e [])

atom-at : (entries : List Entry) (xs : List U) → map entry_of_atom (filter is_atom xs) ≡ entries → (e : ℕ) (x : U) → slice_get (filter is_atom xs) e ≡ Some x → x ≡ atom_among entries xs e
atom-at entries xs same e x h =
    atom-is x (filtered-yes is_atom xs e x h) ∙ ap (λ (n : Entry). R n.table (row_of_atom x)) (sym (entry-at (filter is_atom xs) e x h) ∙ ap (λ (l : List Entry). entry_of l e) same)
    ∙ ap (R (entry_of entries e).table) (sym (row-at (filter is_atom xs) e x h))

-- ---- the same of a list of terms
data IsSaidAmong (s : Shape) (xs : List U) : U → Type 0 where
  in_atom : (e : ℕ) → e < length s.entries → IsSaidAmong s xs (atom_among s.entries xs e)
  in_equality : (p q : Point) → Given s.equalities p q → IsSaidAmong s xs (value_in (rows_among xs) p ≐ value_in (rows_among xs) q)
  in_output : (k : ℕ) (p : Point) → slice_get s.outputs k ≡ Some p → IsSaidAmong s xs (v.Free k ≐ value_in (rows_among xs) p)
  in_turned : (k : ℕ) (p : Point) → slice_get s.outputs k ≡ Some p → IsSaidAmong s xs (value_in (rows_among xs) p ≐ v.Free k)
  in_mark : (m : Mark) → MarkIn m s.marks → IsSaidAmong s xs (mark_in (rows_among xs) m)

record IsListOf (s : Shape) (xs : List U) : Type 0 where
  entries : map entry_of_atom (filter is_atom xs) ≡ s.entries
  equalities : (p q : Point) → Given s.equalities p q → IsIn (value_in (rows_among xs) p ≐ value_in (rows_among xs) q) xs
  outputs : (k : ℕ) (p : Point) → slice_get s.outputs k ≡ Some p → IsIn (v.Free k ≐ value_in (rows_among xs) p) xs ⊎ IsIn (value_in (rows_among xs) p ≐ v.Free k) xs
  marks : (m : Mark) → MarkIn m s.marks → IsIn (mark_in (rows_among xs) m) xs
  each : (x : U) → IsIn x xs → IsSaidAmong s xs x

list-of : (sums : ℕ) (a : Atoms) (said : Said) (outputs : List Point) (xs : List U) → AtomsDone sums xs a → SaidDone (rows_among xs) xs said → all_points said.outputs ≡ Some outputs
    → IsListOf (shape_said a.entries said outputs) xs
list-of sums a said outputs xs atoms_done said_done all = record {
  entries = atoms_done.entries;
  equalities = said_done.equalities;
  outputs = λ k p g. said_done.outputs k p (outputs-given said.outputs outputs all k p g);
  marks = said_done.marks;
  each = λ x i. said_so x i (said_done.each x i);
}
  where
    s : Shape
    s = shape_said a.entries said outputs

    atom_so : (x : U) → IsIn x xs → is_atom x ≡ true → IsSaidAmong s xs x
    atom_so x i is =
        let k = in-filtered is_atom xs x is i in
        let long : length (filter is_atom xs) ≡ length a.entries = sym (length-map (filter is_atom xs) entry_of_atom) ∙ ap length atoms_done.entries in
        subst (IsSaidAmong s xs) (sym (atom-at a.entries xs atoms_done.entries k.place x k.here)) (in_atom k.place (omega (arith, long, slice_get_within (filter is_atom xs) k.place x k.here)))

    said_so : (x : U) → IsIn x xs → IsHeard (rows_among xs) said x → IsSaidAmong s xs x
    said_so x i (an_atom table values) = atom_so (R table values) i (atom-yes table values)
    said_so x i (an_equality p q g) = in_equality p q g
    said_so x i (an_output k p g) = in_output k p (outputs-kept said.outputs outputs all k p g)
    said_so x i (a_turned k p g) = in_turned k p (outputs-kept said.outputs outputs all k p g)
    said_so x i (a_mark m g) = in_mark m g

product-of-list : (s : Shape) (product : U) → IsWhole s → IsListOf s (mul_leaves product) → IsProductOf s product
product-of-list s product whole h = record {
  whole = whole;
  entries = h.entries;
  equalities = h.equalities;
  outputs = h.outputs;
  marks = h.marks;
  each = λ x i. so x (h.each x i);
}
  where
    so : (x : U) → IsSaidAmong s (mul_leaves product) x → IsSaid s product x
    so x (in_atom e less) = atom e less
    so x (in_equality p q g) = equality p q g
    so x (in_output k p g) = output k p g
    so x (in_turned k p g) = turned_output k p g
    so x (in_mark m g) = mark m g

-- ---- terms that have shapes
read-values : (w : U) (a : Atoms) → folded with_atom (no_atoms (sum_count w)) (factors (under_sums w)) ≡ Some a
    → (x : Val) (p : Point) → value_point a.points x ≡ Some p → value_in (rows_among (map term_of (factors (under_sums w)))) p ≡ x
read-values w a h = value-is (rows_among (map term_of (factors (under_sums w)))) a.points (atoms-done (sum_count w) (factors (under_sums w)) a h).points

pub read-said : (outs : ℕ) (w : U) (a : Atoms) (said : Said) → folded with_atom (no_atoms (sum_count w)) (factors (under_sums w)) ≡ Some a
    → folded (with_factor a.points) (nothing_said outs) (factors (under_sums w)) ≡ Some said
    → AreKnown (factors (under_sums w)) × SaidDone (rows_among (map term_of (factors (under_sums w)))) (map term_of (factors (under_sums w))) said
read-said outs w a said h g = all-said (rows_among (map term_of (factors (under_sums w)))) a.points (read-values w a h) outs (factors (under_sums w)) said g

pub product-of : (outs : ℕ) (w : U) (s : Shape) → HasShape outs w s → IsProductOf s (under_sums w)
product-of outs w s h =
    let r = read-of outs w s h in
    let k = read-said outs w r.atoms r.said r.placed r.told in
    product-of-list s (under_sums w) (shapes-whole outs w s h)
    (subst (IsListOf s) (sym (leaves-are (under_sums w) k.0))
    (subst (λ (t : Shape). IsListOf t (map term_of (factors (under_sums w)))) r.is
    (list-of (sum_count w) r.atoms r.said r.outputs (map term_of (factors (under_sums w))) (atoms-done (sum_count w) (factors (under_sums w)) r.atoms r.placed) k.1 r.all)))

-- a value under the sums that has a point
pub value-of-point : (outs : ℕ) (w : U) (s : Shape) (a : Atoms) → HasShape outs w s → HasAtoms w a
    → (x : Val) (p : Point) → value_point a.points x ≡ Some p → point_value (under_sums w) p ≡ x
value-of-point outs w s a h g x p is =
    let r = read-of outs w s h in
    let k = read-said outs w r.atoms r.said r.placed r.told in
    ap (λ (xs : List U). value_in (rows_among xs) p) (leaves-are (under_sums w) k.0) ∙ read-values w a g x p is

-- ---- the atoms of entries
pub many-atoms : (s : Shape) (product : U) → IsProductOf s product → length (atoms product) ≡ length s.entries
many-atoms s product h = sym (length-map (atoms product) entry_of_atom) ∙ ap length h.entries

pub atom-there : (s : Shape) (product : U) → IsProductOf s product → (e : ℕ) → e < length s.entries → slice_get (atoms product) e ≡ Some (atom_of s product e)
atom-there s product h e less =
    let there : slice_get (atoms product) e ≡ Some (get_or (atoms product) e product) = slice_get-get_or (atoms product) e product (omega (arith, less, many-atoms s product h)) in
    there ∙ ap Some (atom-at s.entries (mul_leaves product) h.entries e (get_or (atoms product) e product) there)

pub row-long : (s : Shape) (product : U) → IsProductOf s product → (e : ℕ) → e < length s.entries → length (get_or (rows product) e []) ≡ (entry_of s.entries e).columns
row-long s product h e less =
    let there : slice_get (atoms product) e ≡ Some (get_or (atoms product) e product) = slice_get-get_or (atoms product) e product (omega (arith, less, many-atoms s product h)) in
    ap length (row-at (atoms product) e (get_or (atoms product) e product) there)
    ∙ ap (λ (n : Entry). n.columns) (sym (entry-at (atoms product) e (get_or (atoms product) e product) there) ∙ ap (λ (l : List Entry). entry_of l e) h.entries)

-- ---- the places of columns
slice-there : {X : Type 0} (xs : List X) (i : ℕ) → i < length xs → (x : X) × (slice_get xs i ≡ Some x)
slice-there [] i less = absurd (omega (arith, less))
slice-there (x ∷ xs) zero less = (x, refl)
slice-there (x ∷ xs) (suc i) less = slice-there xs i (omega (arith, less))

point-there : (points : Points) (i : ℕ) → list_all has_point points ≡ true → i < length points → (p : Point) × (slice_get points i ≡ Some (Some p))
point-there [] i full less = absurd (omega (arith, less))
point-there (None ∷ points) i full less = absurd (grind (arith, full))
point-there (Some p ∷ points) zero full less = (p, refl)
point-there (Some p ∷ points) (suc i) full less = point-there points i (and-both true (list_all has_point points) full).1 (omega (arith, less))

number-of : Val → ℕ
number-of (Bound place) = place
number-of _ = 0

is-place : Val → Bool
is-place (Bound place) = true
is-place _ = false

pub same-place : (i j : ℕ) → v.Bound i ≡ v.Bound j → i ≡ j
unfolding number-of constructors
same-place i j e = ap number-of e

no-literal : (n i : ℕ) → v.Lit n ≡ v.Bound i → ⊥
unfolding is-place constructors
no-literal n i e = let f : false ≡ true = ap is-place e in grind (arith, f)

-- among the terms that were walked over
module _ (sums : ℕ) (xs : List U) (a : Atoms) (h : AtomsDone sums xs a) where
  rows-long : length (rows_among xs) ≡ length a.entries
  rows-long = length-map (filter is_atom xs) row_of_atom ∙ sym (length-map (filter is_atom xs) entry_of_atom) ∙ ap length h.entries

  columns-long : (e : ℕ) (row : List Val) → slice_get (rows_among xs) e ≡ Some row → length row ≡ (entry_of a.entries e).columns
  columns-long e row g = at (filter is_atom xs) e g ∙ ap (λ (l : List Entry). (entry_of l e).columns) h.entries
    where
      at : (ys : List U) (e : ℕ) → slice_get (map row_of_atom ys) e ≡ Some row → length row ≡ (entry_of (map entry_of_atom ys) e).columns
      at [] e g = absurd (none-some row g)
      at (y ∷ ys) zero g = ap length (sym (same_Some (row_of_atom y) row g))
      at (y ∷ ys) (suc e) g = at ys e g

  placed-column : (e c : ℕ) → IsPoint a.entries (column e c) → IsPlaced a.points e c (value_in (rows_among xs) (column e c))
  placed-column e c i =
      let row = slice-there (rows_among xs) e (omega (arith, rows-long, i.0)) in
      let x = slice-there row.0 c (omega (arith, columns-long e row.0 row.1, i.1)) in
      let at : AtRow (rows_among xs) e c x.0 = record { row = row.0; at = row.1; is = x.1 } in
      subst (IsPlaced a.points e c) (sym (at-value (rows_among xs) (column e c) x.0 at)) (h.places e c x.0 at)

  record ColumnAt (place : ℕ) : Type 0 where
    entry : ℕ
    of_entry : ℕ
    is_point : IsPoint a.entries (column entry of_entry)
    is : value_in (rows_among xs) (column entry of_entry) ≡ v.Bound place

  column-at : (place : ℕ) (p : Point) → slice_get a.points place ≡ Some (Some p) → At (rows_among xs) p (v.Bound place) → ColumnAt place
  column-at place (literal n) g at = absurd (no-literal n place at)
  column-at place (column e c) g at = record {
    entry = e;
    of_entry = c;
    is_point = (omega (arith, slice_get_within (rows_among xs) e at.row at.at, rows-long), omega (arith, slice_get_within at.row c (v.Bound place) at.is, columns-long e at.row at.at));
    is = at-value (rows_among xs) (column e c) (v.Bound place) at;
  }

  columns-apart : (e c d i : ℕ) → IsPoint a.entries (column e c) → IsPoint a.entries (column d i)
      → value_in (rows_among xs) (column e c) ≡ value_in (rows_among xs) (column d i) → column e c ≡ column d i
  columns-apart e c d i one two same =
      let j = placed-column e c one in
      let k = placed-column d i two in
      let place : j.place ≡ k.place = same-place j.place k.place (sym j.is ∙ same ∙ k.is) in
      same_Some (column e c) (column d i) (same_Some (Some (column e c)) (Some (column d i)) (sym j.here ∙ ap (slice_get a.points) place ∙ k.here))

  place-of-column : (e c : ℕ) → IsPoint a.entries (column e c) → IsPlace sums (value_in (rows_among xs) (column e c))
  place-of-column e c i =
      let j = placed-column e c i in
      record { place = j.place; below = omega (arith, slice_get_within a.points j.place (Some (column e c)) j.here, h.long); is = j.is }

  column-of-place : list_all has_point a.points ≡ true → (place : ℕ) → place < sums → ColumnAt place
  column-of-place full place less =
      let p = point-there a.points place full (omega (arith, less, h.long)) in
      column-at place p.0 p.1 (h.points place p.0 p.1)

pub places-are : (outs : ℕ) (w : U) (s : Shape) → HasShape outs w s → ArePlaces s (sum_count w) (under_sums w)
places-are outs w s h =
    let r = read-of outs w s h in
    let k = read-said outs w r.atoms r.said r.placed r.told in
    let done = atoms-done (sum_count w) (factors (under_sums w)) r.atoms r.placed in
    let terms : List U = map term_of (factors (under_sums w)) in
    let same : (p : Point) → point_value (under_sums w) p ≡ value_in (rows_among (map term_of (factors (under_sums w)))) p = λ p. ap (λ (xs : List U). value_in (rows_among xs) p) (leaves-are (under_sums w) k.0) in
    subst (λ (t : Shape). ArePlaces t (sum_count w) (under_sums w)) r.is (record {
      places = λ e c i. subst (IsPlace (sum_count w)) (sym (same (column e c))) (place-of-column (sum_count w) terms r.atoms done e c i);
      apart = λ e c d i one two eq. columns-apart (sum_count w) terms r.atoms done e c d i one two (sym (same (column e c)) ∙ eq ∙ same (column d i));
      columns = λ place less.
          let j = column-of-place (sum_count w) terms r.atoms done r.full place less in
          record { entry = j.entry; of_entry = j.of_entry; is_point = j.is_point; is = same (column j.entry j.of_entry) ∙ j.is };
    })

pub ruleset laws = (product-of, value-of-point, places-are, atom-there, row-long)
