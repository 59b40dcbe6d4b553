-- What the two walks over a product's factors have found, as facts of the factors as terms.
use Rattle.std.proofs.Common.{◌≡◌, ℕ, zero, suc, ◌+◌, ◌⊎◌, inl, inr, false, List, [], ◌∷◌, ◌++◌, length, map, get_or, Option, Some, None, refl, ap, sym, ◌∙◌, subst, append_assoc, arith}
use Rattle.std.specs.Prelude.{slice_get, slice_set, replicate}
use Rattle.std.specs.List.{filter}
use Rattle.std.proofs.lemmas.List.{append-nil, map-append, length-replicate}
use Rattle.std.proofs.lemmas.Option.{same_Some, none-some, get_or_from_slice_get}
use Rattle.u_terms.specs.Syntax.{U, Val, Bound, Free, Lit, Fun, Agg}
use Rattle.u_terms.specs.declared.term.Val.TheVariants as v
use Rattle.u_rules.specs.Terms.{◌≐◌, O, P, R, neg}
use Rattle.shapes.specs.Shapes.{Entry, Point, column, literal}
use Rattle.term_shapes.specs.Factors.{Factor, atom, equality, difference, truth, falsehood, other}
use Rattle.term_shapes.specs.TermShape.{folded, Points, pointed, placed, Atoms, entry_with, with_entry, with_atom, no_atoms, at_place, value_point}
use Rattle.term_shapes.proofs.Walked.{then-some, map-some, pointed-written}
use Rattle.shape_entails.specs.Values.{is_atom, table_of, row_of_atom, value_in}
use Rattle.shape_entails.specs.ProductOf.{entry_of_atom}
use Rattle.shape_entails.proofs.Leaves.{term_of, atom-Eq, atom-Not, atom-Pred, table-atom, atom-Zero, row-atom, rows_among, atoms-more, atoms-other, rows-more}

-- what each step keeps of what was walked over, the whole walk keeps
pub folded-keeps : {S X : Type 0} (step : S → X → Option S) (P : List X → S → Type 0) → ((done : List X) (s t : S) (x : X) → step s x ≡ Some t → P done s → P (done ++ x ∷ []) t)
    → (done : List X) (s t : S) (xs : List X) → folded step s xs ≡ Some t → P done s → P (done ++ xs) t
folded-keeps step P keep done s t [] e h =
    subst (λ l. P l t) (sym (append-nil done)) (subst (P done) (same_Some s t e) h)
folded-keeps step P keep done s t (x ∷ xs) e h =
    let one = then-some (λ more. folded step more xs) (step s x) t e in
    subst (λ l. P l t) (append_assoc done (x ∷ []) xs) (folded-keeps step P keep (done ++ x ∷ []) one.x t xs one.is (keep done s one.x x one.from h))

-- ---- lists that are one longer
pub slice-left : {X : Type 0} (xs ys : List X) (i : ℕ) (x : X) → slice_get xs i ≡ Some x → slice_get (xs ++ ys) i ≡ Some x
slice-left [] ys i x h = absurd (none-some x h)
slice-left (y ∷ xs) ys zero x h = h
slice-left (y ∷ xs) ys (suc i) x h = slice-left xs ys i x h

slice-last : {X : Type 0} (xs : List X) (x : X) → slice_get (xs ++ x ∷ []) (length xs) ≡ Some x
slice-last [] x = refl
slice-last (y ∷ xs) x = slice-last xs x

-- where one place of a table was written
pub set-cases : {X : Type 0} (xs : List X) (at k : ℕ) (x y : X) → slice_get (slice_set xs at x) k ≡ Some y → ((k ≡ at) × (x ≡ y)) ⊎ (slice_get xs k ≡ Some y)
set-cases [] at k x y h = inr h
set-cases (z ∷ xs) zero zero x y h = inl (refl, same_Some x y h)
set-cases (z ∷ xs) zero (suc k) x y h = inr h
set-cases (z ∷ xs) (suc at) zero x y h = inr h
set-cases (z ∷ xs) (suc at) (suc k) x y h = elim (set-cases xs at k x y h) [ inl e ↦ inl (ap suc e.0, e.1) | inr e ↦ inr e ]

pub set-same : {X : Type 0} (xs : List X) (at : ℕ) (x y : X) → slice_get xs at ≡ Some y → slice_get (slice_set xs at x) at ≡ Some x
set-same [] at x y h = absurd (none-some y h)
set-same (z ∷ xs) zero x y h = refl
set-same (z ∷ xs) (suc at) x y h = set-same xs at x y h

pub set-other : {X : Type 0} (xs : List X) (at k : ℕ) (x y z : X) → slice_get xs at ≡ Some z → (z ≡ y → ⊥) → slice_get xs k ≡ Some y → slice_get (slice_set xs at x) k ≡ Some y
set-other [] at k x y z g apart h = absurd (none-some y h)
set-other (w ∷ xs) zero zero x y z g apart h = absurd (apart (sym (same_Some w z g) ∙ same_Some w y h))
set-other (w ∷ xs) zero (suc k) x y z g apart h = h
set-other (w ∷ xs) (suc at) zero x y z g apart h = h
set-other (w ∷ xs) (suc at) (suc k) x y z g apart h = set-other xs at k x y z g apart h

pub none-there : (n k : ℕ) (p : Point) → slice_get (replicate n None) k ≡ Some (Some p) → ⊥
none-there zero k p h = none-some (Some p) h
none-there (suc n) zero p h = none-some p (same_Some None (Some p) h)
none-there (suc n) (suc k) p h = none-there n k p h

-- ---- places of values in rows
pub record AtRow (rows : List (List Val)) (e c : ℕ) (x : Val) : Type 0 where
  pub row : List Val
  pub at : slice_get rows e ≡ Some row
  pub is : slice_get row c ≡ Some x

abbrev pub At : List (List Val) → Point → Val → Type 0
At rows (column e c) x = AtRow rows e c x
At rows (literal number) x = v.Lit number ≡ x

at-more : (rows more : List (List Val)) (p : Point) (x : Val) → At rows p x → At (rows ++ more) p x
at-more rows more (column e c) x h = record { row = h.row; at = slice-left rows more e h.row h.at; is = h.is }
at-more rows more (literal number) x h = h

pub at-value : (rows : List (List Val)) (p : Point) (x : Val) → At rows p x → value_in rows p ≡ x
at-value rows (column e c) x h =
    ap (λ (row : List Val). get_or row c (v.Lit 0)) (get_or_from_slice_get rows e h.row [] h.at) ∙ get_or_from_slice_get h.row c x (v.Lit 0) h.is
at-value rows (literal number) x h = h

-- ---- the atoms
abbrev pub PointsAt : List (List Val) → Points → Type 0
PointsAt rows points = (k : ℕ) (p : Point) → slice_get points k ≡ Some (Some p) → At rows p (v.Bound k)

pointed-at : (rows : List (List Val)) (points after : Points) (place : ℕ) (p : Point) → pointed points place p ≡ Some after → At rows p (v.Bound place) → PointsAt rows points → PointsAt rows after
pointed-at rows points after place p h here all k q g =
    let w = pointed-written points after place p h in
    elim (set-cases points place k (Some p) (Some q) (subst (λ (l : Points). slice_get l k ≡ Some (Some q)) (sym w.is) g)) [
      | inl e ↦ subst (λ n. At rows q (v.Bound n)) (sym e.0) (subst (λ (o : Point). At rows o (v.Bound place)) (same_Some p q e.1) here)
      | inr e ↦ all k q e
    ]

placed-at : (rows : List (List Val)) (e c : ℕ) (values : List Val) (points after : Points) → placed e c values points ≡ Some after
    → ((d : ℕ) (x : Val) → slice_get values d ≡ Some x → AtRow rows e (c + d) x) → PointsAt rows points → PointsAt rows after
placed-at rows e c [] points after h new all = subst (PointsAt rows) (same_Some points after h) all
placed-at rows e c (Bound place ∷ values) points after h new all =
    let one = then-some (placed e (c + 1) values) (pointed points place (column e c)) after h in
    let first : c + 0 ≡ c = omega arith in
    placed-at rows e (c + 1) values one.x after one.is
    (λ d x g. let next : c + suc d ≡ c + 1 + d = omega arith in subst (λ n. AtRow rows e n x) next (new (suc d) x g))
    (pointed-at rows points one.x place (column e c) one.from (subst (λ n. AtRow rows e n (v.Bound place)) first (new 0 (v.Bound place) refl)) all)
placed-at rows e c (Free name ∷ values) points after h new all = absurd (none-some after h)
placed-at rows e c (Lit a ∷ values) points after h new all = absurd (none-some after h)
placed-at rows e c (Fun symbol s args ∷ values) points after h new all = absurd (none-some after h)
placed-at rows e c (Agg aggregate body ∷ values) points after h new all = absurd (none-some after h)

-- a place that has its point keeps it
kept-pointed : (points after : Points) (place k : ℕ) (p q : Point) → pointed points place p ≡ Some after → slice_get points k ≡ Some (Some q) → slice_get after k ≡ Some (Some q)
kept-pointed points after place k p q h g =
    let w = pointed-written points after place p h in
    subst (λ (l : Points). slice_get l k ≡ Some (Some q)) w.is (set-other points place k (Some p) (Some q) None w.had (none-some q) g)

kept-placed : (e c : ℕ) (values : List Val) (points after : Points) (k : ℕ) (q : Point) → placed e c values points ≡ Some after → slice_get points k ≡ Some (Some q) → slice_get after k ≡ Some (Some q)
kept-placed e c [] points after k q h g = subst (λ (l : Points). slice_get l k ≡ Some (Some q)) (same_Some points after h) g
kept-placed e c (Bound place ∷ values) points after k q h g =
    let one = then-some (placed e (c + 1) values) (pointed points place (column e c)) after h in
    kept-placed e (c + 1) values one.x after k q one.is (kept-pointed points one.x place k (column e c) q one.from g)
kept-placed e c (Free name ∷ values) points after k q h g = absurd (none-some after h)
kept-placed e c (Lit a ∷ values) points after k q h g = absurd (none-some after h)
kept-placed e c (Fun symbol s args ∷ values) points after k q h g = absurd (none-some after h)
kept-placed e c (Agg aggregate body ∷ values) points after k q h g = absurd (none-some after h)

-- the value of a column is a place that has its point
pub record IsPlaced (points : Points) (e c : ℕ) (x : Val) : Type 0 where
  pub place : ℕ
  pub is : x ≡ v.Bound place
  pub here : slice_get points place ≡ Some (Some (column e c))

new-placed : (e c : ℕ) (values : List Val) (points after : Points) (d : ℕ) (x : Val) → placed e c values points ≡ Some after → slice_get values d ≡ Some x → IsPlaced after e (c + d) x
new-placed e c [] points after d x h g = absurd (none-some x g)
new-placed e c (Bound place ∷ values) points after zero x h g =
    let one = then-some (placed e (c + 1) values) (pointed points place (column e c)) after h in
    let w = pointed-written points one.x place (column e c) one.from in
    let first : c ≡ c + 0 = omega arith in
    let given : slice_get one.x place ≡ Some (Some (column e c)) =
    subst (λ (l : Points). slice_get l place ≡ Some (Some (column e c))) w.is (set-same points place (Some (column e c)) None w.had) in
    record {
      place = place;
      is = sym (same_Some (v.Bound place) x g);
      here = kept-placed e (c + 1) values one.x after place (column e c) one.is given ∙ ap (λ n. Some (Some (column e n))) first;
    }
new-placed e c (Bound place ∷ values) points after (suc d) x h g =
    let one = then-some (placed e (c + 1) values) (pointed points place (column e c)) after h in
    let next : c + 1 + d ≡ c + suc d = omega arith in
    subst (λ n. IsPlaced after e n x) next (new-placed e (c + 1) values one.x after d x one.is g)
new-placed e c (Free name ∷ values) points after d x h g = absurd (none-some after h)
new-placed e c (Lit a ∷ values) points after d x h g = absurd (none-some after h)
new-placed e c (Fun symbol s args ∷ values) points after d x h g = absurd (none-some after h)
new-placed e c (Agg aggregate body ∷ values) points after d x h g = absurd (none-some after h)

set-long : {X : Type 0} (xs : List X) (at : ℕ) (x : X) → length (slice_set xs at x) ≡ length xs
set-long [] at x = refl
set-long (y ∷ xs) zero x = refl
set-long (y ∷ xs) (suc at) x = ap suc (set-long xs at x)

placed-long : (e c : ℕ) (values : List Val) (points after : Points) → placed e c values points ≡ Some after → length after ≡ length points
placed-long e c [] points after h = ap length (sym (same_Some points after h))
placed-long e c (Bound place ∷ values) points after h =
    let one = then-some (placed e (c + 1) values) (pointed points place (column e c)) after h in
    let w = pointed-written points one.x place (column e c) one.from in
    placed-long e (c + 1) values one.x after one.is ∙ ap length (sym w.is) ∙ set-long points place (Some (column e c))
placed-long e c (Free name ∷ values) points after h = absurd (none-some after h)
placed-long e c (Lit a ∷ values) points after h = absurd (none-some after h)
placed-long e c (Fun symbol s args ∷ values) points after h = absurd (none-some after h)
placed-long e c (Agg aggregate body ∷ values) points after h = absurd (none-some after h)

-- of so many summed places
pub record AtomsDone (sums : ℕ) (xs : List U) (a : Atoms) : Type 0 where
  pub entries : map entry_of_atom (filter is_atom xs) ≡ a.entries
  pub long : length a.points ≡ sums
  pub points : PointsAt (rows_among xs) a.points
  pub places : (e c : ℕ) (x : Val) → AtRow (rows_among xs) e c x → IsPlaced a.points e c x

-- the rows before the last one, or the last one
row-push : (rows : List (List Val)) (last : List Val) (e c : ℕ) (x : Val) → AtRow (rows ++ last ∷ []) e c x → AtRow rows e c x ⊎ ((e ≡ length rows) × (slice_get last c ≡ Some x))
row-push [] last zero c x h = inr (refl, ap (λ (row : List Val). slice_get row c) (same_Some last h.row h.at) ∙ h.is)
row-push [] last (suc e) c x h = absurd (none-some h.row h.at)
row-push (row ∷ rows) last zero c x h = inl (record { row = h.row; at = h.at; is = h.is })
row-push (row ∷ rows) last (suc e) c x h = elim (row-push rows last e c x (record { row = h.row; at = h.at; is = h.is })) [
  | inl before ↦ inl (record { row = before.row; at = before.at; is = before.is })
  | inr new ↦ inr (ap suc new.0, new.1)
]

same-entry : (t u n m : ℕ) → t ≡ u → n ≡ m → (let a : Entry = record { table = t; columns = n } in a) ≡ record { table = u; columns = m }
same-entry t u n m e d = ap (λ x. let a : Entry = record { table = x; columns = n } in a) e ∙ ap (λ y. let a : Entry = record { table = u; columns = y } in a) d

atom-step : (sums : ℕ) (xs : List U) (a b : Atoms) (table : ℕ) (values : List Val) → with_atom a (atom table values) ≡ Some b → AtomsDone sums xs a → AtomsDone sums (xs ++ R table values ∷ []) b
atom-step sums xs a b table values h k =
    let one = map-some (with_entry a.entries (entry_with table values)) (placed (length a.entries) 0 values a.points) b h in
    subst (AtomsDone sums (xs ++ R table values ∷ [])) one.is (record {
      entries = ap (map entry_of_atom) (atoms-more xs table values) ∙ map-append entry_of_atom (filter is_atom xs) (R table values ∷ [])
          ∙ ap (λ (es : List Entry). es ++ entry_of_atom (R table values) ∷ []) k.entries
          ∙ ap (λ (e : Entry). a.entries ++ e ∷ []) (same-entry (table_of (R table values)) table (length (row_of_atom (R table values))) (length values) (table-atom table values) (ap length (row-atom table values)));
      points = subst (λ (rows : List (List Val)). PointsAt rows one.x) (sym (rows-more xs table values)) (placed-at (rows_among xs ++ values ∷ []) (length a.entries) 0 values a.points one.x one.from
          (λ d x g. let start : d ≡ 0 + d = omega arith in subst (λ n. AtRow (rows_among xs ++ values ∷ []) (length a.entries) n x) start (record { row = values; at = last; is = g }))
          (λ n p g. at-more (rows_among xs) (values ∷ []) p (v.Bound n) (k.points n p g)));
      long = placed-long (length a.entries) 0 values a.points one.x one.from ∙ k.long;
      places = λ e c x at. elim (row-push (rows_among xs) values e c x (subst (λ (rows : List (List Val)). AtRow rows e c x) (rows-more xs table values) at)) [
        | inl before ↦
            let p = k.places e c x before in
            record { place = p.place; is = p.is; here = kept-placed (length a.entries) 0 values a.points one.x p.place (column e c) one.from p.here }
        | inr new ↦
            let start : 0 + c ≡ c = omega arith in
            subst (λ n. IsPlaced one.x n c x) (sym (new.0 ∙ many))
            (subst (λ n. IsPlaced one.x (length a.entries) n x) start (new-placed (length a.entries) 0 values a.points one.x c x one.from new.1))
      ];
    })
  where
    many : length (rows_among xs) ≡ length a.entries
    many = long (filter is_atom xs) ∙ ap length k.entries
      where
        long : (ys : List U) → length (map row_of_atom ys) ≡ length (map entry_of_atom ys)
        long [] = refl
        long (y ∷ ys) = ap suc (long ys)

    last : slice_get (rows_among xs ++ values ∷ []) (length a.entries) ≡ Some values
    last = ap (slice_get (rows_among xs ++ values ∷ [])) (sym many) ∙ slice-last (rows_among xs) values

other-step : (sums : ℕ) (xs : List U) (a b : Atoms) (y : U) → is_atom y ≡ false → (let o : Option Atoms = Some a in o) ≡ Some b → AtomsDone sums xs a → AtomsDone sums (xs ++ y ∷ []) b
other-step sums xs a b y isnt h k = subst (AtomsDone sums (xs ++ y ∷ [])) (same_Some a b h) (record {
  entries = ap (map entry_of_atom) (atoms-other xs y isnt) ∙ k.entries;
  long = k.long;
  points = subst (λ (rows : List (List Val)). PointsAt rows a.points) (ap (map row_of_atom) (sym (atoms-other xs y isnt))) k.points;
  places = λ e c x at. k.places e c x (subst (λ (rows : List (List Val)). AtRow rows e c x) (ap (map row_of_atom) (atoms-other xs y isnt)) at);
})

atoms-walk : (sums : ℕ) (done : List Factor) (a b : Atoms) (f : Factor) → with_atom a f ≡ Some b → AtomsDone sums (map term_of done) a → AtomsDone sums (map term_of (done ++ f ∷ [])) b
atoms-walk sums done a b f h k = subst (λ (xs : List U). AtomsDone sums xs b) (sym (map-append term_of done (f ∷ []))) (step f h)
  where
    step : (f : Factor) → with_atom a f ≡ Some b → AtomsDone sums (map term_of done ++ term_of f ∷ []) b
    step (atom table values) e = atom-step sums (map term_of done) a b table values e k
    step (equality x y) e = other-step sums (map term_of done) a b (x ≐ y) (atom-Eq x y) e k
    step (difference x y) e = other-step sums (map term_of done) a b (neg (x ≐ y)) (atom-Not (x ≐ y)) e k
    step (truth symbol values) e = other-step sums (map term_of done) a b (P symbol values) (atom-Pred symbol values) e k
    step (falsehood symbol values) e = other-step sums (map term_of done) a b (neg (P symbol values)) (atom-Not (P symbol values)) e k
    step other e = other-step sums (map term_of done) a b O atom-Zero e k

pub atoms-done : (sums : ℕ) (fs : List Factor) (a : Atoms) → folded with_atom (no_atoms sums) fs ≡ Some a → AtomsDone sums (map term_of fs) a
atoms-done sums fs a h = folded-keeps with_atom (λ done b. AtomsDone sums (map term_of done) b) (atoms-walk sums) [] (no_atoms sums) a fs h
    (record { entries = refl; long = length-replicate sums None; points = λ k p g. absurd (none-there sums k p g); places = λ e c x at. absurd (none-some at.row at.at) })

-- a value with a point is the point's value
pub value-is : (rows : List (List Val)) (points : Points) → PointsAt rows points → (x : Val) (p : Point) → value_point points x ≡ Some p → value_in rows p ≡ x
value-is rows points all (Bound place) p h = at (slice_get points place) refl h
  where
    at : (o : Option (Option Point)) → slice_get points place ≡ o → at_place o ≡ Some p → value_in rows p ≡ v.Bound place
    at None e g = absurd (none-some p g)
    at (Some None) e g = absurd (none-some p g)
    at (Some (Some q)) e g = at-value rows p (v.Bound place) (all place p (e ∙ ap Some g))
value-is rows points all (Free name) p h = absurd (none-some p h)
value-is rows points all (Lit a) p h = ap (value_in rows) (sym (same_Some (literal a) p h))
value-is rows points all (Fun symbol s args) p h = absurd (none-some p h)
value-is rows points all (Agg aggregate body) p h = absurd (none-some p h)
