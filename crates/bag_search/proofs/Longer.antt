-- A list of entries that fits still does with one more exactly where the new entry goes by itself and with each of the others.
use Rattle.std.proofs.Common.{◌≡◌, ℕ, zero, suc, ◌+◌, ◌<◌, ◌⊎◌, inl, inr, Bool, true, false, List, [], ◌∷◌, ◌++◌, length, refl, ap, sym, ◌∙◌, subst, arith}
use Rattle.std.specs.Prelude.{◌&&◌}
use Rattle.std.proofs.lemmas.List.{length-append}
use Rattle.std.specs.List.{list_all}
use Rattle.std.specs.Bool.{beq}
use Rattle.shapes.specs.Shapes.{Entry, Point, column, literal, Shape, entry_of, sides, In}
use Rattle.shapes.specs.Tests.{same_point, same_entry, entry_at, equal, pairs, is_literal, columns_from, columns_of_first, literals, carried, keeps_tables, points_of, fits, stands_for}
use Rattle.shapes.proofs.Least.{same-point, point-itself}
use Rattle.shapes.proofs.Found.{and-both, both-and, every-in, in-every, in-left, in-right, in-either, column-of, only-literals, front-point, entry-front}
use Rattle.bag_search.specs.Entries.{moved_to, like, point_fits, pair_fits, literals_fit, entry_fits, fits_with, fits_next, literals_alike}

-- ---- tests
ext : (a b : Bool) → (a ≡ true → b ≡ true) → (b ≡ true → a ≡ true) → a ≡ b
ext true true f g = refl
ext true false f g = sym (f refl)
ext false true f g = g refl
ext false false f g = refl

same-turned : (p q : Point) → same_point p q ≡ same_point q p
same-turned p q = ext (same_point p q) (same_point q p) (turn p q) (turn q p)
  where
    turn : (p q : Point) → same_point p q ≡ true → same_point q p ≡ true
    turn p q h = subst (λ (x : Point). same_point q x ≡ true) (sym (same-point p q h)) (point-itself q)

like-turned : (s t : Shape) (p p' q q' : Point) → like s t p p' q q' ≡ like s t q q' p p'
like-turned s t p p' q q' =
    ap (λ b. beq b (equal t p' q')) (same-turned (stands_for s.equalities p) (stands_for s.equalities q))
    ∙ ap (λ b. beq (equal s q p) b) (same-turned (stands_for t.equalities p') (stands_for t.equalities q'))

-- ---- columns of the first entries
columns-one_more : (entries : List Entry) (b n : ℕ) → n < length entries
    → columns_of_first b (suc n) entries ≡ columns_of_first b n entries ++ columns_from (b + n) 0 (entry_of entries n).columns
columns-one_more [] b n less = absurd (omega arith)
columns-one_more (entry ∷ entries) b zero less =
    let none : columns_of_first (b + 1) 0 entries ≡ [] = nothing entries (b + 1) in
    let here : b + 0 ≡ b = omega arith in
    ap (λ (l : List Point). columns_from b 0 entry.columns ++ l) none ∙ append-none (columns_from b 0 entry.columns) ∙ ap (λ e. columns_from e 0 entry.columns) (sym here)
  where
    nothing : (entries : List Entry) (b : ℕ) → columns_of_first b 0 entries ≡ []
    nothing [] b = refl
    nothing (e ∷ es) b = refl

    append-none : (l : List Point) → l ++ [] ≡ l
    append-none [] = refl
    append-none (p ∷ l) = ap (λ (k : List Point). p ∷ k) (append-none l)
columns-one_more (entry ∷ entries) b (suc n) less =
    let next : b + 1 + n ≡ b + suc n = omega arith in
    ap (λ (l : List Point). columns_from b 0 entry.columns ++ l) (columns-one_more entries (b + 1) n (omega arith))
    ∙ ap (λ e. columns_from b 0 entry.columns ++ (columns_of_first (b + 1) n entries ++ columns_from e 0 (entry_of entries n).columns)) next
    ∙ sym (append-three (columns_from b 0 entry.columns) (columns_of_first (b + 1) n entries) (columns_from (b + suc n) 0 (entry_of entries n).columns))
  where
    append-three : (k l m : List Point) → (k ++ l) ++ m ≡ k ++ (l ++ m)
    append-three [] l m = refl
    append-three (p ∷ k) l m = ap (λ (j : List Point). p ∷ j) (append-three k l m)

-- the entry of a column among those of the first entries
record IsOf (entries : List Entry) (p : Point) (b many : ℕ) : Type 0 where
  e : ℕ
  below : e < many
  is : In p (columns_from (b + e) 0 (entry_of entries e).columns)

of-first : (entries : List Entry) (p : Point) (b many : ℕ) → In p (columns_of_first b many entries) → IsOf entries p b many
of-first [] p b zero i = elim i [ ]
of-first [] p b (suc many) i = elim i [ ]
of-first (entry ∷ entries) p b zero i = elim i [ ]
of-first (entry ∷ entries) p b (suc many) i = elim (in-either p (columns_from b 0 entry.columns) (columns_of_first (b + 1) many entries) i) [
  | inl h ↦ let here : b ≡ b + 0 = omega arith in record { e = 0; below = omega arith; is = subst (λ n. In p (columns_from n 0 entry.columns)) here h }
  | inr h ↦
      let k = of-first entries p (b + 1) many h in
      let next : b + 1 + k.e ≡ b + suc k.e = omega arith in
      record { e = suc k.e; below = omega (arith, k.below); is = subst (λ n. In p (columns_from n 0 (entry_of entries k.e).columns)) next k.is }
]

moved-carried : (l : List ℕ) (p : Point) (e c many x : ℕ) → entry_at l e ≡ x → In p (columns_from e c many) → carried l p ≡ moved_to x p
moved-carried l p e c many x at i =
    let k = column-of p e c many i in
    let same : k.e ≡ e = omega (arith, k.from, k.below) in
    ap (carried l) k.is ∙ ap (λ d. column (entry_at l d) k.c) same ∙ ap (λ y. column y k.c) at ∙ sym (ap (moved_to x) k.is)

literal-carried : (l : List ℕ) (s t : Shape) (p : Point) → In p (literals s t) → carried l p ≡ p
literal-carried l s t p i = at_literal p (only-literals p (sides s.equalities ++ sides t.equalities) i)
  where
    at_literal : (p : Point) → is_literal p ≡ true → carried l p ≡ p
    at_literal (literal a) h = refl
    at_literal (column e c) h = absurd (let k : false ≡ true = h in grind arith)

at-last : (l : List ℕ) (x : ℕ) → entry_at (l ++ x ∷ []) (length l) ≡ x
at-last [] x = refl
at-last (y ∷ l) x = at-last l x

-- ---- tables
last-table : (ss ts : List Entry) (l : List ℕ) (x : ℕ) → keeps_tables ss ts (l ++ x ∷ []) ≡ true → same_entry (entry_of ss (length l)) (entry_of ts x) ≡ true
last-table [] ts [] x h = absurd (let k : false ≡ true = h in grind arith)
last-table [] ts (y ∷ l) x h = absurd (let k : false ≡ true = h in grind arith)
last-table (s ∷ ss) ts [] x h = (and-both (same_entry s (entry_of ts x)) true h).0
last-table (s ∷ ss) ts (y ∷ l) x h = last-table ss ts l x (and-both (same_entry s (entry_of ts y)) (keeps_tables ss ts (l ++ x ∷ [])) h).1

one-table : (ss ts : List Entry) (l : List ℕ) (x : ℕ) → length l < length ss → keeps_tables ss ts l ≡ true → same_entry (entry_of ss (length l)) (entry_of ts x) ≡ true
    → keeps_tables ss ts (l ++ x ∷ []) ≡ true
one-table [] ts l x less h k = absurd (omega arith)
one-table (s ∷ ss) ts [] x less h k = both-and (same_entry s (entry_of ts x)) true k refl
one-table (s ∷ ss) ts (y ∷ l) x less h k =
    let parts = and-both (same_entry s (entry_of ts y)) (keeps_tables ss ts l) h in
    both-and (same_entry s (entry_of ts y)) (keeps_tables ss ts (l ++ x ∷ [])) parts.0 (one-table ss ts l x (omega (arith, less)) parts.1 k)

-- ---- the entries before
each-with : (s t : Shape) (i : ℕ) (l : List ℕ) (n x : ℕ) → ((e : ℕ) → e < length l → pair_fits s t (i + e) (entry_at l e) n x ≡ true) → fits_with s t i l n x ≡ true
each-with s t i [] n x each = refl
each-with s t i (y ∷ l) n x each =
    let here : i + 0 ≡ i = omega arith in
    both-and (pair_fits s t i y n x) (fits_with s t (i + 1) l n x) (subst (λ k. pair_fits s t k y n x ≡ true) here (each 0 (omega arith)))
    (each-with s t (i + 1) l n x (λ e less. let next : i + suc e ≡ i + 1 + e = omega arith in subst (λ k. pair_fits s t k (entry_at l e) n x ≡ true) next (each (suc e) (omega (arith, less)))))

with-each : (s t : Shape) (i : ℕ) (l : List ℕ) (n x : ℕ) → fits_with s t i l n x ≡ true → (e : ℕ) → e < length l → pair_fits s t (i + e) (entry_at l e) n x ≡ true
with-each s t i [] n x h e less = absurd (omega arith)
with-each s t i (y ∷ l) n x h zero less =
    let here : i ≡ i + 0 = omega arith in
    subst (λ k. pair_fits s t k y n x ≡ true) here (and-both (pair_fits s t i y n x) (fits_with s t (i + 1) l n x) h).0
with-each s t i (y ∷ l) n x h (suc e) less =
    let next : i + 1 + e ≡ i + suc e = omega arith in
    subst (λ k. pair_fits s t k (entry_at l e) n x ≡ true) next (with-each s t (i + 1) l n x (and-both (pair_fits s t i y n x) (fits_with s t (i + 1) l n x) h).1 e (omega (arith, less)))

module _ (s t : Shape) (l : List ℕ) (x : ℕ) (less : length l < length s.entries) where
  longer : List ℕ
  longer = l ++ x ∷ []

  new_columns : List Point
  new_columns = columns_from (length l) 0 (entry_of s.entries (length l)).columns

  points-are : points_of s t longer ≡ (columns_of_first 0 (length l) s.entries ++ new_columns) ++ literals s t
  unfolding longer new_columns
  points-are =
      let n : length (l ++ x ∷ []) ≡ suc (length l) = omega (arith, length-append l (x ∷ [])) in
      ap (λ m. columns_of_first 0 m s.entries ++ literals s t) n
      ∙ ap (λ (ps : List Point). ps ++ literals s t) (columns-one_more s.entries 0 (length l) less ∙ ap (λ e. columns_of_first 0 (length l) s.entries ++ columns_from e 0 (entry_of s.entries (length l)).columns) (zero_and (length l)))
    where
      zero_and : (n : ℕ) → 0 + n ≡ n
      zero_and n = omega arith

  new-in : (p : Point) → In p new_columns → In p (points_of s t longer)
  new-in p i = subst (λ (ps : List Point). In p ps) (sym points-are)
      (in-left p (columns_of_first 0 (length l) s.entries ++ new_columns) (literals s t) (in-right p (columns_of_first 0 (length l) s.entries) new_columns i))

  literal-in : (p : Point) → In p (literals s t) → In p (points_of s t longer)
  literal-in p i = subst (λ (ps : List Point). In p ps) (sym points-are) (in-right p (columns_of_first 0 (length l) s.entries ++ new_columns) (literals s t) i)

  new-carried : (p : Point) → In p new_columns → carried longer p ≡ moved_to x p
  unfolding longer new_columns
  new-carried p i = moved-carried (l ++ x ∷ []) p (length l) 0 (entry_of s.entries (length l)).columns x (at-last l x) i

  test : Point → Point → Bool
  test p q = like s t p (carried longer p) q (carried longer q)

  module _ (h : fits s t longer ≡ true) where
    whole : (p q : Point) → In p (points_of s t longer) → In q (points_of s t longer) → test p q ≡ true
    unfolding test fits
    whole p q i j =
        let parts = and-both (keeps_tables s.entries t.entries longer) (pairs (λ p q. beq (equal s p q) (equal t (carried longer p) (carried longer q))) (points_of s t longer)) h in
        every-in (λ r. test p r) (points_of s t longer) q
        (every-in (λ r. list_all (λ r'. test r r') (points_of s t longer)) (points_of s t longer) p parts.1 i) j

    pair-new : (e y : ℕ) → entry_at longer e ≡ y → ((p : Point) → In p (columns_from e 0 (entry_of s.entries e).columns) → In p (points_of s t longer))
        → pair_fits s t e y (length l) x ≡ true
    unfolding test new_columns
    pair-new e y at there =
        in-every (λ p. point_fits s t p (moved_to y p) (length l) x) (columns_from e 0 (entry_of s.entries e).columns) (λ p i.
        in-every (λ q. like s t p (moved_to y p) q (moved_to x q)) (columns_from (length l) 0 (entry_of s.entries (length l)).columns) (λ q j.
        subst (λ (p' : Point). like s t p p' q (moved_to x q) ≡ true) (moved-carried longer p e 0 (entry_of s.entries e).columns y at i)
        (subst (λ (q' : Point). like s t p (carried longer p) q q' ≡ true) (new-carried q j) (whole p q (there p i) (new-in q j)))))

    old-in : (e : ℕ) → e < length l → (p : Point) → In p (columns_from e 0 (entry_of s.entries e).columns) → In p (points_of s t longer)
    old-in e less_e p i =
        subst (λ (ps : List Point). In p ps) (sym points-are)
        (in-left p (columns_of_first 0 (length l) s.entries ++ new_columns) (literals s t)
        (in-left p (columns_of_first 0 (length l) s.entries) new_columns (first-in s.entries 0 e (length l) less_e (omega (arith, less_e, less)) (subst (λ n. In p (columns_from n 0 (entry_of s.entries e).columns)) (sym (zero_and e)) i))))
      where
        zero_and : (n : ℕ) → 0 + n ≡ n
        zero_and n = omega arith

        first-in : (entries : List Entry) (b e n : ℕ) → e < n → e < length entries → {p : Point} → In p (columns_from (b + e) 0 (entry_of entries e).columns) → In p (columns_of_first b n entries)
        first-in [] b e n less_n less_e i = absurd (omega arith)
        first-in (entry ∷ entries) b e zero less_n less_e i = absurd (omega arith)
        first-in (entry ∷ entries) b zero (suc n) less_n less_e {p = p} i =
            let here : b + 0 ≡ b = omega arith in
            in-left p (columns_from b 0 entry.columns) (columns_of_first (b + 1) n entries) (subst (λ m. In p (columns_from m 0 entry.columns)) here i)
        first-in (entry ∷ entries) b (suc e) (suc n) less_n less_e {p = p} i =
            let next : b + suc e ≡ b + 1 + e = omega arith in
            in-right p (columns_from b 0 entry.columns) (columns_of_first (b + 1) n entries)
            (first-in entries (b + 1) e n (omega arith) (omega arith) (subst (λ m. In p (columns_from m 0 (entry_of entries e).columns)) next i))

    forth : fits_next s t l x ≡ true
    unfolding longer fits test new_columns
    forth =
        both-and (entry_fits s t (length l) x) (fits_with s t 0 l (length l) x) one
        (each-with s t 0 l (length l) x (λ e less_e.
        let here : e ≡ 0 + e = omega arith in
        subst (λ k. pair_fits s t k (entry_at l e) (length l) x ≡ true) here (pair-new e (entry_at l e) (entry-front l (x ∷ []) e less_e) (old-in e less_e))))
      where
        tables : same_entry (entry_of s.entries (length l)) (entry_of t.entries x) ≡ true
        tables = last-table s.entries t.entries l x (and-both (keeps_tables s.entries t.entries longer) (pairs (λ p q. beq (equal s p q) (equal t (carried longer p) (carried longer q))) (points_of s t longer)) h).0

        with_literals : list_all (λ p. literals_fit s t p (moved_to x p)) (columns_from (length l) 0 (entry_of s.entries (length l)).columns) ≡ true
        with_literals =
            in-every (λ p. literals_fit s t p (moved_to x p)) (columns_from (length l) 0 (entry_of s.entries (length l)).columns) (λ p i.
            in-every (λ a. like s t p (moved_to x p) a a) (literals s t) (λ a j.
            subst (λ (p' : Point). like s t p p' a a ≡ true) (new-carried p i)
            (subst (λ (a' : Point). like s t p (carried longer p) a a' ≡ true) (literal-carried longer s t a j) (whole p a (new-in p i) (literal-in a j)))))

        one : entry_fits s t (length l) x ≡ true
        one =
            both-and (same_entry (entry_of s.entries (length l)) (entry_of t.entries x) && list_all (λ p. literals_fit s t p (moved_to x p)) (columns_from (length l) 0 (entry_of s.entries (length l)).columns))
            (pair_fits s t (length l) x (length l) x)
            (both-and (same_entry (entry_of s.entries (length l)) (entry_of t.entries x)) (list_all (λ p. literals_fit s t p (moved_to x p)) (columns_from (length l) 0 (entry_of s.entries (length l)).columns)) tables with_literals)
            (pair-new (length l) x (at-last l x) new-in)

  module _ (fit : fits s t l ≡ true) (next : fits_next s t l x ≡ true) where
    parts : (entry_fits s t (length l) x ≡ true) × (fits_with s t 0 l (length l) x ≡ true)
    parts = and-both (entry_fits s t (length l) x) (fits_with s t 0 l (length l) x) next

    own : (same_entry (entry_of s.entries (length l)) (entry_of t.entries x) && list_all (λ p. literals_fit s t p (moved_to x p)) (columns_from (length l) 0 (entry_of s.entries (length l)).columns) ≡ true)
        × (pair_fits s t (length l) x (length l) x ≡ true)
    own = and-both (same_entry (entry_of s.entries (length l)) (entry_of t.entries x) && list_all (λ p. literals_fit s t p (moved_to x p)) (columns_from (length l) 0 (entry_of s.entries (length l)).columns))
        (pair_fits s t (length l) x (length l) x) parts.0

    two : (same_entry (entry_of s.entries (length l)) (entry_of t.entries x) ≡ true) × (list_all (λ p. literals_fit s t p (moved_to x p)) (columns_from (length l) 0 (entry_of s.entries (length l)).columns) ≡ true)
    two = and-both (same_entry (entry_of s.entries (length l)) (entry_of t.entries x)) (list_all (λ p. literals_fit s t p (moved_to x p)) (columns_from (length l) 0 (entry_of s.entries (length l)).columns)) own.0

    -- by a pair of entries
    by-pair : (e y : ℕ) → entry_at longer e ≡ y → pair_fits s t e y (length l) x ≡ true → (p q : Point) → In p (columns_from e 0 (entry_of s.entries e).columns) → In q new_columns → test p q ≡ true
    unfolding test new_columns
    by-pair e y at h p q i j =
        subst (λ (p' : Point). like s t p p' q (carried longer q) ≡ true) (sym (moved-carried longer p e 0 (entry_of s.entries e).columns y at i))
        (subst (λ (q' : Point). like s t p (moved_to y p) q q' ≡ true) (sym (new-carried q j))
        (every-in (λ q. like s t p (moved_to y p) q (moved_to x q)) (columns_from (length l) 0 (entry_of s.entries (length l)).columns) q
        (every-in (λ p. point_fits s t p (moved_to y p) (length l) x) (columns_from e 0 (entry_of s.entries e).columns) p h i) j))

    by-literal : (p a : Point) → In p new_columns → In a (literals s t) → test p a ≡ true
    unfolding test new_columns
    by-literal p a i j =
        subst (λ (p' : Point). like s t p p' a (carried longer a) ≡ true) (sym (new-carried p i))
        (subst (λ (a' : Point). like s t p (moved_to x p) a a' ≡ true) (sym (literal-carried longer s t a j))
        (every-in (λ a. like s t p (moved_to x p) a a) (literals s t) a
        (every-in (λ p. literals_fit s t p (moved_to x p)) (columns_from (length l) 0 (entry_of s.entries (length l)).columns) p two.1 i) j))

    turned-test : (p q : Point) → test q p ≡ true → test p q ≡ true
    unfolding test
    turned-test p q h = like-turned s t p (carried longer p) q (carried longer q) ∙ h

    -- a point of the list that fits, with a new column
    front-new : (p q : Point) → In p (points_of s t l) → In q new_columns → test p q ≡ true
    unfolding longer
    front-new p q i j = elim (in-either p (columns_of_first 0 (length l) s.entries) (literals s t) i) [
      | inl h ↦
          let k = of-first s.entries p 0 (length l) h in
          let here : 0 + k.e ≡ k.e = omega arith in
          by-pair k.e (entry_at l k.e) (entry-front l (x ∷ []) k.e (omega (arith, k.below)))
          (subst (λ n. pair_fits s t n (entry_at l k.e) (length l) x ≡ true) here (with-each s t 0 l (length l) x parts.1 k.e (omega (arith, k.below))))
          p q (subst (λ n. In p (columns_from n 0 (entry_of s.entries k.e).columns)) here k.is) j
      | inr h ↦ turned-test p q (by-literal q p j h)
    ]

    front-front : (p q : Point) → In p (points_of s t l) → In q (points_of s t l) → test p q ≡ true
    unfolding longer test fits
    front-front p q i j =
        let both_parts = and-both (keeps_tables s.entries t.entries l) (pairs (λ p q. beq (equal s p q) (equal t (carried l p) (carried l q))) (points_of s t l)) fit in
        subst (λ (p' : Point). like s t p p' q (carried longer q) ≡ true) (sym (front-point s t l (x ∷ []) p i).1)
        (subst (λ (q' : Point). like s t p (carried l p) q q' ≡ true) (sym (front-point s t l (x ∷ []) q j).1)
        (every-in (λ r. beq (equal s p r) (equal t (carried l p) (carried l r))) (points_of s t l) q
        (every-in (λ r. list_all (λ r'. beq (equal s r r') (equal t (carried l r) (carried l r'))) (points_of s t l)) (points_of s t l) p both_parts.1 i) j))

    which : (p : Point) → In p (points_of s t longer) → In p (points_of s t l) ⊎ In p new_columns
    which p i = elim (in-either p (columns_of_first 0 (length l) s.entries ++ new_columns) (literals s t) (subst (λ (ps : List Point). In p ps) points-are i)) [
      | inl h ↦ elim (in-either p (columns_of_first 0 (length l) s.entries) new_columns h) [
        | inl k ↦ inl (in-left p (columns_of_first 0 (length l) s.entries) (literals s t) k)
        | inr k ↦ inr k
      ]
      | inr h ↦ inl (in-right p (columns_of_first 0 (length l) s.entries) (literals s t) h)
    ]

    all : (p q : Point) → In p (points_of s t longer) → In q (points_of s t longer) → test p q ≡ true
    unfolding longer new_columns
    all p q i j = elim (which p i) [
      | inl h ↦ elim (which q j) [ inl k ↦ front-front p q h k | inr k ↦ front-new p q h k ]
      | inr h ↦ elim (which q j) [ inl k ↦ turned-test p q (front-new q p k h) | inr k ↦ by-pair (length l) x (at-last l x) own.1 p q h k ]
    ]

    back : fits s t longer ≡ true
    unfolding longer fits test
    back =
        both-and (keeps_tables s.entries t.entries longer) (pairs (λ p q. beq (equal s p q) (equal t (carried longer p) (carried longer q))) (points_of s t longer))
        (one-table s.entries t.entries l x less (and-both (keeps_tables s.entries t.entries l) (pairs (λ p q. beq (equal s p q) (equal t (carried l p) (carried l q))) (points_of s t l)) fit).0 two.0)
        (in-every (λ p. list_all (λ q. test p q) (points_of s t longer)) (points_of s t longer) (λ p i. in-every (λ q. test p q) (points_of s t longer) (λ q j. all p q i j)))

-- one more
pub fits-longer : (s t : Shape) (l : List ℕ) (x : ℕ) → length l < length s.entries → fits s t l ≡ true → fits s t (l ++ x ∷ []) ≡ fits_next s t l x
unfolding longer
fits-longer s t l x less fit = ext (fits s t (l ++ x ∷ [])) (fits_next s t l x) (forth s t l x less) (back s t l x less fit)

-- none
pub fits-none : (s t : Shape) → fits s t [] ≡ literals_alike s t
unfolding fits
fits-none s t = ext (pairs (λ p q. like s t p (carried [] p) q (carried [] q)) (literals s t)) (literals_alike s t) there from
  where
    there : pairs (λ p q. like s t p (carried [] p) q (carried [] q)) (literals s t) ≡ true → literals_alike s t ≡ true
    there h = in-every (λ a. literals_fit s t a a) (literals s t) (λ a i. in-every (λ b. like s t a a b b) (literals s t) (λ b j.
        subst (λ (a' : Point). like s t a a' b b ≡ true) (literal-carried [] s t a i)
        (subst (λ (b' : Point). like s t a (carried [] a) b b' ≡ true) (literal-carried [] s t b j)
        (every-in (λ b. like s t a (carried [] a) b (carried [] b)) (literals s t) b
        (every-in (λ a. list_all (λ b. like s t a (carried [] a) b (carried [] b)) (literals s t)) (literals s t) a h i) j))))

    from : literals_alike s t ≡ true → pairs (λ p q. like s t p (carried [] p) q (carried [] q)) (literals s t) ≡ true
    from h = in-every (λ a. list_all (λ b. like s t a (carried [] a) b (carried [] b)) (literals s t)) (literals s t) (λ a i. in-every (λ b. like s t a (carried [] a) b (carried [] b)) (literals s t) (λ b j.
        subst (λ (a' : Point). like s t a a' b (carried [] b) ≡ true) (sym (literal-carried [] s t a i))
        (subst (λ (b' : Point). like s t a a b b' ≡ true) (sym (literal-carried [] s t b j))
        (every-in (λ b. like s t a a b b) (literals s t) b (every-in (λ a. literals_fit s t a a) (literals s t) a h i) j))))
