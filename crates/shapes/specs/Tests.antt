-- Tests of points and of lists of entries. A list stands for the first entries of s in order: its number at e is the entry of t that entry e
-- of s goes to.
use Rattle.std.specs.Prelude.{ℕ, zero, suc, ◌+◌, nat_eq, Bool, true, false, ◌&&◌, ◌||◌, not, if◌then◌else◌, List, [], ◌∷◌, ◌++◌, length, map}
use Rattle.std.specs.Bool.{beq}
use Rattle.std.specs.List.{list_any, list_all, filter}
use Rattle.shapes.specs.Shapes.{Point, column, literal, Kind, holds, fails, differ, Mark, Entry, Shape, entry_of, sides, turned}

abbrev pub same_point : Point → Point → Bool
same_point (column e c) (column f d) = nat_eq e f && nat_eq c d
same_point (literal a) (literal b) = nat_eq a b
same_point _ _ = false

abbrev pub same_kind : Kind → Kind → Bool
same_kind (holds p) (holds q) = nat_eq p q
same_kind (fails p) (fails q) = nat_eq p q
same_kind differ differ = true
same_kind _ _ = false

abbrev pub same_entry : Entry → Entry → Bool
same_entry a b = nat_eq a.table b.table && nat_eq a.columns b.columns

-- one by one, and as many
abbrev pub both : {A B : Type 0} → (A → B → Bool) → List A → List B → Bool
both test [] [] = true
both test (a ∷ as') (b ∷ bs) = test a b && both test as' bs
both test _ _ = false

-- ---- the least equivalence that holds the equalities: of each class one point stands for all
abbrev pub stands_for : List (Point × Point) → Point → Point
stands_for [] p = p
stands_for (e ∷ equalities) p =
    if same_point (stands_for equalities p) (stands_for equalities e.1) then stands_for equalities e.0 else stands_for equalities p

abbrev pub equal : Shape → Point → Point → Bool
equal s p q = same_point (stands_for s.equalities p) (stands_for s.equalities q)

-- ---- lists of entries
abbrev pub has : ℕ → List ℕ → Bool
has x l = list_any (nat_eq x) l

abbrev pub all_differ : List ℕ → Bool
all_differ [] = true
all_differ (x ∷ l) = not (has x l) && all_differ l

abbrev pub entry_at : List ℕ → ℕ → ℕ
entry_at [] e = 0
entry_at (x ∷ l) zero = x
entry_at (x ∷ l) (suc e) = entry_at l e

abbrev pub carried : List ℕ → Point → Point
carried l (column e c) = column (entry_at l e) c
carried l (literal a) = literal a

-- the entry of s that goes to entry x of t, for the entries of a list from i on
abbrev pub place_of : ℕ → ℕ → List ℕ → ℕ
place_of x i [] = 0
place_of x i (y ∷ l) = if nat_eq x y then i else place_of x (i + 1) l

-- of each entry of t from x on
abbrev pub back_from : ℕ → ℕ → List ℕ → List ℕ
back_from x zero l = []
back_from x (suc many) l = place_of x 0 l ∷ back_from (x + 1) many l

-- ---- the points that a list of entries is tested on
abbrev pub columns_from : ℕ → ℕ → ℕ → List Point
columns_from e c zero = []
columns_from e c (suc many) = column e c ∷ columns_from e (c + 1) many

-- the columns of `many` entries from e on
abbrev pub columns_of_first : ℕ → ℕ → List Entry → List Point
columns_of_first e zero entries = []
columns_of_first e many [] = []
columns_of_first e (suc many) (entry ∷ entries) = columns_from e 0 entry.columns ++ columns_of_first (e + 1) many entries

abbrev pub is_literal : Point → Bool
is_literal (literal a) = true
is_literal (column e c) = false

-- the literals that an equality of one of the two holds: any other is alone in its class in both
abbrev pub literals : Shape → Shape → List Point
literals s t = filter is_literal (sides s.equalities ++ sides t.equalities)

abbrev pub points_of : Shape → Shape → List ℕ → List Point
points_of s t l = columns_of_first 0 (length l) s.entries ++ literals s t

abbrev pub pairs : (Point → Point → Bool) → List Point → Bool
pairs test ps = list_all (λ p. list_all (λ q. test p q) ps) ps

-- ---- what a list of entries does
abbrev pub keeps_tables : List Entry → List Entry → List ℕ → Bool
keeps_tables ss ts [] = true
keeps_tables [] ts (x ∷ l) = false
keeps_tables (s ∷ ss) ts (x ∷ l) = same_entry s (entry_of ts x) && keeps_tables ss ts l

-- it keeps tables, and carries equal points, and these alone, to equal points
unfoldable pub fits : Shape → Shape → List ℕ → Bool
fits s t l = keeps_tables s.entries t.entries l && pairs (λ p q. beq (equal s p q) (equal t (carried l p) (carried l q))) (points_of s t l)

abbrev pub outputs_carried : Shape → Shape → List ℕ → Bool
outputs_carried s t l = both (λ p q. equal t (carried l p) q) s.outputs t.outputs

abbrev pub points_equal : Shape → List Point → List Point → Bool
points_equal t ps qs = both (equal t) ps qs

abbrev pub either_order : Shape → Kind → List Point → List Point → Bool
either_order t differ ps qs = points_equal t ps qs || points_equal t (turned ps) qs
either_order t kind ps qs = points_equal t ps qs

abbrev pub mark_of : Shape → Mark → Mark → Bool
mark_of t carried_mark mark = same_kind carried_mark.kind mark.kind && either_order t mark.kind carried_mark.points mark.points

abbrev pub marks_carried : Shape → Shape → List ℕ → Bool
marks_carried s t l = list_all (λ m. list_any (mark_of t (record { kind = m.kind; points = map (carried l) m.points })) t.marks) s.marks

unfoldable pub makes_alike : Shape → Shape → List ℕ → Bool
makes_alike s t l = fits s t l && outputs_carried s t l && marks_carried s t l && marks_carried t s (back_from 0 (length l) l)
