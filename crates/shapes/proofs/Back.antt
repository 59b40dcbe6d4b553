-- A list at which a search ends gives a bijection by which two shapes are alike.
use Rattle.std.proofs.Common.{◌≡◌, ◌≢◌, ℕ, zero, suc, ◌+◌, ◌<◌, ◌≤◌, ◌⊎◌, inl, inr, Bool, true, false, List, [], ◌∷◌, ◌++◌, length, map, refl, ap, sym, ◌∙◌, subst, arith}
use Rattle.std.specs.Prelude.{nat_eq, ◌↔◌}
use Rattle.std.proofs.lemmas.Bool.{cases_Bool}
use Rattle.std.proofs.lemmas.Bool.Decides.{nat_tests}
use Rattle.std.specs.List.{filter, list_all, list_any}
use Rattle.std.specs.Bool.{beq}
use Rattle.shapes.specs.Tests.{has, same_kind, same_entry, equal, both, entry_at, carried, keeps_tables, pairs, points_of, literals, columns_from, columns_of_first, outputs_carried, marks_carried, mark_of, either_order, points_equal, place_of, back_from, is_literal}
use Rattle.shapes.proofs.Bounds.{AllFresh}
use Rattle.shapes.proofs.Kept.{has-each}
use Rattle.shapes.specs.Shapes.{Entry, Point, column, literal, Kind, holds, fails, differ, Mark, Shape, entry_of, sides, turned, IsIn, AllIn, MarkIn, here, there, In, first, later, IsWhole}
use Rattle.shapes.specs.Alike as rel
use Rattle.shapes.specs.Alike.{Pairing, Equal, moved, Pairwise, none, one_more, SamePoints, FoundMark, Given}
use Rattle.shapes.proofs.Found.{every-in, and-both, in-left, in-right}
use Rattle.shapes.proofs.Least.{tested, shown}
use Rattle.shapes.proofs.Listed.{both-map, all-turned, map-turned}

pub same-number : (a b : ℕ) → nat_eq a b ≡ true → a ≡ b
same-number a b h = grind (arith, nat_tests)

false-true : {A : Type 0} → false ≡ true → A
false-true e = absurd (grind arith)

-- ---- the list as a function, and its inverse
record IsAt (x i : ℕ) (l : List ℕ) : Type 0 where
  e : ℕ
  place : place_of x i l ≡ i + e
  below : e < length l
  is : entry_at l e ≡ x

place-is : (x i : ℕ) (l : List ℕ) → has x l ≡ true → IsAt x i l
place-is x i [] h = false-true h
place-is x i (y ∷ l) h = elim (cases_Bool (nat_eq x y)) [
  | inl is ↦ record { e = 0; place = rw is (omega arith); below = omega arith; is = sym (same-number x y is) }
  | inr isnt ↦
      let rest : has x l ≡ true = rw isnt at h in
      let k = place-is x (i + 1) l rest in
      record { e = suc k.e; place = rw isnt (omega (arith, k.place)); below = omega (arith, k.below); is = k.is }
]

has-at : (l : List ℕ) (e : ℕ) → e < length l → has (entry_at l e) l ≡ true
has-at [] e less = absurd (omega arith)
has-at (x ∷ l) zero less = let same : nat_eq x x ≡ true = grind (arith, nat_tests) in rw same refl
has-at (x ∷ l) (suc e) less = elim (cases_Bool (nat_eq (entry_at l e) x)) [ inl is ↦ rw is refl | inr isnt ↦ rw isnt (has-at l e (omega arith)) ]

at-below : (width : ℕ) (l : List ℕ) (e : ℕ) → AllFresh width l → e < length l → entry_at l e < width
at-below width [] e all less = absurd (omega arith)
at-below width (x ∷ l) zero all less = omega (arith, all.0)
at-below width (x ∷ l) (suc e) all less = at-below width l e all.2 (omega arith)

place-at : (width : ℕ) (l : List ℕ) (i e : ℕ) → AllFresh width l → e < length l → place_of (entry_at l e) i l ≡ i + e
place-at width [] i e all less = absurd (omega arith)
place-at width (x ∷ l) i zero all less = let same : nat_eq x x ≡ true = grind (arith, nat_tests) in rw same (omega arith)
place-at width (x ∷ l) i (suc e) all less = elim (cases_Bool (nat_eq (entry_at l e) x)) [
  | inl is ↦
      let there_ : has x l ≡ true = subst (λ y. has y l ≡ true) (same-number (entry_at l e) x is) (has-at l e (omega arith)) in
      false-true (sym all.1 ∙ there_)
  | inr isnt ↦ rw isnt (let k = place-at width l (i + 1) e all.2 (omega arith) in omega (arith, k))
]

-- ---- tables
same-entry : (a b : Entry) → same_entry a b ≡ true → b ≡ a
same-entry a b h =
    let parts = and-both (nat_eq a.table b.table) (nat_eq a.columns b.columns) h in
    sym (entry-is a.table b.table a.columns b.columns (same-number a.table b.table parts.0) (same-number a.columns b.columns parts.1))
  where
    entry : ℕ → ℕ → Entry
    entry x y = record { table = x; columns = y }

    entry-is : (x y z w : ℕ) → x ≡ y → z ≡ w → entry x z ≡ entry y w
    entry-is x y z w e f = ap (λ u. entry u z) e ∙ ap (λ u. entry y u) f

tables-of : (ss ts : List Entry) (l : List ℕ) (e : ℕ) → keeps_tables ss ts l ≡ true → e < length l → entry_of ts (entry_at l e) ≡ entry_of ss e
tables-of ss ts [] e h less = absurd (omega arith)
tables-of [] ts (x ∷ l) e h less = false-true h
tables-of (s ∷ ss) ts (x ∷ l) zero h less = same-entry s (entry_of ts x) (and-both (same_entry s (entry_of ts x)) (keeps_tables ss ts l) h).0
tables-of (s ∷ ss) ts (x ∷ l) (suc e) h less = tables-of ss ts l e (and-both (same_entry s (entry_of ts x)) (keeps_tables ss ts l) h).1 (omega arith)

-- ---- points that an equality mentions
given-sides : (es : List (Point × Point)) (p q : Point) → Given es p q → In p (sides es) × In q (sides es)
given-sides es p q (rel.given_first {e = d} {es = more}) = (first, later first)
given-sides es p q (rel.given_later {e = d} {es = more} {p = a} {q = b} g) = let k = given-sides more a b g in (later (later k.0), later (later k.1))

equal-cases : (s : Shape) (p q : Point) → Equal s p q → (p ≡ q) ⊎ (In p (sides s.equalities) × In q (sides s.equalities))
equal-cases s p q (rel.itself a) = inl refl
equal-cases s p q (rel.given a b g) = inr (given-sides s.equalities a b g)
equal-cases s p q (rel.other_way a b h) = elim (equal-cases s a b h) [ inl e ↦ inl (sym e) | inr k ↦ inr (k.1, k.0) ]
equal-cases s p q (rel.through a b c h k) = elim (equal-cases s a b h) [
  | inl e ↦ elim (equal-cases s b c k) [ inl d ↦ inl (e ∙ d) | inr m ↦ inr (subst (λ x. In x (sides s.equalities)) (sym e) m.0, m.1) ]
  | inr m ↦ elim (equal-cases s b c k) [ inl d ↦ inr (m.0, subst (λ x. In x (sides s.equalities)) d m.1) | inr n ↦ inr (m.0, n.1) ]
]

pub column-in : (e c d many : ℕ) → d ≤ c → c < d + many → In (column e c) (columns_from e d many)
column-in e c d zero low high = absurd (omega arith)
column-in e c d (suc many) low high = elim (here_or_after d c low) [
  | inl same ↦ subst (λ x. In (column e c) (column e x ∷ columns_from e (d + 1) many)) (sym same) first
  | inr less ↦ later (column-in e c (d + 1) many (omega (arith, less)) (omega arith))
]
  where
    here_or_after : (d c : ℕ) → d ≤ c → (d ≡ c) ⊎ (d < c)
    here_or_after d c low = elim (cases_Bool (nat_eq d c)) [ inl same ↦ inl (same-number d c same) | inr isnt ↦ inr (let ne : d ≢ c = grind (arith, nat_tests) in omega arith) ]

entry-column : (entries : List Entry) (b e c many : ℕ) → e < length entries → e < many → c < (entry_of entries e).columns → In (column (b + e) c) (columns_of_first b many entries)
entry-column [] b e c many less below within = absurd (omega arith)
entry-column (entry ∷ entries) b e c zero less below within = absurd (omega arith)
entry-column (entry ∷ entries) b zero c (suc many) less below within =
    let same : b + 0 ≡ b = omega arith in
    rw same (in-left (column b c) (columns_from b 0 entry.columns) (columns_of_first (b + 1) many entries) (column-in b c 0 entry.columns (omega arith) (omega (arith, within))))
entry-column (entry ∷ entries) b (suc e) c (suc many) less below within =
    let next : b + 1 + e ≡ b + suc e = omega arith in
    subst (λ x. In (column x c) (columns_from b 0 entry.columns ++ columns_of_first (b + 1) many entries)) next
    (in-right (column (b + 1 + e) c) (columns_from b 0 entry.columns) (columns_of_first (b + 1) many entries) (entry-column entries (b + 1) e c many (omega arith) (omega arith) within))

only-in : (p : Point) (ps : List Point) → In p ps → is_literal p ≡ true → In p (filter is_literal ps)
only-in p ps (first {ps = rest}) h = rw h first
only-in p ps (later {q = q} {ps = rest} i) h = elim (cases_Bool (is_literal q)) [ inl is ↦ rw is (later (only-in p rest i h)) | inr isnt ↦ rw isnt (only-in p rest i h) ]

-- ---- lists of points, and marks
both-to : (test : Point → Point → Bool) (P : Point → Point → Type 0) (ps qs : List Point) → ((p q : Point) → test p q ≡ true → P p q) → both test ps qs ≡ true → Pairwise P ps qs
both-to test P [] [] one h = none
both-to test P [] (q ∷ qs) one h = false-true h
both-to test P (p ∷ ps) [] one h = false-true h
both-to test P (p ∷ ps) (q ∷ qs) one h = let parts = and-both (test p q) (both test ps qs) h in one_more (one p q parts.0) (both-to test P ps qs one parts.1)

pairwise-of : (P Q : Point → Point → Type 0) (m : ℕ) (ps qs : List Point) → AllIn m ps → ((p q : Point) → IsIn m p → P p q → Q p q) → Pairwise P ps qs → Pairwise Q ps qs
pairwise-of P Q m [] [] a one h = none
pairwise-of P Q m [] (q ∷ qs) a one h = elim h [ ]
pairwise-of P Q m (p ∷ ps) [] a one h = elim h [ ]
pairwise-of P Q m (p ∷ ps) (q ∷ qs) a one (one_more h hs) = one_more (one p q a.0 h) (pairwise-of P Q m ps qs a.1 one hs)

every-mark-in : (test : Mark → Bool) (m : Mark) (ms : List Mark) → list_all test ms ≡ true → MarkIn m ms → test m ≡ true
every-mark-in test m ms h (here {ms = rest}) = (and-both (test m) (list_all test rest) h).0
every-mark-in test m ms h (there {n = n} {ms = rest} i) = every-mark-in test m rest ((and-both (test n) (list_all test rest) h).1) i

record SomeMark (test : Mark → Bool) (ms : List Mark) : Type 0 where
  mark : Mark
  is_in : MarkIn mark ms
  tests : test mark ≡ true

some-to : (test : Mark → Bool) (ms : List Mark) → list_any test ms ≡ true → SomeMark test ms
some-to test [] h = false-true h
some-to test (m ∷ ms) h = elim (cases_Bool (test m)) [
  | inl is ↦ record { mark = m; is_in = here; tests = is }
  | inr isnt ↦ let k = some-to test ms (rw isnt at h) in record { mark = k.mark; is_in = there k.is_in; tests = k.tests }
]

kind-of : (k l : Kind) → same_kind k l ≡ true → l ≡ k
kind-of (holds p) (holds q) h = ap holds (sym (same-number p q h))
kind-of (fails p) (fails q) h = ap fails (sym (same-number p q h))
kind-of differ differ h = refl
kind-of (holds p) (fails q) h = false-true h
kind-of (holds p) differ h = false-true h
kind-of (fails p) (holds q) h = false-true h
kind-of (fails p) differ h = false-true h
kind-of differ (holds q) h = false-true h
kind-of differ (fails q) h = false-true h

module _ (s t : Shape) (l : List ℕ) (f : ℕ → ℕ) (m : ℕ) (carries : (p : Point) → IsIn m p → carried l p ≡ moved f p) where
  points-to : (ps qs : List Point) → AllIn m ps → both (equal t) (map (carried l) ps) qs ≡ true → Pairwise (λ p q. Equal t (moved f p) q) ps qs
  points-to ps qs a h =
      pairwise-of (λ p q. Equal t (carried l p) q) (λ p q. Equal t (moved f p) q) m ps qs a (λ p q i e. subst (λ x. Equal t x q) (carries p i) e)
      (both-to (λ p q. equal t (carried l p) q) (λ p q. Equal t (carried l p) q) ps qs (λ p q e. shown t (carried l p) q e) (sym (both-map (equal t) (carried l) ps qs) ∙ h))

  order-to : (kind : Kind) (ps qs : List Point) → AllIn m ps → either_order t kind (map (carried l) ps) qs ≡ true → SamePoints kind (λ p q. Equal t (moved f p) q) ps qs
  order-to (holds p) ps qs a h = points-to ps qs a h
  order-to (fails p) ps qs a h = points-to ps qs a h
  order-to differ ps qs a h = elim (cases_Bool (points_equal t (map (carried l) ps) qs)) [
    | inl is ↦ inl (points-to ps qs a is)
    | inr isnt ↦
        let other : points_equal t (turned (map (carried l) ps)) qs ≡ true = rw isnt at h in
        inr (points-to (turned ps) qs (all-turned m ps a) (subst (λ (xs : List Point). both (equal t) xs qs ≡ true) (map-turned (carried l) ps) other))
  ]

  marks-to : ((k : Mark) → MarkIn k s.marks → AllIn m k.points) → marks_carried s t l ≡ true → (k : Mark) → MarkIn k s.marks → FoundMark s t f k
  marks-to within h k i =
      let found = some-to (mark_of t (record { kind = k.kind; points = map (carried l) k.points })) t.marks
      (every-mark-in (λ n. list_any (mark_of t (record { kind = n.kind; points = map (carried l) n.points })) t.marks) k s.marks h i) in
      let parts = and-both (same_kind k.kind found.mark.kind) (either_order t found.mark.kind (map (carried l) k.points) found.mark.points) found.tests in
      let kinds = kind-of k.kind found.mark.kind parts.0 in
      record {
        mark = found.mark;
        is_in = found.is_in;
        kind = kinds;
        same = order-to k.kind k.points found.mark.points (within k i) (subst (λ x. either_order t x (map (carried l) k.points) found.mark.points ≡ true) kinds parts.1);
      }

-- ---- the inverse list
back-at : (l : List ℕ) (b many e : ℕ) → e < many → entry_at (back_from b many l) e ≡ place_of (b + e) 0 l
back-at l b zero e less = absurd (omega arith)
back-at l b (suc many) zero less = ap (λ x. place_of x 0 l) (omega arith)
back-at l b (suc many) (suc e) less = back-at l (b + 1) many e (omega arith) ∙ ap (λ x. place_of x 0 l) (omega arith)

moved-injective : (f g : ℕ → ℕ) (m : ℕ) (p q : Point) → ((e : ℕ) → e < m → g (f e) ≡ e) → IsIn m p → IsIn m q → moved f p ≡ moved f q → p ≡ q
moved-injective f g m p q inverse i j e = sym (again p i) ∙ ap (moved g) e ∙ again q j
  where
    again : (p : Point) → IsIn m p → moved g (moved f p) ≡ p
    again (column e c) i = ap (λ x. column x c) (inverse e i)
    again (literal a) i = refl

module _ (s t : Shape) (l : List ℕ) (whole_s : IsWhole s) (whole_t : IsWhole t) (all : AllFresh (length t.entries) l) (each : length l ≡ length t.entries) (as_many : length s.entries ≡ length t.entries)
    (fit : keeps_tables s.entries t.entries l ≡ true)
    (pairs_fit : pairs (λ p q. beq (equal s p q) (equal t (carried l p) (carried l q))) (points_of s t l) ≡ true) where
  forth : ℕ → ℕ
  forth e = entry_at l e

  abbrev back : ℕ → ℕ
  back x = place_of x 0 l

  there_is : (x : ℕ) → x < length t.entries → IsAt x 0 l
  there_is x less = place-is x 0 l (has-each (length t.entries) l all each x less)

  carries : (p : Point) → IsIn (length s.entries) p → carried l p ≡ moved (λ e. entry_at l e) p
  carries (column e c) i = refl
  carries (literal a) i = refl

  tables : (e : ℕ) → e < length s.entries → entry_of t.entries (entry_at l e) ≡ entry_of s.entries e
  tables e less = tables-of s.entries t.entries l e fit (omega (arith, less, each, as_many))

  back_forth : (e : ℕ) → e < length s.entries → place_of (entry_at l e) 0 l ≡ e
  back_forth e less = place-at (length t.entries) l 0 e all (omega (arith, less, each, as_many)) ∙ zero_and e
    where
      zero_and : (e : ℕ) → 0 + e ≡ e
      zero_and e = omega arith

  point-of_s : (p : Point) → In p (sides s.equalities) → In p (points_of s t l)
  point-of_s (column e c) i =
      let k = whole_s.sides_in (column e c) i in
      let z : 0 + e ≡ e = omega arith in
      in-left (column e c) (columns_of_first 0 (length l) s.entries) (literals s t)
      (subst (λ x. In (column x c) (columns_of_first 0 (length l) s.entries)) z (entry-column s.entries 0 e c (length l) k.0 (omega (arith, k.0, each, as_many)) k.1))
  point-of_s (literal a) i =
      in-right (literal a) (columns_of_first 0 (length l) s.entries) (literals s t) (only-in (literal a) (sides s.equalities ++ sides t.equalities) (in-left (literal a) (sides s.equalities) (sides t.equalities) i) refl)

  point-of_t : (p : Point) → IsIn (length s.entries) p → In (moved (λ e. entry_at l e) p) (sides t.equalities) → In p (points_of s t l)
  point-of_t (column e c) less i =
      let k = whole_t.sides_in (column (entry_at l e) c) i in
      let z : 0 + e ≡ e = omega arith in
      let wide : c < (entry_of s.entries e).columns = subst (λ x. c < x.columns) (tables e less) k.1 in
      in-left (column e c) (columns_of_first 0 (length l) s.entries) (literals s t)
      (subst (λ x. In (column x c) (columns_of_first 0 (length l) s.entries)) z (entry-column s.entries 0 e c (length l) less (omega (arith, less, each, as_many)) wide))
  point-of_t (literal a) less i =
      in-right (literal a) (columns_of_first 0 (length l) s.entries) (literals s t) (only-in (literal a) (sides s.equalities ++ sides t.equalities) (in-right (literal a) (sides s.equalities) (sides t.equalities) i) refl)

  test-of : (p q : Point) → In p (points_of s t l) → In q (points_of s t l) → beq (equal s p q) (equal t (carried l p) (carried l q)) ≡ true
  test-of p q i j =
      every-in (λ r. beq (equal s p r) (equal t (carried l p) (carried l r))) (points_of s t l) q
      (every-in (λ r. list_all (λ r'. beq (equal s r r') (equal t (carried l r) (carried l r'))) (points_of s t l)) (points_of s t l) p pairs_fit i) j

  iff-forth : (a b : Bool) → beq a b ≡ true → a ≡ true → b ≡ true
  iff-forth true true h e = refl
  iff-forth true false h e = h
  iff-forth false b h e = false-true e

  iff-back : (a b : Bool) → beq a b ≡ true → b ≡ true → a ≡ true
  iff-back true b h e = refl
  iff-back false true h e = h
  iff-back false false h e = e

  classes : (p q : Point) → IsIn (length s.entries) p → IsIn (length s.entries) q → Equal s p q ↔ Equal t (moved (λ e. entry_at l e) p) (moved (λ e. entry_at l e) q)
  classes p q i j = (to, from)
    where
      to : Equal s p q → Equal t (moved (λ e. entry_at l e) p) (moved (λ e. entry_at l e) q)
      to h = elim (equal-cases s p q h) [
        | inl same ↦ subst (λ x. Equal t (moved (λ e. entry_at l e) p) (moved (λ e. entry_at l e) x)) same (rel.itself (moved (λ e. entry_at l e) p))
        | inr ms ↦
            let k = iff-forth (equal s p q) (equal t (carried l p) (carried l q)) (test-of p q (point-of_s p ms.0) (point-of_s q ms.1)) (tested s p q h) in
            subst (λ x. Equal t x (moved (λ e. entry_at l e) q)) (carries p i) (subst (λ y. Equal t (carried l p) y) (carries q j) (shown t (carried l p) (carried l q) k))
      ]

      from : Equal t (moved (λ e. entry_at l e) p) (moved (λ e. entry_at l e) q) → Equal s p q
      from h = elim (equal-cases t (moved (λ e. entry_at l e) p) (moved (λ e. entry_at l e) q) h) [
        | inl same ↦ subst (λ x. Equal s p x) (moved-injective (λ e. entry_at l e) (λ x. place_of x 0 l) (length s.entries) p q back_forth i j same) (rel.itself p)
        | inr ms ↦
            let k : equal t (carried l p) (carried l q) ≡ true =
            tested t (carried l p) (carried l q) (subst (λ x. Equal t x (carried l q)) (sym (carries p i)) (subst (λ y. Equal t (moved (λ e. entry_at l e) p) y) (sym (carries q j)) h)) in
            shown s p q (iff-back (equal s p q) (equal t (carried l p) (carried l q)) (test-of p q (point-of_t p i ms.0) (point-of_t q j ms.1)) k)
      ]

  back-carries : (p : Point) → IsIn (length t.entries) p → carried (back_from 0 (length l) l) p ≡ moved (λ x. place_of x 0 l) p
  back-carries (column x c) i = ap (λ y. column y c) (back-at l 0 (length l) x (omega (arith, i, each)) ∙ ap (λ y. place_of y 0 l) (zero_and x))
    where
      zero_and : (e : ℕ) → 0 + e ≡ e
      zero_and e = omega arith
  back-carries (literal a) i = refl

  pub pairing-by : outputs_carried s t l ≡ true → marks_carried s t l ≡ true → marks_carried t s (back_from 0 (length l) l) ≡ true → Pairing s t (λ e. entry_at l e) (λ x. place_of x 0 l)
  pairing-by outputs forth_marks back_marks = record {
    as_many = as_many;
    forth_in = λ e less. at-below (length t.entries) l e all (omega (arith, less, each, as_many));
    back_in = λ x less. let k = there_is x less in omega (arith, k.place, k.below, each, as_many);
    back_forth = back_forth;
    forth_back = λ x less. let k = there_is x less in ap (entry_at l) (k.place ∙ zero_and k.e) ∙ k.is;
    tables = tables;
    classes = classes;
    outputs = pairwise-of (λ p q. Equal t (carried l p) q) (λ p q. Equal t (moved (λ e. entry_at l e) p) q) (length s.entries) s.outputs t.outputs whole_s.shape.outputs_in
        (λ p q i e. subst (λ x. Equal t x q) (carries p i) e)
        (both-to (λ p q. equal t (carried l p) q) (λ p q. Equal t (carried l p) q) s.outputs t.outputs (λ p q e. shown t (carried l p) q e) outputs);
    marks_forth = marks-to s t l (λ e. entry_at l e) (length s.entries) carries whole_s.shape.marks_in forth_marks;
    marks_back = marks-to t s (back_from 0 (length l) l) (λ x. place_of x 0 l) (length t.entries) back-carries whole_t.shape.marks_in back_marks;
  }
    where
      zero_and : (e : ℕ) → 0 + e ≡ e
      zero_and e = omega arith
