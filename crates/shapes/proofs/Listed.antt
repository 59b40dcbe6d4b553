-- Two shapes that are alike by a bijection are alike by the list of its values, which the search tries.
use Rattle.std.proofs.Common.{◌≡◌, ◌≢◌, ℕ, zero, suc, ◌+◌, ◌<◌, ◌≤◌, ◌⊎◌, inl, inr, Bool, true, false, List, [], ◌∷◌, ◌++◌, length, map, refl, ap, sym, ◌∙◌, subst, arith}
use Rattle.std.specs.Prelude.{nat_eq, nat_lt, ◌&&◌, ◌||◌, not}
use Rattle.std.proofs.lemmas.Bool.{cases_Bool}
use Rattle.std.proofs.lemmas.Bool.Decides.{nat_tests}
use Rattle.std.specs.List.{list_all, list_any}
use Rattle.std.specs.Bool.{beq}
use Rattle.shapes.specs.Tests.{has, same_kind, same_entry, equal, both, entry_at, carried, keeps_tables, pairs, points_of, literals, columns_of_first, fits, outputs_carried, marks_carried, mark_of, either_order, points_equal, all_differ, place_of, back_from, is_literal, makes_alike}
use Rattle.shapes.specs.Shapes.{Entry, Point, column, literal, Kind, holds, fails, differ, Mark, Shape, entry_of, sides, turned, IsIn, AllIn, IsShape, MarkIn, here, there, In}
use Rattle.shapes.specs.Alike.{Pairing, Equal, moved, Pairwise, one_more, SamePoints, FoundMark}
use Rattle.shapes.proofs.Least.{tested, shown}
use Rattle.shapes.proofs.Found.{ByList, in-every, both-and, in-either, first-columns, only-literals}

iff-true : (a b : Bool) → (a ≡ true → b ≡ true) → (b ≡ true → a ≡ true) → beq a b ≡ true
iff-true true true forth back = refl
iff-true true false forth back = forth refl
iff-true false true forth back = absurd (let e : false ≡ true = back refl in grind arith)
iff-true false false forth back = refl

-- ---- the list of a function's values
abbrev pub listed : (ℕ → ℕ) → ℕ → ℕ → List ℕ
listed f e zero = []
listed f e (suc many) = f e ∷ listed f (e + 1) many

long : (f : ℕ → ℕ) (e many : ℕ) → length (listed f e many) ≡ many
long f e zero = refl
long f e (suc many) = ap suc (long f (e + 1) many)

at-listed : (f : ℕ → ℕ) (b many e : ℕ) → e < many → entry_at (listed f b many) e ≡ f (b + e)
at-listed f b zero e less = absurd (omega arith)
at-listed f b (suc many) zero less = ap f (omega arith)
at-listed f b (suc many) (suc e) less = at-listed f (b + 1) many e (omega arith) ∙ ap f (omega arith)

every-listed : (test : ℕ → Bool) (f : ℕ → ℕ) (b many : ℕ) → ((e : ℕ) → b ≤ e → e < b + many → test (f e) ≡ true) → list_all test (listed f b many) ≡ true
every-listed test f b zero each = refl
every-listed test f b (suc many) each =
    both-and (test (f b)) (list_all test (listed f (b + 1) many)) (each b (omega arith) (omega arith)) (every-listed test f (b + 1) many (λ e low high. each e (omega arith) (omega arith)))

-- a value that is not among them
has-none : (f : ℕ → ℕ) (x b many : ℕ) → ((e : ℕ) → b ≤ e → e < b + many → x ≢ f e) → has x (listed f b many) ≡ false
has-none f x b zero other = refl
has-none f x b (suc many) other =
    let one : nat_eq x (f b) ≡ false = let ne : x ≢ f b = other b (omega arith) (omega arith) in grind (arith, nat_tests) in
    rw one (has-none f x (b + 1) many (λ e low high. other e (omega arith) (omega arith)))

differ-listed : (f : ℕ → ℕ) (b many : ℕ) → ((e d : ℕ) → b ≤ e → e < d → d < b + many → f e ≢ f d) → all_differ (listed f b many) ≡ true
differ-listed f b zero apart = refl
differ-listed f b (suc many) apart =
    let new : has (f b) (listed f (b + 1) many) ≡ false = has-none f (f b) (b + 1) many (λ e low high. apart b e (omega arith) (omega arith) (omega arith)) in
    both-and (not (has (f b) (listed f (b + 1) many))) (all_differ (listed f (b + 1) many)) (rw new refl)
    (differ-listed f (b + 1) many (λ e d low less high. apart e d (omega arith) less (omega arith)))

below_or_same : (b e : ℕ) → b ≤ e → (b ≡ e) ⊎ (b < e)
below_or_same b e low = elim (cases_Bool (nat_eq b e)) [ inl same ↦ inl (grind (arith, nat_tests)) | inr isnt ↦ inr (let ne : b ≢ e = grind (arith, nat_tests) in omega arith) ]

place-listed : (f : ℕ → ℕ) (x i b many e : ℕ) → ((d c : ℕ) → b ≤ d → d < c → c < b + many → f d ≢ f c) → b ≤ e → e < b + many → f e ≡ x → place_of x i (listed f b many) + b ≡ i + e
place-listed f x i b zero e apart low high is = absurd (omega arith)
place-listed f x i b (suc many) e apart low high is = elim (below_or_same b e low) [
  | inl same ↦
      let this : nat_eq x (f b) ≡ true = let v : x ≡ f b = sym is ∙ ap f (sym same) in grind (arith, nat_tests) in
      rw this (omega (arith, same))
  | inr less ↦
      let ne : f b ≢ f e = apart b e (omega arith) less high in
      let other : nat_eq x (f b) ≡ false = let v : x ≢ f b = (λ h. ne (sym (is ∙ h))) in grind (arith, nat_tests) in
      let rest : place_of x (i + 1) (listed f (b + 1) many) + (b + 1) ≡ i + 1 + e =
      place-listed f x (i + 1) (b + 1) many e (λ d c l h k. apart d c (omega arith) h (omega arith)) (omega (arith, less)) (omega arith) is in
      rw other (omega (arith, rest))
]

-- ---- the inverse, as a list
back-listed : (f g : ℕ → ℕ) (m b many : ℕ) → ((d c : ℕ) → 0 ≤ d → d < c → c < 0 + m → f d ≢ f c) → ((x : ℕ) → x < m → g x < m) → ((x : ℕ) → x < m → f (g x) ≡ x) → b + many ≤ m
    → back_from b many (listed f 0 m) ≡ listed g b many
back-listed f g m b zero apart in_g inverse within = refl
back-listed f g m b (suc many) apart in_g inverse within =
    let e : place_of b 0 (listed f 0 m) + 0 ≡ 0 + g b = place-listed f b 0 0 m (g b) apart (omega arith) (let k = in_g b (omega arith) in omega (arith, k)) (inverse b (omega arith)) in
    ap (λ x. x ∷ back_from (b + 1) many (listed f 0 m)) (omega (arith, e))
    ∙ ap (λ l. g b ∷ l) (back-listed f g m (b + 1) many apart in_g inverse (omega arith))

-- ---- carrying by the list and by the function
carried-listed : (f : ℕ → ℕ) (m : ℕ) (p : Point) → IsIn m p → carried (listed f 0 m) p ≡ moved f p
carried-listed f m (column e c) within = ap (λ x. column x c) (at-listed f 0 m e within ∙ ap f (omega arith))
carried-listed f m (literal a) within = refl

tables-listed : (f : ℕ → ℕ) (ss ts : List Entry) (b : ℕ) → ((e : ℕ) → e < length ss → entry_of ts (f (b + e)) ≡ entry_of ss e) → keeps_tables ss ts (listed f b (length ss)) ≡ true
tables-listed f [] ts b same = refl
tables-listed f (s ∷ ss) ts b same =
    both-and (same_entry s (entry_of ts (f b))) (keeps_tables ss ts (listed f (b + 1) (length ss))) here_same
    (tables-listed f ss ts (b + 1) (λ e less. ap (λ x. entry_of ts (f x)) (omega arith) ∙ same (suc e) (omega arith)))
  where
    itself : (a : Entry) → same_entry a a ≡ true
    itself a = both-and (nat_eq a.table a.table) (nat_eq a.columns a.columns) (grind (arith, nat_tests)) (grind (arith, nat_tests))

    here_same : same_entry s (entry_of ts (f b)) ≡ true
    here_same = let e : s ≡ entry_of ts (f b) = sym (ap (λ x. entry_of ts (f x)) (omega arith) ∙ same 0 (omega arith)) in subst (λ x. same_entry s x ≡ true) e (itself s)

both-pairwise : (test : Point → Point → Bool) (P : Point → Point → Type 0) (m : ℕ) (ps qs : List Point) → AllIn m ps → ((p q : Point) → IsIn m p → P p q → test p q ≡ true)
    → Pairwise P ps qs → both test ps qs ≡ true
both-pairwise test P m [] [] a one h = refl
both-pairwise test P m [] (q ∷ qs) a one h = elim h [ ]
both-pairwise test P m (p ∷ ps) [] a one h = elim h [ ]
both-pairwise test P m (p ∷ ps) (q ∷ qs) a one (one_more h hs) =
    both-and (test p q) (both test ps qs) (one p q a.0 h) (both-pairwise test P m ps qs a.1 one hs)

-- ---- marks
some-mark : (test : Mark → Bool) (m : Mark) (ms : List Mark) → MarkIn m ms → test m ≡ true → list_any test ms ≡ true
some-mark test m ms (here {ms = rest}) h = rw h refl
some-mark test m ms (there {n = n} {ms = rest} i) h = elim (cases_Bool (test n)) [ inl is ↦ rw is refl | inr isnt ↦ rw isnt (some-mark test m rest i h) ]

every-mark : (test : Mark → Bool) (ms : List Mark) → ((m : Mark) → MarkIn m ms → test m ≡ true) → list_all test ms ≡ true
every-mark test [] each = refl
every-mark test (m ∷ ms) each = both-and (test m) (list_all test ms) (each m here) (every-mark test ms (λ n i. each n (there i)))

kind-itself : (k : Kind) → same_kind k k ≡ true
kind-itself (holds p) = grind (arith, nat_tests)
kind-itself (fails p) = grind (arith, nat_tests)
kind-itself differ = refl

or-left : (a b : Bool) → a ≡ true → (a || b) ≡ true
or-left a b h = rw h refl

or-right : (a b : Bool) → b ≡ true → (a || b) ≡ true
or-right true b h = refl
or-right false b h = h

pub map-turned : (f : Point → Point) (ps : List Point) → turned (map f ps) ≡ map f (turned ps)
map-turned f [] = refl
map-turned f (p ∷ []) = refl
map-turned f (p ∷ q ∷ []) = refl
map-turned f (p ∷ q ∷ r ∷ ps) = refl

pub all-turned : (m : ℕ) (ps : List Point) → AllIn m ps → AllIn m (turned ps)
all-turned m [] a = a
all-turned m (p ∷ []) a = a
all-turned m (p ∷ q ∷ []) a = (a.1.0, (a.0, tt))
all-turned m (p ∷ q ∷ r ∷ ps) a = a

pub both-map : (test : Point → Point → Bool) (f : Point → Point) (ps qs : List Point) → both test (map f ps) qs ≡ both (λ p q. test (f p) q) ps qs
both-map test f [] [] = refl
both-map test f [] (q ∷ qs) = refl
both-map test f (p ∷ ps) [] = refl
both-map test f (p ∷ ps) (q ∷ qs) = ap (λ b. test (f p) q && b) (both-map test f ps qs)

module _ (s t : Shape) (f : ℕ → ℕ) where
  m : ℕ
  m = length s.entries

  abbrev list_of : List ℕ
  list_of = listed f 0 (length s.entries)

  points-listed : (ps qs : List Point) → AllIn (length s.entries) ps → Pairwise (λ p q. Equal t (moved f p) q) ps qs → both (equal t) (map (carried (listed f 0 (length s.entries))) ps) qs ≡ true
  points-listed ps qs a h =
      both-map (equal t) (carried (listed f 0 (length s.entries))) ps qs
      ∙ both-pairwise (λ p q. equal t (carried (listed f 0 (length s.entries)) p) q) (λ p q. Equal t (moved f p) q) (length s.entries) ps qs a
      (λ p q i e. subst (λ x. equal t x q ≡ true) (sym (carried-listed f (length s.entries) p i)) (tested t (moved f p) q e)) h

  order-listed : (kind : Kind) (ps qs : List Point) → AllIn (length s.entries) ps → SamePoints kind (λ p q. Equal t (moved f p) q) ps qs
      → either_order t kind (map (carried (listed f 0 (length s.entries))) ps) qs ≡ true
  order-listed (holds p) ps qs a h = points-listed ps qs a h
  order-listed (fails p) ps qs a h = points-listed ps qs a h
  order-listed differ ps qs a (inl h) =
      or-left (points_equal t (map (carried (listed f 0 (length s.entries))) ps) qs) (points_equal t (turned (map (carried (listed f 0 (length s.entries))) ps)) qs) (points-listed ps qs a h)
  order-listed differ ps qs a (inr h) =
      or-right (points_equal t (map (carried (listed f 0 (length s.entries))) ps) qs) (points_equal t (turned (map (carried (listed f 0 (length s.entries))) ps)) qs)
      (subst (λ (xs : List Point). both (equal t) xs qs ≡ true) (sym (map-turned (carried (listed f 0 (length s.entries))) ps))
      (points-listed (turned ps) qs (all-turned (length s.entries) ps a) h))

  marks-listed : IsShape s → ((k : Mark) → MarkIn k s.marks → FoundMark s t f k) → marks_carried s t (listed f 0 (length s.entries)) ≡ true
  marks-listed is found =
      every-mark (λ k. list_any (mark_of t (record { kind = k.kind; points = map (carried (listed f 0 (length s.entries))) k.points })) t.marks) s.marks (λ k i.
      let a = found k i in
      let kinds : same_kind k.kind a.mark.kind ≡ true = subst (λ x. same_kind k.kind x ≡ true) (sym a.kind) (kind-itself k.kind) in
      let points : either_order t a.mark.kind (map (carried (listed f 0 (length s.entries))) k.points) a.mark.points ≡ true =
      subst (λ x. either_order t x (map (carried (listed f 0 (length s.entries))) k.points) a.mark.points ≡ true) (sym a.kind) (order-listed k.kind k.points a.mark.points (is.marks_in k i) a.same) in
      some-mark (mark_of t (record { kind = k.kind; points = map (carried (listed f 0 (length s.entries))) k.points })) a.mark t.marks a.is_in
      (both-and (same_kind k.kind a.mark.kind) (either_order t a.mark.kind (map (carried (listed f 0 (length s.entries))) k.points) a.mark.points) kinds points))

-- ---- the whole list
point-in : (s t : Shape) (l : List ℕ) (p : Point) → In p (points_of s t l) → IsIn (length l) p
point-in s t l p i = elim (in-either p (columns_of_first 0 (length l) s.entries) (literals s t) i) [
  | inl h ↦ let k = first-columns p 0 (length l) s.entries h in subst (λ x. IsIn (length l) x) (sym k.is) (omega (arith, k.below))
  | inr h ↦ literal-in p (only-literals p (sides s.equalities ++ sides t.equalities) h)
]
  where
    literal-in : (p : Point) → is_literal p ≡ true → IsIn (length l) p
    literal-in (literal a) h = tt
    literal-in (column e c) h = absurd (let k : false ≡ true = h in grind arith)

module _ (s t : Shape) (f g : ℕ → ℕ) (h : Pairing s t f g) where
  whole : List ℕ
  whole = listed f 0 (length s.entries)

  pairs-listed : pairs (λ p q. beq (equal s p q) (equal t (carried (listed f 0 (length s.entries)) p) (carried (listed f 0 (length s.entries)) q)))
      (points_of s t (listed f 0 (length s.entries))) ≡ true
  pairs-listed =
      in-every _ (points_of s t (listed f 0 (length s.entries))) (λ p i. in-every _ (points_of s t (listed f 0 (length s.entries))) (λ q j. one p q (within p i) (within q j)))
    where
      within : (p : Point) → In p (points_of s t (listed f 0 (length s.entries))) → IsIn (length s.entries) p
      within p i = subst (λ n. IsIn n p) (long f 0 (length s.entries)) (point-in s t (listed f 0 (length s.entries)) p i)

      one : (p q : Point) → IsIn (length s.entries) p → IsIn (length s.entries) q
          → beq (equal s p q) (equal t (carried (listed f 0 (length s.entries)) p) (carried (listed f 0 (length s.entries)) q)) ≡ true
      one p q i j =
          subst (λ x. beq (equal s p q) (equal t x (carried (listed f 0 (length s.entries)) q)) ≡ true) (sym (carried-listed f (length s.entries) p i))
          (subst (λ y. beq (equal s p q) (equal t (moved f p) y) ≡ true) (sym (carried-listed f (length s.entries) q j))
          (iff-true (equal s p q) (equal t (moved f p) (moved f q))
          (λ a. tested t (moved f p) (moved f q) ((h.classes p q i j).0 (shown s p q a)))
          (λ b. tested s p q ((h.classes p q i j).1 (shown t (moved f p) (moved f q) b)))))

  apart : (d c : ℕ) → 0 ≤ d → d < c → c < 0 + length s.entries → f d ≢ f c
  apart d c low less high e =
      let a : g (f d) ≡ d = h.back_forth d (omega (arith, less, high)) in
      let b : g (f c) ≡ c = h.back_forth c (omega (arith, high)) in
      let both_same : g (f d) ≡ g (f c) = ap g e in
      absurd (omega (arith, a, b, both_same, less))

  -- alike by a bijection, alike by the list that the search comes to
  pub by-list : IsShape s → IsShape t → ByList s t
  unfolding makes_alike fits
  by-list is_s is_t = record {
    entries = listed f 0 (length s.entries);
    each = long f 0 (length s.entries) ∙ h.as_many;
    as_many = h.as_many;
    once = differ-listed f 0 (length s.entries) (λ e d low less high. apart e d low less high);
    in_range = every-listed (λ x. nat_lt x (length t.entries)) f 0 (length s.entries) (λ e low high. below (f e) (h.forth_in e (omega (arith, high))));
    alike = both-and _ _ (both-and _ _ (both-and _ _ (both-and _ _ tables pairs-listed) outputs) forth_marks) back_marks;
  }
    where
      below : (x : ℕ) → x < length t.entries → nat_lt x (length t.entries) ≡ true
      below x less = grind (arith, nat_tests)

      tables : keeps_tables s.entries t.entries (listed f 0 (length s.entries)) ≡ true
      tables = tables-listed f s.entries t.entries 0 (λ e less. ap (λ x. entry_of t.entries (f x)) (omega arith) ∙ h.tables e less)

      outputs : outputs_carried s t (listed f 0 (length s.entries)) ≡ true
      outputs = both-pairwise _ (λ p q. Equal t (moved f p) q) (length s.entries) s.outputs t.outputs is_s.outputs_in
          (λ p q i e. subst (λ x. equal t x q ≡ true) (sym (carried-listed f (length s.entries) p i)) (tested t (moved f p) q e)) h.outputs

      forth_marks : marks_carried s t (listed f 0 (length s.entries)) ≡ true
      forth_marks = marks-listed s t f is_s h.marks_forth

      same_back : back_from 0 (length (listed f 0 (length s.entries))) (listed f 0 (length s.entries)) ≡ listed g 0 (length t.entries)
      same_back =
          ap (λ n. back_from 0 n (listed f 0 (length s.entries))) (long f 0 (length s.entries))
          ∙ back-listed f g (length s.entries) 0 (length s.entries) apart (λ x less. h.back_in x (omega (arith, less, h.as_many)))
          (λ x less. h.forth_back x (omega (arith, less, h.as_many))) (omega arith)
          ∙ ap (listed g 0) h.as_many

      back_marks : marks_carried t s (back_from 0 (length (listed f 0 (length s.entries))) (listed f 0 (length s.entries))) ≡ true
      back_marks = subst (λ (l : List ℕ). marks_carried t s l ≡ true) (sym same_back) (marks-listed t s g is_t h.marks_back)
