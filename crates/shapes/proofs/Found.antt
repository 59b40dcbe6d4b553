-- A search for a bijection ends where two shapes are alike.
use Rattle.std.proofs.Common.{◌≡◌, ℕ, zero, suc, ◌+◌, ◌<◌, ◌≤◌, ◌⊎◌, inl, inr, Bool, true, false, List, [], ◌∷◌, ◌++◌, length, refl, ap, sym, ◌∙◌, append_assoc, subst, arith}
use Rattle.std.specs.Prelude.{nat_eq, nat_lt, ◌&&◌, not}
use Rattle.std.proofs.lemmas.Bool.{cases_Bool}
use Rattle.std.proofs.lemmas.Bool.Decides.{nat_tests}
use Rattle.std.proofs.lemmas.List.{length-append}
use Rattle.std.specs.List.{filter, list_all}
use Rattle.std.specs.Bool.{beq}
use Rattle.shapes.specs.Tests.{has, is_literal, literals, equal, entry_at, carried, columns_from, columns_of_first, keeps_tables, same_entry, pairs, points_of, fits, outputs_carried, marks_carried, makes_alike, back_from, all_differ}
use Rattle.shapes.specs.Search.{searched, fresh}
use Rattle.shapes.proofs.Complete.{IsThrough, GoesOn, complete}
use Rattle.shapes.proofs.Bounds.{has-appended}
use Rattle.shapes.specs.Shapes.{Entry, In, first, later, Point, column, literal, Shape, sides, entry_of}

-- ---- tests over lists
pub and-both : (a b : Bool) → (a && b) ≡ true → (a ≡ true) × (b ≡ true)
and-both true b h = (refl, h)
and-both false b h = absurd (let e : false ≡ true = h in grind arith)

pub both-and : (a b : Bool) → a ≡ true → b ≡ true → (a && b) ≡ true
both-and a b h k = rw (h, k) refl

pub every-in : (test : Point → Bool) (ps : List Point) (p : Point) → list_all test ps ≡ true → In p ps → test p ≡ true
every-in test ps p h (first {ps = rest}) = (and-both (test p) (list_all test rest) h).0
every-in test ps p h (later {q = q} {ps = rest} i) = every-in test rest p ((and-both (test q) (list_all test rest) h).1) i

pub in-every : (test : Point → Bool) (ps : List Point) → ((p : Point) → In p ps → test p ≡ true) → list_all test ps ≡ true
in-every test [] each = refl
in-every test (p ∷ ps) each = both-and (test p) (list_all test ps) (each p first) (in-every test ps (λ q i. each q (later i)))

pub in-left : (p : Point) (ps qs : List Point) → In p ps → In p (ps ++ qs)
in-left p ps qs first = first
in-left p ps qs (later {ps = rest} i) = later (in-left p rest qs i)

pub in-right : (p : Point) (ps qs : List Point) → In p qs → In p (ps ++ qs)
in-right p [] qs i = i
in-right p (q ∷ ps) qs i = later (in-right p ps qs i)

pub in-either : (p : Point) (ps qs : List Point) → In p (ps ++ qs) → In p ps ⊎ In p qs
in-either p [] qs i = inr i
in-either p (q ∷ ps) qs first = inl first
in-either p (q ∷ ps) qs (later i) = elim (in-either p ps qs i) [ inl h ↦ inl (later h) | inr h ↦ inr h ]

-- ---- points of the first entries
pub record IsColumn (p : Point) (low high : ℕ) : Type 0 where
  pub e : ℕ
  pub c : ℕ
  pub is : p ≡ column e c
  pub from : low ≤ e
  pub below : e < high

pub column-of : (p : Point) (e c many : ℕ) → In p (columns_from e c many) → IsColumn p e (e + 1)
column-of p e c zero i = elim i [ ]
column-of p e c (suc many) first = record { e = e; c = c; is = refl; from = omega arith; below = omega arith }
column-of p e c (suc many) (later i) = column-of p e (c + 1) many i

pub first-columns : (p : Point) (e many : ℕ) (entries : List Entry) → In p (columns_of_first e many entries) → IsColumn p e (e + many)
first-columns p e zero entries i = elim i [ ]
first-columns p e (suc many) [] i = elim i [ ]
first-columns p e (suc many) (entry ∷ entries) i = elim (in-either p (columns_from e 0 entry.columns) (columns_of_first (e + 1) many entries) i) [
  | inl h ↦ let k = column-of p e 0 entry.columns h in record { e = k.e; c = k.c; is = k.is; from = k.from; below = omega (arith, k.below) }
  | inr h ↦ let k = first-columns p (e + 1) many entries h in record { e = k.e; c = k.c; is = k.is; from = omega (arith, k.from); below = omega (arith, k.below) }
]

more-columns : (p : Point) (e many more : ℕ) (entries : List Entry) → In p (columns_of_first e many entries) → In p (columns_of_first e (many + more) entries)
more-columns p e zero more entries i = elim i [ ]
more-columns p e (suc many) more [] i = elim i [ ]
more-columns p e (suc many) more (entry ∷ entries) i =
    let one : suc many + more ≡ suc (many + more) = omega arith in
    rw one (elim (in-either p (columns_from e 0 entry.columns) (columns_of_first (e + 1) many entries) i) as (λ _. In p (columns_from e 0 entry.columns ++ columns_of_first (e + 1) (many + more) entries)) [
      | inl h ↦ in-left p (columns_from e 0 entry.columns) (columns_of_first (e + 1) (many + more) entries) h
      | inr h ↦ in-right p (columns_from e 0 entry.columns) (columns_of_first (e + 1) (many + more) entries) (more-columns p (e + 1) many more entries h)
    ])

pub only-literals : (p : Point) (ps : List Point) → In p (filter is_literal ps) → is_literal p ≡ true
only-literals p [] i = elim i [ ]
only-literals p (literal a ∷ ps) first = refl
only-literals p (literal a ∷ ps) (later i) = only-literals p ps i
only-literals p (column e c ∷ ps) i = only-literals p ps i

pub entry-front : (l more : List ℕ) (e : ℕ) → e < length l → entry_at (l ++ more) e ≡ entry_at l e
entry-front [] more e less = absurd (omega arith)
entry-front (x ∷ l) more zero less = refl
entry-front (x ∷ l) more (suc e) less = entry-front l more e (omega arith)

pub carried-literal : (l m : List ℕ) (p : Point) → is_literal p ≡ true → carried l p ≡ carried m p
carried-literal l m (literal a) h = refl
carried-literal l m (column e c) h = absurd (let k : false ≡ true = h in grind arith)

module _ (s t : Shape) (l more : List ℕ) where
  pub front-point : (p : Point) → In p (points_of s t l) → In p (points_of s t (l ++ more)) × (carried (l ++ more) p ≡ carried l p)
  front-point p i = elim (in-either p (columns_of_first 0 (length l) s.entries) (literals s t) i) [
    | inl h ↦
        let k = first-columns p 0 (length l) s.entries h in
        let there = in-left p (columns_of_first 0 (length l + length more) s.entries) (literals s t) (more-columns p 0 (length l) (length more) s.entries h) in
        let long : length l + length more ≡ length (l ++ more) = sym (length-append l more) in (
          subst (λ n. In p (columns_of_first 0 n s.entries ++ literals s t)) long there,
          ap (carried (l ++ more)) k.is ∙ ap (λ x. column x k.c) (entry-front l more k.e (omega (arith, k.below))) ∙ sym (ap (carried l) k.is),
        )
    | inr h ↦ (
      in-right p (columns_of_first 0 (length (l ++ more)) s.entries) (literals s t) h,
      carried-literal (l ++ more) l p (only-literals p (sides s.equalities ++ sides t.equalities) h),
    )
  ]

  abbrev test : List ℕ → Point → Point → Bool
  test k p q = beq (equal s p q) (equal t (carried k p) (carried k q))

  front-pairs : pairs (test (l ++ more)) (points_of s t (l ++ more)) ≡ true → pairs (test l) (points_of s t l) ≡ true
  front-pairs h =
      in-every (λ p. list_all (λ q. test l p q) (points_of s t l)) (points_of s t l) (λ p i. in-every (λ q. test l p q) (points_of s t l) (λ q j.
      let a = front-point p i in let b = front-point q j in
      let whole = every-in (λ r. test (l ++ more) p r) (points_of s t (l ++ more)) q
      (every-in (λ r. list_all (λ r'. test (l ++ more) r r') (points_of s t (l ++ more))) (points_of s t (l ++ more)) p h a.0) b.0 in
      subst (λ (y : Point). beq (equal s p q) (equal t (carried l p) y) ≡ true) b.1
      (subst (λ (x : Point). beq (equal s p q) (equal t x (carried (l ++ more) q)) ≡ true) a.1 whole)))

front-tables : (ss ts : List Entry) (l more : List ℕ) → keeps_tables ss ts (l ++ more) ≡ true → keeps_tables ss ts l ≡ true
front-tables ss ts [] more h = refl
front-tables [] ts (x ∷ l) more h = h
front-tables (s ∷ ss) ts (x ∷ l) more h =
    let parts = and-both (same_entry s (entry_of ts x)) (keeps_tables ss ts (l ++ more)) h in
    both-and (same_entry s (entry_of ts x)) (keeps_tables ss ts l) parts.0 (front-tables ss ts l more parts.1)

-- a front of a list that fits does so
pub fits-front : (s t : Shape) (l more : List ℕ) → fits s t (l ++ more) ≡ true → fits s t l ≡ true
unfolding fits
fits-front s t l more h =
    let parts = and-both (keeps_tables s.entries t.entries (l ++ more)) (pairs (λ p q. beq (equal s p q) (equal t (carried (l ++ more) p) (carried (l ++ more) q))) (points_of s t (l ++ more))) h in
    both-and (keeps_tables s.entries t.entries l) (pairs (λ p q. beq (equal s p q) (equal t (carried l p) (carried l q))) (points_of s t l))
    (front-tables s.entries t.entries l more parts.0) (front-pairs s t l more parts.1)

-- a list of as many entries of t, each once, that makes the two alike
pub record ByList (s t : Shape) : Type 0 where
  pub entries : List ℕ
  pub each : length entries ≡ length t.entries
  pub as_many : length s.entries ≡ length t.entries
  pub once : all_differ entries ≡ true
  pub in_range : list_all (λ x. nat_lt x (length t.entries)) entries ≡ true
  pub alike : makes_alike s t entries ≡ true

-- ---- the search
abbrev Apart : List ℕ → List ℕ → Type 0
Apart l [] = Unit {0}
Apart l (x ∷ e) = (has x l ≡ false) × Apart l e

not-false : (b : Bool) → not b ≡ true → b ≡ false
not-false true h = absurd (let e : false ≡ true = h in grind arith)
not-false false h = refl

false-not : (b : Bool) → b ≡ false → not b ≡ true
false-not b h = rw h refl

has-not : (x y : ℕ) (l : List ℕ) → has x (y ∷ l) ≡ false → (nat_eq x y ≡ false) × (has x l ≡ false)
has-not x y l h = elim (cases_Bool (nat_eq x y)) [ inl is ↦ absurd (let e : true ≡ false = rw is at h in grind arith) | inr isnt ↦ (isnt, rw isnt at h) ]

turned-eq : (x y : ℕ) → nat_eq x y ≡ false → nat_eq y x ≡ false
turned-eq x y h = grind (arith, nat_tests)

apart-next : (l : List ℕ) (x : ℕ) (e : List ℕ) → Apart l e → has x e ≡ false → Apart (l ++ x ∷ []) e
apart-next l x [] apart new = tt
apart-next l x (y ∷ e) apart new =
    let parts = has-not x y e new in (has-appended y x l (turned-eq x y parts.0) apart.0, apart-next l x e apart.1 parts.1)

goes-on : (s t : Shape) (width : ℕ) (wanted : List ℕ → Bool) (l e : List ℕ) → Apart l e → all_differ e ≡ true → list_all (λ x. nat_lt x width) e ≡ true → fits s t (l ++ e) ≡ true
    → GoesOn width fresh (fits s t) wanted l e
goes-on s t width wanted l [] apart differ within fit = tt
goes-on s t width wanted l (x ∷ []) apart differ within fit =
    let w = and-both (nat_lt x width) true within in (less x width w.0, false-not (has x l) apart.0)
  where
    less : (x width : ℕ) → nat_lt x width ≡ true → x < width
    less x width h = grind (arith, nat_tests)
goes-on s t width wanted l (x ∷ y ∷ more) apart differ within fit =
    let w = and-both (nat_lt x width) (list_all (λ z. nat_lt z width) (y ∷ more)) within in
    let d = and-both (not (has x (y ∷ more))) (all_differ (y ∷ more)) differ in
    let joined : fits s t ((l ++ x ∷ []) ++ y ∷ more) ≡ true = rw (append_assoc l (x ∷ []) (y ∷ more)) fit in (
      less x width w.0,
      false-not (has x l) apart.0,
      fits-front s t (l ++ x ∷ []) (y ∷ more) joined,
      goes-on s t width wanted (l ++ x ∷ []) (y ∷ more) (apart-next l x (y ∷ more) apart.1 (not-false (has x (y ∷ more)) d.0)) d.1 w.1 joined,
    )
  where
    less : (x width : ℕ) → nat_lt x width ≡ true → x < width
    less x width h = grind (arith, nat_tests)

apart-none : (e : List ℕ) → Apart [] e
apart-none [] = tt
apart-none (x ∷ e) = (refl, apart-none e)

alike_fits : (s t : Shape) (l : List ℕ) → makes_alike s t l ≡ true → fits s t l ≡ true
unfolding makes_alike
alike_fits s t l h =
    (and-both (fits s t l) (outputs_carried s t l)
    ((and-both (fits s t l && outputs_carried s t l) (marks_carried s t l)
    ((and-both (fits s t l && outputs_carried s t l && marks_carried s t l) (marks_carried t s (back_from 0 (length l) l)) h).0)).0)).0

-- where two shapes with an entry are alike, the search ends at a list
pub alike-found : (s t : Shape) (missing : ℕ) → length s.entries ≡ suc missing → ByList s t
    → IsThrough (searched (length t.entries) fresh (fits s t) (makes_alike s t) missing []) → ⊥
alike-found s t missing is alike =
    complete (length t.entries) fresh (fits s t) (makes_alike s t) missing [] alike.entries long
    (goes-on s t (length t.entries) (makes_alike s t) [] alike.entries (apart-none alike.entries) alike.once alike.in_range (alike_fits s t alike.entries alike.alike)) alike.alike
  where
    long : length alike.entries ≡ missing + 1
    long = omega (arith, alike.each, alike.as_many, is)

pub alike-empty_fits : (s t : Shape) → ByList s t → fits s t [] ≡ true
alike-empty_fits s t alike = fits-front s t [] alike.entries (alike_fits s t alike.entries alike.alike)
