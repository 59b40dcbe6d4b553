-- How many lists a search tries at most.
use Rattle.std.proofs.Common.{◌≡◌, ◌≢◌, ℕ, zero, suc, ◌+◌, ◌*◌, ◌<◌, ◌≤◌, inl, inr, Bool, true, false, List, [], ◌∷◌, ◌++◌, length, refl, ap, sym, ◌∙◌, arith}
use Rattle.std.specs.Prelude.{if◌then◌else◌, nat_eq, not}
use Rattle.std.proofs.lemmas.Bool.{cases_Bool}
use Rattle.std.proofs.lemmas.List.{length-append}
use Rattle.std.proofs.lemmas.Bool.Decides.{nat_tests}
use Rattle.shapes.specs.Tests.{has}
use Rattle.shapes.specs.Search.{Outcome, ended, went_on, tries_of, counted, after, through, one_more, at_end, searched, fresh}
use Rattle.shapes.specs.Tried.{tries}

pub counted-adds : (count : ℕ) (o : Outcome) → tries_of (counted count o) ≡ count + tries_of o
counted-adds count (ended l c) = refl
counted-adds count (went_on c) = refl

after-adds : (a b : Outcome) → tries_of (after a b) ≤ tries_of a + tries_of b
after-adds (ended l c) b = omega arith
after-adds (went_on c) b = omega (arith, counted-adds c b)

-- how many numbers of a range have a property
abbrev pub one_if : Bool → ℕ
one_if true = 1
one_if false = 0

abbrev pub many_of : (ℕ → Bool) → ℕ → ℕ → ℕ
many_of p from zero = 0
many_of p from (suc many) = one_if (p from) + many_of p (from + 1) many

through-bounded : (f : ℕ → Outcome) (p : ℕ → Bool) (most from many : ℕ)
    → ((x : ℕ) → from ≤ x → x < from + many → p x ≡ true → tries_of (f x) ≤ most) → ((x : ℕ) → p x ≡ false → tries_of (f x) ≡ 0)
    → tries_of (through f from many) ≤ many_of p from many * most
through-bounded f p most from zero small none = omega arith
through-bounded f p most from (suc many) small none =
    let rest = through-bounded f p most (from + 1) many (λ x low high is. small x (omega arith) (omega arith) is) none in
    let adds = after-adds (f from) (through f (from + 1) many) in
    elim (cases_Bool (p from)) [
      | inl is ↦ rw is (omega (arith, rest, adds, small from (omega arith) (omega arith) is))
      | inr isnt ↦ rw isnt (omega (arith, rest, adds, none from isnt))
    ]

-- ---- lists of different numbers
abbrev pub AllFresh : ℕ → List ℕ → Type 0
AllFresh width [] = Unit {0}
AllFresh width (x ∷ l) = (x < width) × (has x l ≡ false) × AllFresh width l

-- how many of a range are not in the list: one fewer for each member of the list in the range
abbrev in_range : ℕ → ℕ → ℕ → Bool
in_range from many x = if nat_eq x from then true else false

many-same : (p q : ℕ → Bool) (from many : ℕ) → ((x : ℕ) → from ≤ x → x < from + many → p x ≡ q x) → many_of p from many ≡ many_of q from many
many-same p q from zero same = refl
many-same p q from (suc many) same =
    let rest = many-same p q (from + 1) many (λ x low high. same x (omega arith) (omega arith)) in
    rw (same from (omega arith) (omega arith), rest) refl

-- with y taken out, of which p holds
abbrev without : (ℕ → Bool) → ℕ → ℕ → Bool
without p y x = if nat_eq x y then false else p x

many-without : (p : ℕ → Bool) (y from many : ℕ) → from ≤ y → y < from + many → p y ≡ true → many_of p from many ≡ 1 + many_of (without p y) from many
many-without p y from zero low high is = absurd (omega arith)
many-without p y from (suc many) low high is = elim (cases_Bool (nat_eq from y)) [
  | inl here ↦
      let e : from ≡ y = grind (arith, nat_tests) in
      let rest : many_of p (from + 1) many ≡ many_of (without p y) (from + 1) many = many-same p (without p y) (from + 1) many (λ x l h.
      let other : nat_eq x y ≡ false = grind (arith, nat_tests) in rw other refl) in
      let holds : p from ≡ true = ap p e ∙ is in
      rw (here, holds, rest) (omega arith)
  | inr other ↦
      let ne : from ≢ y = grind (arith, nat_tests) in
      let rest = many-without p y (from + 1) many (omega arith) (omega arith) is in
      rw (other, rest) (omega arith)
]

all_of : (from many : ℕ) → many_of (λ x. true) from many ≡ many
all_of from zero = refl
all_of from (suc many) = rw (all_of (from + 1) many) (omega arith)

fresh-first : (y : ℕ) (l : List ℕ) (x : ℕ) → fresh (y ∷ l) x ≡ without (fresh l) y x
fresh-first y l x = elim (cases_Bool (nat_eq x y)) [ inl is ↦ rw is refl | inr isnt ↦ rw isnt refl ]

pub fresh-many : (width : ℕ) (l : List ℕ) → AllFresh width l → many_of (fresh l) 0 width + length l ≡ width
fresh-many width [] all = rw (all_of 0 width) (omega arith)
fresh-many width (y ∷ l) all =
    let rest = fresh-many width l all.2 in
    let once : not (has y l) ≡ true = rw all.1 refl in
    let less = many-without (fresh l) y 0 width (omega arith) (omega (arith, all.0)) once in
    let same = many-same (fresh (y ∷ l)) (without (fresh l) y) 0 width (λ x low high. fresh-first y l x) in
    omega (arith, rest, less, same)

-- ---- one more at the end
pub has-appended : (x y : ℕ) (l : List ℕ) → nat_eq x y ≡ false → has x l ≡ false → has x (l ++ y ∷ []) ≡ false
has-appended x y [] other h = rw other refl
has-appended x y (z ∷ l) other h = elim (cases_Bool (nat_eq x z)) [
  | inl is ↦ absurd (true-false (sym (has-here x z l is) ∙ h))
  | inr isnt ↦ rw isnt (has-appended x y l other (sym (has-there x z l isnt) ∙ h))
]
  where
    has-here : (x z : ℕ) (l : List ℕ) → nat_eq x z ≡ true → has x (z ∷ l) ≡ true
    has-here x z l is = rw is refl

    has-there : (x z : ℕ) (l : List ℕ) → nat_eq x z ≡ false → has x (z ∷ l) ≡ has x l
    has-there x z l isnt = rw isnt refl

    true-false : true ≡ false → ⊥
    true-false e = grind arith

has-not_here : (x z : ℕ) (l : List ℕ) → has x (z ∷ l) ≡ false → (nat_eq x z ≡ false) × (has x l ≡ false)
has-not_here x z l h = elim (cases_Bool (nat_eq x z)) [ inl is ↦ absurd (let e : true ≡ false = rw is at h in grind arith) | inr isnt ↦ (isnt, rw isnt at h) ]

pub fresh-appended : (width y : ℕ) (l : List ℕ) → AllFresh width l → y < width → has y l ≡ false → AllFresh width (l ++ y ∷ [])
fresh-appended width y [] all less once = (less, refl, tt)
fresh-appended width y (z ∷ l) all less once =
    let parts = has-not_here y z l once in
    let ne : y ≢ z = let e = parts.0 in grind (arith, nat_tests) in
    let turned : nat_eq z y ≡ false = grind (arith, nat_tests) in
    (all.0, has-appended z y l turned all.1, fresh-appended width y l all.2 less parts.1)

module _ (width : ℕ) (fits wanted : List ℕ → Bool) where
  if-bounded : (b : Bool) (o : Outcome) (most : ℕ) → tries_of o ≤ most → tries_of (if b then o else went_on 0) ≤ most
  if-bounded true o most h = h
  if-bounded false o most h = omega arith

  end-none : (l : List ℕ) → tries_of (at_end width fresh fits wanted l) ≤ 0
  end-none l = elim (cases_Bool (wanted l)) [ inl is ↦ rw is (omega arith) | inr isnt ↦ rw isnt (omega arith) ]

  one-bounded : (l : List ℕ) (next : List ℕ → Outcome) (most x : ℕ) → fresh l x ≡ true → tries_of (next (l ++ x ∷ [])) ≤ most
      → tries_of (one_more width fresh fits wanted l next x) ≤ 1 + most
  one-bounded l next most x is h = rw is (omega (arith, counted-adds 1 (next (l ++ x ∷ [])), h))

  one-none : (l : List ℕ) (next : List ℕ → Outcome) (x : ℕ) → fresh l x ≡ false → tries_of (one_more width fresh fits wanted l next x) ≡ 0
  one-none l next x is = rw is refl

  once : (l : List ℕ) (x : ℕ) → fresh l x ≡ true → has x l ≡ false
  once l x is = elim (cases_Bool (has x l)) [ inl there ↦ absurd (let e : false ≡ true = rw there at is in grind arith) | inr isnt ↦ isnt ]

  -- a search of `missing + 1` numbers among those of `width` that are not in the list yet
  pub bounded : (missing : ℕ) (l : List ℕ) → AllFresh width l → length l + missing + 1 ≡ width
      → tries_of (searched width fresh fits wanted missing l) ≤ tries (suc missing)
  unfolding searched
  bounded zero l all long =
      let many : many_of (fresh l) 0 width ≡ 1 = omega (arith, fresh-many width l all) in
      let h = through-bounded (one_more width fresh fits wanted l (at_end width fresh fits wanted)) (fresh l) 1 0 width
      (λ x low high is. one-bounded l (at_end width fresh fits wanted) 0 x is (end-none (l ++ x ∷ []))) (one-none l (at_end width fresh fits wanted)) in
      rw many at h
  bounded (suc missing) l all long =
      let many : many_of (fresh l) 0 width ≡ suc (suc missing) = omega (arith, fresh-many width l all) in
      let h = through-bounded (one_more width fresh fits wanted l next) (fresh l) (1 + tries (suc missing)) 0 width (deeper (λ longer. bounded missing longer)) (one-none l next) in
      rw many at h
    where
      next : List ℕ → Outcome
      next longer = if fits longer then searched width fresh fits wanted missing longer else went_on 0

      deeper : ((longer : List ℕ) → AllFresh width longer → length longer + missing + 1 ≡ width → tries_of (searched width fresh fits wanted missing longer) ≤ tries (suc missing))
          → (x : ℕ) → 0 ≤ x → x < 0 + width → fresh l x ≡ true → tries_of (one_more width fresh fits wanted l next x) ≤ 1 + tries (suc missing)
      deeper smaller x low high is =
          one-bounded l next (tries (suc missing)) x is
          (if-bounded (fits (l ++ x ∷ [])) (searched width fresh fits wanted missing (l ++ x ∷ [])) (tries (suc missing))
          (smaller (l ++ x ∷ []) (fresh-appended width x l all (omega (arith, high)) (once l x is)) (omega (arith, long, length-append l (x ∷ [])))))
