-- The search decides whether two shapes are alike.
use Rattle.std.proofs.Common.{◌≡◌, ℕ, zero, suc, ◌+◌, ◌≤◌, true, inl, inr, List, [], ◌∷◌, length, refl, sym, subst, arith}
use Rattle.std.specs.Prelude.{nat_eq, ◌&&◌}
use Rattle.std.proofs.lemmas.Bool.{cases_Bool}
use Rattle.std.proofs.lemmas.Bool.Decides.{nat_tests}
use Rattle.std.specs.Bool.{beq}
use Rattle.shapes.specs.Search.{Outcome, ended, went_on, tries_of, searched, further, fresh}
use Rattle.shapes.specs.Tried.{IsPairing, search_alike, tried, tries}
use Rattle.shapes.proofs.Bounds.{AllFresh, bounded}
use Rattle.shapes.proofs.Complete.{IsThrough, IsWanted, sound}
use Rattle.shapes.proofs.Kept.{EndsWith, ends-fresh, ends-long}
use Rattle.shapes.specs.Shapes.{Shape, IsWhole}
use Rattle.shapes.specs.Alike.{Alike}
use Rattle.shapes.specs.Tests.{equal, carried, keeps_tables, pairs, points_of, fits, outputs_carried, marks_carried, back_from, makes_alike}
use Rattle.shapes.proofs.Found.{ByList, alike-found, alike-empty_fits, and-both}
use Rattle.shapes.proofs.Listed.{by-list}
use Rattle.shapes.proofs.Back.{pairing-by}

same-number : (a b : ℕ) → nat_eq a b ≡ true → a ≡ b
same-number a b h = grind (arith, nat_tests)

abbrev IsEnded : Outcome → Type 0
IsEnded (ended l count) = Unit {0}
IsEnded (went_on count) = ⊥

-- a list that makes them alike
module _ (s t : Shape) (whole_s : IsWhole s) (whole_t : IsWhole t) (as_many : length s.entries ≡ length t.entries) where
  by-one : (l : List ℕ) → AllFresh (length t.entries) l → length l ≡ length t.entries → makes_alike s t l ≡ true → IsPairing s t l
  unfolding makes_alike fits
  by-one l all long alike =
      let one = and-both (fits s t l && outputs_carried s t l && marks_carried s t l) (marks_carried t s (back_from 0 (length l) l)) alike in
      let two = and-both (fits s t l && outputs_carried s t l) (marks_carried s t l) one.0 in
      let three = and-both (fits s t l) (outputs_carried s t l) two.0 in
      let four = and-both (keeps_tables s.entries t.entries l) (pairs (λ p q. beq (equal s p q) (equal t (carried l p) (carried l q))) (points_of s t l)) three.0 in
      record { long = omega (arith, long, as_many); paired = pairing-by s t l whole_s whole_t all long as_many four.0 four.1 three.1 two.1 one.1 }

  found-in : (missing : ℕ) → length s.entries ≡ missing → (l : List ℕ) (count : ℕ) → further (length t.entries) fresh (fits s t) (makes_alike s t) missing [] ≡ ended l count → IsPairing s t l
  found-in zero is l count e = elim (cases_Bool (makes_alike s t [])) [
    | inl alike ↦
        let none : ended [] 0 ≡ ended l count = rw alike at e in
        subst (λ (o : Outcome). EndsWith (λ l. IsPairing s t l) o) none (by-one [] tt (omega (arith, is, as_many)) alike)
    | inr isnt ↦ absurd (subst IsEnded (sym (rw isnt at e)) tt)
  ]
  found-in (suc missing) is l count e = elim (cases_Bool (fits s t [])) [
    | inl fit ↦
        let k : searched (length t.entries) fresh (fits s t) (makes_alike s t) missing [] ≡ ended l count = rw fit at e in
        let all : AllFresh (length t.entries) l = subst (EndsWith (AllFresh (length t.entries))) k (ends-fresh (length t.entries) (fits s t) (makes_alike s t) missing) in
        let long : length l ≡ 0 + missing + 1 = subst (EndsWith (λ n. length n ≡ 0 + missing + 1)) k (ends-long (length t.entries) fresh (fits s t) (makes_alike s t) missing []) in
        let alike : makes_alike s t l ≡ true = subst (IsWanted (length t.entries) fresh (fits s t) (makes_alike s t)) k (sound (length t.entries) fresh (fits s t) (makes_alike s t) missing []) in
        by-one l all (omega (arith, long, is, as_many)) alike
    | inr isnt ↦ absurd (subst IsEnded (sym (rw isnt at e)) tt)
  ]

-- where two shapes are alike, it does not go through all
module _ (s t : Shape) (alike : ByList s t) where
  through-none : (missing : ℕ) → length s.entries ≡ missing → IsThrough (further (length t.entries) fresh (fits s t) (makes_alike s t) missing []) → ⊥
  through-none zero is h =
      let empty : alike.entries ≡ [] = none alike.entries (omega (arith, alike.each, alike.as_many, is)) in
      let this : makes_alike s t [] ≡ true = subst (λ (l : List ℕ). makes_alike s t l ≡ true) empty alike.alike in
      rw this at h
    where
      none : (l : List ℕ) → length l ≡ 0 → l ≡ []
      none [] h = refl
      none (x ∷ l) h = absurd (omega arith)
  through-none (suc missing) is h =
      let fit = alike-empty_fits s t alike in
      alike-found s t missing is alike (rw fit at h)

pub found : (s t : Shape) → IsWhole s → IsWhole t → (l : List ℕ) (count : ℕ) → search_alike s t ≡ ended l count → IsPairing s t l
unfolding search_alike
found s t whole_s whole_t l count e = elim (cases_Bool (nat_eq (length s.entries) (length t.entries))) [
  | inl same ↦ found-in s t whole_s whole_t (same-number (length s.entries) (length t.entries) same) (length s.entries) refl l count (rw same at e)
  | inr isnt ↦ absurd (subst IsEnded (sym (rw isnt at e)) tt)
]

pub nothing : (s t : Shape) → IsWhole s → IsWhole t → (count : ℕ) → search_alike s t ≡ went_on count → Alike s t → ⊥
unfolding search_alike
nothing s t whole_s whole_t count e h =
    let same : nat_eq (length s.entries) (length t.entries) ≡ true = number-same (length s.entries) (length t.entries) h.paired.as_many in
    let k : further (length t.entries) fresh (fits s t) (makes_alike s t) (length s.entries) [] ≡ went_on count = rw same at e in
    through-none s t (by-list s t h.forth h.back h.paired whole_s.shape whole_t.shape) (length s.entries) refl (subst IsThrough (sym k) tt)
  where
    number-same : (a b : ℕ) → a ≡ b → nat_eq a b ≡ true
    number-same a b h = grind (arith, nat_tests)

-- ---- how many lists are tried
further-bounded : (s t : Shape) (missing : ℕ) → length t.entries ≡ missing
    → tries_of (further (length t.entries) fresh (fits s t) (makes_alike s t) missing []) ≤ tries missing
further-bounded s t zero is = elim (cases_Bool (makes_alike s t [])) [ inl is_so ↦ rw is_so (omega arith) | inr isnt ↦ rw isnt (omega arith) ]
further-bounded s t (suc missing) is = elim (cases_Bool (fits s t [])) [
  | inl fit ↦ rw fit (bounded (length t.entries) (fits s t) (makes_alike s t) missing [] tt (omega (arith, is)))
  | inr isnt ↦ rw isnt (omega arith)
]

pub tried-bounded : (s t : Shape) → tried s t ≤ tries (length s.entries)
unfolding search_alike
tried-bounded s t = elim (cases_Bool (nat_eq (length s.entries) (length t.entries))) [
  | inl same ↦
      let e = same-number (length s.entries) (length t.entries) same in
      rw same (further-bounded s t (length s.entries) (sym e))
  | inr isnt ↦ rw isnt (omega arith)
]
