-- What the list has at which a search ends.
use Rattle.std.proofs.Common.{◌≡◌, ℕ, zero, suc, ◌+◌, ◌<◌, ◌≤◌, ◌⊎◌, inl, inr, Bool, true, false, List, [], ◌∷◌, ◌++◌, length, refl, ap, ◌∙◌, subst, arith}
use Rattle.std.specs.Prelude.{if◌then◌else◌, not}
use Rattle.std.proofs.lemmas.Bool.{cases_Bool}
use Rattle.std.proofs.lemmas.List.{length-append}
use Rattle.shapes.specs.Tests.{has}
use Rattle.shapes.specs.Search.{Outcome, ended, went_on, counted, after, through, one_more, at_end, searched, fresh}
use Rattle.shapes.proofs.Bounds.{AllFresh, fresh-appended, fresh-many, many_of, one_if}

module _ (P : List ℕ → Type 0) where
  abbrev pub EndsWith : Outcome → Type 0
  EndsWith (ended l count) = P l
  EndsWith (went_on count) = Unit {0}

  with-counted : (count : ℕ) (o : Outcome) → EndsWith o → EndsWith (counted count o)
  with-counted count (ended l c) h = h
  with-counted count (went_on c) h = tt

  with-after : (a b : Outcome) → EndsWith a → EndsWith b → EndsWith (after a b)
  with-after (ended l c) b h k = h
  with-after (went_on c) b h k = with-counted c b k

  with-through : (f : ℕ → Outcome) (from many : ℕ) → ((x : ℕ) → x < from + many → EndsWith (f x)) → EndsWith (through f from many)
  with-through f from zero each = tt
  with-through f from (suc many) each =
      with-after (f from) (through f (from + 1) many) (each from (omega arith)) (with-through f (from + 1) many (λ x less. each x (omega arith)))

  with-if : (b : Bool) (o : Outcome) → (b ≡ true → EndsWith o) → EndsWith (if b then o else went_on 0)
  with-if true o h = h refl
  with-if false o h = tt

  module _ (width : ℕ) (may_follow : List ℕ → ℕ → Bool) (fits wanted : List ℕ → Bool) (step : (l : List ℕ) (x : ℕ) → x < width → may_follow l x ≡ true → P l → P (l ++ x ∷ [])) where
    with-end : (l : List ℕ) → P l → EndsWith (at_end width may_follow fits wanted l)
    with-end l h = with-if (wanted l) (ended l 0) (λ is. h)

    pub kept : (missing : ℕ) (l : List ℕ) → P l → EndsWith (searched width may_follow fits wanted missing l)
    unfolding searched
    kept zero l h =
        with-through (one_more width may_follow fits wanted l (at_end width may_follow fits wanted)) 0 width (λ x less. with-if (may_follow l x) (counted 1 (at_end width may_follow fits wanted (l ++ x ∷ [])))
        (λ is. with-counted 1 (at_end width may_follow fits wanted (l ++ x ∷ [])) (with-end (l ++ x ∷ []) (step l x (omega (arith, less)) is h))))
    kept (suc missing) l h =
        with-through (one_more width may_follow fits wanted l (λ longer. if fits longer then searched width may_follow fits wanted missing longer else went_on 0)) 0 width
        (λ x less. with-if (may_follow l x) (counted 1 (if fits (l ++ x ∷ []) then searched width may_follow fits wanted missing (l ++ x ∷ []) else went_on 0)) (λ is.
        with-counted 1 (if fits (l ++ x ∷ []) then searched width may_follow fits wanted missing (l ++ x ∷ []) else went_on 0)
        (with-if (fits (l ++ x ∷ [])) (searched width may_follow fits wanted missing (l ++ x ∷ [])) (λ fit. kept missing (l ++ x ∷ []) (step l x (omega (arith, less)) is h)))))

-- ---- each number once
not-true : (b : Bool) → not b ≡ true → b ≡ false
not-true true h = absurd (let e : false ≡ true = h in grind arith)
not-true false h = refl

pub ends-fresh : (width : ℕ) (fits wanted : List ℕ → Bool) (missing : ℕ) → EndsWith (AllFresh width) (searched width fresh fits wanted missing [])
ends-fresh width fits wanted missing = kept (AllFresh width) width fresh fits wanted (λ l x less is h. fresh-appended width x l h less (not-true (has x l) is)) missing [] tt

-- ---- as long as wanted
pub ends-long : (width : ℕ) (may_follow : List ℕ → ℕ → Bool) (fits wanted : List ℕ → Bool) (missing : ℕ) (l : List ℕ)
    → EndsWith (λ e. length e ≡ length l + missing + 1) (searched width may_follow fits wanted missing l)
unfolding searched
ends-long width may_follow fits wanted zero l =
    with-through (λ e. length e ≡ length l + 0 + 1) (one_more width may_follow fits wanted l (at_end width may_follow fits wanted)) 0 width (λ x less.
    with-if (λ e. length e ≡ length l + 0 + 1) (may_follow l x) (counted 1 (at_end width may_follow fits wanted (l ++ x ∷ []))) (λ is.
    with-counted (λ e. length e ≡ length l + 0 + 1) 1 (at_end width may_follow fits wanted (l ++ x ∷ []))
    (with-if (λ e. length e ≡ length l + 0 + 1) (wanted (l ++ x ∷ [])) (ended (l ++ x ∷ []) 0) (λ is. omega (arith, length-append l (x ∷ []))))))
ends-long width may_follow fits wanted (suc missing) l =
    with-through (λ e. length e ≡ length l + suc missing + 1) (one_more width may_follow fits wanted l (λ longer. if fits longer then searched width may_follow fits wanted missing longer else went_on 0)) 0 width (λ x less.
    with-if (λ e. length e ≡ length l + suc missing + 1) (may_follow l x) (counted 1 (if fits (l ++ x ∷ []) then searched width may_follow fits wanted missing (l ++ x ∷ []) else went_on 0)) (λ is.
    with-counted (λ e. length e ≡ length l + suc missing + 1) 1 (if fits (l ++ x ∷ []) then searched width may_follow fits wanted missing (l ++ x ∷ []) else went_on 0)
    (with-if (λ e. length e ≡ length l + suc missing + 1) (fits (l ++ x ∷ [])) (searched width may_follow fits wanted missing (l ++ x ∷ [])) (λ fit.
    let n : length (l ++ x ∷ []) + missing + 1 ≡ length l + suc missing + 1 = omega (arith, length-append l (x ∷ [])) in
    subst (λ n. EndsWith (λ e. length e ≡ n) (searched width may_follow fits wanted missing (l ++ x ∷ []))) n (ends-long width may_follow fits wanted missing (l ++ x ∷ []))))))

-- ---- a list as long as there are numbers has each
none-left : (p : ℕ → Bool) (from many x : ℕ) → many_of p from many ≡ 0 → from ≤ x → x < from + many → p x ≡ false
none-left p from zero x none low high = absurd (omega arith)
none-left p from (suc many) x none low high = elim (cases_Bool (p x)) [
  | inr isnt ↦ isnt
  | inl is ↦ elim (at_or_after from x low) [
    | inl same ↦ absurd (let e : p from ≡ true = ap p same ∙ is in let n : one_if (p from) + many_of p (from + 1) many ≡ 0 = none in let k : 1 + many_of p (from + 1) many ≡ 0 = rw e at n in omega arith)
    | inr less ↦ none-left p (from + 1) many x (omega (arith, none)) (omega (arith, less)) (omega arith)
  ]
]
  where
    at_or_after : (from x : ℕ) → from ≤ x → (from ≡ x) ⊎ (from < x)
    at_or_after zero zero low = inl refl
    at_or_after zero (suc x) low = inr (omega arith)
    at_or_after (suc from) zero low = absurd (omega arith)
    at_or_after (suc from) (suc x) low = elim (at_or_after from x (omega arith)) [ inl e ↦ inl (ap suc e) | inr h ↦ inr (omega arith) ]

pub has-each : (width : ℕ) (l : List ℕ) → AllFresh width l → length l ≡ width → (x : ℕ) → x < width → has x l ≡ true
has-each width l all long x less =
    let none : many_of (fresh l) 0 width ≡ 0 = omega (arith, fresh-many width l all, long) in
    not-false (has x l) (none-left (fresh l) 0 width x none (omega arith) (omega (arith, less)))
  where
    not-false : (b : Bool) → not b ≡ false → b ≡ true
    not-false true h = refl
    not-false false h = absurd (let e : true ≡ false = h in grind arith)
