-- Tables: nothing is known at first, and what is kept is what a test gave.
use Rattle.std.proofs.Common.{◌≡◌, ℕ, zero, suc, ◌/◌, ◌%◌, Bool, List, [], ◌∷◌, Option, Some, None, replicate, ap, ◌∙◌, arith}
use Rattle.std.specs.Prelude.{slice_get, slice_set}
use Rattle.shapes.specs.Shapes.{Shape}
use Rattle.bag_search.specs.Entries.{pair_fits, entry_fits}
use Rattle.bag_search.specs.Known.{IsPlace, IsPairPlace, entry_at_place, pair_at_place, HasAnswers}
use Rattle.bag_search.specs.declared.sides.Step.{Step}

some-same : (a b : Bool) → (let x : Option (Option Bool) = Some (Some a) in x) ≡ Some (Some b) → b ≡ a
some-same a b e = grind (arith, e)

none-some : (b : Bool) → (let x : Option (Option Bool) = Some None in x) ≡ Some (Some b) → ⊥
none-some b e = grind (arith, e)

past-some : (b : Bool) → (let x : Option (Option Bool) = None in x) ≡ Some (Some b) → ⊥
past-some b e = grind (arith, e)

-- nothing
pub nothing-told : (test : ℕ → Bool) (n : ℕ) → HasAnswers test (replicate n None)
nothing-told test n = record { told = λ place answer e. absurd (none n place answer e) }
  where
    none : (n place : ℕ) (answer : Bool) → slice_get (replicate n None) place ≡ Some (Some answer) → ⊥
    none zero place answer e = past-some answer e
    none (suc n) zero answer e = none-some answer e
    none (suc n) (suc place) answer e = none n place answer e

-- one answer more
pub one-told : (test : ℕ → Bool) (cells : List (Option Bool)) (place : ℕ) (answer : Bool) → HasAnswers test cells → answer ≡ test place → HasAnswers test (slice_set cells place (Some answer))
one-told test cells place answer h e = record { told = set test cells place h.told e }
  where
    set : (test : ℕ → Bool) (cells : List (Option Bool)) (place : ℕ) → ((at : ℕ) (b : Bool) → slice_get cells at ≡ Some (Some b) → b ≡ test at) → answer ≡ test place
        → (at : ℕ) (b : Bool) → slice_get (slice_set cells place (Some answer)) at ≡ Some (Some b) → b ≡ test at
    set test [] place told e at b is = absurd (past-some b is)
    set test (c ∷ cells) zero told e zero b is = some-same answer b is ∙ e
    set test (c ∷ cells) zero told e (suc at) b is = told (suc at) b is
    set test (c ∷ cells) (suc place) told e zero b is = told zero b is
    set test (c ∷ cells) (suc place) told e (suc at) b is = set (λ n. test (suc n)) cells place (λ n. told (suc n)) e at b is

-- ---- places
pub entry-place : (s t : Shape) (step : Step) (place : ℕ) → IsPlace step place → entry_at_place s t place ≡ entry_fits s t step.entry step.to
entry-place s t step place h =
    let one : place / 16 ≡ step.entry = omega (arith, h.is, h.digits.0, h.digits.1) in
    let two : place % 16 ≡ step.to = omega (arith, h.is, h.digits.0, h.digits.1) in
    ap (λ a. entry_fits s t a (place % 16)) one ∙ ap (entry_fits s t step.entry) two

pub pair-place : (s t : Shape) (one other : Step) (place : ℕ) → IsPairPlace one other place → pair_at_place s t place ≡ pair_fits s t one.entry one.to other.entry other.to
pair-place s t one other place h =
    let i : place / 16 % 16 ≡ one.entry = omega (arith, h.is, h.digits.0.0, h.digits.0.1, h.digits.1.0, h.digits.1.1) in
    let x : place % 16 ≡ one.to = omega (arith, h.is, h.digits.0.0, h.digits.0.1, h.digits.1.0, h.digits.1.1) in
    let j : place / 4096 ≡ other.entry = omega (arith, h.is, h.digits.0.0, h.digits.0.1, h.digits.1.0, h.digits.1.1) in
    let y : place / 256 % 16 ≡ other.to = omega (arith, h.is, h.digits.0.0, h.digits.0.1, h.digits.1.0, h.digits.1.1) in
    ap (λ a. pair_fits s t a (place % 16) (place / 4096) (place / 256 % 16)) i ∙ ap (λ a. pair_fits s t one.entry a (place / 4096) (place / 256 % 16)) x
    ∙ ap (λ a. pair_fits s t one.entry one.to a (place / 256 % 16)) j ∙ ap (λ a. pair_fits s t one.entry one.to other.entry a) y

pub ruleset laws = (nothing-told)
