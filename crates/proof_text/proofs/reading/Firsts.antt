-- What the first byte of a term or a value tells of the rest.
use Rattle.std.proofs.Common.{◌≡◌, ℕ, ◌-◌, true, false, refl, subst}
use Rattle.proof_text.specs.Signs.{Sign}
use Rattle.proof_text.specs.Signs as s
use Rattle.proof_text.specs.Grammar.{begins_term, begins_value}
use Rattle.proof_text.specs.Reading.{Rest, Reading, ◌>>=◌, next, bad, entered, term_at, term_with, value_at, value_with}
use Rattle.proof_text.proofs.reading.Loops.{term_step, value_step}

module _ (levels : ℕ) (rest : Rest) where
  pub begun : (k : Sign) → next rest ≡ k → begins_term k ≡ true → term_at levels rest ≡ (entered levels rest >>= λ e r. term_with (term_at (levels - 1)) (value_at (levels - 1)) k r)
  begun k e b = rw (term_step levels rest, e, b) refl

  pub value_begun : (k : Sign) → next rest ≡ k → begins_value k ≡ true → value_at levels rest ≡ (entered levels rest >>= λ e r. value_with (term_at (levels - 1)) (value_at (levels - 1)) k r)
  value_begun k e b = rw (value_step levels rest, e, b) refl

-- ---- no other sign begins any
unbegun : (k : Sign) → (k ≡ s.Digit0 → ⊥) → (k ≡ s.Digit1 → ⊥) → (k ≡ s.Plus → ⊥) → (k ≡ s.Star → ⊥) → (k ≡ s.Hash → ⊥) → (k ≡ s.Bang → ⊥) → (k ≡ s.UpperS → ⊥) → (k ≡ s.UpperR → ⊥) → (k ≡ s.Equals → ⊥) → (k ≡ s.UpperP → ⊥) → begins_term k ≡ false
unbegun s.Digit0 n0 n1 n2 n3 n4 n5 n6 n7 n8 n9 = absurd (n0 refl)
unbegun s.Digit1 n0 n1 n2 n3 n4 n5 n6 n7 n8 n9 = absurd (n1 refl)
unbegun s.Digit2 n0 n1 n2 n3 n4 n5 n6 n7 n8 n9 = refl
unbegun s.Digit3 n0 n1 n2 n3 n4 n5 n6 n7 n8 n9 = refl
unbegun s.Digit4 n0 n1 n2 n3 n4 n5 n6 n7 n8 n9 = refl
unbegun s.Digit5 n0 n1 n2 n3 n4 n5 n6 n7 n8 n9 = refl
unbegun s.Digit6 n0 n1 n2 n3 n4 n5 n6 n7 n8 n9 = refl
unbegun s.Digit7 n0 n1 n2 n3 n4 n5 n6 n7 n8 n9 = refl
unbegun s.Digit8 n0 n1 n2 n3 n4 n5 n6 n7 n8 n9 = refl
unbegun s.Digit9 n0 n1 n2 n3 n4 n5 n6 n7 n8 n9 = refl
unbegun s.Plus n0 n1 n2 n3 n4 n5 n6 n7 n8 n9 = absurd (n2 refl)
unbegun s.Star n0 n1 n2 n3 n4 n5 n6 n7 n8 n9 = absurd (n3 refl)
unbegun s.Hash n0 n1 n2 n3 n4 n5 n6 n7 n8 n9 = absurd (n4 refl)
unbegun s.Bang n0 n1 n2 n3 n4 n5 n6 n7 n8 n9 = absurd (n5 refl)
unbegun s.UpperS n0 n1 n2 n3 n4 n5 n6 n7 n8 n9 = absurd (n6 refl)
unbegun s.UpperR n0 n1 n2 n3 n4 n5 n6 n7 n8 n9 = absurd (n7 refl)
unbegun s.Equals n0 n1 n2 n3 n4 n5 n6 n7 n8 n9 = absurd (n8 refl)
unbegun s.UpperP n0 n1 n2 n3 n4 n5 n6 n7 n8 n9 = absurd (n9 refl)
unbegun s.UpperF n0 n1 n2 n3 n4 n5 n6 n7 n8 n9 = refl
unbegun s.UpperG n0 n1 n2 n3 n4 n5 n6 n7 n8 n9 = refl
unbegun s.Open n0 n1 n2 n3 n4 n5 n6 n7 n8 n9 = refl
unbegun s.Close n0 n1 n2 n3 n4 n5 n6 n7 n8 n9 = refl
unbegun s.Comma n0 n1 n2 n3 n4 n5 n6 n7 n8 n9 = refl
unbegun s.Space n0 n1 n2 n3 n4 n5 n6 n7 n8 n9 = refl
unbegun s.Newline n0 n1 n2 n3 n4 n5 n6 n7 n8 n9 = refl
unbegun s.Slash n0 n1 n2 n3 n4 n5 n6 n7 n8 n9 = refl
unbegun s.Forward n0 n1 n2 n3 n4 n5 n6 n7 n8 n9 = refl
unbegun s.Backward n0 n1 n2 n3 n4 n5 n6 n7 n8 n9 = refl
unbegun s.OpenBrace n0 n1 n2 n3 n4 n5 n6 n7 n8 n9 = refl
unbegun s.CloseBrace n0 n1 n2 n3 n4 n5 n6 n7 n8 n9 = refl
unbegun s.Low n0 n1 n2 n3 n4 n5 n6 n7 n8 n9 = refl
unbegun s.SmallA n0 n1 n2 n3 n4 n5 n6 n7 n8 n9 = refl
unbegun s.SmallB n0 n1 n2 n3 n4 n5 n6 n7 n8 n9 = refl
unbegun s.SmallC n0 n1 n2 n3 n4 n5 n6 n7 n8 n9 = refl
unbegun s.SmallD n0 n1 n2 n3 n4 n5 n6 n7 n8 n9 = refl
unbegun s.SmallE n0 n1 n2 n3 n4 n5 n6 n7 n8 n9 = refl
unbegun s.SmallF n0 n1 n2 n3 n4 n5 n6 n7 n8 n9 = refl
unbegun s.SmallI n0 n1 n2 n3 n4 n5 n6 n7 n8 n9 = refl
unbegun s.SmallK n0 n1 n2 n3 n4 n5 n6 n7 n8 n9 = refl
unbegun s.SmallL n0 n1 n2 n3 n4 n5 n6 n7 n8 n9 = refl
unbegun s.SmallM n0 n1 n2 n3 n4 n5 n6 n7 n8 n9 = refl
unbegun s.SmallN n0 n1 n2 n3 n4 n5 n6 n7 n8 n9 = refl
unbegun s.SmallO n0 n1 n2 n3 n4 n5 n6 n7 n8 n9 = refl
unbegun s.SmallP n0 n1 n2 n3 n4 n5 n6 n7 n8 n9 = refl
unbegun s.SmallQ n0 n1 n2 n3 n4 n5 n6 n7 n8 n9 = refl
unbegun s.SmallR n0 n1 n2 n3 n4 n5 n6 n7 n8 n9 = refl
unbegun s.SmallS n0 n1 n2 n3 n4 n5 n6 n7 n8 n9 = refl
unbegun s.SmallT n0 n1 n2 n3 n4 n5 n6 n7 n8 n9 = refl
unbegun s.SmallU n0 n1 n2 n3 n4 n5 n6 n7 n8 n9 = refl
unbegun s.SmallW n0 n1 n2 n3 n4 n5 n6 n7 n8 n9 = refl
unbegun s.SmallX n0 n1 n2 n3 n4 n5 n6 n7 n8 n9 = refl
unbegun s.SmallY n0 n1 n2 n3 n4 n5 n6 n7 n8 n9 = refl
unbegun s.SmallZ n0 n1 n2 n3 n4 n5 n6 n7 n8 n9 = refl
unbegun s.Other n0 n1 n2 n3 n4 n5 n6 n7 n8 n9 = refl
unbegun s.End n0 n1 n2 n3 n4 n5 n6 n7 n8 n9 = refl

pub no_term : (levels : ℕ) (rest : Rest) (k : Sign) → k ≡ next rest → (k ≡ s.Digit0 → ⊥) → (k ≡ s.Digit1 → ⊥) → (k ≡ s.Plus → ⊥) → (k ≡ s.Star → ⊥) → (k ≡ s.Hash → ⊥) → (k ≡ s.Bang → ⊥) → (k ≡ s.UpperS → ⊥) → (k ≡ s.UpperR → ⊥) → (k ≡ s.Equals → ⊥) → (k ≡ s.UpperP → ⊥) → term_at levels rest ≡ bad rest
no_term levels rest k e n0 n1 n2 n3 n4 n5 n6 n7 n8 n9 =
    let b : begins_term (next rest) ≡ false = subst (λ (z : Sign). begins_term z ≡ false) e (unbegun k n0 n1 n2 n3 n4 n5 n6 n7 n8 n9) in
    rw (term_step levels rest, b) refl

value_unbegun : (k : Sign) → (k ≡ s.SmallB → ⊥) → (k ≡ s.SmallF → ⊥) → (k ≡ s.SmallC → ⊥) → (k ≡ s.UpperF → ⊥) → (k ≡ s.UpperG → ⊥) → begins_value k ≡ false
value_unbegun s.Digit0 n0 n1 n2 n3 n4 = refl
value_unbegun s.Digit1 n0 n1 n2 n3 n4 = refl
value_unbegun s.Digit2 n0 n1 n2 n3 n4 = refl
value_unbegun s.Digit3 n0 n1 n2 n3 n4 = refl
value_unbegun s.Digit4 n0 n1 n2 n3 n4 = refl
value_unbegun s.Digit5 n0 n1 n2 n3 n4 = refl
value_unbegun s.Digit6 n0 n1 n2 n3 n4 = refl
value_unbegun s.Digit7 n0 n1 n2 n3 n4 = refl
value_unbegun s.Digit8 n0 n1 n2 n3 n4 = refl
value_unbegun s.Digit9 n0 n1 n2 n3 n4 = refl
value_unbegun s.Plus n0 n1 n2 n3 n4 = refl
value_unbegun s.Star n0 n1 n2 n3 n4 = refl
value_unbegun s.Hash n0 n1 n2 n3 n4 = refl
value_unbegun s.Bang n0 n1 n2 n3 n4 = refl
value_unbegun s.UpperS n0 n1 n2 n3 n4 = refl
value_unbegun s.UpperR n0 n1 n2 n3 n4 = refl
value_unbegun s.Equals n0 n1 n2 n3 n4 = refl
value_unbegun s.UpperP n0 n1 n2 n3 n4 = refl
value_unbegun s.UpperF n0 n1 n2 n3 n4 = absurd (n3 refl)
value_unbegun s.UpperG n0 n1 n2 n3 n4 = absurd (n4 refl)
value_unbegun s.Open n0 n1 n2 n3 n4 = refl
value_unbegun s.Close n0 n1 n2 n3 n4 = refl
value_unbegun s.Comma n0 n1 n2 n3 n4 = refl
value_unbegun s.Space n0 n1 n2 n3 n4 = refl
value_unbegun s.Newline n0 n1 n2 n3 n4 = refl
value_unbegun s.Slash n0 n1 n2 n3 n4 = refl
value_unbegun s.Forward n0 n1 n2 n3 n4 = refl
value_unbegun s.Backward n0 n1 n2 n3 n4 = refl
value_unbegun s.OpenBrace n0 n1 n2 n3 n4 = refl
value_unbegun s.CloseBrace n0 n1 n2 n3 n4 = refl
value_unbegun s.Low n0 n1 n2 n3 n4 = refl
value_unbegun s.SmallA n0 n1 n2 n3 n4 = refl
value_unbegun s.SmallB n0 n1 n2 n3 n4 = absurd (n0 refl)
value_unbegun s.SmallC n0 n1 n2 n3 n4 = absurd (n2 refl)
value_unbegun s.SmallD n0 n1 n2 n3 n4 = refl
value_unbegun s.SmallE n0 n1 n2 n3 n4 = refl
value_unbegun s.SmallF n0 n1 n2 n3 n4 = absurd (n1 refl)
value_unbegun s.SmallI n0 n1 n2 n3 n4 = refl
value_unbegun s.SmallK n0 n1 n2 n3 n4 = refl
value_unbegun s.SmallL n0 n1 n2 n3 n4 = refl
value_unbegun s.SmallM n0 n1 n2 n3 n4 = refl
value_unbegun s.SmallN n0 n1 n2 n3 n4 = refl
value_unbegun s.SmallO n0 n1 n2 n3 n4 = refl
value_unbegun s.SmallP n0 n1 n2 n3 n4 = refl
value_unbegun s.SmallQ n0 n1 n2 n3 n4 = refl
value_unbegun s.SmallR n0 n1 n2 n3 n4 = refl
value_unbegun s.SmallS n0 n1 n2 n3 n4 = refl
value_unbegun s.SmallT n0 n1 n2 n3 n4 = refl
value_unbegun s.SmallU n0 n1 n2 n3 n4 = refl
value_unbegun s.SmallW n0 n1 n2 n3 n4 = refl
value_unbegun s.SmallX n0 n1 n2 n3 n4 = refl
value_unbegun s.SmallY n0 n1 n2 n3 n4 = refl
value_unbegun s.SmallZ n0 n1 n2 n3 n4 = refl
value_unbegun s.Other n0 n1 n2 n3 n4 = refl
value_unbegun s.End n0 n1 n2 n3 n4 = refl

pub no_value : (levels : ℕ) (rest : Rest) (k : Sign) → k ≡ next rest → (k ≡ s.SmallB → ⊥) → (k ≡ s.SmallF → ⊥) → (k ≡ s.SmallC → ⊥) → (k ≡ s.UpperF → ⊥) → (k ≡ s.UpperG → ⊥) → value_at levels rest ≡ bad rest
no_value levels rest k e n0 n1 n2 n3 n4 =
    let b : begins_value (next rest) ≡ false = subst (λ (z : Sign). begins_value z ≡ false) e (value_unbegun k n0 n1 n2 n3 n4) in
    rw (value_step levels rest, b) refl
