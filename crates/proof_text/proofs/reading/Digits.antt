-- Bytes that are digits.
use Rattle.std.proofs.Common.{◌≡◌, ℕ, zero, suc, ◌+◌, ◌-◌, ◌≤◌, ◌<◌, Bool, true, false, List, [], ◌∷◌, length, get_or, Ok, refl, sym, subst, arith}
use Rattle.std.specs.Prelude.{nat_lt, Option, MatchOption}
use Rattle.std.proofs.lemmas.Bool.{eq-eqb, ltb-true, ltb-false, le-ltb}
use Rattle.proof_text.specs.Signs.{code, sign}
use Rattle.proof_text.specs.LinesOfText.{fed}
use Rattle.proof_text.specs.Reading.{Rest, next, longest_at, sign_at}
use Rattle.proof_text.proofs.spelled.Glyphs.{byte_is}
use Rattle.proof_text.proofs.reading.Loops.{ends}

-- the byte of a digit
byte_of : (byte c : ℕ) → code (sign byte) ≡ c → c < 10 → byte ≡ 48 + c
byte_of byte zero e h = byte_is 0 48 byte refl refl (eq-eqb (code (sign byte)) 0 e)
byte_of byte (suc zero) e h = byte_is 1 49 byte refl refl (eq-eqb (code (sign byte)) 1 e)
byte_of byte (suc (suc zero)) e h = byte_is 2 50 byte refl refl (eq-eqb (code (sign byte)) 2 e)
byte_of byte (suc (suc (suc zero))) e h = byte_is 3 51 byte refl refl (eq-eqb (code (sign byte)) 3 e)
byte_of byte (suc (suc (suc (suc zero)))) e h = byte_is 4 52 byte refl refl (eq-eqb (code (sign byte)) 4 e)
byte_of byte (suc (suc (suc (suc (suc zero))))) e h = byte_is 5 53 byte refl refl (eq-eqb (code (sign byte)) 5 e)
byte_of byte (suc (suc (suc (suc (suc (suc zero)))))) e h = byte_is 6 54 byte refl refl (eq-eqb (code (sign byte)) 6 e)
byte_of byte (suc (suc (suc (suc (suc (suc (suc zero))))))) e h = byte_is 7 55 byte refl refl (eq-eqb (code (sign byte)) 7 e)
byte_of byte (suc (suc (suc (suc (suc (suc (suc (suc zero)))))))) e h = byte_is 8 56 byte refl refl (eq-eqb (code (sign byte)) 8 e)
byte_of byte (suc (suc (suc (suc (suc (suc (suc (suc (suc zero))))))))) e h = byte_is 9 57 byte refl refl (eq-eqb (code (sign byte)) 9 e)
byte_of byte (suc (suc (suc (suc (suc (suc (suc (suc (suc (suc c)))))))))) e h = absurd (omega arith)

-- and its value
value_of : (digit : ℕ) → digit < 10 → code (sign (48 + digit)) ≡ digit
value_of zero h = refl
value_of (suc zero) h = refl
value_of (suc (suc zero)) h = refl
value_of (suc (suc (suc zero))) h = refl
value_of (suc (suc (suc (suc zero)))) h = refl
value_of (suc (suc (suc (suc (suc zero))))) h = refl
value_of (suc (suc (suc (suc (suc (suc zero)))))) h = refl
value_of (suc (suc (suc (suc (suc (suc (suc zero))))))) h = refl
value_of (suc (suc (suc (suc (suc (suc (suc (suc zero)))))))) h = refl
value_of (suc (suc (suc (suc (suc (suc (suc (suc (suc zero))))))))) h = refl
value_of (suc (suc (suc (suc (suc (suc (suc (suc (suc (suc n)))))))))) h = absurd (omega arith)

pub digit : (byte : ℕ) → 48 ≤ byte → byte - 48 < 10 → byte - 48 ≡ code (sign byte)
digit byte low high =
    let e : 48 + (byte - 48) ≡ byte = omega arith in
    sym (subst (λ z. code (sign z) ≡ byte - 48) e (value_of (byte - 48) high))

-- a byte below the digits, or above them, is none
pub too_low : (byte : ℕ) → byte < 48 → 10 ≤ code (sign byte)
too_low byte low = go (nat_lt (code (sign byte)) 10) refl
  where
    go : (b : Bool) → nat_lt (code (sign byte)) 10 ≡ b → 10 ≤ code (sign byte)
    go true e = let i : byte ≡ 48 + code (sign byte) = byte_of byte (code (sign byte)) refl (ltb-true (code (sign byte)) 10 e) in absurd (omega arith)
    go false e = ltb-false (code (sign byte)) 10 e

pub too_high : (byte : ℕ) → 48 ≤ byte → 10 ≤ byte - 48 → 10 ≤ code (sign byte)
too_high byte low high = go (nat_lt (code (sign byte)) 10) refl
  where
    go : (b : Bool) → nat_lt (code (sign byte)) 10 ≡ b → 10 ≤ code (sign byte)
    go true e =
        let less : code (sign byte) < 10 = ltb-true (code (sign byte)) 10 e in
        let i : byte ≡ 48 + code (sign byte) = byte_of byte (code (sign byte)) refl less in
        absurd (omega arith)
    go false e = ltb-false (code (sign byte)) 10 e

-- where no digit follows, a number ends
pub alone : (m : ℕ) (rest : Rest) → 10 ≤ code (next rest) → longest_at m rest ≡ (Ok m, rest)
alone m rest none = ends m rest rest (record { is_not = rw (le-ltb (code (next rest)) 10 none) refl; still = refl })

-- the digit of the byte that stands next
pub next_digit : (found : Option ℕ) (byte : ℕ) (rest : Rest) → MatchOption found (10 ≤ code (sign byte)) (λ digit. (digit ≡ code (sign byte)) × (digit < 10)) → sign byte ≡ next rest
    → MatchOption found (10 ≤ code (next rest)) (λ digit. (digit ≡ code (next rest)) × (digit < 10))
next_digit found byte rest m e = subst (λ k. MatchOption found (10 ≤ code k) (λ digit. (digit ≡ code k) × (digit < 10))) e m

-- that byte is the first of those that are left
pub first_sign : (bytes : List ℕ) (ended : Bool) → 1 ≤ length bytes → sign (get_or bytes 0 0) ≡ sign_at (fed bytes ended)
first_sign [] ended h = absurd (omega arith)
first_sign (byte ∷ bytes) true h = refl
first_sign (byte ∷ bytes) false h = refl
