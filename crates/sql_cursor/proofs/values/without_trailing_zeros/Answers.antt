-- Zeros at the end of digits.
use Rattle.std.proofs.Common.{◌≡◌, ◌≢◌, ℕ, ◌+◌, ◌-◌, ◌≤◌, ◌==◌, List, [], ◌∷◌, ◌++◌, length, take, get_or, refl, sym, ◌∙◌, ap, arith, inl, inr}
use Rattle.std.proofs.lemmas.Bool.{cases_Bool, eqb-true}
use Rattle.std.proofs.lemmas.List.{take_all, take_more}
use Rattle.sql_grammar.specs.TokenValues.{without_trailing_zeros}
use Rattle.sql_cursor.proofs.values.without_trailing_zeros.Goals as goal

snoc_zero : (ys : List ℕ) → without_trailing_zeros (ys ++ 48 ∷ []) ≡ without_trailing_zeros ys
snoc_zero [] = refl
snoc_zero (y ∷ ys) = rw (snoc_zero ys) refl

snoc_other : (ys : List ℕ) (z : ℕ) → z ≢ 48 → without_trailing_zeros (ys ++ z ∷ []) ≡ ys ++ z ∷ []
snoc_other [] z n = elim (cases_Bool (z == 48)) [
  | inl same ↦ absurd (n (eqb-true z 48 same))
  | inr other ↦ rw other refl
]
snoc_other (y ∷ []) z n = rw (snoc_other [] z n) refl
snoc_other (y ∷ x ∷ ys) z n = rw (snoc_other (x ∷ ys) z n) refl

in_prefix : (xs : List ℕ) → 1 ≤ length xs → xs ≡ take (length xs - 1) xs ++ get_or xs (length xs - 1) 0 ∷ []
in_prefix xs h =
    let all : take (length xs - 1 + 1) xs ≡ xs = take_all (length xs - 1 + 1) xs (omega arith) in
    sym all ∙ take_more xs (length xs - 1) 0 (omega arith)

last_zero : (xs : List ℕ) → 1 ≤ length xs → get_or xs (length xs - 1) 0 ≡ 48 → without_trailing_zeros (take (length xs - 1) xs) ≡ without_trailing_zeros xs
last_zero xs h e =
    sym (snoc_zero (take (length xs - 1) xs)) ∙ ap without_trailing_zeros (ap (λ z. take (length xs - 1) xs ++ z ∷ []) (sym e) ∙ sym (in_prefix xs h))

last_other : (xs : List ℕ) → 1 ≤ length xs → get_or xs (length xs - 1) 0 ≢ 48 → xs ≡ without_trailing_zeros xs
last_other xs h n = in_prefix xs h ∙ sym (snoc_other (take (length xs - 1) xs) (get_or xs (length xs - 1) 0) n) ∙ ap without_trailing_zeros (sym (in_prefix xs h))

pub zeros-preserved : goal.zeros-preserved
zeros-preserved c = last_zero c.zeros.rest.now c.in-len1-up.len_at_least c.if-last-ne48.false ∙ c.zeros.invariant

pub returns-then-last-ne48 : goal.returns-then-last-ne48
returns-then-last-ne48 c = last_other c.zeros.rest.now c.in-len1-up.len_at_least c.if-last-ne48.true ∙ c.zeros.invariant
