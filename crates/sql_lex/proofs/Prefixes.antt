-- The prefix of a list that passes a test.
use Rattle.std.proofs.Common.{◌≡◌, ℕ, suc, ◌+◌, ◌≤◌, Bool, true, false, List, [], ◌∷◌, ◌++◌, length, take, drop, refl, arith, inl, inr}
use Rattle.std.specs.List.{list_all, prefix_len}
use Rattle.std.proofs.lemmas.Bool.{cases_Bool, and_parts, and_from}
use Rattle.sql_lex.specs.Front.{first_passes}

module _ (test : ℕ → Bool) where
  pub prefix_len-front : (xs ys : List ℕ) → list_all test xs ≡ true → prefix_len test ys ≡ 0 → prefix_len test (xs ++ ys) ≡ length xs
  prefix_len-front [] ys all stops = stops
  prefix_len-front (x ∷ xs) ys all stops =
      let h = and_parts (test x) (list_all test xs) all in
      rw (h.0, prefix_len-front xs ys h.1 stops) (omega arith)

  pub prefix_len-least : (xs ys : List ℕ) → list_all test xs ≡ true → length xs ≤ prefix_len test (xs ++ ys)
  prefix_len-least [] ys all = omega arith
  prefix_len-least (x ∷ xs) ys all =
      let h = and_parts (test x) (list_all test xs) all in
      rw h.0 (omega (arith, prefix_len-least xs ys h.1))

  pub all-front : (xs : List ℕ) → list_all test (take (prefix_len test xs) xs) ≡ true
  all-front [] = refl
  all-front (x ∷ xs) = elim (cases_Bool (test x)) [
    | inl pass ↦ let one : 1 + prefix_len test xs ≡ suc (prefix_len test xs) = omega arith in rw (pass, one) (and_from (test x) _ pass (all-front xs))
    | inr fail ↦ rw fail refl
  ]

  -- what stands behind that front does not pass
  pub stops-behind : (xs : List ℕ) → first_passes test (drop (prefix_len test xs) xs) ≡ false
  stops-behind [] = refl
  stops-behind (x ∷ xs) = elim (cases_Bool (test x)) [
    | inl pass ↦ let one : 1 + prefix_len test xs ≡ suc (prefix_len test xs) = omega arith in rw (pass, one) (stops-behind xs)
    | inr fail ↦ rw fail fail
  ]

  pub no_front : (xs : List ℕ) → first_passes test xs ≡ false → prefix_len test xs ≡ 0
  no_front [] fail = refl
  no_front (x ∷ xs) fail = rw fail refl
