-- A number that was written is read again.
use Rattle.std.proofs.Common.{◌≡◌, ℕ, zero, suc, ◌+◌, ◌*◌, ◌/◌, ◌%◌, ◌^◌, ◌<◌, ◌≤◌, Bool, true, false, List, [], ◌∷◌, ◌++◌, Ok, refl, sym, ◌∙◌, arith, append_assoc}
use Rattle.std.specs.Prelude.{◌==◌, nat_lt}
use Rattle.std.specs.Fmt.{decimal}
use Rattle.std.proofs.lemmas.Fmt.{decimal_by_steps, decimal_digit}
use Rattle.std.proofs.lemmas.Bool.{lt-ltb, eqb-true}
use Rattle.proof_text.specs.Signs.{code, sign}
use Rattle.proof_text.specs.Reading.{sign_at, number_at, count_at, longest_at}
use Rattle.proof_text.proofs.reading.NumbersRead.{not_equal}

-- no digit stands in front
abbrev pub Ends : List ℕ → Type 0
Ends text = nat_lt (code (sign_at text)) 10 ≡ false

-- ---- digits
pub digit_code : (d : ℕ) → d < 10 → code (sign (48 + d)) ≡ d
digit_code zero h = refl
digit_code (suc zero) h = refl
digit_code (suc (suc zero)) h = refl
digit_code (suc (suc (suc zero))) h = refl
digit_code (suc (suc (suc (suc zero)))) h = refl
digit_code (suc (suc (suc (suc (suc zero))))) h = refl
digit_code (suc (suc (suc (suc (suc (suc zero)))))) h = refl
digit_code (suc (suc (suc (suc (suc (suc (suc zero))))))) h = refl
digit_code (suc (suc (suc (suc (suc (suc (suc (suc zero)))))))) h = refl
digit_code (suc (suc (suc (suc (suc (suc (suc (suc (suc zero))))))))) h = refl
digit_code (suc (suc (suc (suc (suc (suc (suc (suc (suc (suc d)))))))))) h = absurd (omega (arith, h))

longest_at-digit : (m d n nodes : ℕ) (k : List ℕ) → d < 10 → n ≡ 10 * m + d → n < 2 ^ 32
    → longest_at m (record { nodes = nodes; text = (48 + d) ∷ k }) ≡ longest_at n (record { nodes = nodes; text = k })
longest_at-digit m d n nodes k h e s =
    rw (digit_code d h, lt-ltb d 10 h, sym e, lt-ltb n (2 ^ 32) s) refl

pub longest_at-ends : (n nodes : ℕ) (k : List ℕ) → Ends k → longest_at n (record { nodes = nodes; text = k }) ≡ (Ok n, record { nodes = nodes; text = k })
longest_at-ends n nodes [] e = refl
longest_at-ends n nodes (byte ∷ k) e = rw e refl

-- ---- numbers
abbrev Begins : ℕ → List ℕ → Type 0
Begins n digits = 0 < n → n < 2 ^ 32 → (nodes : ℕ) (k : List ℕ) → number_at (record { nodes = nodes; text = digits ++ k }) ≡ longest_at n (record { nodes = nodes; text = k })

one_digit : (n : ℕ) → n < 10 → Begins n ((48 + n) ∷ [])
unfolding number_at
one_digit n h positive s nodes k = rw (digit_code n h, not_equal n 0 (λ i. omega (arith, i)), lt-ltb n 10 h) refl

last_digit : (n : ℕ) (digits : List ℕ) → 10 ≤ n → Begins (n / 10) digits → Begins n (digits ++ ((48 + n % 10) ∷ []))
last_digit n digits h ih positive s nodes k =
    rw (append_assoc digits ((48 + n % 10) ∷ []) k)
    (ih (omega arith) (omega arith) nodes ((48 + n % 10) ∷ k) ∙ longest_at-digit (n / 10) (n % 10) n nodes k (omega arith) (omega arith) s)

pub number_again : (n nodes : ℕ) (k : List ℕ) → n < 2 ^ 32 → Ends k → number_at (record { nodes = nodes; text = decimal n ++ k }) ≡ (Ok n, record { nodes = nodes; text = k })
unfolding number_at
number_again zero nodes k s e = rw (decimal_digit 0 (omega arith)) refl
number_again (suc n) nodes k s e = decimal_by_steps Begins one_digit last_digit (suc n) (omega arith) (omega arith) s nodes k ∙ longest_at-ends (suc n) nodes k e

-- ---- counts
abbrev Counts : ℕ → List ℕ → Type 0
Counts n digits =
    (n ≡ 1 → digits ≡ 49 ∷ []) × (2 ≤ n → n < 2 ^ 32 → (nodes : ℕ) (k : List ℕ) → count_at (record { nodes = nodes; text = digits ++ k }) ≡ longest_at n (record { nodes = nodes; text = k }))

one_counts : (n : ℕ) → n < 10 → Counts n ((48 + n) ∷ [])
unfolding count_at
one_counts n h = (λ e. rw e refl, λ two s nodes k. rw (digit_code n h, not_equal n 0 (λ i. omega (arith, i)), not_equal n 1 (λ i. omega (arith, i)), lt-ltb n 10 h) refl)

teens : (d n nodes : ℕ) (k : List ℕ) → d < 10 → n ≡ 10 * 1 + d → n < 2 ^ 32 → count_at (record { nodes = nodes; text = 49 ∷ ((48 + d) ∷ k) }) ≡ longest_at n (record { nodes = nodes; text = k })
unfolding count_at
teens d n nodes k h e s = rw (digit_code d h, lt-ltb d 10 h, sym e, lt-ltb n (2 ^ 32) s) refl

at_least : (m : ℕ) → 1 ≤ m → (m == 1) ≡ false → 2 ≤ m
at_least zero h e = absurd (omega arith)
at_least (suc zero) h e = cc
at_least (suc (suc m)) h e = omega arith

last_counts : (n : ℕ) (digits : List ℕ) → 10 ≤ n → Counts (n / 10) digits → Counts n (digits ++ ((48 + n % 10) ∷ []))
last_counts n digits h ih = (λ e. absurd (omega (arith, e)), λ two s nodes k. rw (append_assoc digits ((48 + n % 10) ∷ []) k) (go (n / 10 == 1) refl s nodes k))
  where
    go : (b : Bool) → (n / 10 == 1) ≡ b → n < 2 ^ 32 → (nodes : ℕ) (k : List ℕ) → count_at (record { nodes = nodes; text = digits ++ ((48 + n % 10) ∷ k) }) ≡ longest_at n (record { nodes = nodes; text = k })
    go true e s nodes k =
        let one : n / 10 ≡ 1 = eqb-true (n / 10) 1 e in
        rw (ih.0 one) (teens (n % 10) n nodes k (omega arith) (omega arith) s)
    go false e s nodes k =
        let two : 2 ≤ n / 10 = at_least (n / 10) (omega arith) e in
        ih.1 two (omega arith) nodes ((48 + n % 10) ∷ k) ∙ longest_at-digit (n / 10) (n % 10) n nodes k (omega arith) (omega arith) s

pub count_again : (n nodes : ℕ) (k : List ℕ) → 2 ≤ n → n < 2 ^ 32 → Ends k → count_at (record { nodes = nodes; text = decimal n ++ k }) ≡ (Ok n, record { nodes = nodes; text = k })
count_again n nodes k two s e = (decimal_by_steps Counts one_counts last_counts n (omega arith)).1 two s nodes k ∙ longest_at-ends n nodes k e
