-- The longest number is what the grammar takes of digits.
use Rattle.std.proofs.Common.{◌≡◌, ◌≢◌, subst, ℕ, zero, suc, ◌+◌, ◌*◌, ◌^◌, ◌≤◌, ◌<◌, Bool, true, false, ◌&&◌, List, [], ◌∷◌, inl, inr, None, refl, sym, ap, ◌∙◌, arith}
use Rattle.std.proofs.Math.Bool.{and-false}
use Rattle.std.proofs.lemmas.Bool.{eq-eqb, eqb-true, ltb-true, ltb-false, lt-ltb, le-ltb}
use Rattle.std.specs.Prelude.{◌==◌, nat_lt, if◌then◌else◌, fold}
use Rattle.grammar.specs.Form.{empty, token, seq, alt, ref}
use Rattle.grammar.specs.Reading.{Took, Failed}
use Rattle.grammar.proofs.readers.Predictions.{ok, ahead, known, produced}
use Rattle.grammar.proofs.languages.Sets.{and_left, and_right}
use Rattle.grammar.proofs.readers.Choices.{is_absent, absent_failed}
use Rattle.grammar.proofs.readers.Steps.{empty_took}
use Rattle.proof_text.specs.Signs.{Sign, code, sign}
use Rattle.proof_text.specs.Grammar.{value_of, F, Place, Behind1, Behind2, Behind3, Behind4, Behind5, Behind6, Behind7, Behind8, Behind9, Behind10, upto, greatest, number, count, rules, no_digits, digit_then, below, of_code, above, between, beside, from_four}
use Rattle.proof_text.specs.Reading.{Rest, bad, sign_at, number_at, count_at, is_longer, longest, longest_at}
use Rattle.proof_text.specs.Outcomes.{free, bounded, Outcome}
use Rattle.proof_text.proofs.reading.OneLine.{grammar}
use Rattle.proof_text.proofs.reading.Goes.{Goes, deep_within, first, whole, mapped, production, second, other, by_next, takes}

-- the digits of a form that make n of m, and what is left
pub record DigitsTo (f : F (List ℕ)) (levels m : ℕ) (text : List ℕ) (n : ℕ) (rest : List ℕ) : Type 0 where
  pub digits : List ℕ
  pub value : n ≡ fold (λ n byte. 10 * n + code (sign byte)) m digits
  pub took : Took (free f) (bounded levels f) text digits rest

-- those that make the longest number of m
abbrev pub Digits : F (List ℕ) → ℕ → ℕ → List ℕ → Type 0
Digits f levels m text = DigitsTo f levels m text (longest m text).0 (longest m text).1

-- the greatest and the least number with so many digits more
abbrev most : ℕ → ℕ → ℕ
most zero m = m
most (suc n) m = most n (10 * m + 9)

abbrev least : ℕ → ℕ → ℕ
least zero m = m
least (suc n) m = least n (10 * m)

most-mono : (n a b : ℕ) → a ≤ b → most n a ≤ most n b
most-mono zero a b h = h
most-mono (suc n) a b h = most-mono n (10 * a + 9) (10 * b + 9) (omega arith)

least-mono : (n a b : ℕ) → a ≤ b → least n a ≤ least n b
least-mono zero a b h = h
least-mono (suc n) a b h = least-mono n (10 * a) (10 * b) (omega arith)

most-above : (n m : ℕ) → m ≤ most n m
most-above zero m = omega arith
most-above (suc n) m = let h : 10 * m + 9 ≤ most n (10 * m + 9) = most-above n (10 * m + 9) in omega arith

-- behind this number just so many digits may follow
pub record Few (n m : ℕ) : Type 0 where
  pub fits : most n m < 2 ^ 32
  pub full : 2 ^ 32 ≤ least (suc n) m

not_longer : (m d : ℕ) → 2 ^ 32 ≤ 10 * m → is_longer m d ≡ false
not_longer m d h = rw (le-ltb (10 * m + d) (2 ^ 32) (omega arith)) (and-false (nat_lt d 10))

no_digit : (m d : ℕ) → nat_lt d 10 ≡ false → is_longer m d ≡ false
no_digit m d e = rw e refl

is_longer_there : (m n d : ℕ) → Few (suc n) m → nat_lt d 10 ≡ true → is_longer m d ≡ true
is_longer_there m n d few e =
    let low : d < 10 = ltb-true d 10 e in
    let fits : most n (10 * m + 9) < 2 ^ 32 = few.fits in
    let h : 10 * m + 9 ≤ most n (10 * m + 9) = most-above n (10 * m + 9) in
    rw (e, lt-ltb (10 * m + d) (2 ^ 32) (omega arith)) refl

fewer : (m n d : ℕ) → Few (suc n) m → nat_lt d 10 ≡ true → Few n (10 * m + d)
fewer m n d few e =
    let low : d < 10 = ltb-true d 10 e in
    let fits : most n (10 * m + 9) < 2 ^ 32 = few.fits in
    let full : 2 ^ 32 ≤ least n (10 * (10 * m)) = few.full in
    let h : most n (10 * m + d) ≤ most n (10 * m + 9) = most-mono n (10 * m + d) (10 * m + 9) (omega arith) in
    let k : least n (10 * (10 * m)) ≤ least n (10 * (10 * m + d)) = least-mono n (10 * (10 * m)) (10 * (10 * m + d)) (omega arith) in
    record { fits = omega arith; full = omega arith }

none_took : (levels : ℕ) (text : List ℕ) → Took (free no_digits) (bounded levels no_digits) text [] text
none_took levels text = (mapped {f = empty} (whole {N = no_digits} {levels = levels} {start = text})).deep.took tt text (empty_took text)

stops : {f : F (List ℕ)} {levels m byte : ℕ} {text : List ℕ} → is_longer m (code (sign byte)) ≡ false → Took (free f) (bounded levels f) (byte ∷ text) [] (byte ∷ text) → Digits f levels m (byte ∷ text)
stops e t = rw e (record { digits = []; value = refl; took = t })

longer : {f g : F (List ℕ)} {levels m byte : ℕ} {text : List ℕ} → is_longer m (code (sign byte)) ≡ true
    → ((ds : List ℕ) (rest : List ℕ) → Took (free g) (bounded levels g) text ds rest → Took (free f) (bounded levels f) (byte ∷ text) (byte ∷ ds) rest)
    → Digits g levels (10 * m + code (sign byte)) text → Digits f levels m (byte ∷ text)
longer {byte = byte} e t d = rw e (record { digits = byte ∷ d.digits; value = d.value; took = t d.digits _ d.took })

-- a digit, and those behind it
digit_took : (g : F (List ℕ)) (levels : ℕ) {byte : ℕ} {text : List ℕ} (p : Sign → Bool) → ok grammar (seq (token p) g) ≡ true → p (sign byte) ≡ true → (ds rest : List ℕ) → Took (free g) (bounded levels g) text ds rest
    → Took (free (digit_then (token p) g)) (bounded levels (digit_then (token p) g)) (byte ∷ text) (byte ∷ ds) rest
digit_took g levels {byte = byte} {text = text} p o e ds rest t = (second (mapped (whole {N = digit_then (token p) g} {levels = levels} {start = byte ∷ text})) o byte text (takes levels p byte text e)).deep.took ds rest t

digit_begins : (g : F (List ℕ)) {byte : ℕ} (p : Sign → Bool) → p (sign byte) ≡ true → (free (digit_then (token p) g)).prefix (byte ∷ [])
digit_begins g {byte = byte} p e = inl (inr (byte, refl, e))

-- ---- behind a lower or a higher number

pub reads_upto : (n m : ℕ) → Few n m → (levels : ℕ) (text : List ℕ) → Digits (ref (upto n)) levels m text
reads_upto zero m few levels [] = record { digits = []; value = refl; took = (production (upto zero) whole).deep.took [] [] (none_took levels []) }
reads_upto zero m few levels (byte ∷ text) =
    let full : 2 ^ 32 ≤ 10 * m = few.full in
    let e : is_longer m (code (sign byte)) ≡ false = not_longer m (code (sign byte)) (omega arith) in
    stops e ((production (upto zero) whole).deep.took [] (byte ∷ text) (none_took levels (byte ∷ text)))
reads_upto (suc n) m few levels [] = record { digits = []; value = refl; took = (other (production (upto (suc n)) whole) refl refl).deep.took [] [] (none_took levels []) }
reads_upto (suc n) m few levels (byte ∷ text) = go (λ e. reads_upto n (10 * m + code (sign byte)) (fewer m n (code (sign byte)) few e) levels text) (nat_lt (code (sign byte)) 10) refl
  where
    go : (nat_lt (code (sign byte)) 10 ≡ true → Digits (ref (upto n)) levels (10 * m + code (sign byte)) text) → (b : Bool) → nat_lt (code (sign byte)) 10 ≡ b → Digits (ref (upto (suc n))) levels m (byte ∷ text)
    go more true e =
        longer (is_longer_there m n (code (sign byte)) few e)
        (λ ds rest t. (by_next (production (upto (suc n)) whole) refl byte text refl (digit_begins (ref (upto n)) (λ k. nat_lt (code k) 10) e)).deep.took (byte ∷ ds) rest (digit_took (ref (upto n)) levels (λ k. nat_lt (code k) 10) refl e ds rest t))
        (more e)
    go more false e =
        stops (no_digit m (code (sign byte)) e) ((other (production (upto (suc n)) whole) refl (rw e refl)).deep.took [] (byte ∷ text) (none_took levels (byte ∷ text)))

-- ---- behind the first digits of the greatest number

-- no digit may follow
full_took : (levels m : ℕ) (text : List ℕ) → 2 ^ 32 ≤ 10 * m → Digits no_digits levels m text
full_took levels m [] h = record { digits = []; value = refl; took = none_took levels [] }
full_took levels m (byte ∷ text) h = stops (not_longer m (code (sign byte)) h) (none_took levels (byte ∷ text))

reads_behind_10 : (levels : ℕ) (text : List ℕ) → Digits (ref (greatest Behind10)) levels 4294967295 text
reads_behind_10 levels text =
    let d = full_took levels 4294967295 text (omega arith) in
    record { digits = d.digits; value = d.value; took = (production (greatest Behind10) whole).deep.took d.digits _ d.took }

-- a digit behind m within 32 bits
fits_longer : (m c : ℕ) → nat_lt c 10 ≡ true → 10 * m + 9 < 2 ^ 32 → is_longer m c ≡ true
fits_longer m c e h = let low : c < 10 = ltb-true c 10 e in rw (e, lt-ltb (10 * m + c) (2 ^ 32) (omega arith)) refl

low_digit : (c d : ℕ) → d ≤ 10 → nat_lt c 10 ≡ false → nat_lt c d ≡ false
low_digit c d h e = let k : 10 ≤ c = ltb-false c 10 e in le-ltb c d (omega arith)

pub not_equal : (c d : ℕ) → (c ≡ d → ⊥) → (c == d) ≡ false
not_equal c d n = go (c == d) refl
  where
    go : (b : Bool) → (c == d) ≡ b → (c == d) ≡ false
    go true e = absurd (n (eqb-true c d e))
    go false e = e

other_digit : (c d : ℕ) → d < 10 → nat_lt c 10 ≡ false → (c == d) ≡ false
other_digit c d h e = let k : 10 ≤ c = ltb-false c 10 e in not_equal c d (λ i. omega (arith, i))

is_above : (c d : ℕ) → nat_lt c d ≡ false → (c == d) ≡ false → d < c
is_above c d e f =
    let k : d ≤ c = ltb-false c d e in
    let n : c ≢ d = λ i. let t : (c == d) ≡ true = eq-eqb c d i in cc in
    omega arith

module _ (q : Place) (m d few : ℕ) (o : ok grammar (alt (beside d few q) no_digits) ≡ true) (ob : ok grammar (beside d few q) ≡ true)
    (oc : ok grammar (alt (digit_then (of_code d) (ref (greatest q))) (digit_then (above d) (ref (upto few)))) ≡ true)
    (od : ok grammar (digit_then (of_code d) (ref (greatest q))) ≡ true)
    (within : d < 10) (fits : 10 * m + 9 < 2 ^ 32)
    (below_few : (c : ℕ) → c < d → Few (suc few) (10 * m + c)) (above_few : (c : ℕ) → d < c → c < 10 → Few few (10 * m + c))
    (levels : ℕ) (goes : (text : List ℕ) → Digits (ref (greatest q)) levels (10 * m + d) text) where
  reads_beside : (text : List ℕ) → Digits (alt (beside d few q) no_digits) levels m text
  reads_beside [] = record { digits = []; value = refl; took = (other (whole {N = alt (beside d few q) no_digits} {levels = levels} {start = []}) ob refl).deep.took [] [] (none_took levels []) }
  reads_beside (byte ∷ text) = go (nat_lt (code (sign byte)) d) (code (sign byte) == d) (nat_lt (code (sign byte)) 10) refl refl refl
    where
      starts : Goes (alt (beside d few q) no_digits) levels (byte ∷ text) (alt (beside d few q) no_digits) levels (byte ∷ text) (λ v. v)
      starts = whole

      go : (a b e : Bool) → nat_lt (code (sign byte)) d ≡ a → (code (sign byte) == d) ≡ b → nat_lt (code (sign byte)) 10 ≡ e → Digits (alt (beside d few q) no_digits) levels m (byte ∷ text)
      go a b false i j k =
          stops (no_digit m (code (sign byte)) k)
          ((other starts ob (rw (low_digit (code (sign byte)) d (omega arith) k, other_digit (code (sign byte)) d within k, k, and-false (nat_lt d (code (sign byte)))) refl)).deep.took [] (byte ∷ text) (none_took levels (byte ∷ text)))
      go true b true i j k =
          longer (fits_longer m (code (sign byte)) k fits)
          (λ ds rest t. (by_next (by_next starts o byte text refl (inl (digit_begins (ref (upto (suc few))) (λ x. nat_lt (code x) d) i))) ob byte text refl (digit_begins (ref (upto (suc few))) (λ x. nat_lt (code x) d) i)).deep.took (byte ∷ ds) rest
          (digit_took (ref (upto (suc few))) levels (λ x. nat_lt (code x) d) refl i ds rest t))
          (reads_upto (suc few) (10 * m + code (sign byte)) (below_few (code (sign byte)) (ltb-true (code (sign byte)) d i)) levels text)
      go false true true i j k =
          longer (fits_longer m (code (sign byte)) k fits)
          (λ ds rest t. (by_next (other (by_next starts o byte text refl (inr (inl (digit_begins (ref (greatest q)) (λ x. code x == d) j)))) refl (rw i refl)) oc byte text refl (digit_begins (ref (greatest q)) (λ x. code x == d) j)).deep.took (byte ∷ ds) rest
          (digit_took (ref (greatest q)) levels (λ x. code x == d) od j ds rest t))
          (subst (λ z. Digits (ref (greatest q)) levels (10 * m + z) text) (sym (eqb-true (code (sign byte)) d j)) (goes text))
      go false false true i j k =
          let h : d < code (sign byte) = is_above (code (sign byte)) d i j in
          let g : (nat_lt d (code (sign byte)) && nat_lt (code (sign byte)) 10) ≡ true = rw (lt-ltb d (code (sign byte)) h, k) refl in
          longer (fits_longer m (code (sign byte)) k fits)
          (λ ds rest t. (other (other (by_next starts o byte text refl (inr (inr (digit_begins (ref (upto few)) (λ x. nat_lt d (code x) && nat_lt (code x) 10) g)))) refl (rw i refl)) od (rw j refl)).deep.took (byte ∷ ds) rest
          (digit_took (ref (upto few)) levels (λ x. nat_lt d (code x) && nat_lt (code x) 10) refl g ds rest t))
          (reads_upto few (10 * m + code (sign byte)) (above_few (code (sign byte)) h (ltb-true (code (sign byte)) 10 k)) levels text)

few_at : (n m : ℕ) → most n m < 2 ^ 32 → 2 ^ 32 ≤ least (suc n) m → Few n m
few_at n m f g = record { fits = f; full = g }

few_below : (n m d c : ℕ) → c < d + 1 → most n (10 * m + d) < 2 ^ 32 → 2 ^ 32 ≤ least (suc n) (10 * m) → Few n (10 * m + c)
few_below n m d c h f g =
    let i : most n (10 * m + c) ≤ most n (10 * m + d) = most-mono n (10 * m + c) (10 * m + d) (omega arith) in
    let j : least (suc n) (10 * m) ≤ least (suc n) (10 * m + c) = least-mono (suc n) (10 * m) (10 * m + c) (omega arith) in
    record { fits = omega arith; full = omega arith }

few_above : (n m d c : ℕ) → d < c → c < 10 → most n (10 * m + 9) < 2 ^ 32 → 2 ^ 32 ≤ least (suc n) (10 * m + d + 1) → Few n (10 * m + c)
few_above n m d c h l f g =
    let i : most n (10 * m + c) ≤ most n (10 * m + 9) = most-mono n (10 * m + c) (10 * m + 9) (omega arith) in
    let j : least (suc n) (10 * m + d + 1) ≤ least (suc n) (10 * m + c) = least-mono (suc n) (10 * m + d + 1) (10 * m + c) (omega arith) in
    record { fits = omega arith; full = omega arith }

few_between : (n m a b : ℕ) → a ≤ m → m ≤ b → most n b < 2 ^ 32 → 2 ^ 32 ≤ least (suc n) a → Few n m
few_between n m a b h k f g =
    let i : most n m ≤ most n b = most-mono n m b k in
    let j : least (suc n) a ≤ least (suc n) m = least-mono (suc n) a m h in
    record { fits = omega arith; full = omega arith }

by_rule : (p : Place) (levels m : ℕ) (text : List ℕ) → Digits (rules (greatest p)) levels m text → Digits (ref (greatest p)) levels m text
by_rule p levels m text d = record { digits = d.digits; value = d.value; took = (production (greatest p) (whole {N = ref (greatest p)} {levels = levels} {start = text})).deep.took d.digits _ d.took }

-- the last digit
reads_behind_9 : (levels : ℕ) (text : List ℕ) → Digits (ref (greatest Behind9)) levels 429496729 text
reads_behind_9 levels text = by_rule Behind9 levels 429496729 text (last text)
  where
    last : (text : List ℕ) → Digits (rules (greatest Behind9)) levels 429496729 text
    last [] = record { digits = []; value = refl; took = (other (whole {N = rules (greatest Behind9)} {levels = levels} {start = []}) refl refl).deep.took [] [] (none_took levels []) }
    last (byte ∷ text) = go (nat_lt (code (sign byte)) 5) (code (sign byte) == 5) refl refl
      where
        starts : Goes (rules (greatest Behind9)) levels (byte ∷ text) (rules (greatest Behind9)) levels (byte ∷ text) (λ v. v)
        starts = whole

        go : (a b : Bool) → nat_lt (code (sign byte)) 5 ≡ a → (code (sign byte) == 5) ≡ b → Digits (rules (greatest Behind9)) levels 429496729 (byte ∷ text)
        go true b i j =
            let low : code (sign byte) < 5 = ltb-true (code (sign byte)) 5 i in
            longer (rw (lt-ltb (code (sign byte)) 10 (omega arith), lt-ltb (10 * 429496729 + code (sign byte)) (2 ^ 32) (omega arith)) refl)
            (λ ds rest t. (by_next (by_next starts refl byte text refl (inl (digit_begins (ref (upto 0)) (λ x. nat_lt (code x) 5) i))) refl byte text refl (digit_begins (ref (upto 0)) (λ x. nat_lt (code x) 5) i)).deep.took (byte ∷ ds) rest
            (digit_took (ref (upto 0)) levels (λ x. nat_lt (code x) 5) refl i ds rest t))
            (reads_upto 0 (10 * 429496729 + code (sign byte)) (few_at 0 (10 * 429496729 + code (sign byte)) (omega arith) (omega arith)) levels text)
        go false true i j =
            let e : code (sign byte) ≡ 5 = eqb-true (code (sign byte)) 5 j in
            longer (rw e refl)
            (λ ds rest t. (other (by_next starts refl byte text refl (inr (digit_begins (ref (greatest Behind10)) (λ x. code x == 5) j))) refl (rw i refl)).deep.took (byte ∷ ds) rest
            (digit_took (ref (greatest Behind10)) levels (λ x. code x == 5) refl j ds rest t))
            (subst (λ z. Digits (ref (greatest Behind10)) levels (10 * 429496729 + z) text) (sym e) (reads_behind_10 levels text))
        go false false i j =
            let h : 5 < code (sign byte) = is_above (code (sign byte)) 5 i j in
            stops (rw (le-ltb (10 * 429496729 + code (sign byte)) (2 ^ 32) (omega arith)) (and-false (nat_lt (code (sign byte)) 10)))
            ((other starts refl (rw (i, j) refl)).deep.took [] (byte ∷ text) (none_took levels (byte ∷ text)))

reads_behind_8 : (levels : ℕ) (text : List ℕ) → Digits (ref (greatest Behind8)) levels 42949672 text
reads_behind_8 levels text =
    by_rule Behind8 levels 42949672 text
    (reads_beside Behind9 42949672 9 0 refl refl refl refl (omega arith) (omega arith)
    (λ c h. few_below 1 42949672 8 c h (ltb-true (most 1 (10 * 42949672 + 8)) (2 ^ 32) refl) (ltb-false (least 2 (10 * 42949672)) (2 ^ 32) refl))
    (λ c h l. few_above 0 42949672 9 c h l (ltb-true (most 0 (10 * 42949672 + 9)) (2 ^ 32) refl) (ltb-false (least 1 (10 * 42949672 + 9 + 1)) (2 ^ 32) refl))
    levels (λ t. reads_behind_9 levels t) text)

reads_behind_7 : (levels : ℕ) (text : List ℕ) → Digits (ref (greatest Behind7)) levels 4294967 text
reads_behind_7 levels text =
    by_rule Behind7 levels 4294967 text
    (reads_beside Behind8 4294967 2 1 refl refl refl refl (omega arith) (omega arith)
    (λ c h. few_below 2 4294967 1 c h (ltb-true (most 2 (10 * 4294967 + 1)) (2 ^ 32) refl) (ltb-false (least 3 (10 * 4294967)) (2 ^ 32) refl))
    (λ c h l. few_above 1 4294967 2 c h l (ltb-true (most 1 (10 * 4294967 + 9)) (2 ^ 32) refl) (ltb-false (least 2 (10 * 4294967 + 2 + 1)) (2 ^ 32) refl))
    levels (λ t. reads_behind_8 levels t) text)

reads_behind_6 : (levels : ℕ) (text : List ℕ) → Digits (ref (greatest Behind6)) levels 429496 text
reads_behind_6 levels text =
    by_rule Behind6 levels 429496 text
    (reads_beside Behind7 429496 7 2 refl refl refl refl (omega arith) (omega arith)
    (λ c h. few_below 3 429496 6 c h (ltb-true (most 3 (10 * 429496 + 6)) (2 ^ 32) refl) (ltb-false (least 4 (10 * 429496)) (2 ^ 32) refl))
    (λ c h l. few_above 2 429496 7 c h l (ltb-true (most 2 (10 * 429496 + 9)) (2 ^ 32) refl) (ltb-false (least 3 (10 * 429496 + 7 + 1)) (2 ^ 32) refl))
    levels (λ t. reads_behind_7 levels t) text)

reads_behind_5 : (levels : ℕ) (text : List ℕ) → Digits (ref (greatest Behind5)) levels 42949 text
reads_behind_5 levels text =
    by_rule Behind5 levels 42949 text
    (reads_beside Behind6 42949 6 3 refl refl refl refl (omega arith) (omega arith)
    (λ c h. few_below 4 42949 5 c h (ltb-true (most 4 (10 * 42949 + 5)) (2 ^ 32) refl) (ltb-false (least 5 (10 * 42949)) (2 ^ 32) refl))
    (λ c h l. few_above 3 42949 6 c h l (ltb-true (most 3 (10 * 42949 + 9)) (2 ^ 32) refl) (ltb-false (least 4 (10 * 42949 + 6 + 1)) (2 ^ 32) refl))
    levels (λ t. reads_behind_6 levels t) text)

reads_behind_4 : (levels : ℕ) (text : List ℕ) → Digits (ref (greatest Behind4)) levels 4294 text
reads_behind_4 levels text =
    by_rule Behind4 levels 4294 text
    (reads_beside Behind5 4294 9 4 refl refl refl refl (omega arith) (omega arith)
    (λ c h. few_below 5 4294 8 c h (ltb-true (most 5 (10 * 4294 + 8)) (2 ^ 32) refl) (ltb-false (least 6 (10 * 4294)) (2 ^ 32) refl))
    (λ c h l. few_above 4 4294 9 c h l (ltb-true (most 4 (10 * 4294 + 9)) (2 ^ 32) refl) (ltb-false (least 5 (10 * 4294 + 9 + 1)) (2 ^ 32) refl))
    levels (λ t. reads_behind_5 levels t) text)

reads_behind_3 : (levels : ℕ) (text : List ℕ) → Digits (ref (greatest Behind3)) levels 429 text
reads_behind_3 levels text =
    by_rule Behind3 levels 429 text
    (reads_beside Behind4 429 4 5 refl refl refl refl (omega arith) (omega arith)
    (λ c h. few_below 6 429 3 c h (ltb-true (most 6 (10 * 429 + 3)) (2 ^ 32) refl) (ltb-false (least 7 (10 * 429)) (2 ^ 32) refl))
    (λ c h l. few_above 5 429 4 c h l (ltb-true (most 5 (10 * 429 + 9)) (2 ^ 32) refl) (ltb-false (least 6 (10 * 429 + 4 + 1)) (2 ^ 32) refl))
    levels (λ t. reads_behind_4 levels t) text)

reads_behind_2 : (levels : ℕ) (text : List ℕ) → Digits (ref (greatest Behind2)) levels 42 text
reads_behind_2 levels text =
    by_rule Behind2 levels 42 text
    (reads_beside Behind3 42 9 6 refl refl refl refl (omega arith) (omega arith)
    (λ c h. few_below 7 42 8 c h (ltb-true (most 7 (10 * 42 + 8)) (2 ^ 32) refl) (ltb-false (least 8 (10 * 42)) (2 ^ 32) refl))
    (λ c h l. few_above 6 42 9 c h l (ltb-true (most 6 (10 * 42 + 9)) (2 ^ 32) refl) (ltb-false (least 7 (10 * 42 + 9 + 1)) (2 ^ 32) refl))
    levels (λ t. reads_behind_3 levels t) text)

reads_behind_1 : (levels : ℕ) (text : List ℕ) → Digits (ref (greatest Behind1)) levels 4 text
reads_behind_1 levels text =
    by_rule Behind1 levels 4 text
    (reads_beside Behind2 4 2 7 refl refl refl refl (omega arith) (omega arith)
    (λ c h. few_below 8 4 1 c h (ltb-true (most 8 (10 * 4 + 1)) (2 ^ 32) refl) (ltb-false (least 9 (10 * 4)) (2 ^ 32) refl))
    (λ c h l. few_above 7 4 2 c h l (ltb-true (most 7 (10 * 4 + 9)) (2 ^ 32) refl) (ltb-false (least 8 (10 * 4 + 2 + 1)) (2 ^ 32) refl))
    levels (λ t. reads_behind_2 levels t) text)

-- ---- numbers

pub fails : {A : Type 0} (f : F A) (levels : ℕ) → ok grammar f ≡ true → (text : List ℕ) → is_absent sign (ahead grammar f) text ≡ true → Failed (free f) (bounded levels f) text text
fails f levels o text n = absent_failed sign (free f) (ahead grammar f) (known grammar f o) (bounded levels f) (deep_within levels f) text n

-- behind the first digit
number_of : (N : F ℕ) (room : ℕ) (start : List ℕ) (byte : ℕ) (ds rest : List ℕ) (n : ℕ) → n ≡ fold (λ m b. 10 * m + code (sign b)) (code (sign byte)) ds
    → Took (free N) (bounded room N) start (value_of (byte ∷ ds)) rest → Took (free N) (bounded room N) start n rest
number_of N room start byte ds rest n e t =
    let z : 10 * 0 + code (sign byte) ≡ code (sign byte) = omega arith in
    subst (λ z. Took (free N) (bounded room N) start z rest) (ap (λ m. fold (λ m b. 10 * m + code (sign b)) m ds) z ∙ sym e) t

module _ {N : F ℕ} {room levels : ℕ} {start : List ℕ} (byte : ℕ) (text : List ℕ) where
  below_four : (z : ℕ) → Goes (digit_then (between z 4) (ref (upto 9))) levels (byte ∷ text) N room start value_of → z < code (sign byte) → nat_lt (code (sign byte)) 4 ≡ true
      → Took (free N) (bounded room N) start (longest (code (sign byte)) text).0 (longest (code (sign byte)) text).1
  below_four z l h j =
      let few : Few 9 (code (sign byte)) = few_between 9 (code (sign byte)) 1 3 (omega (arith, h)) (let h : code (sign byte) < 4 = ltb-true (code (sign byte)) 4 j in omega arith) (ltb-true (most 9 3) (2 ^ 32) refl) (ltb-false (least 10 1) (2 ^ 32) refl) in
      let d = reads_upto 9 (code (sign byte)) few levels text in
      let p : (nat_lt z (code (sign byte)) && nat_lt (code (sign byte)) 4) ≡ true = rw (lt-ltb z (code (sign byte)) h, j) refl in
      number_of N room start byte d.digits _ _ d.value (l.deep.took (byte ∷ d.digits) _ (digit_took (ref (upto 9)) levels (λ x. nat_lt z (code x) && nat_lt (code x) 4) refl p d.digits _ d.took))

  above_three : Goes from_four levels (byte ∷ text) N room start value_of → nat_lt (code (sign byte)) 4 ≡ false → nat_lt (code (sign byte)) 10 ≡ true
      → Took (free N) (bounded room N) start (longest (code (sign byte)) text).0 (longest (code (sign byte)) text).1
  above_three l j k = go (code (sign byte) == 4) refl
    where
      go : (b : Bool) → (code (sign byte) == 4) ≡ b → Took (free N) (bounded room N) start (longest (code (sign byte)) text).0 (longest (code (sign byte)) text).1
      go true i =
          let e : code (sign byte) ≡ 4 = eqb-true (code (sign byte)) 4 i in
          let d : Digits (ref (greatest Behind1)) levels (code (sign byte)) text = subst (λ z. Digits (ref (greatest Behind1)) levels z text) (sym e) (reads_behind_1 levels text) in
          number_of N room start byte d.digits _ _ d.value
          ((by_next l refl byte text refl (digit_begins (ref (greatest Behind1)) (λ x. code x == 4) i)).deep.took (byte ∷ d.digits) _
          (digit_took (ref (greatest Behind1)) levels (λ x. code x == 4) refl i d.digits _ d.took))
      go false i =
          let low : code (sign byte) < 10 = ltb-true (code (sign byte)) 10 k in
          let h : 4 < code (sign byte) = is_above (code (sign byte)) 4 j i in
          let few : Few 8 (code (sign byte)) = few_between 8 (code (sign byte)) 5 9 (omega (arith, h)) (omega (arith, low)) (ltb-true (most 8 9) (2 ^ 32) refl) (ltb-false (least 9 5) (2 ^ 32) refl) in
          let d = reads_upto 8 (code (sign byte)) few levels text in
          let p : (nat_lt 4 (code (sign byte)) && nat_lt (code (sign byte)) 10) ≡ true = rw (lt-ltb 4 (code (sign byte)) h, k) refl in
          number_of N room start byte d.digits _ _ d.value
          ((other l refl (rw i refl)).deep.took (byte ∷ d.digits) _
          (digit_took (ref (upto 8)) levels (λ x. nat_lt 4 (code x) && nat_lt (code x) 10) refl p d.digits _ d.took))

module _ (levels : ℕ) (byte : ℕ) (text : List ℕ) where
  numbered : Goes (rules number) levels (byte ∷ text) (ref number) levels (byte ∷ text) (λ v. v)
  numbered = production number whole

  number_zero : (code (sign byte) == 0) ≡ true → Took (free (ref number)) (bounded levels (ref number)) (byte ∷ text) 0 text
  number_zero j =
      let e : code (sign byte) ≡ 0 = eqb-true (code (sign byte)) 0 j in
      let z : 10 * 0 + code (sign byte) ≡ 0 = omega arith in
      subst (λ z. Took (free (ref number)) (bounded levels (ref number)) (byte ∷ text) z text) z
      ((mapped (first (mapped numbered) refl (rw e refl))).deep.took byte text (takes levels (λ k. code k == 0) byte text j))

  number_longer : (code (sign byte) == 0) ≡ false → nat_lt (code (sign byte)) 10 ≡ true
      → Took (free (ref number)) (bounded levels (ref number)) (byte ∷ text) (longest (code (sign byte)) text).0 (longest (code (sign byte)) text).1
  number_longer i k = go (nat_lt (code (sign byte)) 4) refl
    where
      positive : 0 < code (sign byte)
      positive = is_above (code (sign byte)) 0 (le-ltb (code (sign byte)) 0 (omega arith)) i

      behind_zero : Goes (alt (digit_then (between 0 4) (ref (upto 9))) from_four) levels (byte ∷ text) (ref number) levels (byte ∷ text) value_of
      behind_zero = other (mapped numbered) refl (rw i refl)

      go : (a : Bool) → nat_lt (code (sign byte)) 4 ≡ a → Took (free (ref number)) (bounded levels (ref number)) (byte ∷ text) (longest (code (sign byte)) text).0 (longest (code (sign byte)) text).1
      go true j =
          let p : (nat_lt 0 (code (sign byte)) && nat_lt (code (sign byte)) 4) ≡ true = rw (lt-ltb 0 (code (sign byte)) positive, j) refl in
          below_four byte text 0 (by_next behind_zero refl byte text refl (digit_begins (ref (upto 9)) (λ x. nat_lt 0 (code x) && nat_lt (code x) 4) p)) positive j
      go false j = above_three byte text (other behind_zero refl (rw (j, and-false (nat_lt 0 (code (sign byte)))) refl)) j k

pub reads_number : (levels : ℕ) (rest : Rest) → Outcome (ref number) levels rest.text (number_at rest)
unfolding number_at
reads_number levels rest = at rest.nodes rest.text
  where
    at : (nodes : ℕ) (text : List ℕ) → Outcome (ref number) levels text (number_at (record { nodes = nodes; text = text }))
    at nodes [] = fails (ref number) levels refl [] refl
    at nodes (byte ∷ text) = go (code (sign byte) == 0) (nat_lt (code (sign byte)) 10) refl refl
      where
        go : (a b : Bool) → (code (sign byte) == 0) ≡ a → nat_lt (code (sign byte)) 10 ≡ b → Outcome (ref number) levels (byte ∷ text) (number_at (record { nodes = nodes; text = byte ∷ text }))
        go true b i k = rw i (number_zero levels byte text i)
        go false true i k = rw (i, k) (number_longer levels byte text i k)
        go false false i k = rw (i, k) (fails (ref number) levels refl (byte ∷ text) (rw k refl))

-- ---- counts

tens : F (List ℕ)
tens = digit_then (below 10) (ref (upto 8))

module _ (levels : ℕ) (byte : ℕ) (text : List ℕ) where
  counted : Goes (rules count) levels (byte ∷ text) (ref count) levels (byte ∷ text) (λ v. v)
  counted = production count whole

  -- behind the digit 1 another one follows
  behind_one : (code (sign byte) == 1) ≡ true → Goes tens levels text (ref count) levels (byte ∷ text) (λ ds. value_of (byte ∷ ds))
  unfolding tens
  behind_one j =
      second (mapped (by_next (mapped counted) refl byte text refl (digit_begins tens (λ x. code x == 1) j))) refl byte text (takes levels (λ x. code x == 1) byte text j)

  tens_took : (code (sign byte) == 1) ≡ true → (d : ℕ) (more : List ℕ) → text ≡ d ∷ more → nat_lt (code (sign d)) 10 ≡ true
      → Took (free (ref count)) (bounded levels (ref count)) (byte ∷ text) (longest (10 * 1 + code (sign d)) more).0 (longest (10 * 1 + code (sign d)) more).1
  unfolding tens
  tens_took j d more i k =
      let one : code (sign byte) ≡ 1 = eqb-true (code (sign byte)) 1 j in
      let low : code (sign d) < 10 = ltb-true (code (sign d)) 10 k in
      let few : Few 8 (10 * 1 + code (sign d)) = few_between 8 (10 * 1 + code (sign d)) 10 19 (omega arith) (omega arith) (ltb-true (most 8 19) (2 ^ 32) refl) (ltb-false (least 9 10) (2 ^ 32) refl) in
      let ds = reads_upto 8 (10 * 1 + code (sign d)) few levels more in
      let z : 10 * (10 * 0 + code (sign byte)) + code (sign d) ≡ 10 * 1 + code (sign d) = omega arith in
      let t : Took (free tens) (bounded levels tens) text (d ∷ ds.digits) (longest (10 * 1 + code (sign d)) more).1 =
      subst (λ (x : List ℕ). Took (free tens) (bounded levels tens) x (d ∷ ds.digits) (longest (10 * 1 + code (sign d)) more).1) (sym i)
      (digit_took (ref (upto 8)) levels (λ x. nat_lt (code x) 10) refl k ds.digits _ ds.took) in
      subst (λ z. Took (free (ref count)) (bounded levels (ref count)) (byte ∷ text) z (longest (10 * 1 + code (sign d)) more).1)
      (ap (λ m. fold (λ m b. 10 * m + code (sign b)) m ds.digits) z ∙ sym ds.value)
      ((behind_one j).deep.took (d ∷ ds.digits) _ t)

  count_longer : (code (sign byte) == 0) ≡ false → (code (sign byte) == 1) ≡ false → nat_lt (code (sign byte)) 10 ≡ true
      → Took (free (ref count)) (bounded levels (ref count)) (byte ∷ text) (longest (code (sign byte)) text).0 (longest (code (sign byte)) text).1
  count_longer i j k = go (nat_lt (code (sign byte)) 4) refl
    where
      positive : 0 < code (sign byte)
      positive = is_above (code (sign byte)) 0 (le-ltb (code (sign byte)) 0 (omega arith)) i

      more : 1 < code (sign byte)
      more = is_above (code (sign byte)) 1 (le-ltb (code (sign byte)) 1 (omega (arith, positive))) j

      behind : Goes (alt (digit_then (between 1 4) (ref (upto 9))) from_four) levels (byte ∷ text) (ref count) levels (byte ∷ text) value_of
      behind = other (mapped counted) refl (rw j refl)

      go : (a : Bool) → nat_lt (code (sign byte)) 4 ≡ a → Took (free (ref count)) (bounded levels (ref count)) (byte ∷ text) (longest (code (sign byte)) text).0 (longest (code (sign byte)) text).1
      go true l =
          let p : (nat_lt 1 (code (sign byte)) && nat_lt (code (sign byte)) 4) ≡ true = rw (lt-ltb 1 (code (sign byte)) more, l) refl in
          below_four byte text 1 (by_next behind refl byte text refl (digit_begins (ref (upto 9)) (λ x. nat_lt 1 (code x) && nat_lt (code x) 4) p)) more l
      go false l = above_three byte text (other behind refl (rw (l, and-false (nat_lt 1 (code (sign byte)))) refl)) l k

count_at_one : (levels nodes byte : ℕ) (text : List ℕ) → (code (sign byte) == 1) ≡ true
    → Outcome (ref count) levels (byte ∷ text) (if nat_lt (code (sign_at text)) 10 then longest_at 1 (record { nodes = nodes; text = text }) else bad (record { nodes = nodes; text = text }))
unfolding tens
count_at_one levels nodes byte [] j = (behind_one levels byte [] j).deep.failed [] (fails tens levels refl [] refl)
count_at_one levels nodes byte (d ∷ more) j = go (nat_lt (code (sign d)) 10) refl
  where
    go : (b : Bool) → nat_lt (code (sign d)) 10 ≡ b
        → Outcome (ref count) levels (byte ∷ (d ∷ more)) (if b then longest_at 1 (record { nodes = nodes; text = d ∷ more }) else bad (record { nodes = nodes; text = d ∷ more }))
    go true k = rw (fits_longer 1 (code (sign d)) k (omega arith)) (tens_took levels byte (d ∷ more) j d more refl k)
    go false k = (behind_one levels byte (d ∷ more) j).deep.failed (d ∷ more) (fails tens levels refl (d ∷ more) (rw k refl))

pub reads_count : (levels : ℕ) (rest : Rest) → Outcome (ref count) levels rest.text (count_at rest)
unfolding count_at
reads_count levels rest = at rest.nodes rest.text
  where
    at : (nodes : ℕ) (text : List ℕ) → Outcome (ref count) levels text (count_at (record { nodes = nodes; text = text }))
    at nodes [] = fails (ref count) levels refl [] refl
    at nodes (byte ∷ text) = go (code (sign byte) == 0) (code (sign byte) == 1) (nat_lt (code (sign byte)) 10) refl refl refl
      where
        go : (a b e : Bool) → (code (sign byte) == 0) ≡ a → (code (sign byte) == 1) ≡ b → nat_lt (code (sign byte)) 10 ≡ e
            → Outcome (ref count) levels (byte ∷ text) (count_at (record { nodes = nodes; text = byte ∷ text }))
        go true b e i j k =
            let z : code (sign byte) ≡ 0 = eqb-true (code (sign byte)) 0 i in
            rw i ((counted levels byte text).deep.failed (byte ∷ text) (fails (rules count) levels refl (byte ∷ text) (rw z refl)))
        go false true e i j k = rw (i, j) (count_at_one levels nodes byte text j)
        go false false true i j k = rw (i, j, k) (count_longer levels byte text i j k)
        go false false false i j k = rw (i, j, k) (fails (ref count) levels refl (byte ∷ text) (rw (k, and-false (nat_lt 0 (code (sign byte)))) refl))

pub count_prefix : (byte : ℕ) → (nat_lt 0 (code (sign byte)) && nat_lt (code (sign byte)) 10) ≡ true → (free (ref count)).prefix (byte ∷ [])
unfolding tens
count_prefix byte e = (produced grammar None count).there.prefix (byte ∷ []) (go (code (sign byte) == 1) (nat_lt (code (sign byte)) 4) (code (sign byte) == 4) refl refl refl)
  where
    positive : 0 < code (sign byte)
    positive = ltb-true 0 (code (sign byte)) (and_left (nat_lt 0 (code (sign byte))) (nat_lt (code (sign byte)) 10) e)

    low : nat_lt (code (sign byte)) 10 ≡ true
    low = and_right (nat_lt 0 (code (sign byte))) (nat_lt (code (sign byte)) 10) e

    go : (a b c : Bool) → (code (sign byte) == 1) ≡ a → nat_lt (code (sign byte)) 4 ≡ b → (code (sign byte) == 4) ≡ c → (free (rules count)).prefix (byte ∷ [])
    go true b c i j k = inl (digit_begins tens (λ x. code x == 1) i)
    go false true c i j k =
        let more : 1 < code (sign byte) = is_above (code (sign byte)) 1 (le-ltb (code (sign byte)) 1 (omega (arith, positive))) i in
        let p : (nat_lt 1 (code (sign byte)) && nat_lt (code (sign byte)) 4) ≡ true = rw (lt-ltb 1 (code (sign byte)) more, j) refl in
        inr (inl (digit_begins (ref (upto 9)) (λ x. nat_lt 1 (code x) && nat_lt (code x) 4) p))
    go false false true i j k = inr (inr (inl (digit_begins (ref (greatest Behind1)) (λ x. code x == 4) k)))
    go false false false i j k =
        let more : 4 < code (sign byte) = is_above (code (sign byte)) 4 j k in
        let p : (nat_lt 4 (code (sign byte)) && nat_lt (code (sign byte)) 10) ≡ true = rw (lt-ltb 4 (code (sign byte)) more, low) refl in
        inr (inr (inr (digit_begins (ref (upto 8)) (λ x. nat_lt 4 (code x) && nat_lt (code x) 10) p)))
