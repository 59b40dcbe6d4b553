-- The longest number at the front of a text.
use Rattle.std.proofs.Common.{◌≡◌, ℕ, suc, ◌+◌, ◌≤◌, Bool, true, false, nat_eq, ◌&&◌, List, [], ◌∷◌, ◌++◌, length, take, drop, refl, sym, ap, ◌∙◌, subst, arith, inl, inr, ◌⊎◌, append_assoc}
use Rattle.std.specs.List.{list_all, prefix_len}
use Rattle.std.proofs.lemmas.Bool.{cases_Bool, eqb-true, and_parts}
use Rattle.std.proofs.lemmas.List.{take-append-drop, length-append, append-nil}
use Rattle.std.proofs.lemmas.List.Folds.{length-prefix_len}
use Rattle.std.proofs.lemmas.List.Prefix.{front_rest}
use Rattle.sql_lex.specs.declared.token.TokenKind.TheVariants.{Number}
use Rattle.sql_lex.specs.Bytes.{is_digit, point}
use Rattle.sql_lex.specs.Classes.{AreDigits, IsNumber}
use Rattle.sql_lex.specs.Front.{begins_number, first_passes, fraction_len, number_len}
use Rattle.sql_lex.proofs.FirstBytes.{first_digit, no_bytes}
use Rattle.sql_lex.proofs.Prefixes.{prefix_len-front, prefix_len-least, all-front}

-- ---- no number is longer
all_digits : (bytes : List ℕ) → AreDigits bytes → list_all is_digit bytes ≡ true
all_digits [] digits = absurd digits
all_digits (x ∷ xs) digits = rw digits.0 digits.1

pub drop_front : (xs ys : List ℕ) → drop (length xs) (xs ++ ys) ≡ ys
drop_front xs ys = front_rest (xs ++ ys) xs ys refl

number_len-point : (whole rest : List ℕ) → list_all is_digit whole ≡ true → number_len (whole ++ point ∷ rest) ≡ length whole + (1 + prefix_len is_digit rest)
number_len-point whole rest digits = rw (prefix_len-front is_digit whole (point ∷ rest) digits refl, drop_front whole (point ∷ rest)) refl

with_point : (whole part after : List ℕ) → list_all is_digit whole ≡ true → list_all is_digit part ≡ true
    → length (whole ++ point ∷ part) ≤ number_len ((whole ++ point ∷ part) ++ after)
with_point whole part after whole_digits digits =
    rw (append_assoc whole (point ∷ part) after, number_len-point whole (part ++ after) whole_digits, length-append whole (point ∷ part))
    (omega (arith, prefix_len-least is_digit part after digits))

pub number_len-least : (number after : List ℕ) → IsNumber number → length number ≤ number_len (number ++ after)
number_len-least number after (inl digits) = omega (arith, prefix_len-least is_digit number after (all_digits number digits))
number_len-least number after (inr (inl (whole, part, e, digits, more))) = rw e (with_point whole part after (all_digits whole digits) more)
number_len-least number after (inr (inr (part, e, digits))) = rw e (with_point [] part after refl (all_digits part digits))

-- ---- a number of that length
-- a number at the front of the text, of this length
pub record NumberAt (n : ℕ) (text : List ℕ) : Type 0 where
  pub number : List ℕ
  pub rest : List ℕ
  pub parts : text ≡ number ++ rest
  pub size : length number ≡ n
  pub is_number : IsNumber number

-- a point and digits, or nothing
record Fraction (text : List ℕ) : Type 0 where
  pub bytes : List ℕ
  pub rest : List ℕ
  pub parts : text ≡ bytes ++ rest
  pub size : length bytes ≡ fraction_len text
  pub form : (bytes ≡ []) ⊎ ((part : List ℕ) × (bytes ≡ point ∷ part) × (list_all is_digit part ≡ true))

fraction : (text : List ℕ) → Fraction text
fraction [] = record { bytes = []; rest = []; parts = refl; size = refl; form = inl refl }
fraction (byte ∷ text) = elim (cases_Bool (nat_eq byte point)) [
  | inl same ↦
      let n = prefix_len is_digit text in
      record {
        bytes = point ∷ take n text;
        rest = drop n text;
        parts = rw (eqb-true byte point same) (ap (λ t. point ∷ t) (sym (take-append-drop n text)));
        size = rw same (omega (arith, length-prefix_len is_digit text));
        form = inr (take n text, refl, all-front is_digit text);
      }
  | inr other ↦ record { bytes = []; rest = byte ∷ text; parts = refl; size = rw other refl; form = inl refl }
]

with_fraction : (whole bytes : List ℕ) → AreDigits whole → (bytes ≡ []) ⊎ ((part : List ℕ) × (bytes ≡ point ∷ part) × (list_all is_digit part ≡ true)) → IsNumber (whole ++ bytes)
with_fraction whole bytes digits (inl none) = inl (rw (none, append-nil whole) digits)
with_fraction whole bytes digits (inr (part, e, more)) = inr (inl (whole, part, ap (λ t. whole ++ t) e, digits, more))

digit_first : (x : ℕ) (xs : List ℕ) → is_digit x ≡ true → NumberAt (number_len (x ∷ xs)) (x ∷ xs)
digit_first x xs digit =
    let n = prefix_len is_digit xs in
    let f = fraction (drop n xs) in
    let one : 1 + n ≡ suc n = omega arith in
    let whole = x ∷ take n xs in
    let len : length whole ≡ suc n = ap suc (length-prefix_len is_digit xs) in
    let total : number_len (x ∷ xs) ≡ suc n + fraction_len (drop n xs) = rw (digit, one) refl in
    record {
      number = whole ++ f.bytes;
      rest = f.rest;
      parts = ap (λ t. x ∷ t) (sym (take-append-drop n xs) ∙ ap (λ t. take n xs ++ t) f.parts ∙ sym (append_assoc (take n xs) f.bytes f.rest));
      size = length-append whole f.bytes ∙ omega (arith, len, f.size, total);
      is_number = with_fraction whole f.bytes (digit, all-front is_digit xs) f.form;
    }

part_alone : (xs : List ℕ) → first_passes is_digit xs ≡ true → AreDigits (take (prefix_len is_digit xs) xs)
part_alone [] e = absurd (let f : ◌≡◌ {A = Bool} false true = e in cc)
part_alone (x ∷ xs) e = let one : 1 + prefix_len is_digit xs ≡ suc (prefix_len is_digit xs) = omega arith in rw (e, one) (e, all-front is_digit xs)

point_first : (xs : List ℕ) → first_passes is_digit xs ≡ true → NumberAt (number_len (point ∷ xs)) (point ∷ xs)
point_first xs digit =
    let n = prefix_len is_digit xs in
    record {
      number = point ∷ take n xs;
      rest = drop n xs;
      parts = ap (λ t. point ∷ t) (sym (take-append-drop n xs));
      size = omega (arith, length-prefix_len is_digit xs, number_len-point [] xs refl);
      is_number = inr (inr (take n xs, refl, part_alone xs digit));
    }

pub number_at : (x : ℕ) (xs : List ℕ) → begins_number x xs ≡ true → NumberAt (number_len (x ∷ xs)) (x ∷ xs)
number_at x xs begins = elim (cases_Bool (is_digit x)) [
  | inl digit ↦ digit_first x xs digit
  | inr other ↦
      let h : nat_eq x point && first_passes is_digit xs ≡ true = rw other at begins in
      let both = and_parts (nat_eq x point) (first_passes is_digit xs) h in
      subst (λ b. NumberAt (number_len (b ∷ xs)) (b ∷ xs)) (sym (eqb-true x point both.0)) (point_first xs both.1)
]

-- ---- where a number begins
first_digit_of : (xs part after : List ℕ) → xs ≡ part ++ after → AreDigits part → first_passes is_digit xs ≡ true
first_digit_of xs [] after e digits = absurd digits
first_digit_of xs (d ∷ part) after e digits = let f : xs ≡ d ∷ (part ++ after) = e in rw f digits.0

pub begins_number-at : (x : ℕ) (xs number after : List ℕ) → x ∷ xs ≡ number ++ after → IsNumber number → begins_number x xs ≡ true
begins_number-at x xs [] after e number = absurd (no_bytes Number number)
begins_number-at x xs (y ∷ ys) after e (inl digits) = let same : y ≡ x = cc in rw (subst (λ b. is_digit b ≡ true) same digits.0) refl
begins_number-at x xs (y ∷ ys) after e (inr (inl (whole, part, f, digits, more))) =
    let same : y ≡ x = cc in
    rw (subst (λ b. is_digit b ≡ true) same (first_digit y ys whole (point ∷ part) f digits)) refl
begins_number-at x xs (y ∷ ys) after e (inr (inr (part, f, digits))) =
    let same : x ≡ point = cc in
    let tail : xs ≡ part ++ after = cc in
    rw (same, first_digit_of xs part after tail digits) refl
