-- What the front of a text is found to be, it is.
use Rattle.std.proofs.Common.{◌≡◌, ◌≢◌, ℕ, ◌+◌, ◌<◌, ◌≤◌, Bool, true, false, nat_eq, ◌&&◌, ◌||◌, List, [], ◌∷◌, ◌++◌, length, take, drop, Option, Some, None, refl, sym, ap, ◌∙◌, subst, arith, inl, inr, ◌⊎◌, codes, append_assoc}
use Rattle.std.specs.List.{prefix_len}
use Rattle.std.proofs.lemmas.Bool.{cases_Bool, eqb-true}
use Rattle.std.proofs.lemmas.Bool.Decides.{nat_tests}
use Rattle.std.proofs.lemmas.List.{take-append-drop, length-append}
use Rattle.std.proofs.lemmas.List.Folds.{length-prefix_len}
use Rattle.std.proofs.lemmas.List.Prefix.{front_rest}
use Rattle.sql_lex.specs.declared.token.LexCode.{LexCode}
use Rattle.sql_lex.specs.declared.token.LexCode.TheVariants.{BadByte, OpenString, OpenComment, OpenName, BadNumber}
use Rattle.sql_lex.specs.declared.token.TokenKind.{TokenKind}
use Rattle.sql_lex.specs.declared.token.TokenKind.TheVariants.{Word, Quoted, Number, Text}
use Rattle.sql_lex.specs.Bytes.{begins_word, goes_on_word, is_blank, quote, double_quote}
use Rattle.sql_lex.specs.Classes.{IsToken, doubled, between}
use Rattle.sql_lex.specs.Gaps.{BeginsComment, IsGap, EndsLine, is_in_line}
use Rattle.sql_lex.specs.Faults.{HasFault, HasBadByte, spoils_number}
use Rattle.sql_lex.specs.Tokens.{IsTokenBefore}
use Rattle.sql_lex.specs.Front.{begins_number, close_len, end_len, first_passes, number_len}
use Rattle.sql_lex.proofs.Prefixes.{prefix_len-least, all-front, stops-behind}
use Rattle.sql_lex.proofs.FirstBytes.{begins, first_byte, no_bytes, begins_word-kind, number_kind, quote_kind, double_quote_kind, number_symbol, fault_begins, fault_byte}
use Rattle.sql_lex.proofs.Marks.{ended, unended, open-none, end_len-least}
use Rattle.sql_lex.proofs.Closing.{closed_first, unclosed}
use Rattle.sql_lex.proofs.Numbers.{drop_front, number_at, number_len-least}

-- no front of the text that is a token is longer
abbrev pub Longest : List ℕ → ℕ → Type 0
Longest text n = (other : TokenKind) (longer after : List ℕ) → text ≡ longer ++ after → IsToken other longer → length longer ≤ n

abbrev pub NoFault : List ℕ → Type 0
NoFault text = (code : LexCode) → HasFault code text → ⊥

-- a token of so many bytes stands at the front
pub record Found (kind : TokenKind) (n : ℕ) (text : List ℕ) : Type 0 where
  pub bytes : List ℕ
  pub rest : List ℕ
  pub parts : text ≡ bytes ++ rest
  pub size : length bytes ≡ n
  pub before : IsTokenBefore kind bytes rest

-- a gap of so many bytes stands there
pub record FoundGap (n : ℕ) (text : List ℕ) : Type 0 where
  pub bytes : List ℕ
  pub rest : List ℕ
  pub parts : text ≡ bytes ++ rest
  pub size : length bytes ≡ n
  pub gap : IsGap bytes rest
  pub some : 0 < n

pub found : (kind : TokenKind) (n : ℕ) (text bytes rest : List ℕ) → text ≡ bytes ++ rest → length bytes ≡ n
    → IsToken kind bytes → Longest text n → ¬ BeginsComment text → NoFault text → Found kind n text
found kind n text bytes rest parts size token longest no_comment no_fault = record {
  bytes = bytes;
  rest = rest;
  parts = parts;
  size = size;
  before = record {
    is_token = token;
    longest = λ other longer after e u. subst (λ k. length longer ≤ k) (sym size) (longest other longer after (parts ∙ e) u);
    no_comment = λ comment. no_comment (subst BeginsComment (sym parts) comment);
    no_fault = λ code fault. no_fault code (subst (HasFault code) (sym parts) fault);
  };
}

pub false_is_true : {A : Type 0} → false ≡ true → A
false_is_true e = absurd cc

pub both : {A : Type 0} (b : Bool) → b ≡ false → b ≡ true → A
both b fails passes = false_is_true (sym fails ∙ passes)

-- ---- what the first byte excludes
-- the token's first byte is the text's
pub begins_like : (x : ℕ) (xs : List ℕ) (kind : TokenKind) (y : ℕ) (ys after : List ℕ) → x ∷ xs ≡ (y ∷ ys) ++ after → IsToken kind (y ∷ ys) → begins kind x ≡ true
begins_like x xs kind y ys after e token = let same : y ≡ x = cc in subst (λ b. begins kind b ≡ true) same (first_byte kind y ys token)

pub not_bad : (kind : TokenKind) (x : ℕ) (xs bytes rest : List ℕ) → x ∷ xs ≡ bytes ++ rest → IsToken kind bytes → HasBadByte (x ∷ xs) → ⊥
not_bad kind x xs bytes rest e token bad = bad.3 kind bytes rest e token

pub comment_first : (x : ℕ) (xs : List ℕ) → BeginsComment (x ∷ xs) → (nat_eq x 45 && first_passes (nat_eq 45) xs || nat_eq x 47 && first_passes (nat_eq 42) xs) ≡ true
comment_first x xs (inl (after, e)) =
    let first : x ≡ 45 = cc in
    let second : xs ≡ 45 ∷ after = cc in
    rw (first, second) refl
comment_first x xs (inr (after, e)) =
    let first : x ≡ 47 = cc in
    let second : xs ≡ 42 ∷ after = cc in
    rw (first, second) refl

comment_byte : (x : ℕ) (xs : List ℕ) → BeginsComment (x ∷ xs) → (nat_eq x 45 || nat_eq x 47) ≡ true
comment_byte x xs (inl (after, e)) = let first : x ≡ 45 = cc in rw first refl
comment_byte x xs (inr (after, e)) = let first : x ≡ 47 = cc in rw first refl

-- ---- words
word_comment : (x : ℕ) → begins_word x ≡ true → (nat_eq x 45 || nat_eq x 47) ≡ false
word_comment x e = grind (arith, nat_tests)

word_fault : (code : LexCode) (x : ℕ) → begins_word x ≡ true → fault_begins code x ≡ true → code ≡ BadByte
word_fault BadByte x w e = refl
word_fault OpenString x w e = absurd (let f : true ≡ false = grind (arith, nat_tests) in cc)
word_fault OpenComment x w e = absurd (let f : true ≡ false = grind (arith, nat_tests) in cc)
word_fault OpenName x w e = absurd (let f : true ≡ false = grind (arith, nat_tests) in cc)
word_fault BadNumber x w e = absurd (let f : true ≡ false = grind (arith, nat_tests) in cc)

word_longest : (x : ℕ) (xs : List ℕ) → begins_word x ≡ true → Longest (x ∷ xs) (1 + prefix_len goes_on_word xs)
word_longest x xs w other [] after e token = omega arith
word_longest x xs w other (y ∷ ys) after e token =
    let kind = begins_word-kind other x w (begins_like x xs other y ys after e token) in
    let word : IsToken Word (y ∷ ys) = subst (λ k. IsToken k (y ∷ ys)) kind token in
    let tail : xs ≡ ys ++ after = cc in
    rw tail (omega (arith, prefix_len-least goes_on_word ys after word.1))

pub word_found : (x : ℕ) (xs : List ℕ) → begins_word x ≡ true → Found Word (1 + prefix_len goes_on_word xs) (x ∷ xs)
word_found x xs w =
    let n = prefix_len goes_on_word xs in
    let parts : x ∷ xs ≡ (x ∷ take n xs) ++ drop n xs = ap (λ t. x ∷ t) (sym (take-append-drop n xs)) in
    let token : IsToken Word (x ∷ take n xs) = (w, all-front goes_on_word xs) in
    found Word (1 + n) (x ∷ xs) (x ∷ take n xs) (drop n xs) parts (omega (arith, length-prefix_len goes_on_word xs)) token
    (word_longest x xs w)
    (λ comment. both _ (word_comment x w) (comment_byte x xs comment))
    (λ code fault. not_bad Word x xs (x ∷ take n xs) (drop n xs) parts token (subst (λ c. HasFault c (x ∷ xs)) (word_fault code x w (fault_byte code x xs fault)) fault))

-- ---- numbers
number_byte : (x : ℕ) (xs : List ℕ) → begins_number x xs ≡ true → begins Number x ≡ true
number_byte x xs e = grind (arith, nat_tests)

number_comment : (x : ℕ) → begins Number x ≡ true → (nat_eq x 45 || nat_eq x 47) ≡ false
number_comment x e = grind (arith, nat_tests)

number_fault : (code : LexCode) (x : ℕ) → begins Number x ≡ true → fault_begins code x ≡ true → (code ≡ BadByte) ⊎ (code ≡ BadNumber)
number_fault BadByte x w e = inl refl
number_fault OpenString x w e = absurd (let f : true ≡ false = grind (arith, nat_tests) in cc)
number_fault OpenComment x w e = absurd (let f : true ≡ false = grind (arith, nat_tests) in cc)
number_fault OpenName x w e = absurd (let f : true ≡ false = grind (arith, nat_tests) in cc)
number_fault BadNumber x w e = inr refl

some_bytes : (kind : TokenKind) (bytes : List ℕ) → IsToken kind bytes → 0 < length bytes
some_bytes kind [] token = absurd (no_bytes kind token)
some_bytes kind (x ∷ xs) token = omega arith

number_longest : (x : ℕ) (xs : List ℕ) → begins_number x xs ≡ true → 0 < number_len (x ∷ xs) → Longest (x ∷ xs) (number_len (x ∷ xs))
number_longest x xs n some other [] after e token = omega arith
number_longest x xs n some other (y ∷ ys) after e token =
    let begin = number_byte x xs n in
    elim (number_kind other x begin (begins_like x xs other y ys after e token)) [
      | inl number ↦ subst (λ t. length (y ∷ ys) ≤ number_len t) (sym e) (number_len-least (y ∷ ys) after (subst (λ k. IsToken k (y ∷ ys)) number token))
      | inr symbol ↦
          let same : y ≡ x = cc in
          let alone = number_symbol y ys (subst (λ b. begins Number b ≡ true) (sym same) begin) (subst (λ k. IsToken k (y ∷ ys)) symbol token) in
          rw alone (omega (arith, some))
    ]

-- the longest number of a fault is the one that was found
spoiled_there : (text number rest : List ℕ) (next : ℕ) → text ≡ number ++ next ∷ rest → length number ≡ number_len text → spoils_number next ≡ true
    → first_passes spoils_number (drop (number_len text) text) ≡ true
spoiled_there text number rest next e size spoiled = rw (sym size, e, drop_front number (next ∷ rest)) spoiled

spoiled : (x : ℕ) (xs : List ℕ) → begins_number x xs ≡ true → HasFault BadNumber (x ∷ xs) → first_passes spoils_number (drop (number_len (x ∷ xs)) (x ∷ xs)) ≡ true
spoiled x xs n fault =
    let here = number_at x xs n in
    let least : length fault.number ≤ number_len (x ∷ xs) = subst (λ t. length fault.number ≤ number_len t) (sym fault.parts) (number_len-least fault.number (fault.next ∷ fault.rest) fault.is_number) in
    let most = fault.longest here.number here.rest here.parts here.is_number in
    spoiled_there (x ∷ xs) fault.number fault.rest fault.next fault.parts (omega (arith, least, most, here.size)) fault.spoiled

pub number_found : (x : ℕ) (xs : List ℕ) → begins_number x xs ≡ true → first_passes spoils_number (drop (number_len (x ∷ xs)) (x ∷ xs)) ≡ false
    → Found Number (number_len (x ∷ xs)) (x ∷ xs)
number_found x xs n sound =
    let here = number_at x xs n in
    let begin = number_byte x xs n in
    let some : 0 < number_len (x ∷ xs) = omega (arith, some_bytes Number here.number here.is_number, here.size) in
    found Number (number_len (x ∷ xs)) (x ∷ xs) here.number here.rest here.parts here.size here.is_number
    (number_longest x xs n some)
    (λ comment. both _ (number_comment x begin) (comment_byte x xs comment))
    (λ code fault. elim (number_fault code x begin (fault_byte code x xs fault)) [
      | inl bad ↦ not_bad Number x xs here.number here.rest here.parts here.is_number (subst (λ c. HasFault c (x ∷ xs)) bad fault)
      | inr bad ↦ both _ sound (spoiled x xs n (subst (λ c. HasFault c (x ∷ xs)) bad fault))
    ])

next_byte : (test : ℕ → Bool) (bytes : List ℕ) → first_passes test bytes ≡ true → (next : ℕ) × (rest : List ℕ) × (bytes ≡ next ∷ rest) × (test next ≡ true)
next_byte test [] e = false_is_true e
next_byte test (x ∷ xs) e = (x, xs, refl, e)

pub bad_number : (x : ℕ) (xs : List ℕ) → begins_number x xs ≡ true → first_passes spoils_number (drop (number_len (x ∷ xs)) (x ∷ xs)) ≡ true → HasFault BadNumber (x ∷ xs)
bad_number x xs n spoils =
    let here = number_at x xs n in
    let behind : drop (number_len (x ∷ xs)) (x ∷ xs) ≡ here.rest = ap (λ k. drop k (x ∷ xs)) (sym here.size) ∙ front_rest (x ∷ xs) here.number here.rest here.parts in
    let next = next_byte spoils_number here.rest (subst (λ t. first_passes spoils_number t ≡ true) behind spoils) in
    record {
      number = here.number;
      next = next.0;
      rest = next.1;
      parts = here.parts ∙ ap (λ t. here.number ++ t) next.2;
      is_number = here.is_number;
      longest = λ longer after e number. subst (λ k. length longer ≤ k) (sym here.size) (subst (λ t. length longer ≤ number_len t) (sym e) (number_len-least longer after number));
      spoiled = next.3;
    }

-- ---- texts and names
between_front : (mark : ℕ) (inside rest : List ℕ) → mark ∷ (doubled mark inside ++ mark ∷ rest) ≡ between mark inside ++ rest
between_front mark inside rest = ap (λ t. mark ∷ t) (sym (append_assoc (doubled mark inside) (mark ∷ []) rest))

length-between : (mark : ℕ) (inside : List ℕ) → length (between mark inside) ≡ 1 + (length (doubled mark inside) + 1)
length-between mark inside = omega (arith, length-append (doubled mark inside) (mark ∷ []))

-- where a mark ends the bytes, no token between marks is longer
between_longest : (mark : ℕ) (xs inside after : List ℕ) (m : ℕ) → end_len mark false xs ≡ Some m → mark ∷ xs ≡ between mark inside ++ after → length (between mark inside) ≤ 1 + m
between_longest mark xs inside after m ends e =
    let tail : xs ≡ (doubled mark inside ++ mark ∷ []) ++ after = cc in
    let parts : xs ≡ doubled mark inside ++ mark ∷ after = tail ∙ append_assoc (doubled mark inside) (mark ∷ []) after in
    omega (arith, length-between mark inside, end_len-least mark inside after m (ap (end_len mark false) (sym parts) ∙ ends))

not_open : (mark : ℕ) (xs inside : List ℕ) (m : ℕ) → end_len mark false xs ≡ Some m → mark ∷ xs ≡ mark ∷ doubled mark inside → ⊥
not_open mark xs inside m ends e =
    let tail : xs ≡ doubled mark inside = cc in
    let f : ◌≡◌ {A = Option ℕ} (Some m) None = sym ends ∙ ap (end_len mark false) tail ∙ open-none mark inside in
    cc

text_longest : (xs : List ℕ) (m : ℕ) → end_len quote false xs ≡ Some m → Longest (quote ∷ xs) (1 + m)
text_longest xs m ends other [] after e token = omega arith
text_longest xs m ends other (y ∷ ys) after e token =
    let text : IsToken Text (y ∷ ys) = subst (λ k. IsToken k (y ∷ ys)) (quote_kind other (begins_like quote xs other y ys after e token)) token in
    subst (λ t. length t ≤ 1 + m) (sym text.1) (between_longest quote xs text.0 after m ends (e ∙ ap (λ t. t ++ after) text.1))

text_fault : (code : LexCode) → fault_begins code quote ≡ true → (code ≡ BadByte) ⊎ (code ≡ OpenString)
text_fault BadByte e = inl refl
text_fault OpenString e = inr refl
text_fault OpenComment e = false_is_true e
text_fault OpenName e = false_is_true e
text_fault BadNumber e = false_is_true e

pub text_found : (xs : List ℕ) (m : ℕ) → end_len quote false xs ≡ Some m → Found Text (1 + m) (quote ∷ xs)
text_found xs m ends =
    let here = ended quote false xs m ends in
    let parts : quote ∷ xs ≡ between quote here.inside ++ here.rest = ap (λ t. quote ∷ t) here.parts ∙ between_front quote here.inside here.rest in
    let token : IsToken Text (between quote here.inside) = (here.inside, refl) in
    found Text (1 + m) (quote ∷ xs) (between quote here.inside) here.rest parts (omega (arith, length-between quote here.inside, here.size)) token
    (text_longest xs m ends)
    (λ comment. false_is_true (comment_byte quote xs comment))
    (λ code fault. elim (text_fault code (fault_byte code quote xs fault)) [
      | inl bad ↦ not_bad Text quote xs (between quote here.inside) here.rest parts token (subst (λ c. HasFault c (quote ∷ xs)) bad fault)
      | inr open_ ↦ let f : HasFault OpenString (quote ∷ xs) = subst (λ c. HasFault c (quote ∷ xs)) open_ fault in not_open quote xs f.0 m ends f.1
    ])

pub open_text : (xs : List ℕ) → end_len quote false xs ≡ None → HasFault OpenString (quote ∷ xs)
open_text xs none = let here = unended quote false xs none in (here.0, ap (λ t. quote ∷ t) here.1)

name_longest : (xs : List ℕ) (m : ℕ) → end_len double_quote false xs ≡ Some m → Longest (double_quote ∷ xs) (1 + m)
name_longest xs m ends other [] after e token = omega arith
name_longest xs m ends other (y ∷ ys) after e token =
    let name : IsToken Quoted (y ∷ ys) = subst (λ k. IsToken k (y ∷ ys)) (double_quote_kind other (begins_like double_quote xs other y ys after e token)) token in
    subst (λ t. length t ≤ 1 + m) (sym name.2) (between_longest double_quote xs name.0 after m ends (e ∙ ap (λ t. t ++ after) name.2))

name_fault : (code : LexCode) → fault_begins code double_quote ≡ true → (code ≡ BadByte) ⊎ (code ≡ OpenName)
name_fault BadByte e = inl refl
name_fault OpenString e = false_is_true e
name_fault OpenComment e = false_is_true e
name_fault OpenName e = inr refl
name_fault BadNumber e = false_is_true e

-- behind two marks and no third the end is at once
empty_ends : (rest : List ℕ) → ((after : List ℕ) → rest ≢ double_quote ∷ after) → end_len double_quote false (double_quote ∷ rest) ≡ Some 1
empty_ends [] alone = refl
empty_ends (byte ∷ rest) alone = elim (cases_Bool (nat_eq byte double_quote)) [
  | inl same ↦ absurd (alone rest (ap (λ b. b ∷ rest) (eqb-true byte double_quote same)))
  | inr other ↦ rw other refl
]

no_open_name : (xs : List ℕ) (m : ℕ) → end_len double_quote false xs ≡ Some m → 1 < m → HasFault OpenName (double_quote ∷ xs) → ⊥
no_open_name xs m ends some (inl (inside, e)) = not_open double_quote xs inside m ends e
no_open_name xs m ends some (inr (rest, e, alone)) =
    let tail : xs ≡ double_quote ∷ rest = cc in
    let f : ◌≡◌ {A = Option ℕ} (Some m) (Some 1) = sym ends ∙ ap (end_len double_quote false) tail ∙ empty_ends rest alone in
    let one : m ≡ 1 = cc in
    absurd (omega arith)

not_empty : (inside : List ℕ) (m : ℕ) → length (doubled double_quote inside) + 1 ≡ m → 1 < m → inside ≢ []
not_empty inside m size some none = let f : length (doubled double_quote inside) ≡ 0 = rw none refl in absurd (omega arith)

pub name_found : (xs : List ℕ) (m : ℕ) → end_len double_quote false xs ≡ Some m → 1 < m → Found Quoted (1 + m) (double_quote ∷ xs)
name_found xs m ends some =
    let here = ended double_quote false xs m ends in
    let size : length (doubled double_quote here.inside) + 1 ≡ m = omega (arith, here.size) in
    let parts : double_quote ∷ xs ≡ between double_quote here.inside ++ here.rest = ap (λ t. double_quote ∷ t) here.parts ∙ between_front double_quote here.inside here.rest in
    let token : IsToken Quoted (between double_quote here.inside) = (here.inside, not_empty here.inside m size some, refl) in
    found Quoted (1 + m) (double_quote ∷ xs) (between double_quote here.inside) here.rest parts (omega (arith, length-between double_quote here.inside, here.size)) token
    (name_longest xs m ends)
    (λ comment. false_is_true (comment_byte double_quote xs comment))
    (λ code fault. elim (name_fault code (fault_byte code double_quote xs fault)) [
      | inl bad ↦ not_bad Quoted double_quote xs (between double_quote here.inside) here.rest parts token (subst (λ c. HasFault c (double_quote ∷ xs)) bad fault)
      | inr open_ ↦ no_open_name xs m ends some (subst (λ c. HasFault c (double_quote ∷ xs)) open_ fault)
    ])

pub open_name : (xs : List ℕ) → end_len double_quote false xs ≡ None → HasFault OpenName (double_quote ∷ xs)
open_name xs none = let here = unended double_quote false xs none in inl (here.0, ap (λ t. double_quote ∷ t) here.1)

nothing_inside : (inside : List ℕ) → length (doubled double_quote inside) ≡ 0 → doubled double_quote inside ≡ []
nothing_inside inside e = none_left (doubled double_quote inside) e
  where
    none_left : (xs : List ℕ) → length xs ≡ 0 → xs ≡ []
    none_left [] h = refl
    none_left (x ∷ xs) h = absurd (omega arith)

pub empty_name : (xs : List ℕ) (m : ℕ) → end_len double_quote false xs ≡ Some m → m ≤ 1 → HasFault OpenName (double_quote ∷ xs)
empty_name xs m ends few =
    let here = ended double_quote false xs m ends in
    let none = nothing_inside here.inside (omega (arith, here.size)) in
    inr (
      here.rest,
      ap (λ t. double_quote ∷ t) (here.parts ∙ ap (λ t. t ++ double_quote ∷ here.rest) none),
      λ after e. both (first_passes (nat_eq double_quote) here.rest) here.alone (rw e refl),
    )

-- ---- comments
pub line_gap : (xs : List ℕ) → FoundGap (2 + prefix_len is_in_line xs) (45 ∷ 45 ∷ xs)
line_gap xs =
    let n = prefix_len is_in_line xs in
    record {
      bytes = 45 ∷ 45 ∷ take n xs;
      rest = drop n xs;
      parts = ap (λ t. 45 ∷ 45 ∷ t) (sym (take-append-drop n xs));
      size = omega (arith, length-prefix_len is_in_line xs);
      gap = inr (inl (take n xs, refl, all-front is_in_line xs, line_ends (drop n xs) (stops-behind is_in_line xs)));
      some = omega arith;
    }
  where
    line_ends : (rest : List ℕ) → first_passes is_in_line rest ≡ false → EndsLine rest
    line_ends [] e = tt
    line_ends (byte ∷ rest) e = grind (arith, nat_tests)

pub block_gap : (xs : List ℕ) (m : ℕ) → close_len false xs ≡ Some m → FoundGap (2 + m) (47 ∷ 42 ∷ xs)
block_gap xs m closes =
    let here = closed_first false xs m closes in
    record {
      bytes = codes "/*" ++ (here.body ++ codes "*/");
      rest = here.rest;
      parts = ap (λ t. 47 ∷ 42 ∷ t) (here.parts ∙ sym (append_assoc here.body (codes "*/") here.rest));
      size = omega (arith, length-append here.body (codes "*/"), here.size);
      gap = inr (inr (here.body, refl, here.first));
      some = omega arith;
    }

pub open_comment : (xs : List ℕ) → close_len false xs ≡ None → HasFault OpenComment (47 ∷ 42 ∷ xs)
open_comment xs none = (xs, refl, unclosed false xs none)

pub blank_gap : (x : ℕ) (xs : List ℕ) → is_blank x ≡ true → FoundGap 1 (x ∷ xs)
blank_gap x xs blank = record { bytes = x ∷ []; rest = xs; parts = refl; size = refl; gap = inl (rw blank refl); some = omega arith }
