-- One piece alone stands at the front of a text.
use Rattle.std.proofs.Common.{◌≡◌, ℕ, suc, ◌+◌, ◌<◌, ◌≤◌, true, false, nat_eq, List, [], ◌∷◌, ◌++◌, length, Result, Ok, Err, refl, sym, ap, ◌∙◌, subst, arith, inl, inr, ◌⊎◌, codes, append_assoc, if◌then◌else◌}
use Rattle.std.specs.List.{list_all, prefix_len}
use Rattle.std.proofs.lemmas.Bool.{eqb-true, and_parts}
use Rattle.std.proofs.lemmas.Bool.Decides.{nat_tests}
use Rattle.std.proofs.lemmas.List.{length-append}
use Rattle.sql_lex.specs.declared.front.Piece.{Piece}
use Rattle.sql_lex.specs.declared.front.Piece.TheVariants.{Gap, Lexeme}
use Rattle.sql_lex.specs.declared.token.LexCode.{LexCode}
use Rattle.sql_lex.specs.declared.token.LexCode.TheVariants.{BadByte, OpenString, OpenComment, OpenName, BadNumber}
use Rattle.sql_lex.specs.declared.token.TokenKind.{TokenKind}
use Rattle.sql_lex.specs.declared.token.TokenKind.TheVariants.{Word, Quoted, Number, Text, Symbol}
use Rattle.sql_lex.specs.Bytes.{is_blank, quote, double_quote}
use Rattle.sql_lex.specs.Classes.{IsToken, is_single}
use Rattle.sql_lex.specs.Gaps.{BeginsComment, IsGap, IsLineComment, IsBlockComment, EndsLine, is_in_line}
use Rattle.sql_lex.specs.Faults.{HasFault}
use Rattle.sql_lex.specs.Tokens.{IsTokenBefore}
use Rattle.sql_lex.specs.Front.{first_piece}
use Rattle.sql_lex.proofs.FirstBytes.{begins, first_byte, no_bytes, blank_begins, number_or_symbol, fault_begins, fault_byte, begins_word-kind, quote_kind, double_quote_kind, number_kind}
use Rattle.sql_lex.proofs.Prefixes.{prefix_len-front}
use Rattle.sql_lex.proofs.Closing.{close_len-first}
use Rattle.sql_lex.proofs.Pieces.{FoundGap, both, false_is_true}
use Rattle.sql_lex.proofs.Sound.{Sound, sound}

-- ---- one token
-- bytes are tokens of one kind at most
one_kind : (kind other : TokenKind) (x : ℕ) (xs : List ℕ) → IsToken kind (x ∷ xs) → IsToken other (x ∷ xs) → other ≡ kind
one_kind Word other x xs token t = begins_word-kind other x token.0 (first_byte other x xs t)
one_kind Quoted other x xs token t =
    let same : x ≡ double_quote = eqb-true x double_quote (first_byte Quoted x xs token) in
    double_quote_kind other (subst (λ b. begins other b ≡ true) same (first_byte other x xs t))
one_kind Text other x xs token t =
    let same : x ≡ quote = eqb-true x quote (first_byte Text x xs token) in
    quote_kind other (subst (λ b. begins other b ≡ true) same (first_byte other x xs t))
one_kind Number other x xs token t = elim (number_kind other x (first_byte Number x xs token) (first_byte other x xs t)) [
  | inl number ↦ number
  | inr symbol ↦ absurd (number_or_symbol x xs token (subst (λ k. IsToken k (x ∷ xs)) symbol t))
]
one_kind Symbol Word x xs token t = sym (begins_word-kind Symbol x t.0 (first_byte Symbol x xs token))
one_kind Symbol Quoted x xs token t =
    let same : x ≡ double_quote = eqb-true x double_quote (first_byte Quoted x xs t) in
    sym (double_quote_kind Symbol (subst (λ b. begins Symbol b ≡ true) same (first_byte Symbol x xs token)))
one_kind Symbol Number x xs token t = absurd (number_or_symbol x xs t token)
one_kind Symbol Text x xs token t =
    let same : x ≡ quote = eqb-true x quote (first_byte Text x xs t) in
    sym (quote_kind Symbol (subst (λ b. begins Symbol b ≡ true) same (first_byte Symbol x xs token)))
one_kind Symbol Symbol x xs token t = refl

-- fronts of one length are one front
same_front : (xs ys as_ bs : List ℕ) → xs ++ as_ ≡ ys ++ bs → length xs ≡ length ys → xs ≡ ys
same_front [] [] as_ bs e h = refl
same_front [] (y ∷ ys) as_ bs e h = absurd (omega arith)
same_front (x ∷ xs) [] as_ bs e h = absurd (omega arith)
same_front (x ∷ xs) (y ∷ ys) as_ bs e h =
    let first : x ≡ y = cc in
    let tail : xs ++ as_ ≡ ys ++ bs = cc in
    let more = same_front xs ys as_ bs tail (omega arith) in
    λ i. first i ∷ more i

gap_first : (x : ℕ) (xs bytes rest : List ℕ) → x ∷ xs ≡ bytes ++ rest → 0 < length bytes → IsGap bytes rest → (is_blank x ≡ true) ⊎ BeginsComment (x ∷ xs)
gap_first x xs [] rest e some gap = absurd (omega arith)
gap_first x xs (y ∷ ys) rest e some (inl blanks) =
    let same : y ≡ x = cc in
    inl (subst (λ b. is_blank b ≡ true) same (and_parts (is_blank y) (list_all is_blank ys) blanks).0)
gap_first x xs bytes rest e some (inr (inl (body, f, all, ends))) =
    inr (inl (body ++ rest, e ∙ ap (λ t. t ++ rest) f))
gap_first x xs bytes rest e some (inr (inr (body, f, first))) =
    inr (inr ((body ++ codes "*/") ++ rest, e ∙ ap (λ t. t ++ rest) f))

no_gap : (kind : TokenKind) (x : ℕ) (xs rest : List ℕ) → IsTokenBefore kind (x ∷ xs) rest → (n : ℕ) → FoundGap n (x ∷ (xs ++ rest)) → ⊥
no_gap kind x xs rest before n here = elim (gap_first x (xs ++ rest) here.bytes here.rest here.parts (omega (arith, here.size, here.some)) here.gap) [
  | inl blank ↦ both _ (blank_begins kind x (first_byte kind x xs before.is_token)) blank
  | inr comment ↦ before.no_comment comment
]

token_is : (kind : TokenKind) (x : ℕ) (xs rest : List ℕ) → IsTokenBefore kind (x ∷ xs) rest → (p : Result Piece LexCode) → Sound (x ∷ (xs ++ rest)) p → p ≡ Ok (Lexeme kind (length (x ∷ xs)))
token_is kind x xs rest before (Ok (Gap n)) here = absurd (no_gap kind x xs rest before n here)
token_is kind x xs rest before (Ok (Lexeme other n)) here =
    let least : length here.bytes ≤ length (x ∷ xs) = before.longest other here.bytes here.rest here.parts here.before.is_token in
    let most : length (x ∷ xs) ≤ length here.bytes = here.before.longest kind (x ∷ xs) rest (sym here.parts) before.is_token in
    let size : length here.bytes ≡ length (x ∷ xs) = omega arith in
    let same = same_front here.bytes (x ∷ xs) here.rest rest (sym here.parts) size in
    let one = one_kind kind other x xs before.is_token (subst (IsToken other) same here.before.is_token) in
    let len : n ≡ length (x ∷ xs) = sym here.size ∙ size in
    λ i. Ok (Lexeme (one i) (len i))
token_is kind x xs rest before (Err code) here = absurd (before.no_fault code here)

-- a token that stands at the front is found there
pub token_first : (kind : TokenKind) (bytes rest : List ℕ) → IsTokenBefore kind bytes rest → first_piece (bytes ++ rest) ≡ Ok (Lexeme kind (length bytes))
token_first kind [] rest before = absurd (no_bytes kind before.is_token)
token_first kind (x ∷ xs) rest before = token_is kind x xs rest before (first_piece (x ∷ (xs ++ rest))) (sound x (xs ++ rest))

-- ---- one fault
abbrev code_at : ℕ → LexCode
code_at byte = if nat_eq byte quote then OpenString else (if nat_eq byte 47 then OpenComment else (if nat_eq byte double_quote then OpenName else BadNumber))

code_is : (code : LexCode) (x : ℕ) → fault_begins code x ≡ true → (code ≡ BadByte) ⊎ (code_at x ≡ code)
code_is BadByte x e = inl refl
code_is OpenString x e = inr (rw e refl)
code_is OpenComment x e = let same : x ≡ 47 = eqb-true x 47 e in inr (rw same refl)
code_is OpenName x e = let same : x ≡ double_quote = eqb-true x double_quote e in inr (rw same refl)
code_is BadNumber x e =
    let no_text : nat_eq x quote ≡ false = grind (arith, nat_tests) in
    let no_comment : nat_eq x 47 ≡ false = grind (arith, nat_tests) in
    let no_name : nat_eq x double_quote ≡ false = grind (arith, nat_tests) in
    inr (rw (no_text, no_comment, no_name) refl)

-- a bad byte begins no other fault
bad_alone : (code : LexCode) (x : ℕ) (xs : List ℕ) → HasFault BadByte (x ∷ xs) → HasFault code (x ∷ xs) → code ≡ BadByte
bad_alone BadByte x xs bad fault = refl
bad_alone OpenString x xs bad fault = absurd (bad.1 (eqb-true x quote (fault_byte OpenString x xs fault)))
bad_alone OpenComment x xs bad fault =
    let same : x ≡ 47 = eqb-true x 47 (fault_byte OpenComment x xs fault) in
    absurd (bad.3 Symbol (x ∷ []) xs refl (rw same refl))
bad_alone OpenName x xs bad fault = absurd (bad.2 (eqb-true x double_quote (fault_byte OpenName x xs fault)))
bad_alone BadNumber x xs bad fault = absurd (bad.3 Number fault.number (fault.next ∷ fault.rest) fault.parts fault.is_number)

one_fault : (a b : LexCode) (x : ℕ) (xs : List ℕ) → HasFault a (x ∷ xs) → HasFault b (x ∷ xs) → a ≡ b
one_fault a b x xs f g = elim (code_is a x (fault_byte a x xs f)) [
  | inl bad ↦ bad ∙ sym (bad_alone b x xs (subst (λ c. HasFault c (x ∷ xs)) bad f) g)
  | inr first ↦ elim (code_is b x (fault_byte b x xs g)) [
    | inl bad ↦ bad_alone a x xs (subst (λ c. HasFault c (x ∷ xs)) bad g) f ∙ sym bad
    | inr second ↦ sym first ∙ second
  ]
]

-- a comment that ends is not open
comment_closed : (x : ℕ) (xs body rest : List ℕ) → x ∷ xs ≡ (codes "/*" ++ (body ++ codes "*/")) ++ rest → HasFault OpenComment (x ∷ xs) → ⊥
comment_closed x xs body rest e (inside, f, open_) =
    let same : inside ≡ (body ++ codes "*/") ++ rest = cc in
    open_ (body, rest, same ∙ append_assoc body (codes "*/") rest)

fault_blank : (code : LexCode) (x : ℕ) (xs : List ℕ) → HasFault code (x ∷ xs) → is_blank x ≡ false
fault_blank BadByte x xs fault = fault.0
fault_blank OpenString x xs fault = let same : x ≡ quote = eqb-true x quote (fault_byte OpenString x xs fault) in rw same refl
fault_blank OpenComment x xs fault = let same : x ≡ 47 = eqb-true x 47 (fault_byte OpenComment x xs fault) in rw same refl
fault_blank OpenName x xs fault = let same : x ≡ double_quote = eqb-true x double_quote (fault_byte OpenName x xs fault) in rw same refl
fault_blank BadNumber x xs fault = blank_begins Number x (fault_byte BadNumber x xs fault)

-- the first bytes of a comment begin no other fault
dash_fault : (code : LexCode) → fault_begins code 45 ≡ true → code ≡ BadByte
dash_fault BadByte e = refl
dash_fault OpenString e = false_is_true e
dash_fault OpenComment e = false_is_true e
dash_fault OpenName e = false_is_true e
dash_fault BadNumber e = false_is_true e

slash_fault : (code : LexCode) → fault_begins code 47 ≡ true → (code ≡ BadByte) ⊎ (code ≡ OpenComment)
slash_fault BadByte e = inl refl
slash_fault OpenString e = false_is_true e
slash_fault OpenComment e = inr refl
slash_fault OpenName e = false_is_true e
slash_fault BadNumber e = false_is_true e

-- a byte that is a symbol alone is not bad
single_good : (x : ℕ) (xs : List ℕ) → is_single x ≡ true → HasFault BadByte (x ∷ xs) → ⊥
single_good x xs single bad = bad.3 Symbol (x ∷ []) xs refl single

-- no fault stands before a line comment, nor before a comment that ends
line_fault : (code : LexCode) (x : ℕ) (xs : List ℕ) → x ≡ 45 → HasFault code (x ∷ xs) → ⊥
line_fault code x xs first fault =
    let bad = dash_fault code (subst (λ b. fault_begins code b ≡ true) first (fault_byte code x xs fault)) in
    single_good x xs (rw first refl) (subst (λ c. HasFault c (x ∷ xs)) bad fault)

block_fault : (code : LexCode) (x : ℕ) (xs body rest : List ℕ) → x ≡ 47 → x ∷ xs ≡ (codes "/*" ++ (body ++ codes "*/")) ++ rest → HasFault code (x ∷ xs) → ⊥
block_fault code x xs body rest first e fault = elim (slash_fault code (subst (λ b. fault_begins code b ≡ true) first (fault_byte code x xs fault))) [
  | inl bad ↦ single_good x xs (rw first refl) (subst (λ c. HasFault c (x ∷ xs)) bad fault)
  | inr open_ ↦ comment_closed x xs body rest e (subst (λ c. HasFault c (x ∷ xs)) open_ fault)
]

gap_fault : (code : LexCode) (x : ℕ) (xs bytes rest : List ℕ) → x ∷ xs ≡ bytes ++ rest → 0 < length bytes → IsGap bytes rest → HasFault code (x ∷ xs) → ⊥
gap_fault code x xs [] rest e some gap fault = absurd (omega arith)
gap_fault code x xs (y ∷ ys) rest e some (inl blanks) fault =
    let same : y ≡ x = cc in
    both _ (fault_blank code x xs fault) (subst (λ b. is_blank b ≡ true) same (and_parts (is_blank y) (list_all is_blank ys) blanks).0)
gap_fault code x xs bytes rest e some (inr (inl (body, f, all, ends))) fault =
    let whole : x ∷ xs ≡ (codes "--" ++ body) ++ rest = e ∙ ap (λ t. t ++ rest) f in
    let first : x ≡ 45 = cc in
    line_fault code x xs first fault
gap_fault code x xs bytes rest e some (inr (inr (body, f, none))) fault =
    let whole : x ∷ xs ≡ (codes "/*" ++ (body ++ codes "*/")) ++ rest = e ∙ ap (λ t. t ++ rest) f in
    let first : x ≡ 47 = cc in
    block_fault code x xs body rest first whole fault

fault_gap : (code : LexCode) (x : ℕ) (xs : List ℕ) → HasFault code (x ∷ xs) → (n : ℕ) → FoundGap n (x ∷ xs) → ⊥
fault_gap code x xs fault n here = gap_fault code x xs here.bytes here.rest here.parts (omega (arith, here.size, here.some)) here.gap fault

fault_is : (code : LexCode) (x : ℕ) (xs : List ℕ) → HasFault code (x ∷ xs) → (p : Result Piece LexCode) → Sound (x ∷ xs) p → p ≡ Err code
fault_is code x xs fault (Ok (Gap n)) here = absurd (fault_gap code x xs fault n here)
fault_is code x xs fault (Ok (Lexeme kind n)) here = absurd (here.before.no_fault code (subst (HasFault code) here.parts fault))
fault_is code x xs fault (Err other) here = ap Err (one_fault other code x xs here fault)

-- a fault that stands at the front is found there
pub fault_first : (code : LexCode) (x : ℕ) (xs : List ℕ) → HasFault code (x ∷ xs) → first_piece (x ∷ xs) ≡ Err code
fault_first code x xs fault = fault_is code x xs fault (first_piece (x ∷ xs)) (sound x xs)

-- ---- gaps
pub blank_first : (x : ℕ) (xs : List ℕ) → is_blank x ≡ true → first_piece (x ∷ xs) ≡ Ok (Gap 1)
unfolding first_piece
blank_first x xs blank = rw blank refl

line_stops : (rest : List ℕ) → EndsLine rest → prefix_len is_in_line rest ≡ 0
line_stops [] ends = refl
line_stops (byte ∷ rest) ends = rw ends refl

pub line_first : (bytes rest : List ℕ) → IsLineComment bytes rest → first_piece (bytes ++ rest) ≡ Ok (Gap (length bytes))
unfolding first_piece
line_first bytes rest (body, e, all, ends) =
    let len : 2 + length body ≡ suc (suc (length body)) = omega arith in
    rw e (rw (prefix_len-front is_in_line body rest all (line_stops rest ends), len) refl)

pub block_first : (bytes rest : List ℕ) → IsBlockComment bytes → first_piece (bytes ++ rest) ≡ Ok (Gap (length bytes))
unfolding first_piece
block_first bytes rest (body, e, first) =
    let len : 2 + (length body + 2) ≡ suc (suc (length (body ++ codes "*/"))) = omega (arith, length-append body (codes "*/")) in
    rw e (rw (append_assoc body (codes "*/") rest, close_len-first false body rest first, len) refl)
