-- The first piece of a text is what stands at its front.
use Rattle.std.proofs.Common.{◌≡◌, ◌≢◌, ℕ, ◌+◌, ◌≤◌, Bool, true, false, nat_eq, nat_le, if◌then◌else◌, ◌&&◌, ◌||◌, List, [], ◌∷◌, ◌++◌, length, drop, Option, Some, None, Result, Ok, Err, refl, sym, subst, arith, inl, inr}
use Rattle.std.specs.List.{prefix_len}
use Rattle.std.proofs.lemmas.Bool.{cases_Bool, eqb-true, and_parts}
use Rattle.std.proofs.lemmas.Bool.Decides.{nat_tests}
use Rattle.sql_lex.specs.declared.front.Piece.{Piece}
use Rattle.sql_lex.specs.declared.front.Piece.TheVariants.{Gap, Lexeme}
use Rattle.sql_lex.specs.declared.token.LexCode.{LexCode}
use Rattle.sql_lex.specs.declared.token.LexCode.TheVariants.{BadByte, OpenString, OpenComment, OpenName, BadNumber}
use Rattle.sql_lex.specs.declared.token.TokenKind.{TokenKind}
use Rattle.sql_lex.specs.declared.token.TokenKind.TheVariants.{Word, Quoted, Number, Text, Symbol}
use Rattle.sql_lex.specs.Bytes.{begins_word, is_blank, quote, double_quote}
use Rattle.sql_lex.specs.Classes.{IsToken, IsSymbol, is_single, is_pair}
use Rattle.sql_lex.specs.Gaps.{BeginsComment, is_in_line}
use Rattle.sql_lex.specs.Faults.{HasFault, NoToken, spoils_number}
use Rattle.sql_lex.specs.Front.{begins_number, close_len, comment_piece, end_len, first_passes, first_piece, marked_piece, name_piece, number_len, number_piece, symbol_piece, text_piece}
use Rattle.sql_lex.proofs.FirstBytes.{no_bytes, fault_byte}
use Rattle.sql_lex.proofs.Numbers.{begins_number-at}
use Rattle.sql_lex.proofs.Pieces.{Found, FoundGap, Longest, found, both, false_is_true, begins_like, not_bad, comment_first, word_found, number_found, bad_number, text_found, open_text, name_found, open_name, empty_name, line_gap, block_gap, open_comment, blank_gap}

abbrev pub Sound : List ℕ → Result Piece LexCode → Type 0
Sound text (Ok (Gap n)) = FoundGap n text
Sound text (Ok (Lexeme kind n)) = Found kind n text
Sound text (Err code) = HasFault code text

-- ---- symbols
-- what begins no blank, comment or token but a symbol
record Other (x : ℕ) (xs : List ℕ) : Type 0 where
  pub no_blank : is_blank x ≡ false
  pub no_word : begins_word x ≡ false
  pub no_number : begins_number x xs ≡ false
  pub no_text : nat_eq x quote ≡ false
  pub no_name : nat_eq x double_quote ≡ false
  pub no_line : nat_eq x 45 && first_passes (nat_eq 45) xs ≡ false
  pub no_block : nat_eq x 47 && first_passes (nat_eq 42) xs ≡ false

other_kind : (x : ℕ) (xs : List ℕ) → Other x xs → (kind : TokenKind) (y : ℕ) (ys after : List ℕ) → x ∷ xs ≡ (y ∷ ys) ++ after → IsToken kind (y ∷ ys) → kind ≡ Symbol
other_kind x xs other Word y ys after e token = both _ other.no_word (begins_like x xs Word y ys after e token)
other_kind x xs other Quoted y ys after e token = both _ other.no_name (begins_like x xs Quoted y ys after e token)
other_kind x xs other Number y ys after e token = both _ other.no_number (begins_number-at x xs (y ∷ ys) after e token)
other_kind x xs other Text y ys after e token = both _ other.no_text (begins_like x xs Text y ys after e token)
other_kind x xs other Symbol y ys after e token = refl

other_comment : (x : ℕ) (xs : List ℕ) → Other x xs → ¬ BeginsComment (x ∷ xs)
other_comment x xs other comment = both (nat_eq x 45 && first_passes (nat_eq 45) xs || nat_eq x 47 && first_passes (nat_eq 42) xs) (rw (other.no_line, other.no_block) refl) (comment_first x xs comment)

other_fault : (x : ℕ) (xs : List ℕ) → Other x xs → (code : LexCode) → HasFault code (x ∷ xs) → code ≡ BadByte
other_fault x xs other BadByte fault = refl
other_fault x xs other OpenString fault = both _ other.no_text (fault_byte OpenString x xs fault)
other_fault x xs other OpenComment (inside, e, open_) =
    let first : x ≡ 47 = cc in
    let second : xs ≡ 42 ∷ inside = cc in
    both (nat_eq x 47 && first_passes (nat_eq 42) xs) other.no_block (rw (first, second) refl)
other_fault x xs other OpenName fault = both _ other.no_name (fault_byte OpenName x xs fault)
other_fault x xs other BadNumber fault = both _ other.no_number (begins_number-at x xs fault.number (fault.next ∷ fault.rest) fault.parts fault.is_number)

other_found : (x : ℕ) (xs : List ℕ) → Other x xs → (n : ℕ) (bytes rest : List ℕ) → x ∷ xs ≡ bytes ++ rest → length bytes ≡ n → IsSymbol bytes → Longest (x ∷ xs) n → Found Symbol n (x ∷ xs)
other_found x xs other n bytes rest parts size symbol longest =
    found Symbol n (x ∷ xs) bytes rest parts size symbol longest (other_comment x xs other)
    (λ code fault. not_bad Symbol x xs bytes rest parts symbol (subst (λ c. HasFault c (x ∷ xs)) (other_fault x xs other code fault) fault))

symbol_size : (bytes : List ℕ) → IsSymbol bytes → length bytes ≤ 2
symbol_size [] symbol = absurd symbol
symbol_size (x ∷ []) symbol = omega arith
symbol_size (x ∷ y ∷ []) symbol = omega arith
symbol_size (x ∷ y ∷ z ∷ xs) symbol = absurd symbol

pair_longest : (x : ℕ) (xs : List ℕ) → Other x xs → Longest (x ∷ xs) 2
pair_longest x xs other kind [] after e token = omega arith
pair_longest x xs other kind (y ∷ ys) after e token = symbol_size (y ∷ ys) (subst (λ k. IsToken k (y ∷ ys)) (other_kind x xs other kind y ys after e token) token)

no_pair : (x : ℕ) (xs : List ℕ) (y z : ℕ) (after : List ℕ) → x ∷ xs ≡ y ∷ z ∷ after → is_pair y z ≡ true → first_passes (is_pair x) xs ≡ true
no_pair x xs y z after e pair =
    let first : x ≡ y = cc in
    let second : xs ≡ z ∷ after = cc in
    rw (first, second) pair

single_size : (x : ℕ) (xs bytes after : List ℕ) → first_passes (is_pair x) xs ≡ false → x ∷ xs ≡ bytes ++ after → IsSymbol bytes → length bytes ≤ 1
single_size x xs [] after none e symbol = absurd symbol
single_size x xs (y ∷ []) after none e symbol = omega arith
single_size x xs (y ∷ z ∷ []) after none e symbol = both _ none (no_pair x xs y z after e symbol)
single_size x xs (y ∷ z ∷ u ∷ ys) after none e symbol = absurd symbol

single_longest : (x : ℕ) (xs : List ℕ) → Other x xs → first_passes (is_pair x) xs ≡ false → Longest (x ∷ xs) 1
single_longest x xs other none kind [] after e token = omega arith
single_longest x xs other none kind (y ∷ ys) after e token = single_size x xs (y ∷ ys) after none e (subst (λ k. IsToken k (y ∷ ys)) (other_kind x xs other kind y ys after e token) token)

pair_found : (x : ℕ) (xs : List ℕ) → Other x xs → first_passes (is_pair x) xs ≡ true → Found Symbol 2 (x ∷ xs)
pair_found x [] other pair = false_is_true pair
pair_found x (y ∷ ys) other pair = other_found x (y ∷ ys) other 2 (x ∷ y ∷ []) ys refl refl pair (pair_longest x (y ∷ ys) other)

single_found : (x : ℕ) (xs : List ℕ) → Other x xs → first_passes (is_pair x) xs ≡ false → is_single x ≡ true → Found Symbol 1 (x ∷ xs)
single_found x xs other none single = other_found x xs other 1 (x ∷ []) xs refl refl single (single_longest x xs other none)

no_symbol : (x : ℕ) (xs bytes after : List ℕ) → first_passes (is_pair x) xs ≡ false → is_single x ≡ false → x ∷ xs ≡ bytes ++ after → IsSymbol bytes → ⊥
no_symbol x xs [] after none other e symbol = symbol
no_symbol x xs (y ∷ []) after none other e symbol = let first : y ≡ x = cc in both _ other (subst (λ b. is_single b ≡ true) first symbol)
no_symbol x xs (y ∷ z ∷ []) after none other e symbol = both _ none (no_pair x xs y z after e symbol)
no_symbol x xs (y ∷ z ∷ u ∷ ys) after none other e symbol = symbol

no_token : (x : ℕ) (xs : List ℕ) → Other x xs → first_passes (is_pair x) xs ≡ false → is_single x ≡ false → NoToken (x ∷ xs)
no_token x xs other none alone kind [] rest e token = no_bytes kind token
no_token x xs other none alone kind (y ∷ ys) rest e token =
    no_symbol x xs (y ∷ ys) rest none alone e (subst (λ k. IsToken k (y ∷ ys)) (other_kind x xs other kind y ys rest e token) token)

differs : (x y : ℕ) → nat_eq x y ≡ false → x ≢ y
differs x y other same = grind (arith, nat_tests)

bad_byte : (x : ℕ) (xs : List ℕ) → Other x xs → first_passes (is_pair x) xs ≡ false → is_single x ≡ false → HasFault BadByte (x ∷ xs)
bad_byte x xs other none alone = (other.no_blank, differs x quote other.no_text, differs x double_quote other.no_name, no_token x xs other none alone)

symbol_sound : (x : ℕ) (xs : List ℕ) → Other x xs → Sound (x ∷ xs) (symbol_piece x xs)
symbol_sound x xs other = elim (cases_Bool (first_passes (is_pair x) xs)) [
  | inl pair ↦ rw pair (pair_found x xs other pair)
  | inr none ↦ elim (cases_Bool (is_single x)) [
    | inl single ↦ rw (none, single) (single_found x xs other none single)
    | inr alone ↦ rw (none, alone) (bad_byte x xs other none alone)
  ]
]

-- ---- the other pieces
abbrev number_or : ℕ → Bool → Result Piece LexCode
number_or n spoiled = if spoiled then Err BadNumber else Ok (Lexeme Number n)

number_sound : (x : ℕ) (xs : List ℕ) → begins_number x xs ≡ true → Sound (x ∷ xs) (number_piece (x ∷ xs))
number_sound x xs number = elim (cases_Bool (first_passes spoils_number (drop (number_len (x ∷ xs)) (x ∷ xs)))) [
  | inl spoiled ↦ subst (λ b. Sound (x ∷ xs) (number_or (number_len (x ∷ xs)) b)) (sym spoiled) (bad_number x xs number spoiled)
  | inr sound ↦ subst (λ b. Sound (x ∷ xs) (number_or (number_len (x ∷ xs)) b)) (sym sound) (number_found x xs number sound)
]

text_sound : (xs : List ℕ) (o : Option ℕ) → end_len quote false xs ≡ o → Sound (quote ∷ xs) (text_piece o)
text_sound xs None e = open_text xs e
text_sound xs (Some m) e = text_found xs m e

name_sound : (xs : List ℕ) (o : Option ℕ) → end_len double_quote false xs ≡ o → Sound (double_quote ∷ xs) (name_piece o)
name_sound xs None e = open_name xs e
name_sound xs (Some m) e = elim (cases_Bool (nat_le m 1)) [
  | inl few ↦ rw few (empty_name xs m e (grind (arith, nat_tests)))
  | inr some ↦ rw some (name_found xs m e (grind (arith, nat_tests)))
]

comment_sound : (xs : List ℕ) (o : Option ℕ) → close_len false xs ≡ o → Sound (47 ∷ 42 ∷ xs) (comment_piece o)
comment_sound xs None e = open_comment xs e
comment_sound xs (Some m) e = block_gap xs m e

same_byte : (x y : ℕ) → nat_eq x y ≡ true → y ≡ x
same_byte x y e = sym (eqb-true x y e)

line_sound : (x : ℕ) (xs : List ℕ) → nat_eq x 45 && first_passes (nat_eq 45) xs ≡ true → FoundGap (2 + prefix_len is_in_line (drop 1 xs)) (x ∷ xs)
line_sound x [] e = let h = and_parts (nat_eq x 45) false e in false_is_true h.1
line_sound x (y ∷ ys) e =
    let h = and_parts (nat_eq x 45) (nat_eq 45 y) e in
    subst (λ a. FoundGap (2 + prefix_len is_in_line ys) (a ∷ y ∷ ys)) (same_byte x 45 h.0)
    (subst (λ b. FoundGap (2 + prefix_len is_in_line ys) (45 ∷ b ∷ ys)) (eqb-true 45 y h.1) (line_gap ys))

block_sound : (x : ℕ) (xs : List ℕ) → nat_eq x 47 && first_passes (nat_eq 42) xs ≡ true → Sound (x ∷ xs) (comment_piece (close_len false (drop 1 xs)))
block_sound x [] e = let h = and_parts (nat_eq x 47) false e in false_is_true h.1
block_sound x (y ∷ ys) e =
    let h = and_parts (nat_eq x 47) (nat_eq 42 y) e in
    subst (λ a. Sound (a ∷ y ∷ ys) (comment_piece (close_len false ys))) (same_byte x 47 h.0)
    (subst (λ b. Sound (47 ∷ b ∷ ys) (comment_piece (close_len false ys))) (eqb-true 42 y h.1) (comment_sound ys (close_len false ys) refl))

marked_sound : (x : ℕ) (xs : List ℕ) → is_blank x ≡ false → begins_word x ≡ false → begins_number x xs ≡ false → Sound (x ∷ xs) (marked_piece x xs)
marked_sound x xs blank word number = elim (cases_Bool (nat_eq x quote)) [
  | inl text ↦ rw text (subst (λ b. Sound (b ∷ xs) (text_piece (end_len quote false xs))) (same_byte x quote text) (text_sound xs (end_len quote false xs) refl))
  | inr no_text ↦ elim (cases_Bool (nat_eq x double_quote)) [
    | inl name ↦ rw (no_text, name) (subst (λ b. Sound (b ∷ xs) (name_piece (end_len double_quote false xs))) (same_byte x double_quote name) (name_sound xs (end_len double_quote false xs) refl))
    | inr no_name ↦ elim (cases_Bool (nat_eq x 45 && first_passes (nat_eq 45) xs)) [
      | inl line ↦ rw (no_text, no_name, line) (line_sound x xs line)
      | inr no_line ↦ elim (cases_Bool (nat_eq x 47 && first_passes (nat_eq 42) xs)) [
        | inl block ↦ rw (no_text, no_name, no_line, block) (block_sound x xs block)
        | inr no_block ↦ rw (no_text, no_name, no_line, no_block) (symbol_sound x xs (record {
          no_blank = blank;
          no_word = word;
          no_number = number;
          no_text = no_text;
          no_name = no_name;
          no_line = no_line;
          no_block = no_block;
        }))
      ]
    ]
  ]
]

pub sound : (x : ℕ) (xs : List ℕ) → Sound (x ∷ xs) (first_piece (x ∷ xs))
unfolding first_piece
sound x xs = elim (cases_Bool (is_blank x)) [
  | inl blank ↦ rw blank (blank_gap x xs blank)
  | inr no_blank ↦ elim (cases_Bool (begins_word x)) [
    | inl word ↦ rw (no_blank, word) (word_found x xs word)
    | inr no_word ↦ elim (cases_Bool (begins_number x xs)) [
      | inl number ↦ rw (no_blank, no_word, number) (number_sound x xs number)
      | inr no_number ↦ rw (no_blank, no_word, no_number) (marked_sound x xs no_blank no_word no_number)
    ]
  ]
]
