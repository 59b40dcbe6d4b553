-- What is still to come, as the cursor keeps it.
use Rattle.std.proofs.Common.{◌≡◌, ◌≢◌, ℕ, suc, ◌+◌, ◌≤◌, ◌<◌, true, List, [], ◌∷◌, ◌++◌, length, drop, map, Option, Some, None, Result, Ok, Err, IfSome, IfOk, IfErr, IsNone, ◌↔◌, ◌^◌, refl, sym, ap, ◌∙◌, subst, arith, inl, inr}
use Rattle.std.specs.List.{All, concat, slice_index_or}
use Rattle.std.proofs.lemmas.List.{length-append}
use Rattle.sql_lex.specs.declared.token.Token.{Token}
use Rattle.sql_lex.specs.declared.token.LexFault.{LexFault}
use Rattle.sql_lex.specs.Lexemes.{Lexeme, Lexed, lexeme_of, nothing, with_first, fault_alone}
use Rattle.sql_lex.specs.declared.token.TokenKind.{TokenKind}
use Rattle.sql_lex.specs.declared.token.TokenKind.TheVariants.{Word, Quoted, Number, Text, Symbol}
use Rattle.sql_lex.specs.Classes.{IsToken}
use Rattle.sql_lex.specs.Tokens.{Lexes}
use Rattle.sql_lex.proofs.WholeTexts.{slices}
use Rattle.sql_lex.specs.Bytes.{folded_byte, point}
use Rattle.sql_grammar.specs.declared.kinds.Kind.{Kind}
use Rattle.sql_cursor.specs.Cursor.{IsKindOf, IsSound, most_tokens, to_come}
use Rattle.sql_grammar.specs.QueryCopies.{most_copies}
use Rattle.sql_cursor.specs.Refusals.{IsLeftOut, is_left_out_word, refusal_at}

-- what the lexer gave and what it still holds is what it held
pub to_come-next : (old new : Lexed) (answer : Option (Result Token LexFault))
    → IfSome answer (λ a. IfOk a (λ token. old ≡ with_first (lexeme_of token) new))
    → IfSome answer (λ a. IfErr a (λ fault. (old ≡ fault_alone fault) × (new ≡ nothing)))
    → (IsNone answer ↔ (old ≡ nothing)) → to_come answer new ≡ old
to_come-next old new None token fault end = sym (end.0 refl)
to_come-next old new (Some (Ok t)) token fault end = sym token
to_come-next old new (Some (Err f)) token fault end = sym fault.0

-- ---- places
abbrev pub Below : ℕ → List Lexeme → Type 0
Below bound tokens = All (λ token. token.start < bound) tokens

pub below_in_text : (text : List ℕ) (tokens : List Lexeme) (fault : Option LexFault) (bound : ℕ) → Lexes 0 text tokens fault → length text < bound → Below bound tokens
below_in_text text tokens fault bound lexes fits k d h =
    let here = slices text [] text tokens fault refl lexes k d h in
    let size : length text ≡ length here.0 + (length (slice_index_or tokens k d).text + length here.1) =
    ap length here.2 ∙ length-append here.0 ((slice_index_or tokens k d).text ++ here.1) ∙ ap (λ n. length here.0 + n) (length-append (slice_index_or tokens k d).text here.1) in
    omega (arith, here.3)

pub below_next : (bound : ℕ) (token : Lexeme) (tokens : List Lexeme) → Below bound (token ∷ tokens) → Below bound tokens
below_next bound token tokens below k d h = below (suc k) d (omega arith)

pub below_first : (bound : ℕ) (token : Lexeme) (tokens : List Lexeme) → Below bound (token ∷ tokens) → token.start < bound
below_first bound token tokens below = below 0 token (omega arith)

-- a text has no more tokens than bytes
token_has_byte : (kind : TokenKind) (bytes : List ℕ) → IsToken kind bytes → 1 ≤ length bytes
token_has_byte kind [] t = absurd (none kind t)
  where
    none : (kind : TokenKind) → IsToken kind [] → ⊥
    none Word t = t
    none Quoted t = let e = t.2 in cc
    none Number (inl t) = t
    none Number (inr (inl t)) = absurd (omega (arith, ap length t.2, length-append t.0 (point ∷ t.1)))
    none Number (inr (inr t)) = let e = t.1 in cc
    none Text t = let e = t.1 in cc
    none Symbol t = t
token_has_byte kind (byte ∷ bytes) t = omega arith

pub no_more_tokens : (at : ℕ) (text : List ℕ) (tokens : List Lexeme) (fault : Option LexFault) → Lexes at text tokens fault → length tokens ≤ length text
no_more_tokens at text [] fault lexes = omega arith
no_more_tokens at text (token ∷ tokens) fault (rest, gap, before, more) =
    let some = token_has_byte token.kind token.text before.is_token in
    let fewer = no_more_tokens (token.start + length token.text) rest tokens fault more in
    omega (arith, ap length gap.parts, length-append (concat gap.pieces) (token.text ++ rest), length-append token.text rest)

-- the tokens that the lexer holds are to come, behind the one that it gave
pub below_held : (bound : ℕ) (next : Option (Result Token LexFault)) (lexer : Lexed) → (to_come next lexer).tokens ≢ [] → Below bound (to_come next lexer).tokens → Below bound lexer.tokens
below_held bound None lexer some below = absurd (some refl)
below_held bound (Some (Ok token)) lexer some below = below_next bound (lexeme_of token) lexer.tokens below
below_held bound (Some (Err fault)) lexer some below = absurd (some refl)

-- ---- passing
pub record Passed (next : Option (Result Token LexFault)) (lexer : Lexed) : Type 0 where
  pub tokens : lexer.tokens ≡ drop 1 (to_come next lexer).tokens
  pub fewer : length lexer.tokens + 1 ≡ length (to_come next lexer).tokens
  pub fault : lexer.fault ≡ (to_come next lexer).fault

pub passed : (next : Option (Result Token LexFault)) (lexer : Lexed) → (to_come next lexer).tokens ≢ [] → Passed next lexer
passed None lexer some = absurd (some refl)
passed (Some (Ok token)) lexer some = record { tokens = refl; fewer = omega arith; fault = refl }
passed (Some (Err fault)) lexer some = absurd (some refl)

-- ---- the token that stands next
pub below_given : (bound : ℕ) (next : Option (Result Token LexFault)) (lexer : Lexed) (given : Result Token LexFault) (token : Token)
    → next ≡ Some given → given ≡ Ok token → Below bound (to_come next lexer).tokens → token.start < bound
below_given bound next lexer given token e f below =
    below_first bound (lexeme_of token) lexer.tokens (subst (λ n. Below bound (to_come n lexer).tokens) (e ∙ ap Some f) below)

-- ---- refusals
pub left_out_there : (token : Lexeme) → is_left_out_word token.kind token.text ≡ true → IsLeftOut (refusal_at token)
left_out_there token out = (map folded_byte token.text, token.start, rw out refl)

-- ---- what is true of the fields
pub sound_of : {next : Option (Result Token LexFault)} {kind : Kind} {lexer held : Lexed} {copies count : ℕ} → IsKindOf next kind → to_come next lexer ≡ held → Below (2 ^ 32) held.tokens
    → count + length held.tokens ≤ most_tokens → copies ≤ most_copies → IsSound next kind lexer copies count
sound_of kept e places counted copied = record {
  kept = kept;
  places = subst (λ lexed. Below (2 ^ 32) lexed.tokens) (sym e) places;
  counted = omega (arith, ap (λ lexed. length lexed.tokens) e);
  copied = copied;
}
