-- The refusal of what stands next is that of a lexical fault, of a token or of the end.
use Rattle.std.proofs.Common.{◌≡◌, ℕ, List, Bool, true, false, Option, Some, None, Result, Ok, Err, if◌then◌else◌, map}
use Rattle.sql_lex.specs.declared.token.LexFault.{LexFault}
use Rattle.sql_lex.specs.Bytes.{folded_byte}
use Rattle.sql_lex.specs.Lexemes.{Lexeme}
use Rattle.sql_cursor.specs.declared.fault.LimitKind.{LimitKind}
use Rattle.sql_cursor.specs.declared.fault.ReadFault.{ReadFault}
use Rattle.sql_cursor.specs.declared.fault.ReadFault.TheVariants.{Lex, LeftOut, Limit, NoMemory, TooDeep, Unexpected}
use Rattle.sql_cursor.specs.Refusals.{is_left_out_word, refusal_of}

pub by_refusal : (P : ReadFault → Type 0) → ((fault : LexFault) → P (Lex fault)) → ((at : ℕ) → P (Unexpected at)) → ((word : List ℕ) (at : ℕ) → P (LeftOut word at))
    → (end : ℕ) (next : Result (Option Lexeme) LexFault) → P (refusal_of end next)
by_refusal P lex unexpected left_out end (Ok None) = unexpected end
by_refusal P lex unexpected left_out end (Ok (Some t)) = go (is_left_out_word t.kind t.text)
  where
    go : (b : Bool) → P (if b then LeftOut (map folded_byte t.text) t.start else Unexpected t.start)
    go true = left_out (map folded_byte t.text) t.start
    go false = unexpected t.start
by_refusal P lex unexpected left_out end (Err fault) = lex fault

pub not_too_deep : (end at : ℕ) (next : Result (Option Lexeme) LexFault) → TooDeep at ≡ refusal_of end next → ⊥
not_too_deep end at = by_refusal (λ z. TooDeep at ≡ z → ⊥) (λ fault e. cc) (λ at e. cc) (λ word at e. cc) end

pub no_limit : (end : ℕ) (what : LimitKind) (next : Result (Option Lexeme) LexFault) → Limit what ≡ refusal_of end next → ⊥
no_limit end what = by_refusal (λ z. Limit what ≡ z → ⊥) (λ fault e. cc) (λ at e. cc) (λ word at e. cc) end

pub no_memory : (end : ℕ) (next : Result (Option Lexeme) LexFault) → refusal_of end next ≡ NoMemory → ⊥
no_memory end = by_refusal (λ z. z ≡ NoMemory → ⊥) (λ fault e. cc) (λ at e. cc) (λ word at e. cc) end
