-- How a reader takes single tokens, numbers what it reads and counts copies; and that reading went on.
use Rattle.std.specs.Prelude.{ℕ, ◌+◌, ◌≡◌, ◌≢◌, ◌≤◌, ◌<◌, Bool, true, false, List, [], ◌∷◌, ◌++◌, length, Option, Some, None, Result, Ok, Err}
use Rattle.sql_lex.specs.declared.token.Token.{Token}
use Rattle.sql_lex.specs.Lexemes.{Lexeme, lexeme_of}
use Rattle.sql_cursor.specs.declared.fault.ReadFault.{ReadFault}
use Rattle.sql_cursor.specs.declared.fault.ReadFault.TheVariants.{Limit, NoMemory, TooDeep}
use Rattle.sql_cursor.specs.declared.fault.LimitKind.TheVariants as limit
use Rattle.sql_cursor.specs.Cursor.{Cursor, behind_next}
use Rattle.sql_grammar.specs.QueryCopies.{most_copies}
use Rattle.sql_grammar.specs.declared.kinds.Kind.{Kind}
use Rattle.sql_grammar.specs.Kinds.{kind_of}
use Rattle.sql_cursor.specs.declared.tokens.counting.Mark.{Mark}
use Rattle.sql_grammar.specs.Numbering.{Built}
use Rattle.sql_cursor.specs.Refusals.{IsLeftOut, refusal}

-- whether a token of these kinds stands next
abbrev pub is_next : (Kind → Bool) → List Lexeme → Bool
is_next p [] = false
is_next p (token ∷ tokens) = p (kind_of token)

-- this token, which is of these kinds, was passed
pub record Passes (p : Kind → Bool) (before : Cursor) (token : Lexeme) (after : Cursor) : Type 0 where
  pub stood : before.tokens ≡ token ∷ after.tokens
  pub of_kind : p (kind_of token) ≡ true
  pub moved : after ≡ behind_next before

-- no token of these kinds stands next, and none was passed
pub record Stays (p : Kind → Bool) (before after : Cursor) : Type 0 where
  pub still : after ≡ before
  pub not_next : is_next p before.tokens ≡ false

-- one token of these kinds, if it stands next
abbrev pub Eats : (Kind → Bool) → Cursor → Option Token → Cursor → Type 0
Eats p before (Some token) after = Passes p before (lexeme_of token) after
Eats p before None after = Stays p before after

-- the refusal of what stands next, or want of memory
abbrev pub Refusing : Cursor → ReadFault → Type 0
Refusing cursor fault = fault ≢ NoMemory → fault ≡ refusal cursor

-- Nothing was passed, since no token of these kinds stands next. Memory is wanted for the word of a left-out token alone.
pub record Misses (p : Kind → Bool) (before : Cursor) (fault : ReadFault) (after : Cursor) : Type 0 where
  pub stays : Stays p before after
  pub refusing : Refusing after fault
  pub memory : fault ≡ NoMemory → IsLeftOut (refusal after)

-- one token of these kinds, which is to stand next
abbrev pub Expects : (Kind → Bool) → Cursor → Result Token ReadFault → Cursor → Type 0
Expects p before (Ok token) after = Passes p before (lexeme_of token) after
Expects p before (Err fault) after = Misses p before fault after

-- the place of the token that stands next
abbrev pub IsNextAt : ℕ → List Lexeme → Type 0
IsNextAt at [] = ⊥
IsNextAt at (token ∷ tokens) = token.start ≡ at

-- the next token is one of these kinds, and there is no room for it
pub record Overflows (p : Kind → Bool) (room : ℕ) (before : Cursor) (fault : ReadFault) (after : Cursor) : Type 0 where
  pub still : after ≡ before
  pub full : room ≡ 0
  pub next : is_next p before.tokens ≡ true
  pub at : ℕ
  pub place : IsNextAt at before.tokens
  pub too_deep : fault ≡ TooDeep at

-- this token was passed, and there was room for it
pub record PassesWithin (p : Kind → Bool) (room : ℕ) (before : Cursor) (token : Lexeme) (after : Cursor) : Type 0 where
  pub passes : Passes p before token after
  pub room_left : 0 < room

-- one token of these kinds, if it stands next, with room for so many
abbrev pub EatsWithin : (Kind → Bool) → ℕ → Cursor → Result (Option Token) ReadFault → Cursor → Type 0
EatsWithin p room before (Ok (Some token)) after = PassesWithin p room before (lexeme_of token) after
EatsWithin p room before (Ok None) after = Stays p before after
EatsWithin p room before (Err fault) after = Overflows p room before fault after

-- one token of these kinds, which is to stand next, with room for so many
abbrev pub ExpectsWithin : (Kind → Bool) → ℕ → Cursor → Result Token ReadFault → Cursor → Type 0
ExpectsWithin p room before (Ok token) after = PassesWithin p room before (lexeme_of token) after
ExpectsWithin p room before (Err (TooDeep at)) after = Overflows p room before (TooDeep at) after
ExpectsWithin p room before (Err fault) after = Misses p before fault after

-- the second list is the first with more members behind it, or with none
abbrev pub GoesOn : {X : Type 0} → List X → List X → Type 0
GoesOn xs ys = (more : List _) × (ys ≡ xs ++ more)

-- Reading went on from the one to the other: tokens were passed, what had a number has it still, and no copy was forgotten.
pub record Extends (before after : Cursor) : Type 0 where
  pub fault : after.fault ≡ before.fault
  pub end : after.end ≡ before.end
  pub literals : GoesOn before.numbers.literals after.numbers.literals
  pub symbols : GoesOn before.numbers.symbols after.numbers.symbols
  pub copies : before.copies ≤ after.copies
  pub passed : before.passed ≤ after.passed
  pub counted : after.passed + length after.tokens ≡ before.passed + length before.tokens

-- the number that this gives, and the numbers after it
pub record Numbers (given : Built ℕ) (before : Cursor) (number : ℕ) (after : Cursor) : Type 0 where
  pub is : number ≡ (given.build before.numbers).0
  pub moved : after ≡ record before { numbers = (given.build before.numbers).1 }

-- a copy of this weight was counted, or the count, which is within its limit, would pass it
abbrev pub Copies : ℕ → Cursor → Result (Unit {0}) ReadFault → Cursor → Type 0
Copies weight before (Ok done) after = (after ≡ record before { copies = before.copies + weight }) × (before.copies + weight ≤ most_copies)
Copies weight before (Err fault) after = (after ≡ before) × (fault ≡ Limit limit.Copies) × (most_copies < before.copies + weight) × (before.copies ≤ most_copies)

-- ---- marks
-- a mark that was made here
abbrev pub IsMark : Mark → Cursor → Type 0
IsMark mark cursor = (mark.passed ≡ cursor.passed) × (mark.copies ≡ cursor.copies)

-- what was made here or before
abbrev pub IsBehind : Mark → Cursor → Type 0
IsBehind mark cursor = (mark.passed ≤ cursor.passed) × (mark.copies ≤ cursor.copies)
