-- Readers: functions on the cursor, from the left; what it means that code does what they give (`Gives`); and those of single tokens, of
-- repetitions, of numbers and of copies.
use Rattle.std.specs.Prelude.{ℕ, zero, suc, ◌+◌, ◌-◌, ◌≡◌, ◌==◌, Bool, not, ◌&&◌, nat_lt, if◌then◌else◌, List, [], ◌∷◌, Option, Some, None, Result, Ok, Err}
use Rattle.sql_lex.specs.declared.token.Token.{Token}
use Rattle.sql_lex.specs.Lexemes.{Lexeme, lexeme_of}
use Rattle.sql_grammar.specs.declared.kinds.Kind.{Kind}
use Rattle.sql_grammar.specs.Numbering.{Built}
use Rattle.sql_grammar.specs.QueryCopies.{most_copies}
use Rattle.sql_grammar.specs.QueryTrees as t
use Rattle.sql_cursor.specs.declared.fault.LimitKind.TheVariants as limit
use Rattle.sql_cursor.specs.declared.fault.ReadFault.{ReadFault}
use Rattle.sql_cursor.specs.declared.fault.ReadFault.TheVariants.{Lex, Unexpected, LeftOut, TooDeep, Limit, NoMemory}
use Rattle.sql_cursor.specs.declared.tokens.counting.Mark.{Mark}
use Rattle.sql_cursor.specs.Cursor.{Cursor, behind_next}
use Rattle.sql_cursor.specs.Eating.{is_next}
use Rattle.sql_cursor.specs.Refusals.{refusal}

-- what was read, or why it stopped, and what is left
abbrev pub Reading : Type 0 → Type 0
Reading A = Result A ReadFault × Cursor

abbrev pub Reader : Type 0 → Type 0
Reader A = Cursor → Reading A

infixl 10 ◌>>=◌
abbrev pub ◌>>=◌ : {A B : Type 0} → Reading A → (A → Reader B) → Reading B
(Ok x, c) >>= next = next x c
(Err fault, c) >>= next = (Err fault, c)

-- Code stopped here for this reason, or memory ran out.
abbrev pub Stops : {A : Type 0} → ReadFault → Cursor → Reading A → Type 0
Stops (Lex fault) here reading = reading ≡ (Err (Lex fault), here)
Stops (Unexpected at) here reading = reading ≡ (Err (Unexpected at), here)
Stops (LeftOut word at) here reading = reading ≡ (Err (LeftOut word at), here)
Stops (TooDeep at) here reading = reading ≡ (Err (TooDeep at), here)
Stops (Limit what) here reading = reading ≡ (Err (Limit what), here)
Stops NoMemory here reading = Unit {0}

-- Code answered what reading gives, unless memory ran out.
abbrev pub Gives : {A : Type 0} → Result A ReadFault → Cursor → Reading A → Type 0
Gives (Ok x) here reading = reading ≡ (Ok x, here)
Gives (Err fault) here reading = Stops fault here reading

-- tokens, as contracts see them
abbrev pub lexeme : Result Token ReadFault → Result Lexeme ReadFault
lexeme (Ok token) = Ok (lexeme_of token)
lexeme (Err fault) = Err fault

abbrev pub lexeme_if_any : Result (Option Token) ReadFault → Result (Option Lexeme) ReadFault
lexeme_if_any (Ok None) = Ok None
lexeme_if_any (Ok (Some token)) = Ok (Some (lexeme_of token))
lexeme_if_any (Err fault) = Err fault

-- ---- single tokens

abbrev pub done : {A : Type 0} → A → Reader A
done x c = (Ok x, c)

-- what stands next is refused
abbrev pub refused : {A : Type 0} → Reader A
refused c = (Err (refusal c), c)

-- where a token of these kinds stands next it is read so, and else so
abbrev pub seen : {A : Type 0} → (Kind → Bool) → Reader A → Reader A → Reader A
seen p f g c = if is_next p c.tokens then f c else g c

-- the token that stands next, where one does, and the places behind it
abbrev pub passed : List Lexeme → Reader (Option Lexeme)
passed [] c = (Ok None, c)
passed (token ∷ tokens) c = (Ok (Some token), behind_next c)

-- one token of these kinds, if it stands next
unfoldable pub eaten : (Kind → Bool) → Reader (Option Lexeme)
eaten p c = if is_next p c.tokens then passed c.tokens c else (Ok None, c)

abbrev pub too_deep : {A : Type 0} → List Lexeme → Reader A
too_deep [] c = refused c
too_deep (token ∷ tokens) c = (Err (TooDeep token.start), c)

-- the same, with room for so many
unfoldable pub eaten_within : (Kind → Bool) → ℕ → Reader (Option Lexeme)
eaten_within p room c = if is_next p c.tokens then (if room == 0 then too_deep c.tokens c else passed c.tokens c) else (Ok None, c)

-- with what was found reading goes on so, and where nothing was so
abbrev pub on : {X A : Type 0} → (X → Reader A) → Reader A → Option X → Reader A
on f g (Some x) = f x
on f g None = g

abbrev pub demanded : Option Lexeme → Reader Lexeme
demanded (Some token) = done token
demanded None = refused

-- whether one token of these kinds stood next, which is passed
unfoldable pub accepted : (Kind → Bool) → Reader Bool
accepted p c = eaten p c >>= λ found. done (t.is_given found)

-- one token of these kinds, which is to stand next
unfoldable pub expected : (Kind → Bool) → Reader Lexeme
expected p c = eaten p c >>= demanded

unfoldable pub expected_within : (Kind → Bool) → ℕ → Reader Lexeme
expected_within p room c = eaten_within p room c >>= demanded

-- a word was read, or none: further parts are read behind it
abbrev pub continuing : {A W : Type 0} → (A → W → Reader A) → (A → Reader A) → A → Option W → Reader A
continuing next again x None c = (Ok x, c)
continuing next again x (Some word) c = next x word c >>= again

-- further parts behind words, of which there is room for so many
unfoldable pub repeated : {A W : Type 0} → (ℕ → Reader (Option W)) → (A → W → Reader A) → ℕ → A → Reader A
repeated word next zero x c = word 0 c >>= λ w c. (Ok x, c)
repeated word next (suc room) x c = word (suc room) c >>= continuing next (repeated word next room) x

-- ---- numbers and copies

-- the number that this gives
unfoldable pub numbered : Built ℕ → Reader ℕ
numbered given c = (Ok (given.build c.numbers).0, record c { numbers = (given.build c.numbers).1 })

-- a copy of this weight is counted; the first that passes the limit is refused
unfoldable pub copied : ℕ → Reader (Unit {0})
copied weight c =
    if not (nat_lt most_copies c.copies) && nat_lt most_copies (c.copies + weight) then (Err (Limit limit.Copies), c)
    else (Ok tt, record c { copies = c.copies + weight })

abbrev pub mark : Cursor → Mark
mark c = record { passed = c.passed; copies = c.copies }

-- what a copy of all since then weighs
abbrev pub weight_since : Mark → Cursor → ℕ
weight_since m c = (c.passed + c.copies) - (m.passed + m.copies)
