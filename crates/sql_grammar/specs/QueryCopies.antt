-- What a text copies, and the limit on it. The value before BETWEEN is copied at that word, and the value before a list of IN at each comma of
-- it; no other token copies anything. So up to a token as much is copied as in any text that goes on from there without these two.
use Rattle.std.specs.Prelude.{ℕ, Bool, not, List, [], ◌∷◌}
use Rattle.grammar.specs.Language.{Language}
use Rattle.grammar.specs.Limits.{IsFirstBeyond, within_cost}
use Rattle.sql_lex.specs.Lexemes.{Lexeme}
use Rattle.sql_grammar.specs.Kinds as k
use Rattle.sql_grammar.specs.Kinds.{among, kind_of}
use Rattle.sql_grammar.specs.Numbering.{Built}
use Rattle.sql_grammar.specs.Queries.{queries}

-- the weight that a case may copy
abbrev pub most_copies : ℕ
most_copies = 1000000

-- the token copies nothing, wherever it stands
abbrev pub copies_nothing : Lexeme → Bool
copies_nothing token = not (among (k.Between ∷ k.Comma ∷ []) (kind_of token))

-- With so much copied before them, the texts with which no more is copied than may be. A prefix is within the limit where one of these texts
-- goes on from it with tokens that copy nothing.
abbrev pub within_copies : {A : Type 0} → ℕ → Language Lexeme (Built A) → Language Lexeme (Built A)
within_copies copied L = within_cost copies_nothing (λ read. read.copies) most_copies copied L

-- With so much copied before the query, the token is the first with which more is copied than may be.
abbrev pub IsCopyTooMany : ℕ → List Lexeme → Lexeme → Type 0
IsCopyTooMany copied = IsFirstBeyond queries (within_copies copied queries)
