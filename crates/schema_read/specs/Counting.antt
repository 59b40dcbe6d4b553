-- What the readers of statements tell of the limit on one count, the columns of a table or the relations.
use Rattle.std.specs.Prelude.{ℕ, ◌≡◌, nat_lt, List, Result, Ok, Err, None}
use Rattle.grammar.specs.Language.{Language, alt_language, map_language, upto_language}
use Rattle.grammar.specs.Reading.{Began, Exceeded, Took}
use Rattle.sql_lex.specs.Lexemes.{Lexeme}
use Rattle.sql_model.specs.declared.statement.Statement.{Statement}
use Rattle.sql_cursor.specs.declared.fault.ReadFault.{ReadFault}
use Rattle.sql_cursor.specs.declared.fault.ReadFault.TheVariants.{Limit}
use Rattle.sql_cursor.specs.declared.fault.LimitKind.{LimitKind}
use Rattle.sql_cursor.specs.Cursor.{Cursor}
pub use Rattle.sql_read.specs.Reads.{IsPlaced}
use Rattle.sql_read.specs.Reads.{Told, ReadsWithin, allowed, few_form}
use Rattle.sql_grammar.specs.Numbering.{Built, each}
use Rattle.sql_grammar.specs.QueryGrammar.{The}
use Rattle.schema_read.specs.StatementGrammar as g
use Rattle.schema_read.specs.StatementLimits.{few_columns, most_columns, most_further_columns, most_relations}
use Rattle.schema_read.specs.StatementTrees.{Elements}
use Rattle.sql_grammar.specs.FactoredQueries.{in_factored}

-- a form was read, where so much is told of its limits
abbrev pub ReadsTelling : {V A : Type 0} → Told → The V → ℕ → (V → Built A) → Cursor → Cursor → Result A ReadFault → Cursor → Type 0
ReadsTelling told f levels h start before result after = ReadsWithin told f (few_form f) levels h start before result after

-- In these C is what may be read of the form within the limit.

-- the longest prefix was taken, and is spelled within the limit
pub record TakesCounted {V : Type 0} (f : The V) (C : Language Lexeme V) (before after : Cursor) : Type 0 where
  pub read : V
  pub took : Took (in_factored None f) C before.tokens read after.tokens

-- what was taken is a prefix within the limit; where this limit is refused, the next token passes it
pub record RefusesCounted {V : Type 0} (own : LimitKind) (f : The V) (C : Language Lexeme V) (before : Cursor) (fault : ReadFault) (after : Cursor) : Type 0 where
  pub begun : IsPlaced fault → Began C before.tokens after.tokens
  pub passed : fault ≡ Limit own → Exceeded (in_factored None f) C before.tokens after.tokens

abbrev pub CountAnswers : {V A : Type 0} → LimitKind → The V → Language Lexeme V → Cursor → Result A ReadFault → Cursor → Type 0
CountAnswers own f C before (Ok value) after = TakesCounted f C before after
CountAnswers own f C before (Err fault) after = RefusesCounted own f C before fault after

pub record Counts {V A : Type 0} (own : LimitKind) (f : The V) (C : Language Lexeme V) (before : Cursor) (result : Result A ReadFault) (after : Cursor) : Type 0 where
  pub answers : CountAnswers own f C before result after

-- ---- columns

-- a column, if one more is allowed behind so many, or a rule
unfoldable pub element_behind : ℕ → Language Lexeme Elements
element_behind count = alt_language (allowed (nat_lt count most_columns) (in_factored None g.column)) (in_factored None g.constraint)

-- what may stand behind the first column
abbrev pub narrowly : The (List Elements)
narrowly = few_columns most_further_columns

-- ---- relations

abbrev pub few_factored_statements : Language Lexeme (Built (List Statement))
few_factored_statements = map_language (λ read. each read) (upto_language most_relations (in_factored None (g.ended_with g.elements)))
