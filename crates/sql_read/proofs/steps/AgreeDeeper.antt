-- The readers of one level deeper agree with the left-factored grammar: what the readers of a level are proved from.
use Rattle.std.proofs.Common.{◌≡◌, ℕ, ◌-◌, ◌<◌, None}
use Rattle.grammar.specs.Form.{ref}
use Rattle.grammar.specs.Productions.{optional}
use Rattle.sql_lex.specs.Lexemes.{Lexeme}
use Rattle.sql_model.specs.declared.tree.Expr.{Expr}
use Rattle.sql_read.specs.declared.reading.test.Sought.{Sought}
use Rattle.sql_cursor.specs.Cursor.{Cursor}
use Rattle.sql_read.specs.Parts.{built_inside}
use Rattle.sql_read.specs.Reads.{Builds}
use Rattle.sql_read.specs.Reading.{Deeper}
use Rattle.sql_grammar.specs.Numbering.{Built, each}
use Rattle.sql_grammar.specs.QueryGrammar as grammar
use Rattle.sql_grammar.specs.QueryTails as further
use Rattle.sql_grammar.specs.QueryGrammar.{listed}
use Rattle.sql_grammar.specs.FactoredQueries.{one_argument}
use Rattle.sql_grammar.specs.QueryTrees as trees
use Rattle.sql_grammar.specs.QueryTailTrees as tails
use Rattle.sql_grammar.specs.QueryTrees.{listed_or_none}
use Rattle.sql_read.proofs.steps.Agreeing.{Agrees}

-- with so many levels left there
pub record OneDeeper (levels : ℕ) (deeper : Deeper) : Type 0 where
  pub query : (c : Cursor) → Agrees (ref grammar.query) levels (λ read. read) (λ read. read) c c (deeper.query c)
  pub neg : (c : Cursor) → Agrees (ref grammar.neg) levels (λ read. read) (λ read. read) c c (deeper.neg c)
  pub unary : (c : Cursor) → Agrees (ref grammar.unary) levels (λ read. read) (λ read. read) c c (deeper.unary c)
  pub exprs : (c : Cursor) → Agrees (optional (listed (ref grammar.expr))) levels (λ exprs. each (listed_or_none exprs)) (λ exprs. each (listed_or_none exprs)) c c (deeper.exprs c)
  pub argument : (word : Lexeme) (c : Cursor) → Agrees one_argument levels (λ read. read word) (λ read. read word) c c (deeper.argument word c)
  pub inner : (c : Cursor) → Agrees (ref further.inner) levels built_inside built_inside c c (deeper.inner c)
  pub in_inner : (sought : Sought) (word : Lexeme) (before : Built Expr) (count : ℕ) (began c : Cursor) → word.start ≡ sought.in_at → sought.weight ≡ trees.weight (before, count)
      → Builds before began sought.value c
      → Agrees (ref further.in_inner) levels (λ read. tails.in_inside None word read (before, count)) (λ read. tails.in_inside None word read (before, count)) began c (deeper.in_inner sought c)

-- where a level may be opened
abbrev pub DeeperAgrees : ℕ → Deeper → Type 0
DeeperAgrees levels deeper = 0 < levels → OneDeeper (levels - 1) deeper
