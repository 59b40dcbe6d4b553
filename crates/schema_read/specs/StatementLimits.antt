-- The limits on the columns of a table and on the number of relations, and those on entries and copies of the queries of views, each with
-- the first token beyond it. Each is a language of the statements that keep it.
use Rattle.std.specs.Prelude.{ℕ, zero, suc, ◌-◌, List, [], ◌∷◌, ◌++◌, length, None}
use Rattle.grammar.specs.Form.{empty, seq, alt, star, map}
use Rattle.grammar.specs.Language.{map_language, upto_language}
use Rattle.grammar.specs.Limits.{IsFirstBeyond, KeepsWithin}
use Rattle.grammar.specs.Productions.{skip_then}
use Rattle.sql_lex.specs.Lexemes.{Lexeme}
use Rattle.sql_model.specs.declared.statement.Statement.{Statement}
use Rattle.sql_model.specs.declared.statement.Statement.TheVariants as statement
use Rattle.sql_grammar.specs.declared.kinds.Kind.TheVariants as k
use Rattle.sql_grammar.specs.Numbering.{each}
use Rattle.sql_grammar.specs.QueryCopies.{within_copies}
use Rattle.sql_grammar.specs.QueryEntries.{few_of_form, most_further}
use Rattle.sql_grammar.specs.QueryGrammar.{The, a}
use Rattle.schema_read.specs.StatementTrees.{Elements}
use Rattle.schema_read.specs.StatementGrammar as g
use Rattle.sql_cursor.specs.declared.fault.LimitKind.{LimitKind}
use Rattle.sql_cursor.specs.declared.fault.LimitKind.TheVariants as limit
use Rattle.schema_read.specs.Statements.{OfStatements, statements}
use Rattle.sql_grammar.specs.Queries.{of_form}

-- ---- columns

-- {, [CONSTRAINT name] tablerule}
abbrev pub constraints : The (List Elements)
constraints = star None (skip_then (a k.Comma) g.constraint)

-- What stands behind the first column of a table, with at most so many further columns. The comma before one more may come, but then no
-- column goes on.
abbrev pub few_columns : ℕ → The (List Elements)
few_columns zero = constraints
few_columns (suc most) =
    map (λ p. p.0 ++ p.1)
    (seq constraints (alt (map (λ none. []) empty) (map (λ p. p.0 ∷ p.1) (seq (skip_then (a k.Comma) g.column) (few_columns most)))))

-- columns of a table
abbrev pub most_columns : ℕ
most_columns = 32

-- those besides the first
abbrev pub most_further_columns : ℕ
most_further_columns = most_columns - 1

-- the statements whose tables have no more
abbrev pub narrow_statements : ℕ → OfStatements
narrow_statements most = of_form None (g.statements_with (few_columns most))

-- The token is the name of a column that is one too many for its table.
abbrev pub IsColumnTooMany : List Lexeme → Lexeme → Type 0
IsColumnTooMany = IsFirstBeyond statements (narrow_statements most_further_columns)

-- ---- relations

abbrev pub most_relations : ℕ
most_relations = 256

-- at most so many statements
abbrev pub few_statements : ℕ → OfStatements
few_statements most = map_language (λ read. each read) (upto_language most (of_form None (g.ended_with g.elements)))

-- The token is the word CREATE of a statement that is one too many.
abbrev pub IsRelationTooMany : List Lexeme → Lexeme → Type 0
IsRelationTooMany = IsFirstBeyond statements (few_statements most_relations)

-- ---- the queries of views

-- the statements in whose views no block has more entries besides its first
abbrev pub few_entry_statements : ℕ → OfStatements
few_entry_statements most = few_of_form most g.statements

-- The token begins an entry that is one too many for its block.
abbrev pub IsEntryTooMany : List Lexeme → Lexeme → Type 0
IsEntryTooMany = IsFirstBeyond statements (few_entry_statements most_further)

-- ---- all counts

-- The statements that keep the limit on this count. What may be copied goes by what was copied before (`IsCopyTooMany`).
abbrev pub within : LimitKind → OfStatements
within limit.Columns = narrow_statements most_further_columns
within limit.Entries = few_entry_statements most_further
within limit.Relations = few_statements most_relations
within limit.Copies = statements

-- ---- what the queries of views copy

-- With so much copied before the statements, the token is the first with which more is copied than may be.
abbrev pub IsCopyTooMany : ℕ → List Lexeme → Lexeme → Type 0
IsCopyTooMany copied = IsFirstBeyond statements (within_copies copied statements)

-- with none of these tokens too much is copied
abbrev pub CopiesFew : ℕ → List Lexeme → Type 0
CopiesFew copied = KeepsWithin statements (within_copies copied statements)

-- ---- what statements count

abbrev pub column_count : Statement → ℕ
column_count (statement.Table name columns rules) = length columns
column_count (statement.View name query) = 0
column_count (statement.Index name unique on columns) = 0

abbrev pub rule_count : Statement → ℕ
rule_count (statement.Table name columns rules) = length rules
rule_count (statement.View name query) = 0
rule_count (statement.Index name unique on columns) = 0
