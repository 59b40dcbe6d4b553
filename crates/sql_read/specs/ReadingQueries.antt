-- What `read_query` does with the tokens that are still to come.
use Rattle.std.specs.Prelude.{◌≡◌, ◌≤◌, [], None}
use Rattle.grammar.specs.Form.{ref}
use Rattle.sql_model.specs.declared.tree.Query.{Query}
use Rattle.sql_cursor.specs.declared.fault.LimitKind.{LimitKind}
use Rattle.sql_cursor.specs.declared.fault.LimitKind.TheVariants as limit
use Rattle.sql_cursor.specs.declared.fault.ReadFault.{ReadFault}
use Rattle.sql_lex.specs.Lexemes.{Lexeme}
use Rattle.grammar.specs.Language.{Language}
use Rattle.sql_cursor.specs.Cursor.{Cursor}
use Rattle.sql_cursor.specs.Eating.{GoesOn}
use Rattle.sql_read.specs.ReadingTexts as of_texts
use Rattle.sql_read.specs.ReadingTexts.{Texts}
use Rattle.sql_grammar.specs.Numbering.{Built}
use Rattle.sql_grammar.specs.Queries.{queries}
use Rattle.sql_grammar.specs.QueryEntries.{few_queries}
use Rattle.sql_grammar.specs.QueryGrammar as g

-- A query has neither columns nor relations to count. Its limit on copies goes by what was copied before it, so it is none of these: see
-- `keeping`.
abbrev pub within : LimitKind → Language Lexeme (Built Query)
within limit.Entries = few_queries
within limit.Columns = queries
within limit.Relations = queries
within limit.Copies = queries

abbrev pub texts : Texts Query
texts = record { form = ref g.query; within = within }

-- the longest list of tokens that begins a query was taken, and it spells this query within the limits
abbrev pub IsRead : Cursor → Query → Cursor → Type 0
IsRead before q after = of_texts.IsRead texts before q after

-- the first token of a query that is refused, and why
abbrev pub IsRefused : Cursor → ReadFault → Type 0
IsRefused before fault = of_texts.IsRefused texts before.copies before.tokens before.fault before.end fault

-- nothing is left of the text
pub record IsAtEnd (before after : Cursor) : Type 0 where
  pub tokens : after.tokens ≡ []
  pub fault : after.fault ≡ None
  pub end : after.end ≡ before.end

-- what had a number has it still, and no copy and no token was forgotten
pub record Keeps (before after : Cursor) : Type 0 where
  pub literals : GoesOn before.numbers.literals after.numbers.literals
  pub symbols : GoesOn before.numbers.symbols after.numbers.symbols
  pub copies : before.copies ≤ after.copies
  pub passed : before.passed ≤ after.passed
