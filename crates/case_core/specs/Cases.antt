-- What a text spells as a case, and what keeps the limits on what is counted.
use Rattle.std.specs.Prelude.{◌≡◌, ◌≤◌, ℕ, List, length, Some, None}
use Rattle.data_model.specs.Lists.{Each}
use Rattle.grammar.specs.Language.{Language, map_language, seq_language}
use Rattle.grammar.specs.Limits.{KeepsWithin}
use Rattle.sql_lex.specs.Lexemes.{Lexeme}
use Rattle.sql_lex.specs.Tokens.{TokensOf}
use Rattle.sql_model.specs.declared.statement.Statement.{Statement}
use Rattle.sql_cursor.specs.declared.fault.LimitKind.{LimitKind}
use Rattle.sql_cursor.specs.declared.fault.LimitKind.TheVariants as limit
use Rattle.sql_read.specs.ReadingTexts.{Texts, depth_limit, keeping}
use Rattle.sql_grammar.specs.Numbering.{Built, Numbers, first_numbers}
use Rattle.sql_grammar.specs.Queries.{most_levels, of_form}
use Rattle.sql_grammar.specs.QueryCopies.{most_copies}
use Rattle.sql_grammar.specs.QueryEntries.{few_of_form, most_further}
use Rattle.schema_read.specs.Declarations.{IsSmall}
use Rattle.schema_read.specs.StatementGrammar.{statements}
use Rattle.schema_read.specs.StatementLimits as of_statements
use Rattle.schema_read.specs.StatementLimits.{most_relations}
use Rattle.case_core.specs.declared.text.CaseText.{CaseText}
use Rattle.case_core.specs.CaseGrammar as g

abbrev pub cases : Language Lexeme (Built CaseText)
cases = of_form None g.case

abbrev pub shallow_cases : Language Lexeme (Built CaseText)
shallow_cases = of_form (Some most_levels) g.case

-- the statements in this language, and then the two queries
abbrev pub cases_behind : Language Lexeme (Built (List Statement)) → Language Lexeme (Built CaseText)
cases_behind L = map_language g.case_of (seq_language L (of_form None g.two_queries))

-- the cases in which no block has too many entries
abbrev pub few_entry_cases : Language Lexeme (Built CaseText)
few_entry_cases = few_of_form most_further g.case

-- The cases that keep the limit on this count. Queries have neither columns nor relations to count, and what may be copied goes by what was
-- copied before.
abbrev pub within : LimitKind → Language Lexeme (Built CaseText)
within limit.Columns = cases_behind (of_statements.within limit.Columns)
within limit.Entries = few_entry_cases
within limit.Relations = cases_behind (of_statements.within limit.Relations)
within limit.Copies = cases

-- a text may go on after these tokens
abbrev pub BeginsCase : List Lexeme → Type 0
BeginsCase ts = cases.prefix ts

-- cases, with what keeps each limit on a count
abbrev pub texts : Texts CaseText
texts = record { form = g.case; within = within }

-- The text is blanks, comments and tokens, and these spell the statements and the two queries; at its end the literals and called
-- names have these numbers.
pub record SpellsCase (text : List ℕ) (written : CaseText) (numbers : Numbers) : Type 0 where
  pub tokens : List Lexeme
  pub lexed : TokensOf text tokens
  pub read : Built CaseText
  pub spelled : cases.spells tokens read
  pub built : read.build first_numbers ≡ (written, numbers)

-- it spells them within the limits
pub record IsRead (text : List ℕ) (written : CaseText) (numbers : Numbers) : Type 0 where
  pub spells : SpellsCase text written numbers
  pub shallow : KeepsWithin cases (keeping texts 0 depth_limit) spells.tokens
  pub few : (what : LimitKind) → (within what).spells spells.tokens spells.read
  pub few_copies : spells.read.copies ≤ most_copies
  -- the statements are within the limits of a schema
  pub few_relations : length written.statements ≤ most_relations
  pub small : Each IsSmall written.statements
