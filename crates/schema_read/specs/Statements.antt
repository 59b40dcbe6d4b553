-- What a list of tokens spells as statements, each with its semicolon, and where it passes the limits on depth and length.
use Rattle.std.specs.Prelude.{◌≡◌, List, Some, None}
use Rattle.grammar.specs.Language.{Language}
use Rattle.grammar.specs.Limits.{IsFirstBeyond}
use Rattle.sql_lex.specs.Lexemes.{Lexeme}
use Rattle.sql_model.specs.declared.statement.Statement.{Statement}
use Rattle.sql_grammar.specs.Numbering.{Numbers, Built}
use Rattle.sql_grammar.specs.Queries.{most_levels, of_form}
use Rattle.schema_read.specs.StatementGrammar as g

abbrev pub OfStatements : Type 1
OfStatements = Language Lexeme (Built (List Statement))

abbrev pub statements : OfStatements
statements = of_form None g.statements

abbrev pub shallow_statements : OfStatements
shallow_statements = of_form (Some most_levels) g.statements

-- The tokens spell the statements in this language, where literals and called names had these numbers before them, and then those.
abbrev pub SpellsIn : OfStatements → Numbers → List Lexeme → List Statement → Numbers → Type 0
SpellsIn L before ts list after = (read : Built (List Statement)) × L.spells ts read × (read.build before ≡ (list, after))

abbrev pub Spells : Numbers → List Lexeme → List Statement → Numbers → Type 0
Spells = SpellsIn statements

-- statements may go on after these tokens
abbrev pub Begins : List Lexeme → Type 0
Begins ts = statements.prefix ts

-- the token opens too many levels, or makes a chain or a list too long
abbrev pub IsTooDeep : List Lexeme → Lexeme → Type 0
IsTooDeep = IsFirstBeyond statements shallow_statements
