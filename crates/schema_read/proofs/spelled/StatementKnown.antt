-- One token tells how to go on with statements, so no list of tokens spells two lists of them.
use Rattle.std.proofs.Common.{◌≡◌, true, List, refl, sym, ◌∙◌, ap, None}
use Rattle.grammar.specs.Form.{Room}
use Rattle.grammar.specs.Lookahead.{is_predictive, lookahead}
use Rattle.grammar.proofs.languages.Known.{Known}
use Rattle.grammar.proofs.languages.Tables.{form_known, weaker}
use Rattle.sql_lex.specs.Lexemes.{Lexeme}
use Rattle.sql_model.specs.declared.statement.Statement.{Statement}
use Rattle.sql_grammar.specs.Kinds.{kind_of, every_kind}
use Rattle.sql_grammar.specs.Numbering.{Numbers}
use Rattle.sql_grammar.specs.Queries.{of_production, of_form}
use Rattle.sql_grammar.specs.QueryGrammar.{The}
use Rattle.sql_grammar.specs.QueryLookahead.{table}
use Rattle.sql_grammar.proofs.lists.EveryKind.{every_kind_is_there}
use Rattle.sql_grammar.proofs.queries.QueryKnown.{production_known}
use Rattle.schema_read.specs.StatementGrammar as g
use Rattle.schema_read.specs.StatementLookahead.{of_statements}
use Rattle.schema_read.specs.Statements.{Spells}

-- of each form at which the next token decides
pub known : {A : Type 0} (f : The A) → is_predictive every_kind table f ≡ true → (room : Room) → Known kind_of (of_form room f) (lookahead table f)
known f o room = form_known kind_of every_kind every_kind_is_there table of_production production_known f room o

pub statements_known : (room : Room) → Known kind_of (of_form room g.statements) of_statements
statements_known room = weaker kind_of every_kind every_kind_is_there (of_form room g.statements) (lookahead table g.statements) of_statements refl (known g.statements refl room)

pub one_list : (before after other : Numbers) (ts : List Lexeme) (p q : List Statement) → Spells before ts p after → Spells before ts q other → (p ≡ q) × (after ≡ other)
one_list before after other ts p q s r =
    let same_reading = (statements_known None).unique ts s.0 r.0 s.1 r.1 in
    let e = sym s.2 ∙ (ap (λ read. read.build before) same_reading ∙ r.2) in
    (ap (λ u. u.0) e, ap (λ u. u.1) e)
