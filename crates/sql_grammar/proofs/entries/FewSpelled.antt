-- A query whose blocks have few entries is spelled with few, wherever it is spelled.
use Rattle.std.proofs.Common.{◌≡◌, ℕ, suc, ◌≤◌, List, length, None, sym, ap, subst, arith}
use Rattle.grammar.specs.Form.{language}
use Rattle.sql_lex.specs.Lexemes.{Lexeme}
use Rattle.sql_model.specs.declared.tree.Query.{Query}
use Rattle.sql_model.specs.Everywhere.{Anything, Everywhere}
use Rattle.sql_grammar.specs.Kinds.{kind_of}
use Rattle.sql_grammar.specs.Numbering.{Built, Numbers}
use Rattle.sql_grammar.specs.Queries.{queries}
use Rattle.sql_grammar.specs.QueryEntries.{few_rules}
use Rattle.sql_grammar.specs.QueryGrammar.{query}
use Rattle.sql_grammar.proofs.entries.EntryTexts.{few_spell}
use Rattle.sql_grammar.proofs.entries.EverywhereQueries.{spelled_with_few}

module _ (m : ℕ) where
  abbrev OfQuery : Query → Type 0
  OfQuery q = Everywhere Anything (λ count. count ≤ suc m) q

  -- what is spelled with more further entries, and has few, is spelled with few
  pub query_again_few : (most : ℕ) (ts : List Lexeme) (read : Built Query) (numbers : Numbers) → (language kind_of (few_rules most) None query).spells ts read → OfQuery (read.build numbers).0
      → (language kind_of (few_rules m) None query).spells ts read
  query_again_few most ts read numbers s f = spelled_with_few m most ts read (record { numbers = numbers; holds = f }) s

  pub built_again : (before after : Numbers) (ts : List Lexeme) (q : Query) (read : Built Query) → queries.spells ts read → read.build before ≡ (q, after) → OfQuery q
      → (language kind_of (few_rules m) None query).spells ts read
  built_again before after ts q read s e f =
      query_again_few (length ts) ts read before (few_spell (length ts) query ts read (omega arith) s) (subst OfQuery (sym (ap (λ z. z.0) e)) f)
