-- The grammar and the left-factored grammar with the items of FROM in another form.
use Rattle.grammar.specs.Form.{Room, language}
use Rattle.grammar.proofs.languages.Known.{Known}
use Rattle.grammar.proofs.readers.Predictions.{named}
use Rattle.sql_grammar.specs.Kinds.{kind_of}
use Rattle.sql_grammar.specs.QueryGrammar.{Production, The, Froms, from, listed}
use Rattle.sql_grammar.specs.QueryLookahead.{table}
use Rattle.sql_grammar.specs.FactoredQueries.{factored_with}
use Rattle.sql_grammar.proofs.queries.QueryTable.{left_factored}
use Rattle.grammar.specs.Form.{ref}

-- these items, with which one token still tells of the left-factored grammar what the table says
pub record Variant : Type 1 where
  pub froms : The Froms
  pub known : (room : Room) (p : Production) → Known kind_of (language kind_of (factored_with froms) room p) (table p)

-- with no limit on entries
abbrev pub unchanged : Variant
unchanged = record { froms = listed (ref from); known = named left_factored }
