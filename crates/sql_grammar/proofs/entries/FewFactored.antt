-- The left-factored grammar with few entries in blocks is within the left-factored grammar, and has the languages of the grammar with few entries.
use Rattle.std.proofs.Common.{ℕ, suc, ◌≤◌}
use Rattle.grammar.specs.Language.{Includes}
use Rattle.grammar.specs.Form.{Room, language, ref}
use Rattle.grammar.proofs.languages.Forms.{includes_through}
use Rattle.grammar.proofs.languages.Heights.{name_prefixes}
use Rattle.grammar.proofs.languages.Known.{narrowed}
use Rattle.grammar.proofs.factorings.Factorings.{below_included}
use Rattle.grammar.proofs.readers.Predictions.{AreWithin, named}
use Rattle.sql_grammar.specs.Kinds.{kind_of}
use Rattle.sql_grammar.specs.QueryEntries.{few_froms, few_rules}
use Rattle.sql_grammar.specs.QueryGrammar.{Production, block, from, listed, most_separators}
use Rattle.sql_grammar.specs.QueryLookahead.{table}
use Rattle.sql_grammar.specs.FactoredQueries.{few_factored, of_factored, factored}
use Rattle.sql_grammar.proofs.entries.EntryLists.{block_below, list_below}
use Rattle.sql_grammar.proofs.factored.Below.{grammar_above}
use Rattle.sql_grammar.proofs.queries.QueryBelow.{factored_above}
use Rattle.sql_grammar.proofs.queries.QueryForms.{known_includes, left_factored_includes}
use Rattle.sql_grammar.proofs.queries.QueryTable.{left_factored}
use Rattle.grammar.proofs.factorings.Alike.{itself}
use Rattle.sql_grammar.proofs.queries.QueryWords.{Below}
use Rattle.sql_grammar.proofs.queries.Variants.{Variant}

module _ (m : ℕ) (few : suc m ≤ most_separators) where
  pub list_left_factored : Below of_factored (few_froms m) (listed (ref from))
  list_left_factored = record {
    holds = λ room. includes_through _ _ _ (known_includes room (few_froms m)) (includes_through _ _ _ ((list_below m few).holds room) (left_factored_includes room (listed (ref from))));
  }

  few_below : (p : Production) → Below of_factored (few_factored m p) (factored p)
  few_below block = block_below list_left_factored
  few_below other = itself (factored other)

  -- what has few entries is in the left-factored grammar
  pub few_factored_included : (room : Room) (p : Production) → Includes (of_factored room p) (language kind_of (few_factored m) room p)
  few_factored_included = below_included kind_of (few_factored m) factored few_below

  pub few_within : AreWithin left_factored (language kind_of (few_factored m))
  few_within = record { included = few_factored_included; prefixes = name_prefixes kind_of (few_factored m) }

  few_variant : Variant
  few_variant = record {
    froms = few_froms m;
    known = λ room p. narrowed kind_of (language kind_of (few_factored m) room p) (of_factored room p) (table p) (few_factored_included room p) (name_prefixes kind_of (few_factored m) room p) (named left_factored room p);
  }

  -- the same languages
  pub few_factored_includes : (room : Room) (p : Production) → Includes (language kind_of (few_factored m) room p) (language kind_of (few_rules m) room p)
  unfolding few_variant
  few_factored_includes = factored_above few_variant

  pub few_rules_include : (room : Room) (p : Production) → Includes (language kind_of (few_rules m) room p) (language kind_of (few_factored m) room p)
  unfolding few_variant
  few_rules_include = grammar_above few_variant
