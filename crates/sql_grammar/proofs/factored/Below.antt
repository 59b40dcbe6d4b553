-- The left-factored grammar is included in the grammar, whatever form the items of FROM have.
use Rattle.grammar.specs.Language.{Includes}
use Rattle.grammar.specs.Form.{Room, empty, language}
use Rattle.grammar.proofs.factorings.Factorings.{below_included}
use Rattle.sql_grammar.specs.Kinds.{kind_of}
use Rattle.sql_grammar.specs.QueryGrammar.{Production, rules_with, item, reference, rest, primary, agg}
use Rattle.sql_grammar.specs.QueryTails.{commas, tail_rules, inner, in_inner}
use Rattle.sql_grammar.specs.FactoredQueries.{factored_with}
use Rattle.grammar.proofs.factorings.Alike.{itself}
use Rattle.sql_grammar.proofs.queries.QueryWords.{Below}
use Rattle.sql_grammar.proofs.factored.Insides.{G}
use Rattle.sql_grammar.proofs.factored.Words.{reference_left_factored, agg_left_factored}
use Rattle.sql_grammar.proofs.factored.Parens.{primary_left_factored}
use Rattle.sql_grammar.proofs.factored.OfInsides.{insides_left_factored}
use Rattle.sql_grammar.proofs.factored.Rests.{rest_left_factored}
use Rattle.sql_grammar.proofs.factored.Items.{item_left_factored}
use Rattle.sql_grammar.proofs.queries.Variants.{Variant}

module _ (variant : Variant) where
  factored_below : (p : Production) → Below (G variant) (factored_with variant.froms p) (rules_with tail_rules variant.froms p)
  factored_below item = item_left_factored variant
  factored_below reference = reference_left_factored variant
  factored_below rest = rest_left_factored variant
  factored_below primary = primary_left_factored variant
  factored_below agg = agg_left_factored variant
  factored_below inner = insides_left_factored variant empty
  factored_below in_inner = insides_left_factored variant commas
  factored_below other = itself (rules_with tail_rules variant.froms other)

  -- what the left-factored grammar spells and begins, the grammar does
  pub grammar_above : (room : Room) (p : Production) → Includes (G variant room p) (language kind_of (factored_with variant.froms) room p)
  grammar_above = below_included kind_of (factored_with variant.froms) (rules_with tail_rules variant.froms) factored_below
