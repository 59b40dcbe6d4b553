-- The grammar is included in the left-factored grammar, so one token tells of it what the table says.
use Rattle.grammar.specs.Language.{Includes}
use Rattle.grammar.specs.Form.{Room, empty, language}
use Rattle.grammar.proofs.languages.Heights.{name_prefixes}
use Rattle.grammar.proofs.languages.Known.{Known, narrowed}
use Rattle.grammar.proofs.factorings.Factorings.{below_included}
use Rattle.sql_grammar.specs.Kinds.{kind_of}
use Rattle.sql_grammar.specs.QueryGrammar.{Production, rules_with, item, reference, rest, primary, agg}
use Rattle.sql_grammar.specs.QueryTails.{commas, tail_rules, inner, in_inner}
use Rattle.sql_grammar.specs.FactoredQueries.{factored_with}
use Rattle.sql_grammar.specs.QueryLookahead.{table}
use Rattle.sql_grammar.proofs.queries.QueryInside.{P}
use Rattle.sql_grammar.proofs.queries.QueryInsides.{insides_included}
use Rattle.grammar.proofs.factorings.Alike.{itself}
use Rattle.sql_grammar.proofs.queries.QueryWords.{Below}
use Rattle.sql_grammar.proofs.queries.QueryFirsts.{reference_below, agg_below, primary_below}
use Rattle.sql_grammar.proofs.queries.QueryRests.{rest_below}
use Rattle.sql_grammar.proofs.queries.QueryItems.{item_below}
use Rattle.sql_grammar.proofs.queries.Variants.{Variant}

module _ (variant : Variant) where
  rules_below : (p : Production) → Below (P variant) (rules_with tail_rules variant.froms p) (factored_with variant.froms p)
  rules_below item = item_below variant
  rules_below reference = reference_below variant
  rules_below rest = rest_below variant
  rules_below primary = primary_below variant
  rules_below agg = agg_below variant
  rules_below inner = record { holds = insides_included variant empty }
  rules_below in_inner = record { holds = insides_included variant commas }
  rules_below other = itself (rules_with tail_rules variant.froms other)

  -- what the grammar spells and begins, the left-factored grammar does
  pub factored_above : (room : Room) (p : Production) → Includes (P variant room p) (language kind_of (rules_with tail_rules variant.froms) room p)
  factored_above = below_included kind_of (rules_with tail_rules variant.froms) (factored_with variant.froms) rules_below

  pub known_of : (room : Room) (p : Production) → Known kind_of (language kind_of (rules_with tail_rules variant.froms) room p) (table p)
  known_of room p =
      narrowed kind_of (language kind_of (rules_with tail_rules variant.froms) room p) (P variant room p) (table p) (factored_above room p) (name_prefixes kind_of (rules_with tail_rules variant.froms) room p) (variant.known room p)
