-- Forms over the names of queries: what begins them, and that they spell and begin in the left-factored grammar what they do in the grammar.
use Rattle.grammar.specs.Form.{IsRoomier, Room}
use Rattle.grammar.specs.Language.{HasPrefixes, Includes}
use Rattle.grammar.proofs.languages.Forms.{form_prefixes, form_grows, includes_through}
use Rattle.grammar.proofs.languages.Heights.{name_prefixes, name_grows, same_room}
use Rattle.sql_grammar.specs.Kinds.{kind_of}
use Rattle.sql_grammar.specs.Queries.{of_form, of_production, rules}
use Rattle.sql_grammar.specs.QueryGrammar.{Production, The}
use Rattle.sql_grammar.specs.FactoredQueries.{in_factored, of_factored, factored}
use Rattle.sql_grammar.proofs.factored.Known.{grammar_includes}
use Rattle.sql_grammar.proofs.queries.QueryKnown.{factored_includes}

pub form_has_prefixes : {A : Type 0} (room : Room) (f : The A) → HasPrefixes (of_form room f)
form_has_prefixes room f = form_prefixes kind_of of_production (name_prefixes kind_of rules) f room

pub left_factored_includes : {A : Type 0} (room : Room) (f : The A) → Includes (in_factored room f) (of_form room f)
left_factored_includes room f = form_grows kind_of of_production of_factored (name_prefixes kind_of factored) names f room room (same_room room)
  where
    names : (small large : Room) → IsRoomier small large → (p : Production) → Includes (of_factored large p) (of_production small p)
    names small large w p = includes_through (of_production small p) (of_production large p) (of_factored large p) (name_grows kind_of rules small large w p) (factored_includes large p)

pub known_includes : {A : Type 0} (room : Room) (f : The A) → Includes (of_form room f) (in_factored room f)
known_includes room f = form_grows kind_of of_factored of_production (name_prefixes kind_of rules) names f room room (same_room room)
  where
    names : (small large : Room) → IsRoomier small large → (p : Production) → Includes (of_production large p) (of_factored small p)
    names small large w p = includes_through (of_factored small p) (of_factored large p) (of_production large p) (name_grows kind_of factored small large w p) (grammar_includes large p)

pub roomier : {A : Type 0} (small large : Room) → IsRoomier small large → (f : The A) → Includes (of_form large f) (of_form small f)
roomier small large w f = form_grows kind_of of_production of_production (name_prefixes kind_of rules) (name_grows kind_of rules) f small large w
