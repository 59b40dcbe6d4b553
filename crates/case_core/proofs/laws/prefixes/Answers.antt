use Rattle.sql_grammar.proofs.queries.QueryForms.{form_has_prefixes}
use Rattle.case_core.specs.CaseGrammar as g
use Rattle.case_core.proofs.CasePrefixes.{ends_there, prefixes}
use Rattle.case_core.proofs.laws.prefixes.Goals as goal

pub returns : goal.returns
returns c = record { empty = prefixes.empty; shorter = prefixes.shorter; spelled = prefixes.spelled; last = ends_there; limited = λ room. form_has_prefixes room g.case }
