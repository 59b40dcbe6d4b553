-- What the left-factored grammar has copied at a prefix of a form, the prefix has copied; and where the left-factored grammar copies too much, the form does.
use Rattle.std.proofs.Common.{◌≡◌, ℕ, List, ◌∷◌, ◌++◌, None}
use Rattle.grammar.specs.Completions.{Completes, Overspends, Reaches}
use Rattle.grammar.specs.Limits.{IsFirstBeyond, within_cost}
use Rattle.grammar.proofs.languages.Limits.{CostsByCompletion, completed_in, overspends_in, overspends_beyond, reached}
use Rattle.sql_lex.specs.Lexemes.{Lexeme}
use Rattle.sql_grammar.specs.Queries.{of_form}
use Rattle.sql_grammar.specs.QueryCopies.{copies_nothing, most_copies}
use Rattle.sql_grammar.specs.QueryGrammar.{The}
use Rattle.sql_grammar.specs.FactoredQueries.{in_factored}
use Rattle.sql_grammar.proofs.queries.QueryForms.{known_includes}

module _ {A : Type 0} (f : The A) where
  -- up to the rest
  pub reached_copies : (start taken rest : List Lexeme) (read : A) → start ≡ taken ++ rest → Reaches copies_nothing (in_factored None f) start read rest → Completes copies_nothing (of_form None f) taken read
  reached_copies start taken rest read i r = completed_in (known_includes None f) taken read (reached start taken rest read i r)

  pub too_many_here : {cost : A → ℕ} → CostsByCompletion copies_nothing (of_form None f) cost → (copied : ℕ) (start before more : List Lexeme) (token : Lexeme) → start ≡ before ++ token ∷ more
      → Overspends copies_nothing (in_factored None f) cost most_copies copied start (token ∷ more) → IsFirstBeyond (of_form None f) (within_cost copies_nothing cost most_copies copied (of_form None f)) before token
  too_many_here {cost = cost} m copied start before more token i o =
      overspends_beyond m most_copies copied start before more token i (overspends_in (known_includes None f) cost most_copies copied start (token ∷ more) o)
