-- The terms of a case.
use Rattle.std.specs.Prelude.{◌≡◌, Option}
use Rattle.std.specs.Option.{option_or}
use Rattle.u_terms.specs.Syntax.{U}
use Rattle.u_terms.specs.Names.{IsFreeBelow}
use Rattle.u_terms.specs.Places.{IsClosed}
use Rattle.scope_core.specs.Syntax.{RQuery}
use Rattle.scope_core.specs.Width.{width}
use Rattle.sql_to_u.specs.declared.fault.TermFault.{TermFault}
use Rattle.sql_to_u.specs.Answer.{translation}
use Rattle.sql_to_u.specs.Limits.{IsWithinLimits, too_big}
use Rattle.case_core.specs.Parts.{Parts}

abbrev pub term_of : Parts → RQuery → U
term_of case query = translation case.views query

-- the term of a query of a case
pub record IsTerm (case : Parts) (query : RQuery) (term : U) : Type 0 where
  pub value : term ≡ term_of case query
  pub closed : IsClosed 0 term
  pub names : IsFreeBelow (width query) term
  pub within : IsWithinLimits term

pub record AreTerms (case : Parts) (terms : U × U) : Type 0 where
  pub left : IsTerm case case.left terms.0
  pub right : IsTerm case case.right terms.1

-- of the first query, then of the second
abbrev pub terms_fault : Parts → Option TermFault
terms_fault case = option_or (too_big (term_of case case.left)) (too_big (term_of case case.right))
