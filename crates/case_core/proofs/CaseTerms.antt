-- What the translation of each query answers, as the answer for the case.
use Rattle.std.proofs.Common.{◌≡◌, ap, sym, ◌∙◌}
use Rattle.std.specs.Option.{option_or}
use Rattle.u_terms.specs.Syntax.{U}
use Rattle.sql_to_u.specs.declared.fault.TermFault.{TermFault}
use Rattle.sql_to_u.specs.Limits.{IsCause, IsWithinLimits, too_big}
use Rattle.sql_to_u.proofs.queries.Wholes.{none-within}
use Rattle.case_core.specs.Parts.{Parts}
use Rattle.case_core.specs.Terms.{term_of, terms_fault}

pub left-cause : (case : Parts) (f : TermFault) → IsCause f (too_big (term_of case case.left)) → IsCause f (terms_fault case)
unfolding IsCause
left-cause case f h = λ ne. ap (λ o. option_or o (too_big (term_of case case.right))) (h ne)

pub right-cause : (case : Parts) (f : TermFault) (u : U) → u ≡ term_of case case.left → IsWithinLimits u → IsCause f (too_big (term_of case case.right)) → IsCause f (terms_fault case)
unfolding IsCause
right-cause case f u is within h = λ ne. ap (λ o. option_or o (too_big (term_of case case.right))) (sym (ap (λ t. too_big t) is) ∙ none-within u within) ∙ h ne

pub ruleset causes = (left-cause, right-cause)
