-- A subterm at a path is what is at the end of its turns.
use Rattle.std.proofs.Common.{◌≡◌, List, Option, Some, None, Bor, refl, sym}
use Rattle.std.specs.Prelude.{◌↔◌, IsNone, option_copied}
use Rattle.u_terms.specs.Syntax.{U}
use Rattle.u_deriv.specs.declared.run.Run.{Run}
use Rattle.u_deriv.specs.Turns.{turns}
use Rattle.u_deriv.specs.Subterms.{IsSubterm}
use Rattle.u_deriv.specs.Walk.{end_of}
use Rattle.u_deriv.proofs.contexts.Ends.{end_of-found, end_of-context}

pub subterm-at_end : (path : List Run) (u s : U) → (end_of (turns path) u ≡ Some s) ↔ IsSubterm path u s
subterm-at_end path u s = (to, λ at. end_of-context (turns path) at.context u s at.at_path at.is)
  where
    to : end_of (turns path) u ≡ Some s → IsSubterm path u s
    to h = let r = end_of-found (turns path) u s h in record { context = r.context; at_path = r.at_turns; is = r.is }

pub no_subterm : (path : List Run) (u : U) (lent : Option (Bor U)) → option_copied lent ≡ end_of (turns path) u
    → IsNone lent ↔ ((s : U) → IsSubterm path u s → ⊥)
no_subterm path u None is = (λ none s at. let h = (subterm-at_end path u s).1 at in cc, λ never. refl)
no_subterm path u (Some s) is = (λ none. absurd (cc), λ never. absurd (never s.now ((subterm-at_end path u s.now).0 (sym is))))
