-- Where a derivation begins.
use Rattle.std.specs.Prelude.{◌≡◌, ℕ}
use Rattle.u_terms.specs.Syntax.{U}
use Rattle.u_terms.specs.declared.facts.Facts.{Facts}
use Rattle.u_moves.specs.Derivations.{Derivation}

-- by these facts, from this term, with the names from this one on for binders
pub record IsFrom (F : Facts) (names : ℕ) (first : U) (d : Derivation) : Type 0 where
  pub facts : d.facts ≡ F
  pub outs : d.outs ≡ names
  pub from : d.from ≡ first
