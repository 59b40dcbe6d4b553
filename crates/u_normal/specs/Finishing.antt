-- What the factors of a product become. Contracts of private functions alone cite this.
use Rattle.std.specs.Prelude.{◌≡◌, ◌≤◌}
use Rattle.u_terms.specs.declared.term.U.TheVariants as u
use Rattle.u_terms.specs.Syntax.{U, One}
use Rattle.normal_form.specs.declared.kind.Kind.TheVariants as kind
use Rattle.normal_form.specs.Kinds.{is_truth}
use Rattle.normal_form.specs.LooseTerms.{IsProduct}
use Rattle.u_normal.specs.Merging.{HasKind}
use Rattle.u_normal.specs.Taking.{count}

pub data IsFactorOrOne : U → Type 0 where
  one : IsFactorOrOne One
  factor : {u : U} → HasKind u → IsFactorOrOne u

-- a product of normal factors, with no more squashes and no more negations
pub record IsFinished (before after : U) : Type 0 where
  pub product : IsProduct after
  pub squashes : count kind.Squash after ≤ count kind.Squash before
  pub negations : count kind.Negation after ≤ count kind.Negation before

-- ---- equalities, predicates and relations
-- 1 or a factor that is no squash and no negation
pub record IsPlainFactor (t : U) : Type 0 where
  pub factor : IsFactorOrOne t
  pub no_squash : (p : U) → t ≡ u.Squash p → ⊥
  pub no_negation : (p : U) → t ≡ u.Not p → ⊥

-- it stays an equality or a predicate
pub record IsFinishedPlain (before after : U) : Type 0 where
  pub finished : IsFinished before after
  pub truth : is_truth after ≡ is_truth before
