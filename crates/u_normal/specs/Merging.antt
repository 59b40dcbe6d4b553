-- Products whose squashes become one, and whose negations become one: contracts of private functions alone cite this.
use Rattle.std.specs.Prelude.{◌≡◌, ◌≤◌, ◌<◌, Some}
use Rattle.data_model.specs.Lists.{Each}
use Rattle.u_terms.specs.Syntax.{U}
use Rattle.u_rules.specs.Terms.{◌⊗◌, ◌⊕◌, mul_leaves, neg, sq}
use Rattle.normal_form.specs.declared.kind.Kind.{Kind}
use Rattle.normal_form.specs.declared.kind.Kind.TheVariants as kind
use Rattle.normal_form.specs.Kinds.{kind_of}
use Rattle.u_normal.specs.declared.merging.Wrap.{Wrap}
use Rattle.u_normal.specs.declared.merging.Wrap.TheVariants.{Squash, Not}
use Rattle.u_normal.specs.declared.merging.Pair.{Pair}
use Rattle.u_normal.specs.Taking.{Takes, load, count}

abbrev pub wrap_kind : Wrap → Kind
wrap_kind Squash = kind.Squash
wrap_kind Not = kind.Negation

abbrev pub wrapped : Wrap → U → U
wrapped Squash p = sq p
wrapped Not p = neg p

-- the factor with both bodies
abbrev pub both : Wrap → U → U → U
both Squash p q = sq (p ⊗ q)
both Not p q = neg (p ⊕ q)

-- ---- factors
pub record HasKind (u : U) : Type 0 where
  pub kind : Kind
  pub is : kind_of u ≡ Some kind

-- no factor is 0, a sum or a sum over values
pub record HasKinds (u : U) : Type 0 where
  pub each : Each HasKind (mul_leaves u)

pub record HasOneAtMost (wrap : Wrap) (u : U) : Type 0 where
  pub few : count (wrap_kind wrap) u ≤ 1

-- two such factors, taken out one after the other
pub record IsPair (wrap : Wrap) (u : U) (pair : Pair) : Type 0 where
  pub between : U
  pub first_takes : Takes u between pair.first
  pub second_takes : Takes between pair.rest pair.second
  pub first_is : kind_of pair.first ≡ Some (wrap_kind wrap)
  pub second_is : kind_of pair.second ≡ Some (wrap_kind wrap)

-- the factor with the bodies of both
pub record IsBoth (wrap : Wrap) (first second u : U) : Type 0 where
  pub p : U
  pub q : U
  pub first_is : first ≡ wrapped wrap p
  pub second_is : second ≡ wrapped wrap q
  pub is : u ≡ both wrap p q

-- ---- what a product becomes
pub record IsFewer (wrap : Wrap) (before after : U) : Type 0 where
  pub kinds : HasKinds before → HasKinds after
  pub squashes : count kind.Squash after ≤ count kind.Squash before
  pub light : load after < load before

pub record IsMerged (wrap : Wrap) (before after : U) : Type 0 where
  pub kinds : HasKinds after
  pub few : count (wrap_kind wrap) after ≤ 1
  pub squashes : count kind.Squash after ≤ count kind.Squash before
  pub light : load after ≤ load before
