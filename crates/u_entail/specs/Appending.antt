-- An equality behind the factors, by links that are there.
use Rattle.std.specs.Prelude.{ℕ, ◌+◌, ◌-◌, ◌^◌, ◌<◌, ◌≤◌, List, length}
use Rattle.u_terms.specs.Syntax.{U, Val}
use Rattle.u_terms.specs.declared.facts.Facts.{Facts}
use Rattle.u_moves.specs.Derivations.{Derivation}
use Rattle.u_equal.specs.declared.link.Link.{Link}
use Rattle.u_equal.specs.Routes.{Course}
use Rattle.u_entail.specs.declared.hops.Hop.{Hop}
use Rattle.u_entail.specs.Gaining.{right_side, Appends, IsGained, IsWidened}
use Rattle.u_entail.specs.Hops.{AreHops}

-- The equality is gained along a course by at most two steps more than it has links, where these are not too many to be told.
pub record AppendsAlong (facts : Facts) (outs : ℕ) (course : Course) (factors : List U) (a b : Val) (d : Derivation) : Type 0 where
  pub appends : Appends facts outs course.product factors a b d
  pub counted : course.links < 2 ^ 64 - 1 → length d.steps ≤ course.links + 2

-- ---- private functions alone cite this
pub record IsAppendedBy (facts : Facts) (outs : ℕ) (factors : List U) (a : Val) (links : List Link) (d : Derivation) : Type 0 where
  pub hops : List Hop
  pub are : AreHops right_side links hops
  pub first : Derivation
  pub widened : IsWidened facts outs factors first
  pub gained : IsGained factors a hops first d
