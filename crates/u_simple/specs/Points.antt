-- Equalities that say what value a name has. Contracts of private functions alone cite this.
use Rattle.std.specs.Prelude.{ℕ, Bool, true, false}
use Rattle.u_terms.specs.Names.{IsFreeBelowValue}
use Rattle.u_terms.specs.Syntax.{U, Val}
use Rattle.u_terms.specs.declared.term.Val.TheVariants as v
use Rattle.u_rules.specs.Terms.{◌≐◌}
use Rattle.u_normal.specs.Taking.{Takes}
use Rattle.u_simple.specs.declared.points.Point.{Point}

-- the value equals the name, which is the second side where it is turned
abbrev pub equation : ℕ → Val → Bool → U
equation name value true = value ≐ v.Free name
equation name value false = v.Free name ≐ value

-- one factor of the product is such an equality, whose value has neither the name nor a later one
pub record IsPoint (name : ℕ) (u : U) (point : Point) : Type 0 where
  pub takes : Takes u point.rest (equation name point.value point.turned)
  pub apart : IsFreeBelowValue name point.value
