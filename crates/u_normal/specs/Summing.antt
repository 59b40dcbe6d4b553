-- Sums of normal blocks, before they stand in one row, and sums over all values of these. Contracts of private functions alone cite this.
use Rattle.std.specs.Prelude.{◌≡◌}
use Rattle.u_terms.specs.Syntax.{U, Zero, Add, Sum}
use Rattle.u_rules.specs.Terms.{S, add_leaves}
use Rattle.normal_form.specs.NormalTerms.{AreBlocks}

-- What is added in it are normal blocks. It may be nested in any way, with 0 among its parts.
pub record IsBlockSum (u : U) : Type 0 where
  pub blocks : AreBlocks (add_leaves u)

-- a sum over all values before each term that is added
unfoldable pub over_each : U → U
over_each Zero = Zero
over_each (Add a b) = Add (over_each a) (over_each b)
over_each u = Sum u

pub record IsSumOverBlocks (u : U) : Type 0 where
  pub body : U
  pub is : u ≡ S body
  pub sum : IsBlockSum body
