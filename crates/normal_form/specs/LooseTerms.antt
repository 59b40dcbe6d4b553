-- Terms on the way to normal form: sums of blocks, in any order and with 0 among them, whose factors are normal, in any order and with 1 among
-- them. Contracts of functions that make normal terms cite this.
use Rattle.data_model.specs.Lists.{Each}
use Rattle.u_terms.specs.Syntax.{U, Sum}
use Rattle.u_rules.specs.Terms.{add_leaves, mul_leaves}
use Rattle.normal_form.specs.declared.kind.Kind.{Kind}
use Rattle.normal_form.specs.NormalTerms.{IsFactor}

-- of some kind
pub record IsSomeFactor (u : U) : Type 0 where
  pub kind : Kind
  pub is : IsFactor kind u

-- a product of factors
pub record IsProduct (u : U) : Type 0 where
  pub factors : Each IsSomeFactor (mul_leaves u)

-- sums over a product
pub data IsLooseBlock : U → Type 0 where
  over_all : {body : U} → IsLooseBlock body → IsLooseBlock (Sum body)
  loose_product : {u : U} → IsProduct u → IsLooseBlock u

pub record IsLoose (u : U) : Type 0 where
  pub blocks : Each IsLooseBlock (add_leaves u)
