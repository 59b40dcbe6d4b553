-- A factor taken out of a product, and how much there is to do in a product. Contracts of private functions alone cite this.
use Rattle.std.specs.Prelude.{◌≡◌, ℕ, ◌+◌, Option, length}
use Rattle.std.specs.List.{sum_by}
use Rattle.data_model.specs.Lists.{Each}
use Rattle.u_terms.specs.declared.term.U.TheVariants as u
use Rattle.u_terms.specs.Syntax.{U, One, Mul}
use Rattle.u_terms.specs.Size.{nodes}
use Rattle.u_rules.specs.Terms.{mul_leaves}
use Rattle.normal_form.specs.declared.kind.Kind.{Kind}
use Rattle.normal_form.specs.Kinds.{kind_of, of_kind}
use Rattle.u_normal.specs.declared.taking.Split.{Split}

-- a product, the product with 1 where the factor stood, and the factor
pub data Takes : U → U → U → Type 0 where
  alone : {part : U} → (part ≡ u.One → ⊥) → ((a b : U) → part ≡ u.Mul a b → ⊥) → Takes part One part
  from_left : {a b rest part : U} → Takes a rest part → Takes (Mul a b) (Mul rest b) part
  from_right : {a b rest part : U} → Takes b rest part → Takes (Mul a b) (Mul a rest) part

pub record IsTaken (kind : Option Kind) (u : U) (found : Split) : Type 0 where
  pub takes : Takes u found.rest found.part
  pub kind_is : kind_of found.part ≡ kind

pub record HasNone (kind : Option Kind) (u : U) : Type 0 where
  pub none : Each (λ x. kind_of x ≡ kind → ⊥) (mul_leaves u)

-- for each factor one more than its nodes
unfoldable pub load : U → ℕ
load u = sum_by (λ x. nodes x + 1) (mul_leaves u)

-- how many factors are of the kind
abbrev pub count : Kind → U → ℕ
count kind u = length (of_kind kind (mul_leaves u))
