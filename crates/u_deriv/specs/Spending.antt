-- What is known of a step before it is made, and the steps whose sides are two of their arguments.
use Rattle.std.specs.Prelude.{◌≡◌, ℕ, max, Bool, true, false, List, [], ◌∷◌, slice_get, Option, Some, None, IsPermutation}
use Rattle.u_terms.specs.Syntax.{U}
use Rattle.u_terms.specs.Names.{fresh}
use Rattle.u_terms.specs.Places.{IsClosed}
use Rattle.u_terms.specs.declared.term.U.TheVariants as u
use Rattle.u_terms.specs.declared.facts.Facts.{Facts}
use Rattle.u_rules.specs.declared.rule.Arg.{Arg}
use Rattle.u_rules.specs.declared.rule.Arg.TheVariants.{Term}
use Rattle.u_rules.specs.declared.rule.Rule.{Rule}
use Rattle.u_rules.specs.declared.rule.Rule.TheVariants as rule
use Rattle.u_rules.specs.Rows.{Row, row, row_with, T}
use Rattle.u_rules.specs.Measures.{sizes_of}
use Rattle.u_rules.specs.Terms as terms
use Rattle.u_deriv.specs.declared.spending.Measured.{Measured}
use Rattle.u_deriv.specs.declared.step.Step.{Step, out-Step}

-- ---- arguments that are two closed terms
pub record AreClosedTerms (args : List Arg) (left right : U) : Type 0 where
  pub are : args ≡ Term left ∷ Term right ∷ []
  pub left_closed : IsClosed 0 left
  pub right_closed : IsClosed 0 right

-- the least number that the names of both are below; none where the arguments are not two closed terms
abbrev pub SeesNames : List Arg → Option ℕ → Type 0
SeesNames args (Some names) = (left : U) × (right : U) × AreClosedTerms args left right × (names ≡ max (fresh left) (fresh right))
SeesNames args None = (left right : U) → AreClosedTerms args left right → ⊥

-- ---- a step that is measured
-- the rules whose sides are two arguments
abbrev pub SeesNamesFor : Rule → List Arg → Option ℕ → Type 0
SeesNamesFor rule.AddAc args names = SeesNames args names
SeesNamesFor rule.MulAc args names = SeesNames args names
SeesNamesFor _ args names = Unit {0}

pub record IsMeasured (facts : Facts) (step : Step) (measured : Measured) : Type 0 where
  pub sizes : measured.sizes ≡ sizes_of (row facts (out-Step step).rule (out-Step step).args)
  pub names : SeesNamesFor (out-Step step).rule (out-Step step).args measured.names

-- ---- its parts: contracts of private functions alone cite these
-- the rule of sums or, for products, that of products
abbrev pub rearranging : Bool → Rule
rearranging false = rule.AddAc
rearranging true = rule.MulAc

-- the row of both
abbrev pub two_terms : List Arg → Option Row
two_terms = T (λ x. T (λ y. row_with None x y))

abbrev pub term_in : Option Arg → U
term_in (Some (Term x)) = x
term_in _ = u.Zero

abbrev pub term_at : List Arg → ℕ → U
term_at args i = term_in (slice_get args i)

abbrev pub AreNoTwoTerms : List Arg → Type 0
AreNoTwoTerms args = (left right : U) → args ≡ Term left ∷ Term right ∷ [] → ⊥

-- two terms with the same leaves, each as often
pub record Agree (product : Bool) (args : List Arg) : Type 0 where
  pub left : U
  pub right : U
  pub are : args ≡ Term left ∷ Term right ∷ []
  pub same : IsPermutation (terms.leaves product left) (terms.leaves product right)
