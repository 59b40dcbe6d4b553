-- One step at the root, by the rule's row.
use Rattle.std.specs.Prelude.{◌≡◌, ℕ, true, length, List, [], ◌∷◌, Some, slice_get}
use Rattle.data_model.specs.Lists.{Each}
use Rattle.u_terms.specs.Syntax.{U, Val}
use Rattle.u_terms.specs.Places.{IsClosedValue}
use Rattle.u_terms.specs.Names.{IsFreeBelowValue}
use Rattle.u_terms.specs.declared.facts.Facts.{Facts}
use Rattle.u_terms.specs.declared.facts.Fkey.{Fkey}
use Rattle.u_rules.specs.declared.rule.Arg.{Arg}
use Rattle.u_rules.specs.declared.rule.Arg.TheVariants.{Term}
use Rattle.u_rules.specs.declared.rule.Rule.{Rule}
use Rattle.u_rules.specs.declared.rule.Rule.TheVariants as rule
use Rattle.u_rules.specs.Terms.{width}
use Rattle.u_rules.specs.Rows.{row, Instance}
use Rattle.u_rules.specs.Sides.{AreNamed}
use Rattle.u_deriv.specs.declared.step.Step.{Step, roll-Step}
use Rattle.u_deriv.specs.Editing.{left_of, right_of}
use Rattle.u_moves.specs.declared.moves.Moves.{Moves}
use Rattle.u_moves.specs.Derivations.{Derivation, IsOneStep}

abbrev pub root_step : Rule → List Arg → Step
root_step q args = roll-Step (record { path = []; forward = true; rule = q; args = args; inner = [] })

-- one step of the rule at the root leads from the one term to the other
abbrev pub IsMove : Moves → Rule → List Arg → U → U → Derivation → Type 0
IsMove moves q args l r = IsOneStep moves.facts.now moves.outs l (root_step q args) r

-- the squash of a term becomes the term, by the steps that lead from its square to it
abbrev pub fix_step : Derivation → Step
fix_step square = roll-Step (record { path = []; forward = true; rule = rule.SqFix; args = Term square.to ∷ []; inner = square.steps })

-- ---- values that rules take: closed, with known names
pub record IsKnownValue (outs : ℕ) (value : Val) : Type 0 where
  pub closed : IsClosedValue 0 value
  pub named : IsFreeBelowValue outs value

pub record AreKnownValues (outs : ℕ) (values : List Val) : Type 0 where
  pub closed : Each (IsClosedValue 0) values
  pub named : Each (IsFreeBelowValue outs) values

-- a row of the table that the foreign key refers from
pub record Refers (facts : Facts) (fkey : ℕ) (s : List Val) : Type 0 where
  pub key : Fkey
  pub is : slice_get facts.fkeys fkey ≡ Some key
  pub long : length s ≡ width facts key.from

-- ---- contracts of private functions alone cite this
-- the rule has these two sides for these arguments, whose names are known, and asks for no inner steps
pub record Applies (facts : Facts) (outs : ℕ) (q : Rule) (args : List Arg) : Type 0 where
  pub instance : Instance facts q args (left_of (row facts q args)) (right_of (row facts q args))
  pub named : AreNamed outs args
  pub plain : q ≡ rule.SqFix → ⊥
