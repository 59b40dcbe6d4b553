-- Steps that have a text: each step has as many arguments as its rule, each of the rule's kind, and only `sq_fix` has inner steps.
use Rattle.std.specs.Prelude.{ℕ, ◌≡◌, ◌≤◌, ◌<◌, ◌^◌, Bool, true, false, List, [], ◌∷◌, ◌++◌, codes}
use Rattle.std.specs.Fmt.{decimal}
use Rattle.data_model.specs.Lists.{Each}
use Rattle.u_terms.specs.Size.{nodes, value_nodes, list_nodes, depth, value_depth, list_depth}
use Rattle.u_rules.specs.declared.rule.Rule.{Rule}
use Rattle.u_rules.specs.declared.rule.Arg.{Arg}
use Rattle.u_rules.specs.declared.rule.Arg.TheVariants.{Term, Body, Value, Values, Num}
use Rattle.u_deriv.specs.declared.run.Run.{Run}
use Rattle.u_deriv.specs.declared.step.Step as step
use Rattle.u_deriv.specs.declared.step.Step.TheOpen.{Step-F}
use Rattle.u_deriv.specs.Normal.{IsNormal}
use Rattle.u_deriv.specs.StepText.{head_text, newline, steps_text}
use Rattle.proof_text.specs.declared.kinds.Kind.{Kind}
use Rattle.proof_text.specs.declared.kinds.Kind.TheVariants as kind
use Rattle.proof_text.specs.declared.line.LineStep.{LineStep}
use Rattle.proof_text.specs.declared.line.LineStep.TheVariants.{Whole, Opens, Closes, Ends}
use Rattle.proof_text.specs.Limits.{most_nodes, most_depth}
use Rattle.proof_text.specs.RuleNames.{kinds_of, has_inner}
use Rattle.proof_text.specs.Words.{ArgumentHasWords, RunHasWord}

-- the argument is of this kind
abbrev pub IsOf : Kind → Arg → Type 0
IsOf kind.Term (Term x) = Unit {0}
IsOf kind.Body (Body f) = Unit {0}
IsOf kind.Value (Value a) = Unit {0}
IsOf kind.Values (Values s) = Unit {0}
IsOf kind.Num (Num m) = Unit {0}
IsOf _ _ = ⊥

abbrev pub AreOf : List Kind → List Arg → Type 0
AreOf [] [] = Unit {0}
AreOf [] (a ∷ args) = ⊥
AreOf (k ∷ ks) [] = ⊥
AreOf (k ∷ ks) (a ∷ args) = IsOf k a × AreOf ks args

-- the parts of the line of a step
pub record HasLine (path : List Run) (q : Rule) (args : List Arg) : Type 0 where
  pub normal : IsNormal path
  pub turns : Each RunHasWord path
  pub kinds : AreOf (kinds_of q) args
  pub words : Each ArgumentHasWords args

-- no argument is too large or too deep
abbrev pub IsSmall : Arg → Type 0
IsSmall (Term x) = (nodes x ≤ most_nodes) × (depth x ≤ most_depth)
IsSmall (Body f) = (nodes f ≤ most_nodes) × (depth f ≤ most_depth)
IsSmall (Value a) = (value_nodes a ≤ most_nodes) × (value_depth a ≤ most_depth)
IsSmall (Values s) = (list_nodes s ≤ most_nodes) × (list_depth s ≤ most_depth)
IsSmall (Num m) = Unit {0}

-- the end of the line of a step
abbrev pub end_text : Bool → List ℕ
end_text true = codes " {" ++ newline
end_text false = newline

-- the line of a step, without its inner steps
abbrev pub line_text : List Run → Bool → Rule → List Arg → List ℕ
line_text path forward q args = head_text path forward q args ++ end_text (has_inner q)

-- what a line says of a step: its parts, without inner steps
pub record SaysStep (inner : Bool) (d : Step-F step.Step) : Type 0 where
  pub parts : HasLine d.path d.rule d.args
  pub small : Each IsSmall d.args
  pub opens : has_inner d.rule ≡ inner
  pub none : d.inner ≡ []

abbrev pub Says : LineStep → Type 0
Says (Whole s) = SaysStep false (step.out-Step s)
Says (Opens s) = SaysStep true (step.out-Step s)
Says Closes = Unit {0}
Says Ends = Unit {0}

-- the line that says this
abbrev pub text_of : LineStep → List ℕ
text_of (Whole s) = let d = step.out-Step s in line_text d.path d.forward d.rule d.args
text_of (Opens s) = let d = step.out-Step s in line_text d.path d.forward d.rule d.args
text_of Closes = codes "}" ++ newline
text_of Ends = codes "end" ++ newline

unfoldable mutual
  pub IsWritable : step.Step → Type 0
  IsWritable (step.Step' path forward q args shape inner) = HasLine path q args × HasInner (has_inner q) inner × AreWritable inner

  pub AreWritable : {n : _} → step.Row_of-Step n → Type 0
  AreWritable step.end_of-Step = Unit {0}
  AreWritable (step.more_of-Step first rest) = IsWritable first × AreWritable rest

  -- only where there may be inner steps there are some
  pub HasInner : {n : _} → Bool → step.Row_of-Step n → Type 0
  HasInner true row = Unit {0}
  HasInner false step.end_of-Step = Unit {0}
  HasInner false (step.more_of-Step first rest) = ⊥

-- Each step, inner ones too, has as many arguments as its rule, each of the kind that the rule has there, and only one of `sq_fix` has inner
-- steps. This is all that a step with a text needs, where its path and its numbers are those of a program.
unfoldable mutual
  pub FitsRule : step.Step → Type 0
  FitsRule (step.Step' path forward q args shape inner) = AreOf (kinds_of q) args × HasInner (has_inner q) inner × FitRules inner

  pub FitRules : {n : _} → step.Row_of-Step n → Type 0
  FitRules step.end_of-Step = Unit {0}
  FitRules (step.more_of-Step first rest) = FitsRule first × FitRules rest

-- a header, the steps, and the last line; `outs` is the width of the queries
abbrev pub proof_text : ℕ → List step.Step → List ℕ
proof_text outs steps =
    codes "udp-proof 1" ++ (newline ++ (codes "outs " ++ (decimal outs ++ (newline ++ (steps_text steps ++ (codes "end" ++ newline))))))

-- the bytes are the text of these steps
pub record ProofText (bytes : List ℕ) (outs : ℕ) (steps : List step.Step) : Type 0 where
  pub spelled : bytes ≡ proof_text outs steps
  pub writable : Each IsWritable steps
  pub word : outs < 2 ^ 32
