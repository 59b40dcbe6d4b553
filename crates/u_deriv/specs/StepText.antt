-- Terms, arguments and steps as text. A node is its letter, then its number where it has one, then its parts in parentheses; there are no
-- blanks. A step is a line: its path, its direction, its rule and its arguments, with one space between them. What shows that a square is
-- its root stands in braces behind the line.
use Rattle.std.specs.Prelude.{ℕ, zero, suc, Bool, true, false, List, [], ◌∷◌, ◌++◌, codes, length}
use Rattle.std.specs.List.{flat_map}
use Rattle.std.specs.Fmt.{decimal}
use Rattle.u_terms.specs.Syntax.{U, Zero, One, Add, Mul, Squash, Not, Sum, Rel, Eq, Pred, Val, Bound, Free, Lit, Fun, Agg, Vals, NoVals, ValThen, row_of}
use Rattle.u_rules.specs.declared.rule.Arg.{Arg}
use Rattle.u_rules.specs.declared.rule.Arg.TheVariants.{Term, Body, Value, Values, Num}
use Rattle.u_rules.specs.declared.rule.Rule.{Rule}
use Rattle.u_rules.specs.declared.rule.Rule.TheVariants as rule
use Rattle.u_deriv.specs.declared.run.Run.{Run}
use Rattle.u_deriv.specs.declared.run.Run.TheVariants.{Left, Right, Inside, Argument}
use Rattle.u_deriv.specs.declared.step.Step as step

-- ---- terms
unfoldable mutual
  pub term_text : U → List ℕ
  term_text Zero = codes "0"
  term_text One = codes "1"
  term_text (Add a b) = codes "+(" ++ (term_text a ++ (codes "," ++ (term_text b ++ codes ")")))
  term_text (Mul a b) = codes "*(" ++ (term_text a ++ (codes "," ++ (term_text b ++ codes ")")))
  term_text (Squash a) = codes "#(" ++ (term_text a ++ codes ")")
  term_text (Not a) = codes "!(" ++ (term_text a ++ codes ")")
  term_text (Sum body) = codes "S(" ++ (term_text body ++ codes ")")
  term_text (Rel table _ arguments) = codes "R" ++ (decimal table ++ (codes "(" ++ first_text arguments))
  term_text (Eq a b) = codes "=(" ++ (value_text a ++ (codes "," ++ (value_text b ++ codes ")")))
  term_text (Pred symbol _ arguments) = codes "P" ++ (decimal symbol ++ (codes "(" ++ first_text arguments))

  pub value_text : Val → List ℕ
  value_text (Bound place) = codes "b" ++ decimal place
  value_text (Free name) = codes "f" ++ decimal name
  value_text (Lit literal) = codes "c" ++ decimal literal
  value_text (Fun symbol _ arguments) = codes "F" ++ (decimal symbol ++ (codes "(" ++ first_text arguments))
  value_text (Agg aggregate body) = codes "G" ++ (decimal aggregate ++ (codes "(" ++ (term_text body ++ codes ")")))

  -- the arguments behind the parenthesis, and its end
  pub first_text : {n : _} → Vals n → List ℕ
  first_text NoVals = codes ")"
  first_text (ValThen value rest) = value_text value ++ rest_text rest

  pub rest_text : {n : _} → Vals n → List ℕ
  rest_text NoVals = codes ")"
  rest_text (ValThen value rest) = codes "," ++ (value_text value ++ rest_text rest)

-- ---- parts of a line
abbrev pub newline : List ℕ
newline = 10 ∷ []

-- a run of one turn is its letter alone
abbrev pub counted : ℕ → List ℕ
counted (suc zero) = []
counted count = decimal count

abbrev pub run_text : Run → List ℕ
run_text (Left count) = codes "l" ++ counted count
run_text (Right count) = codes "r" ++ counted count
run_text (Inside count) = codes "i" ++ counted count
run_text (Argument index) = codes "a" ++ decimal index

abbrev pub path_text : List Run → List ℕ
path_text path = codes "/" ++ flat_map run_text path

abbrev pub direction_text : Bool → List ℕ
direction_text true = codes ">"
direction_text false = codes "<"

abbrev pub rule_text : Rule → List ℕ
rule_text rule.AddAc = codes "add_ac"
rule_text rule.MulAc = codes "mul_ac"
rule_text rule.MulZero = codes "mul_zero"
rule_text rule.Distr = codes "distr"
rule_text rule.SqZero = codes "sq_zero"
rule_text rule.SqOne = codes "sq_one"
rule_text rule.SqAdd = codes "sq_add"
rule_text rule.SqMul = codes "sq_mul"
rule_text rule.SqDup = codes "sq_dup"
rule_text rule.SqAbs = codes "sq_abs"
rule_text rule.SqFix = codes "sq_fix"
rule_text rule.SqPart = codes "sq_part"
rule_text rule.SqEq = codes "sq_eq"
rule_text rule.SqPred = codes "sq_pred"
rule_text rule.NotZero = codes "not_zero"
rule_text rule.NotOne = codes "not_one"
rule_text rule.NotMul = codes "not_mul"
rule_text rule.NotAdd = codes "not_add"
rule_text rule.NotSq = codes "not_sq"
rule_text rule.SqNot = codes "sq_not"
rule_text rule.NotSelf = codes "not_self"
rule_text rule.NotNot = codes "not_not"
rule_text rule.Split = codes "split"
rule_text rule.SumZero = codes "sum_zero"
rule_text rule.SumAdd = codes "sum_add"
rule_text rule.SumSwap = codes "sum_swap"
rule_text rule.SumMul = codes "sum_mul"
rule_text rule.SumSq = codes "sum_sq"
rule_text rule.SumPoint = codes "sum_point"
rule_text rule.SumUse = codes "sum_use"
rule_text rule.EqRefl = codes "eq_refl"
rule_text rule.EqSym = codes "eq_sym"
rule_text rule.EqSubst = codes "eq_subst"
rule_text rule.EqSplit = codes "eq_split"
rule_text rule.Key = codes "key"
rule_text rule.Fkey = codes "fkey"

abbrev pub argument_text : Arg → List ℕ
argument_text (Term x) = term_text x
argument_text (Body f) = term_text f
argument_text (Value a) = value_text a
argument_text (Values s) = codes "(" ++ first_text (row_of s)
argument_text (Num m) = decimal m

abbrev pub arguments_text : List Arg → List ℕ
arguments_text = flat_map (λ arg. codes " " ++ argument_text arg)

-- a path, which begins with its slash, a direction, a rule and its arguments
abbrev pub head_text : List Run → Bool → Rule → List Arg → List ℕ
head_text path forward q args =
    path_text path ++ (codes " " ++ (direction_text forward ++ (codes " " ++ (rule_text q ++ arguments_text args))))

-- ---- steps
-- what follows the head: the inner steps of `sq_fix` in braces
abbrev pub tail_text : Rule → List ℕ → List ℕ
tail_text rule.SqFix inner = codes " {" ++ (newline ++ (inner ++ (codes "}" ++ newline)))
tail_text _ inner = newline

unfoldable mutual
  pub step_text : step.Step → List ℕ
  step_text (step.Step' path forward q args shape inner) = head_text path forward q args ++ tail_text q (row_text inner)

  pub row_text : {n : _} → step.Row_of-Step n → List ℕ
  row_text step.end_of-Step = []
  row_text (step.more_of-Step first rest) = step_text first ++ row_text rest

abbrev pub steps_text : List step.Step → List ℕ
steps_text = flat_map step_text

-- how many bytes the lines have
abbrev pub lines_length : List step.Step → ℕ
lines_length steps = length (steps_text steps)
