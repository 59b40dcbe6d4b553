-- The lines of steps whose numbers have 32 bits are within their bound.
use Rattle.std.proofs.Common.{◌≡◌, ℕ, zero, suc, ◌+◌, ◌*◌, ◌<◌, ◌≤◌, ◌^◌, List, [], ◌∷◌, ◌++◌, length, length-append, ap, arith, subst, sym}
use Rattle.std.specs.Prelude.{codes}
use Rattle.std.specs.Fmt.{decimal}
use Rattle.std.specs.List.{flat_map}
use Rattle.std.proofs.lemmas.Fmt.{length-decimal-le}
use Rattle.std.proofs.lemmas.List.{length-replicate}
use Rattle.std.proofs.lemmas.List.Sums.{sum_by-cons}
use Rattle.data_model.specs.Lists.{Each}
use Rattle.u_terms.specs.Size.{nodes, value_nodes, row_nodes}
use Rattle.u_terms.specs.Syntax.{U, Zero, One, Add, Mul, Squash, Not, Sum, Rel, Eq, Pred, Val, Bound, Free, Lit, Fun, Agg, Vals, NoVals, ValThen, row_of}
use Rattle.u_terms.proofs.Sizes.{row_nodes-list}
use Rattle.u_rules.specs.declared.rule.Arg.{Arg}
use Rattle.u_rules.specs.declared.rule.Arg.TheVariants.{Term, Body, Value, Values, Num}
use Rattle.u_rules.specs.declared.rule.Rule.{Rule}
use Rattle.u_rules.specs.declared.rule.Rule.TheVariants as rule
use Rattle.u_deriv.specs.declared.run.Run.{Run}
use Rattle.u_deriv.specs.declared.run.Run.TheVariants.{Left, Right, Inside, Argument}
use Rattle.u_deriv.specs.declared.step.Step.{Step, out-Step}
use Rattle.u_deriv.specs.LineBounds.{argument_nodes, arguments_nodes, line_bound, lines_bound}
use Rattle.u_deriv.specs.StepText.{argument_text, arguments_text, counted, first_text, head_text, lines_length, rest_text, rule_text, run_text, step_text, steps_text, tail_text, term_text, value_text}
use Rattle.u_deriv.specs.Turns.{run_turns, turn_of, turns}
use Rattle.u_deriv.proofs.steps.Lines.{text-out}
use Rattle.proof_text.specs.Words.{ArgumentHasWords, HasWords, RunHasWord, RowHasWords, ValueHasWords}
use Rattle.proof_text.specs.Written.{IsWritable}
use Rattle.proof_text.proofs.writing.LongTexts.{length-head}
use Rattle.proof_text.proofs.spelled.OneText.{parts_of}
use Rattle.proof_text.proofs.spelled.TermsAgain.{words-list}

number-short : (n : ℕ) → n < 2 ^ 32 → length (decimal n) ≤ 10
number-short n small = length-decimal-le 10 n (omega arith) (omega (arith, small)) (omega (arith, small))

two-parts : (x y : List ℕ) → length (x ++ (codes "," ++ (y ++ codes ")"))) ≡ 2 + length x + length y
two-parts x y = omega (arith, length-append x (codes "," ++ (y ++ codes ")")), length-append y (codes ")"))

called : (number : ℕ) (rest : List ℕ) → length (decimal number ++ (codes "(" ++ rest)) ≡ length (decimal number) + 1 + length rest
called number rest = omega (arith, length-append (decimal number) (codes "(" ++ rest))

-- ---- terms and values, each with a sign before or behind it
mutual
  unfolding term_text nodes HasWords

  term-short : (t : U) → HasWords t → length (term_text t) + 1 ≤ 14 * nodes t
  term-short Zero w = omega arith
  term-short One w = omega arith
  term-short (Add a b) w = omega (arith, two-parts (term_text a) (term_text b), term-short a w.0, term-short b w.1)
  term-short (Mul a b) w = omega (arith, two-parts (term_text a) (term_text b), term-short a w.0, term-short b w.1)
  term-short (Squash a) w = omega (arith, length-append (term_text a) (codes ")"), term-short a w)
  term-short (Not a) w = omega (arith, length-append (term_text a) (codes ")"), term-short a w)
  term-short (Sum body) w = omega (arith, length-append (term_text body) (codes ")"), term-short body w)
  term-short (Rel table shape arguments) w = omega (arith, called table (first_text arguments), number-short table w.0, first-short arguments w.1)
  term-short (Eq a b) w = omega (arith, two-parts (value_text a) (value_text b), value-short a w.0, value-short b w.1)
  term-short (Pred symbol shape arguments) w = omega (arith, called symbol (first_text arguments), number-short symbol w.0, first-short arguments w.1)

  value-short : (a : Val) → ValueHasWords a → length (value_text a) + 1 ≤ 14 * value_nodes a
  value-short (Bound place) w = omega (arith, number-short place w)
  value-short (Free name) w = omega (arith, number-short name w)
  value-short (Lit literal) w = omega (arith, number-short literal w)
  value-short (Fun symbol shape arguments) w = omega (arith, called symbol (first_text arguments), number-short symbol w.0, first-short arguments w.1)
  value-short (Agg aggregate body) w =
      omega (arith, called aggregate (term_text body ++ codes ")"), length-append (term_text body) (codes ")"), number-short aggregate w.0, term-short body w.1)

  first-short : {n : _} (row : Vals n) → RowHasWords row → length (first_text row) ≤ 14 * row_nodes row + 1
  first-short NoVals w = omega arith
  first-short (ValThen value rest) w = omega (arith, length-append (value_text value) (rest_text rest), value-short value w.0, rest-short rest w.1)

  rest-short : {n : _} (row : Vals n) → RowHasWords row → length (rest_text row) ≤ 14 * row_nodes row + 1
  rest-short NoVals w = omega arith
  rest-short (ValThen value rest) w = omega (arith, length-append (value_text value) (rest_text rest), value-short value w.0, rest-short rest w.1)

-- ---- arguments, each behind a space
argument-short : (a : Arg) → ArgumentHasWords a → length (argument_text a) + 1 ≤ 14 * argument_nodes a
argument-short (Term x) w = term-short x w
argument-short (Body f) w = term-short f w
argument-short (Value a) w = value-short a w
argument-short (Values s) w = omega (arith, first-short (row_of s) (words-row s w), row_nodes-list s)
  where
    words-row : (vs : List Val) → Each ValueHasWords vs → RowHasWords (row_of vs)
    words-row vs each = subst (λ (P : Type 0). P) (sym (words-list vs)) each
argument-short (Num m) w = omega (arith, number-short m w)

arguments-short : (args : List Arg) → Each ArgumentHasWords args → length (arguments_text args) ≤ 14 * arguments_nodes args
arguments-short [] w = omega arith
arguments-short (a ∷ args) w =
    omega (arith, length-append (argument_text a) (arguments_text args), argument-short a w.0, arguments-short args w.1, sum_by-cons argument_nodes a args)

-- ---- paths
counted-short : (n : ℕ) → n < 2 ^ 32 → length (counted n) ≤ 10
counted-short zero small = number-short zero small
counted-short (suc zero) small = omega arith
counted-short (suc (suc n)) small = number-short (suc (suc n)) small

run-short : (run : Run) → RunHasWord run → length (run_text run) ≤ 11 * length (run_turns run)
run-short (Left n) w = omega (arith, counted-short n w.1, w.0, length-replicate n (turn_of (Left n)))
run-short (Right n) w = omega (arith, counted-short n w.1, w.0, length-replicate n (turn_of (Right n)))
run-short (Inside n) w = omega (arith, counted-short n w.1, w.0, length-replicate n (turn_of (Inside n)))
run-short (Argument n) w = omega (arith, number-short n w)

runs-short : (path : List Run) → Each RunHasWord path → length (flat_map run_text path) ≤ 11 * length (turns path)
runs-short [] w = omega arith
runs-short (run ∷ path) w =
    omega (arith, length-append (run_text run) (flat_map run_text path), length-append (run_turns run) (turns path), run-short run w.0, runs-short path w.1)

-- ---- steps
rule-short : (q : Rule) → length (rule_text q) ≤ 9
rule-short rule.AddAc = omega arith
rule-short rule.MulAc = omega arith
rule-short rule.MulZero = omega arith
rule-short rule.Distr = omega arith
rule-short rule.SqZero = omega arith
rule-short rule.SqOne = omega arith
rule-short rule.SqAdd = omega arith
rule-short rule.SqMul = omega arith
rule-short rule.SqDup = omega arith
rule-short rule.SqAbs = omega arith
rule-short rule.SqFix = omega arith
rule-short rule.SqPart = omega arith
rule-short rule.SqEq = omega arith
rule-short rule.SqPred = omega arith
rule-short rule.NotZero = omega arith
rule-short rule.NotOne = omega arith
rule-short rule.NotMul = omega arith
rule-short rule.NotAdd = omega arith
rule-short rule.NotSq = omega arith
rule-short rule.SqNot = omega arith
rule-short rule.NotSelf = omega arith
rule-short rule.NotNot = omega arith
rule-short rule.Split = omega arith
rule-short rule.SumZero = omega arith
rule-short rule.SumAdd = omega arith
rule-short rule.SumSwap = omega arith
rule-short rule.SumMul = omega arith
rule-short rule.SumSq = omega arith
rule-short rule.SumPoint = omega arith
rule-short rule.SumUse = omega arith
rule-short rule.EqRefl = omega arith
rule-short rule.EqSym = omega arith
rule-short rule.EqSubst = omega arith
rule-short rule.EqSplit = omega arith
rule-short rule.Key = omega arith
rule-short rule.Fkey = omega arith

tail-short : (q : Rule) (inner : List ℕ) → length (tail_text q inner) ≤ 5 + length inner
tail-short rule.SqFix inner = omega (arith, length-append inner (codes "}\n"))
tail-short _ inner = omega arith

line-short : (s : Step) → IsWritable s → length (step_text s) ≤ line_bound (out-Step s)
line-short s w =
    let d = out-Step s in
    let parts = parts_of s w in
    omega (
      arith,
      ap length (text-out s),
      length-append (head_text d.path d.forward d.rule d.args) (tail_text d.rule (steps_text d.inner)),
      length-head d.path d.forward d.rule d.args,
      runs-short d.path parts.line.turns,
      rule-short d.rule,
      arguments-short d.args parts.line.words,
      tail-short d.rule (steps_text d.inner),
    )

pub lines-short : (steps : List Step) → Each IsWritable steps → lines_length steps ≤ lines_bound steps
lines-short [] w = omega arith
lines-short (s ∷ steps) w = omega (arith, length-append (step_text s) (steps_text steps), line-short s w.0, lines-short steps w.1, sum_by-cons (λ (x : Step). line_bound (out-Step x)) s steps)

pub ruleset laws = (lines-short)
