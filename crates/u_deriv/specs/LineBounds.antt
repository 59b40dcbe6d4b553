-- A bound of the bytes that the lines of steps have, by what stands in them. Where a number has at most 10 digits, a turn takes 11 bytes at
-- most, and 14 a node with what stands between it and the next; 18 are for the signs of a line and the name of its rule. Inner lines
-- count as they are.
use Rattle.std.specs.Prelude.{◌≡◌, ℕ, ◌+◌, ◌*◌, List, length}
use Rattle.std.specs.List.{sum_by}
use Rattle.u_terms.specs.Size.{nodes, value_nodes, list_nodes}
use Rattle.u_rules.specs.declared.rule.Arg.{Arg}
use Rattle.u_rules.specs.declared.rule.Arg.TheVariants.{Term, Body, Value, Values, Num}
use Rattle.u_rules.specs.declared.rule.Rule.TheVariants as rule
use Rattle.u_deriv.specs.declared.step.Step.{Step, out-Step}
use Rattle.u_deriv.specs.declared.step.Step.TheOpen.{Step-F}
use Rattle.u_deriv.specs.StepText.{lines_length}
use Rattle.u_deriv.specs.Turns.{turns}

-- a list and a number count one
abbrev pub argument_nodes : Arg → ℕ
argument_nodes (Term x) = nodes x
argument_nodes (Body f) = nodes f
argument_nodes (Value a) = value_nodes a
argument_nodes (Values s) = 1 + list_nodes s
argument_nodes (Num m) = 1

abbrev pub arguments_nodes : List Arg → ℕ
arguments_nodes = sum_by argument_nodes

abbrev pub line_bound : Step-F Step → ℕ
line_bound d = 18 + 11 * length (turns d.path) + 14 * arguments_nodes d.args + lines_length d.inner

abbrev pub lines_bound : List Step → ℕ
lines_bound = sum_by (λ s. line_bound (out-Step s))

-- By another rule than `sq_fix` and `sum_use`. Where such a step is made, it has no inner steps, and all that it takes stands in its sides.
pub record IsPlain (s : Step) : Type 0 where
  pub proves_nothing : (out-Step s).rule ≡ rule.SqFix → ⊥
  pub uses_nothing : (out-Step s).rule ≡ rule.SumUse → ⊥
