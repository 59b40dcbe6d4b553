-- How long the text of terms, values and steps is at each constructor as code writes it, and of lists.
use Rattle.std.proofs.Common.{◌≡◌, ℕ, ◌+◌, ◌≤◌, min, take, Bool, true, false, List, [], ◌∷◌, ◌++◌, length, length-append, refl, ap, ◌∙◌, arith}
use Rattle.std.specs.Prelude.{codes, sum_by}
use Rattle.std.specs.Fmt.{decimal}
use Rattle.std.specs.List.{flat_map}
use Rattle.std.proofs.lemmas.List.{take_all}
use Rattle.std.proofs.lemmas.List.Sums.{sum_by-cons}
use Rattle.std.proofs.lemmas.List.Concat.{length-flat_map}
use Rattle.u_terms.specs.declared.term.U.TheVariants as u
use Rattle.u_terms.specs.declared.term.Val.TheVariants as v
use Rattle.u_terms.specs.Syntax.{U, Val, row_of, constructors}
use Rattle.u_rules.specs.declared.rule.Arg.{Arg}
use Rattle.u_rules.specs.declared.rule.Arg.TheVariants as arg
use Rattle.u_rules.specs.declared.rule.Rule.{Rule}
use Rattle.u_deriv.specs.declared.run.Run.{Run}
use Rattle.u_deriv.specs.declared.step.Step.{Step, out-Step}
use Rattle.u_deriv.specs.StepText.{term_text, value_text, first_text, run_text, direction_text, rule_text, argument_text, arguments_text, head_text, step_text, steps_text, lines_length}
use Rattle.proof_text.specs.RuleNames.{has_inner}
use Rattle.proof_text.specs.Written.{end_text, proof_text}
use Rattle.proof_text.proofs.spelled.TermsAgain.{more_text, first_text-list}
use Rattle.proof_text.proofs.writing.TextsAt.{head_of}
use Rattle.proof_text.proofs.spelled.OneText.{inner_text, text_parts}

-- ---- terms and values
one_long : (x : List ℕ) → length (x ++ codes ")") ≡ 1 + length x
one_long x = omega (arith, length-append x (codes ")"))

two_long : (x y : List ℕ) → length (x ++ (codes "," ++ (y ++ codes ")"))) ≡ 2 + length x + length y
two_long x y = omega (arith, length-append x (codes "," ++ (y ++ codes ")")), length-append y (codes ")"))

call_long : (x y : List ℕ) → length (x ++ (codes "(" ++ y)) ≡ length x + length (codes "(" ++ y)
call_long x y = length-append x (codes "(" ++ y)

pub length-Zero : length (term_text u.Zero) ≡ 1
unfolding term_text constructors
length-Zero = refl

pub length-One : length (term_text u.One) ≡ 1
unfolding term_text constructors
length-One = refl

pub length-Add : (a b : U) → length (term_text (u.Add a b)) ≡ 4 + length (term_text a) + length (term_text b)
unfolding term_text constructors
length-Add a b = omega (arith, two_long (term_text a) (term_text b))

pub length-Mul : (a b : U) → length (term_text (u.Mul a b)) ≡ 4 + length (term_text a) + length (term_text b)
unfolding term_text constructors
length-Mul a b = omega (arith, two_long (term_text a) (term_text b))

pub length-Squash : (a : U) → length (term_text (u.Squash a)) ≡ 3 + length (term_text a)
unfolding term_text constructors
length-Squash a = omega (arith, one_long (term_text a))

pub length-Not : (a : U) → length (term_text (u.Not a)) ≡ 3 + length (term_text a)
unfolding term_text constructors
length-Not a = omega (arith, one_long (term_text a))

pub length-Sum : (body : U) → length (term_text (u.Sum body)) ≡ 3 + length (term_text body)
unfolding term_text constructors
length-Sum body = omega (arith, one_long (term_text body))

pub length-Rel : (table : ℕ) (vs : List Val) → length (term_text (u.Rel table vs)) ≡ 1 + length (decimal table) + length (argument_text (arg.Values vs))
unfolding term_text constructors
length-Rel table vs = omega (arith, call_long (decimal table) (first_text (row_of vs)))

pub length-Eq : (a b : Val) → length (term_text (u.Eq a b)) ≡ 4 + length (value_text a) + length (value_text b)
unfolding term_text constructors
length-Eq a b = omega (arith, two_long (value_text a) (value_text b))

pub length-Pred : (symbol : ℕ) (vs : List Val) → length (term_text (u.Pred symbol vs)) ≡ 1 + length (decimal symbol) + length (argument_text (arg.Values vs))
unfolding term_text constructors
length-Pred symbol vs = omega (arith, call_long (decimal symbol) (first_text (row_of vs)))

pub length-Bound : (place : ℕ) → length (value_text (v.Bound place)) ≡ 1 + length (decimal place)
unfolding term_text constructors
length-Bound place = omega arith

pub length-Free : (name : ℕ) → length (value_text (v.Free name)) ≡ 1 + length (decimal name)
unfolding term_text constructors
length-Free name = omega arith

pub length-Lit : (literal : ℕ) → length (value_text (v.Lit literal)) ≡ 1 + length (decimal literal)
unfolding term_text constructors
length-Lit literal = omega arith

pub length-Fun : (symbol : ℕ) (vs : List Val) → length (value_text (v.Fun symbol vs)) ≡ 1 + length (decimal symbol) + length (argument_text (arg.Values vs))
unfolding term_text constructors
length-Fun symbol vs = omega (arith, call_long (decimal symbol) (first_text (row_of vs)))

pub length-Agg : (aggregate : ℕ) (body : U) → length (value_text (v.Agg aggregate body)) ≡ 3 + length (decimal aggregate) + length (term_text body)
unfolding term_text constructors
length-Agg aggregate body = omega (arith, call_long (decimal aggregate) (term_text body ++ codes ")"), one_long (term_text body))

-- ---- lists
-- a value and what stands before it
abbrev pub apart_length : Val → ℕ
apart_length value = length (value_text value) + 1

more_long : (others : List Val) → length (more_text others) ≡ 1 + sum_by apart_length others
more_long [] = refl
more_long (value ∷ others) = omega (arith, length-append (value_text value) (more_text others), more_long others, sum_by-cons apart_length value others)

pub values-none : (vs : List Val) → length vs ≡ 0 → length (argument_text (arg.Values vs)) ≡ 2
unfolding term_text constructors
values-none [] e = refl
values-none (value ∷ vs) e = absurd (omega (arith, e))

pub values-some : (vs : List Val) → (length vs ≡ 0 → ⊥) → length (argument_text (arg.Values vs)) ≡ 1 + sum_by apart_length vs
values-some [] h = absurd (h refl)
values-some (value ∷ vs) h =
    omega (arith, ap length (first_text-list (value ∷ vs)), length-append (value_text value) (more_text vs), more_long vs, sum_by-cons apart_length value vs)

-- a sum over all of a list, counted up to a number
pub capped_all : {X : Type 0} (f : X → ℕ) (xs : List X) (i s n most : ℕ) → s ≡ min (sum_by f (take i xs)) most → length xs ≤ i → n ≡ sum_by f xs → s ≡ min n most
capped_all f xs i s n most e h k = e ∙ rw (take_all i xs h, k) refl

pub capped_more : {X : Type 0} (f : X → ℕ) (xs : List X) (i s n most : ℕ) → s ≡ min (1 + sum_by f (take i xs)) most → length xs ≤ i → n ≡ 1 + sum_by f xs → s ≡ min n most
capped_more f xs i s n most e h k = e ∙ rw (take_all i xs h, k) refl

abbrev pub argument_length : Arg → ℕ
argument_length argument = length (argument_text argument) + 1

pub length-arguments : (args : List Arg) → length (arguments_text args) ≡ sum_by argument_length args
length-arguments [] = refl
length-arguments (a ∷ args) = omega (arith, length-append (argument_text a) (arguments_text args), length-arguments args, sum_by-cons argument_length a args)

pub length-runs : (runs : List Run) → length (flat_map run_text runs) ≡ sum_by (λ run. length (run_text run)) runs
length-runs runs = length-flat_map run_text runs

pub length-steps : (steps : List Step) → lines_length steps ≡ sum_by (λ s. length (step_text s)) steps
length-steps steps = length-flat_map step_text steps

-- ---- steps
direction_long : (forward : Bool) → length (direction_text forward) ≡ 1
direction_long true = refl
direction_long false = refl

pub length-head : (path : List Run) (forward : Bool) (q : Rule) (args : List Arg)
    → length (head_text path forward q args) ≡ 4 + length (flat_map run_text path) + length (rule_text q) + length (arguments_text args)
length-head path forward q args =
    omega (
      arith,
      length-append (flat_map run_text path) (codes " " ++ (direction_text forward ++ (codes " " ++ (rule_text q ++ arguments_text args)))),
      length-append (direction_text forward) (codes " " ++ (rule_text q ++ arguments_text args)),
      direction_long forward,
      length-append (rule_text q) (arguments_text args),
    )

line_end : (b : Bool) (inner : List ℕ) → b ≡ true → length (end_text b ++ inner_text b inner) ≡ 5 + length inner
line_end true inner e = omega (arith, length-append inner (codes "}\n"))
line_end false inner e = cc

plain_end : (b : Bool) (inner : List ℕ) → b ≡ false → length (end_text b ++ inner_text b inner) ≡ 1
plain_end false inner e = refl
plain_end true inner e = cc

step_long : (s : Step) → length (step_text s) ≡ length (head_of s) + length (end_text (has_inner (out-Step s).rule) ++ inner_text (has_inner (out-Step s).rule) (steps_text (out-Step s).inner))
step_long s =
    let e = end_text (has_inner (out-Step s).rule) in
    let i = inner_text (has_inner (out-Step s).rule) (steps_text (out-Step s).inner) in
    omega (arith, ap length (text_parts s), length-append (head_of s ++ e) i, length-append (head_of s) e, length-append e i)

pub length-opens : (s : Step) → has_inner (out-Step s).rule ≡ true → length (step_text s) ≡ 5 + length (head_of s) + lines_length (out-Step s).inner
length-opens s e = omega (arith, step_long s, line_end (has_inner (out-Step s).rule) (steps_text (out-Step s).inner) e)

pub length-whole : (s : Step) → has_inner (out-Step s).rule ≡ false → length (step_text s) ≡ 1 + length (head_of s)
length-whole s e = omega (arith, step_long s, plain_end (has_inner (out-Step s).rule) (steps_text (out-Step s).inner) e)

pub length-proof : (outs : ℕ) (steps : List Step) → length (proof_text outs steps) ≡ 22 + length (decimal outs) + lines_length steps
length-proof outs steps =
    omega (arith, length-append (decimal outs) (10 ∷ (steps_text steps ++ codes "end\n")), length-append (steps_text steps) (codes "end\n"))

pub ruleset length_at = (
  length-Zero,
  length-One,
  length-Add,
  length-Mul,
  length-Squash,
  length-Not,
  length-Sum,
  length-Rel,
  length-Eq,
  length-Pred,
  length-Bound,
  length-Free,
  length-Lit,
  length-Fun,
  length-Agg,
  values-none,
  values-some,
  length-arguments,
  length-runs,
  length-steps,
  length-head,
  length-opens,
  length-whole,
  length-proof,
)
