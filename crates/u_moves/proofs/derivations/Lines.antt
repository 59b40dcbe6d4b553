-- How many steps there are, how long their lines are, and how long at most, when they are joined, turned back and lifted.
use Rattle.std.proofs.Common.{◌≡◌, ℕ, ◌+◌, ◌*◌, ◌≤◌, Bool, true, false, List, [], ◌∷◌, ◌++◌, length, refl, ap, sym, subst, ◌∙◌, arith, length-append}
use Rattle.std.specs.Prelude.{codes, not, reverse}
use Rattle.std.specs.List.{flat_map}
use Rattle.std.proofs.lemmas.List.{length-map, length-reverse}
use Rattle.std.proofs.lemmas.List.Sums.{sum_by-cons, sum_by-append}
use Rattle.data_model.specs.Lists.{Each}
use Rattle.u_terms.specs.Syntax.{U}
use Rattle.u_terms.specs.declared.facts.Facts.{Facts}
use Rattle.u_rules.specs.declared.rule.Arg.{Arg}
use Rattle.u_rules.specs.declared.rule.Arg.TheVariants.{Term}
use Rattle.u_rules.specs.declared.rule.Rule.{Rule}
use Rattle.u_rules.specs.declared.rule.Rule.TheVariants as rule
use Rattle.u_deriv.specs.declared.run.Run.{Run}
use Rattle.u_deriv.specs.declared.step.Step.{Step, out-Step}
use Rattle.u_deriv.specs.declared.step.Step.TheViews.{out-roll-Step}
use Rattle.u_deriv.specs.declared.step.Step.TheOpen.{Step-F}
use Rattle.u_deriv.specs.Normal.{pushed}
use Rattle.u_deriv.specs.LineBounds.{arguments_nodes, line_bound, lines_bound, IsPlain}
use Rattle.u_deriv.specs.Steps.{Rewrites}
use Rattle.u_deriv.specs.StepText.{arguments_text, direction_text, head_text, lines_length, path_text, rule_text, run_text, step_text, steps_text, tail_text, term_text}
use Rattle.u_deriv.specs.Turns.{turns}
use Rattle.u_deriv.proofs.steps.Arguments.{arguments-stand, no-inner, path-fits}
use Rattle.u_deriv.proofs.steps.Lines.{length-lines, text-out, text-roll}
use Rattle.u_deriv.proofs.paths.Texts.{pushed-long}
use Rattle.u_moves.specs.Derivations.{Derivation, IsSound, IsWithin, ReplaysThrough, first_then}
use Rattle.u_moves.specs.Lifting.{after, lifted_step, lifted}
use Rattle.u_moves.specs.Moving.{fix_step, root_step}
use Rattle.u_moves.specs.Turning.{flipped, turned_back}
use Rattle.u_moves.proofs.steps.Chains.{starts, turned_back-cons}
use Rattle.u_moves.proofs.contexts.Paths.{turns-after}

pub bound-then : (xs ys : List Step) → lines_bound (xs ++ ys) ≡ lines_bound xs + lines_bound ys
bound-then xs ys = sum_by-append (λ s. line_bound (out-Step s)) xs ys

bound-cons : (x : Step) (xs : List Step) → lines_bound (x ∷ xs) ≡ line_bound (out-Step x) + lines_bound xs
bound-cons x xs = sum_by-cons (λ s. line_bound (out-Step s)) x xs

bound-one : (x : Step) → lines_bound (x ∷ []) ≡ line_bound (out-Step x)
bound-one x = omega (arith, bound-cons x [])

length-one : (x : Step) → lines_length (x ∷ []) ≡ length (step_text x)
length-one x = omega (arith, length-append (step_text x) [])

-- ---- turned back
abbrev turned : Step-F Step → Step-F Step
turned d = record { path = d.path; forward = not d.forward; rule = d.rule; args = d.args; inner = d.inner }

head-turned : (path : List Run) (forward : Bool) (q : Rule) (args : List Arg) → length (head_text path (not forward) q args) ≡ length (head_text path forward q args)
head-turned path forward q args = omega (arith, length-append (path_text path) (words (not forward)), length-append (path_text path) (words forward), as-long forward)
  where
    words : Bool → List ℕ
    words b = codes " " ++ (direction_text b ++ (codes " " ++ (rule_text q ++ arguments_text args)))

    as-long : (b : Bool) → length (words (not b)) ≡ length (words b)
    as-long true = refl
    as-long false = refl

text-flipped : (s : Step) → length (step_text (flipped s)) ≡ length (step_text s)
text-flipped s =
    let d = out-Step s in
    let tail : List ℕ = tail_text d.rule (steps_text d.inner) in
    omega (
      arith,
      ap length (text-roll (turned d)),
      length-append (head_text d.path (not d.forward) d.rule d.args) tail,
      head-turned d.path d.forward d.rule d.args,
      length-append (head_text d.path d.forward d.rule d.args) tail,
      ap length (text-out s),
    )

bound-flipped : (s : Step) → line_bound (out-Step (flipped s)) ≡ line_bound (out-Step s)
bound-flipped s = ap line_bound (out-roll-Step (turned (out-Step s)))

pub bound-back : (xs : List Step) → lines_bound (turned_back xs) ≡ lines_bound xs
bound-back [] = refl
bound-back (x ∷ xs) =
    omega (
      arith,
      ap lines_bound (turned_back-cons x xs),
      bound-then (turned_back xs) (flipped x ∷ []),
      bound-one (flipped x),
      bound-back xs,
      bound-cons x xs,
      bound-flipped x,
    )

pub length-back : (xs : List Step) → lines_length (turned_back xs) ≡ lines_length xs
length-back [] = refl
length-back (x ∷ xs) =
    omega (
      arith,
      ap lines_length (turned_back-cons x xs),
      length-lines (turned_back xs) (flipped x ∷ []),
      length-one (flipped x),
      length-back xs,
      length-append (step_text x) (steps_text xs),
      text-flipped x,
    )

pub count-back : (xs : List Step) → length (turned_back xs) ≡ length xs
count-back xs = length-map (reverse xs) flipped ∙ length-reverse xs

-- ---- lifted
pub count-under : (path : List Run) (xs : List Step) → length (lifted path xs) ≡ length xs
count-under path xs = length-map xs (lifted_step path)

bound-lifted : (path : List Run) (s : Step) → line_bound (out-Step (lifted_step path s)) ≡ 11 * length (turns path) + line_bound (out-Step s)
bound-lifted path s =
    let d = out-Step s in
    omega (
      arith,
      ap line_bound (out-roll-Step (record { path = after path d.path; forward = d.forward; rule = d.rule; args = d.args; inner = d.inner })),
      ap length (turns-after path d.path),
      length-append (turns path) (turns d.path),
    )

pub bound-under : (path : List Run) (xs : List Step) → lines_bound (lifted path xs) ≡ length xs * (11 * length (turns path)) + lines_bound xs
bound-under path [] = omega arith
bound-under path (x ∷ xs) = omega (arith, bound-cons (lifted_step path x) (lifted path xs), bound-cons x xs, bound-lifted path x, bound-under path xs)

-- two runs that become one have no longer a text
path-under : (path more : List Run) → length (flat_map run_text (after path more)) ≤ length (flat_map run_text path) + length (flat_map run_text more)
path-under path [] = omega arith
path-under path (run ∷ more) = omega (arith, path-under (pushed path run) more, pushed-long path run, length-append (run_text run) (flat_map run_text more))

head-under : (path more : List Run) (forward : Bool) (q : Rule) (args : List Arg)
    → length (head_text (after path more) forward q args) ≤ length (flat_map run_text path) + length (head_text more forward q args)
head-under path more forward q args =
    let words : List ℕ = codes " " ++ (direction_text forward ++ (codes " " ++ (rule_text q ++ arguments_text args))) in
    omega (arith, path-under path more, length-append (flat_map run_text (after path more)) words, length-append (flat_map run_text more) words)

text-lifted : (path : List Run) (s : Step) → length (step_text (lifted_step path s)) ≤ length (flat_map run_text path) + length (step_text s)
text-lifted path s =
    let d = out-Step s in
    let tail : List ℕ = tail_text d.rule (steps_text d.inner) in
    omega (
      arith,
      ap length (text-roll (record { path = after path d.path; forward = d.forward; rule = d.rule; args = d.args; inner = d.inner })),
      length-append (head_text (after path d.path) d.forward d.rule d.args) tail,
      head-under path d.path d.forward d.rule d.args,
      length-append (head_text d.path d.forward d.rule d.args) tail,
      ap length (text-out s),
    )

pub length-under : (path : List Run) (xs : List Step) → lines_length (lifted path xs) ≤ length xs * length (flat_map run_text path) + lines_length xs
length-under path [] = omega arith
length-under path (x ∷ xs) =
    omega (
      arith,
      length-append (step_text (lifted_step path x)) (steps_text (lifted path xs)),
      text-lifted path x,
      length-under path xs,
      length-append (step_text x) (steps_text xs),
    )

pub ruleset laws = (bound-then, bound-back, bound-under, count-back, count-under, length-back, length-under)

-- ---- moves
pub length-move : (q : Rule) (args : List Arg) → (q ≡ rule.SqFix → ⊥) → lines_length (root_step q args ∷ []) ≡ 5 + length (rule_text q) + length (arguments_text args)
length-move q args other =
    let tail : List ℕ = tail_text q [] in
    omega (
      arith,
      length-one (root_step q args),
      ap length (text-roll (record { path = []; forward = true; rule = q; args = args; inner = [] })),
      length-append (head_text [] true q args) tail,
      length-append (rule_text q) (arguments_text args),
      one-byte q other,
    )
  where
    one-byte : (q : Rule) → (q ≡ rule.SqFix → ⊥) → length (tail_text q []) ≡ 1
    one-byte rule.SqFix other = absurd (other refl)
    one-byte _ other = refl

pub bound-move : (q : Rule) (args : List Arg) → lines_bound (root_step q args ∷ []) ≡ 18 + 14 * arguments_nodes args
bound-move q args =
    omega (arith, bound-one (root_step q args), ap line_bound (out-roll-Step (record { path = []; forward = true; rule = q; args = args; inner = [] })))

pub length-fix : (square : Derivation) → lines_length (fix_step square ∷ []) ≡ 16 + length (term_text square.to) + lines_length square.steps
length-fix d =
    let parts : Step-F Step = record { path = []; forward = true; rule = rule.SqFix; args = Term d.to ∷ []; inner = d.steps } in
    omega (
      arith,
      length-one (fix_step d),
      ap length (text-roll parts),
      length-append (head_text [] true rule.SqFix (Term d.to ∷ [])) (tail_text rule.SqFix (steps_text d.steps)),
      length-append (term_text d.to) [],
      length-append (steps_text d.steps) (125 ∷ 10 ∷ []),
    )

pub ruleset one_line = (length-move, bound-move, length-fix)

-- ---- plain steps
pub plain-move : (q : Rule) (args : List Arg) → (q ≡ rule.SqFix → ⊥) → (q ≡ rule.SumUse → ⊥) → IsPlain (root_step q args)
plain-move q args proves uses =
    let e : (out-Step (root_step q args)).rule ≡ q = ap (λ (d : Step-F Step). d.rule) (out-roll-Step (record { path = []; forward = true; rule = q; args = args; inner = [] })) in
    record { proves_nothing = λ is. proves (sym e ∙ is); uses_nothing = λ is. uses (sym e ∙ is) }

pub plain-flipped : (s : Step) → IsPlain s → IsPlain (flipped s)
plain-flipped s plain =
    let e : (out-Step (flipped s)).rule ≡ (out-Step s).rule = ap (λ (d : Step-F Step). d.rule) (out-roll-Step (turned (out-Step s))) in
    record { proves_nothing = λ is. plain.proves_nothing (sym e ∙ is); uses_nothing = λ is. plain.uses_nothing (sym e ∙ is) }

pub plain-lifted : (path : List Run) (xs : List Step) → Each IsPlain xs → Each IsPlain (lifted path xs)
plain-lifted path [] each = tt
plain-lifted path (s ∷ xs) each = (one, plain-lifted path xs each.1)
  where
    one : IsPlain (lifted_step path s)
    one =
        let d = out-Step s in
        let e : (out-Step (lifted_step path s)).rule ≡ d.rule = ap (λ (p : Step-F Step). p.rule) (out-roll-Step (record { path = after path d.path; forward = d.forward; rule = d.rule; args = d.args; inner = d.inner })) in
        record { proves_nothing = λ is. each.0.proves_nothing (sym e ∙ is); uses_nothing = λ is. each.0.uses_nothing (sym e ∙ is) }

pub plain-then : (xs ys : List Step) → Each IsPlain xs → Each IsPlain ys → Each IsPlain (xs ++ ys)
plain-then [] ys each more = more
plain-then (x ∷ xs) ys each more = (each.0, plain-then xs ys each.1 more)

pub plain-back : (xs : List Step) → Each IsPlain xs → Each IsPlain (turned_back xs)
plain-back [] each = tt
plain-back (x ∷ xs) each = subst (Each IsPlain) (sym (turned_back-cons x xs)) (plain-then (turned_back xs) (flipped x ∷ []) (plain-back xs each.1) (plain-flipped x each.0, tt))

pub ruleset plain_steps = (plain-move, plain-then, plain-back, plain-lifted)

plain-line : (facts : Facts) (outs m n : ℕ) (before after : U) (s : Step) → IsPlain s → IsWithin m n before → IsWithin m n after → Rewrites facts outs before s after
    → line_bound (out-Step s) ≤ 18 + 11 * n + 28 * m
plain-line facts outs m n before after s plain from to step =
    omega (
      arith,
      arguments-stand facts outs before after s plain step,
      path-fits facts outs before after s step,
      from.few,
      from.shallow,
      to.few,
      ap lines_length (no-inner facts outs before after s plain step),
    )

plain-lines : (facts : Facts) (outs m n : ℕ) (a b : U) (xs : List Step) → Each IsPlain xs → ReplaysThrough (IsWithin m n) facts outs a xs b
    → lines_bound xs ≤ length xs * (18 + 11 * n + 28 * m)
plain-lines facts outs m n a b [] each through = omega arith
plain-lines facts outs m n a b (s ∷ xs) each (first_then {middle = d} from step rest) =
    omega (
      arith,
      bound-cons s xs,
      plain-line facts outs m n a d s each.0 from (starts facts (IsWithin m n) outs d b xs rest) step,
      plain-lines facts outs m n d b xs each.1 rest,
    )

pub plain-short : (d : Derivation) → IsSound d → Each IsPlain d.steps → lines_bound d.steps ≤ length d.steps * (18 + 11 * d.depth + 28 * d.nodes)
plain-short d sound each = plain-lines d.facts d.outs d.nodes d.depth d.from d.to d.steps each sound.replays

pub ruleset bounds = (plain-short)
