-- A line that was written is read again.
use Rattle.std.proofs.Common.{◌≡◌, ℕ, zero, suc, ◌+◌, ◌-◌, ◌/◌, ◌%◌, ◌^◌, ◌<◌, ◌≤◌, Bool, true, false, ◌&&◌, List, [], ◌∷◌, ◌++◌, length, length-append, Some, Ok, refl, subst, arith, append_assoc, append-nil}
use Rattle.std.specs.Prelude.{nat_lt, codes}
use Rattle.std.specs.List.{flat_map}
use Rattle.std.proofs.lemmas.Fmt.{decimal_by_steps}
use Rattle.std.proofs.lemmas.Bool.{lt-ltb}
use Rattle.std.proofs.Math.Bool.{and-false}
use Rattle.data_model.specs.Lists.{Each}
use Rattle.u_terms.specs.Size.{nodes, value_nodes, list_nodes}
use Rattle.u_rules.specs.declared.rule.Rule.{Rule}
use Rattle.u_rules.specs.declared.rule.Rule.TheVariants as rule
use Rattle.u_rules.specs.declared.rule.Arg.{Arg}
use Rattle.u_rules.specs.declared.rule.Arg.TheVariants as arg
use Rattle.u_deriv.specs.declared.run.Run.{Run}
use Rattle.u_deriv.specs.declared.run.Run.TheVariants as run
use Rattle.u_deriv.specs.declared.step.Step.{Step, out-Step, roll-Step}
use Rattle.u_deriv.specs.declared.step.Step.TheViews.{roll-out-Step}
use Rattle.u_deriv.specs.declared.step.Step.TheOpen.{Step-F}
use Rattle.u_deriv.specs.Normal.{IsLike, EachNeighbour, IsNormal}
use Rattle.u_deriv.specs.StepText.{counted, run_text, direction_text, rule_text, argument_text, arguments_text, newline}
use Rattle.proof_text.specs.declared.kinds.Kind.{Kind}
use Rattle.proof_text.specs.declared.kinds.Kind.TheVariants as kind
use Rattle.proof_text.specs.declared.path.Last.{Last}
use Rattle.proof_text.specs.declared.path.Last.TheVariants as last
use Rattle.proof_text.specs.declared.line.LineStep.{LineStep}
use Rattle.proof_text.specs.declared.line.LineStep.TheVariants as says
use Rattle.proof_text.specs.Limits.{most_nodes, most_depth}
use Rattle.proof_text.specs.Signs.{code}
use Rattle.proof_text.specs.RuleNames.{names, mul_names, squash_names, sum_names, not_names, eq_names, s_names, kinds_of, has_inner}
use Rattle.proof_text.specs.Grammar.{made, with_inner}
use Rattle.proof_text.specs.Words.{RunHasWord, ArgumentHasWords}
use Rattle.proof_text.specs.Written.{IsOf, AreOf, HasLine, IsSmall, end_text, line_text, SaysStep, Says, text_of}
use Rattle.proof_text.specs.Paths.{IsApart}
use Rattle.proof_text.specs.Reading.{Reading, sign_at, turns_at, word_at, run_at, runs_at, path_at, last_of, direction_at, rule_at, argument_at, arguments_at, end_at, step_at, line_at, alone}
use Rattle.proof_text.specs.ReadingLines.{IsRead}
use Rattle.proof_text.proofs.spelled.NumbersAgain.{Ends, number_again, count_again, digit_code}
use Rattle.proof_text.proofs.spelled.TermsAgain.{first_text-list, term_again, value_again, values_again}
use Rattle.proof_text.proofs.answers.LineAnswers.{read_told}

-- ---- paths
-- each run may follow the one before
abbrev pub Apart : Last → List Run → Type 0
Apart l [] = Unit {0}
Apart l (x ∷ xs) = IsApart l x × Apart (last_of x) xs

apart_by : (x y : Run) → (IsLike x y → ⊥) → IsApart (last_of x) y
apart_by (run.Left m) (run.Left n) h = h tt
apart_by (run.Left m) (run.Right n) h = tt
apart_by (run.Left m) (run.Inside n) h = tt
apart_by (run.Left m) (run.Argument n) h = tt
apart_by (run.Right m) (run.Left n) h = tt
apart_by (run.Right m) (run.Right n) h = h tt
apart_by (run.Right m) (run.Inside n) h = tt
apart_by (run.Right m) (run.Argument n) h = tt
apart_by (run.Inside m) (run.Left n) h = tt
apart_by (run.Inside m) (run.Right n) h = tt
apart_by (run.Inside m) (run.Inside n) h = h tt
apart_by (run.Inside m) (run.Argument n) h = tt
apart_by (run.Argument m) y h = tt

apart_behind : (x : Run) (xs : List Run) → EachNeighbour (λ run next. IsLike run next → ⊥) (x ∷ xs) → Apart (last_of x) xs
apart_behind x [] h = tt
apart_behind x (y ∷ xs) h = (apart_by x y h.0, apart_behind y xs h.1)

pub apart_all : (path : List Run) → IsNormal path → Apart last.Other path
apart_all [] h = tt
apart_all (x ∷ xs) h = (tt, apart_behind x xs h.apart)

-- a number above 0 begins with a digit above 0
abbrev Starts : ℕ → List ℕ → Type 0
Starts n digits = 0 < n → (k : List ℕ) → (nat_lt 0 (code (sign_at (digits ++ k))) && nat_lt (code (sign_at (digits ++ k))) 10) ≡ true

one_starts : (n : ℕ) → n < 10 → Starts n ((48 + n) ∷ [])
one_starts n h p k = rw (digit_code n h, lt-ltb 0 n p, lt-ltb n 10 h) refl

more_starts : (n : ℕ) (digits : List ℕ) → 10 ≤ n → Starts (n / 10) digits → Starts n (digits ++ ((48 + n % 10) ∷ []))
more_starts n digits h ih p k = rw (append_assoc digits ((48 + n % 10) ∷ []) k) (ih (omega arith) ((48 + n % 10) ∷ k))

turns_again : (count n : ℕ) (k : List ℕ) → 1 ≤ count → count < 2 ^ 32 → Ends k → turns_at (record { nodes = n; text = counted count ++ k }) ≡ (Ok count, record { nodes = n; text = k })
turns_again zero n k h w e = absurd (omega (arith, h))
turns_again (suc zero) n k h w e = rw (e, and-false (nat_lt 0 (code (sign_at k)))) refl
turns_again (suc (suc count)) n k h w e =
    rw (decimal_by_steps Starts one_starts more_starts (suc (suc count)) (omega arith) (omega arith) k) (count_again (suc (suc count)) n k (omega arith) w e)

run_again : (l : Last) (x : Run) (n : ℕ) (k : List ℕ) → RunHasWord x → IsApart l x → Ends k → run_at l (record { nodes = n; text = run_text x ++ k }) ≡ (Ok (Some x), record { nodes = n; text = k })
unfolding run_at
run_again last.Other (run.Left count) n k w a e = rw (turns_again count n k w.0 w.1 e) refl
run_again last.Other (run.Right count) n k w a e = rw (turns_again count n k w.0 w.1 e) refl
run_again last.Other (run.Inside count) n k w a e = rw (turns_again count n k w.0 w.1 e) refl
run_again last.Left (run.Left count) n k w a e = absurd a
run_again last.Left (run.Right count) n k w a e = rw (turns_again count n k w.0 w.1 e) refl
run_again last.Left (run.Inside count) n k w a e = rw (turns_again count n k w.0 w.1 e) refl
run_again last.Right (run.Left count) n k w a e = rw (turns_again count n k w.0 w.1 e) refl
run_again last.Right (run.Right count) n k w a e = absurd a
run_again last.Right (run.Inside count) n k w a e = rw (turns_again count n k w.0 w.1 e) refl
run_again last.Inside (run.Left count) n k w a e = rw (turns_again count n k w.0 w.1 e) refl
run_again last.Inside (run.Right count) n k w a e = rw (turns_again count n k w.0 w.1 e) refl
run_again last.Inside (run.Inside count) n k w a e = absurd a
run_again last.Other (run.Argument index) n k w a e = rw (number_again index n k w e) refl
run_again last.Left (run.Argument index) n k w a e = rw (number_again index n k w e) refl
run_again last.Right (run.Argument index) n k w a e = rw (number_again index n k w e) refl
run_again last.Inside (run.Argument index) n k w a e = rw (number_again index n k w e) refl

-- no run begins with a digit
run_ends : (xs : List Run) (k : List ℕ) → Ends (flat_map run_text xs ++ (32 ∷ k))
run_ends [] k = refl
run_ends (run.Left count ∷ xs) k = refl
run_ends (run.Right count ∷ xs) k = refl
run_ends (run.Inside count ∷ xs) k = refl
run_ends (run.Argument index ∷ xs) k = refl

pub runs_again : (path : List Run) (most n : ℕ) (l : Last) (k : List ℕ) → length path ≤ most → Each RunHasWord path → Apart l path
    → runs_at most l (record { nodes = n; text = flat_map run_text path ++ (32 ∷ k) }) ≡ (Ok path, record { nodes = n; text = 32 ∷ k })
unfolding runs_at run_at
runs_again [] zero n l k h w a = refl
runs_again [] (suc most) n l k h w a = refl
runs_again (x ∷ xs) zero n l k h w a = absurd (omega (arith, h))
runs_again (x ∷ xs) (suc most) n l k h w a =
    rw (
      append_assoc (run_text x) (flat_map run_text xs) (32 ∷ k),
      run_again l x n (flat_map run_text xs ++ (32 ∷ k)) w.0 a.0 (run_ends xs k),
      runs_again xs most n (last_of x) k (omega (arith, h)) w.1 a.1,
    )
    refl

runs_long : (path : List Run) → length path ≤ length (flat_map run_text path)
runs_long [] = omega arith
runs_long (run.Left count ∷ xs) = omega (arith, runs_long xs, length-append (run_text (run.Left count)) (flat_map run_text xs))
runs_long (run.Right count ∷ xs) = omega (arith, runs_long xs, length-append (run_text (run.Right count)) (flat_map run_text xs))
runs_long (run.Inside count ∷ xs) = omega (arith, runs_long xs, length-append (run_text (run.Inside count)) (flat_map run_text xs))
runs_long (run.Argument index ∷ xs) = omega (arith, runs_long xs, length-append (run_text (run.Argument index)) (flat_map run_text xs))

pub path_again : (path : List Run) (n : ℕ) (k : List ℕ) → Each RunHasWord path → Apart last.Other path
    → path_at (record { nodes = n; text = flat_map run_text path ++ (32 ∷ k) }) ≡ (Ok path, record { nodes = n; text = 32 ∷ k })
path_again path n k w a =
    runs_again path (length (flat_map run_text path ++ (32 ∷ k))) n last.Other k (omega (arith, runs_long path, length-append (flat_map run_text path) (32 ∷ k))) w a

-- ---- directions and names
pub direction_again : (forward : Bool) (n : ℕ) (k : List ℕ) → direction_at (record { nodes = n; text = direction_text forward ++ k }) ≡ (Ok forward, record { nodes = n; text = k })
direction_again true n k = refl
direction_again false n k = refl

pub rule_again : (q : Rule) (n : ℕ) (k : List ℕ) → rule_at names (record { nodes = n; text = rule_text q ++ k }) ≡ (Ok q, record { nodes = n; text = k })
unfolding rule_at word_at names mul_names squash_names sum_names not_names eq_names s_names
rule_again rule.AddAc n k = refl
rule_again rule.MulAc n k = refl
rule_again rule.MulZero n k = refl
rule_again rule.Distr n k = refl
rule_again rule.SqZero n k = refl
rule_again rule.SqOne n k = refl
rule_again rule.SqAdd n k = refl
rule_again rule.SqMul n k = refl
rule_again rule.SqDup n k = refl
rule_again rule.SqAbs n k = refl
rule_again rule.SqFix n k = refl
rule_again rule.SqPart n k = refl
rule_again rule.SqEq n k = refl
rule_again rule.SqPred n k = refl
rule_again rule.NotZero n k = refl
rule_again rule.NotOne n k = refl
rule_again rule.NotMul n k = refl
rule_again rule.NotAdd n k = refl
rule_again rule.NotSq n k = refl
rule_again rule.SqNot n k = refl
rule_again rule.NotSelf n k = refl
rule_again rule.NotNot n k = refl
rule_again rule.Split n k = refl
rule_again rule.SumZero n k = refl
rule_again rule.SumAdd n k = refl
rule_again rule.SumSwap n k = refl
rule_again rule.SumMul n k = refl
rule_again rule.SumSq n k = refl
rule_again rule.SumPoint n k = refl
rule_again rule.SumUse n k = refl
rule_again rule.EqRefl n k = refl
rule_again rule.EqSym n k = refl
rule_again rule.EqSubst n k = refl
rule_again rule.EqSplit n k = refl
rule_again rule.Key n k = refl
rule_again rule.Fkey n k = refl

-- ---- arguments
-- what was read leaves some nodes
pub record ReadsBack {A : Type 0} (reading : Reading A) (a : A) (k : List ℕ) : Type 0 where
  pub left : ℕ
  pub is : reading ≡ (Ok a, record { nodes = left; text = k })

argument_again : (kind : Kind) (a : Arg) (n : ℕ) (k : List ℕ) → IsOf kind a → ArgumentHasWords a → IsSmall a → Ends k → ReadsBack (argument_at kind (record { nodes = n; text = argument_text a ++ k })) a k
argument_again kind.Term (arg.Term x) n k o w h e =
    let z : most_nodes ≡ nodes x + (most_nodes - nodes x) = let i = h.0 in omega arith in
    record { left = most_nodes - nodes x; is = rw (term_again most_depth x most_nodes (most_nodes - nodes x) k w h.1 z) refl }
argument_again kind.Body (arg.Body x) n k o w h e =
    let z : most_nodes ≡ nodes x + (most_nodes - nodes x) = let i = h.0 in omega arith in
    record { left = most_nodes - nodes x; is = rw (term_again most_depth x most_nodes (most_nodes - nodes x) k w h.1 z) refl }
argument_again kind.Value (arg.Value x) n k o w h e =
    let z : most_nodes ≡ value_nodes x + (most_nodes - value_nodes x) = let i = h.0 in omega arith in
    record { left = most_nodes - value_nodes x; is = rw (value_again most_depth x most_nodes (most_nodes - value_nodes x) k w h.1 z e) refl }
argument_again kind.Values (arg.Values x) n k o w h e =
    let z : most_nodes ≡ list_nodes x + (most_nodes - list_nodes x) = let i = h.0 in omega arith in
    record { left = most_nodes - list_nodes x; is = rw (first_text-list x, values_again most_depth x most_nodes (most_nodes - list_nodes x) k w h.1 z) refl }
argument_again kind.Num (arg.Num m) n k o w h e = record { left = most_nodes; is = rw (number_again m most_nodes k w e) refl }
argument_again kind a n k o w h e = absurd o

-- what follows an argument begins with a space or a line feed
pub arguments_end : (args : List Arg) (k : List ℕ) → Ends k → Ends (arguments_text args ++ k)
arguments_end [] k e = e
arguments_end (a ∷ args) k e = refl

pub arguments_again : (ks : List Kind) (args : List Arg) (n : ℕ) (k : List ℕ) → AreOf ks args → Each ArgumentHasWords args → Each IsSmall args → Ends k
    → ReadsBack (arguments_at ks (record { nodes = n; text = arguments_text args ++ k })) args k
unfolding arguments_at
arguments_again [] [] n k o w h e = record { left = n; is = refl }
arguments_again [] (a ∷ args) n k o w h e = absurd o
arguments_again (kind ∷ ks) [] n k o w h e = absurd o
arguments_again (kind ∷ ks) (a ∷ args) n k o w h e =
    let r = argument_again kind a n (arguments_text args ++ k) o.0 w.0 h.0 (arguments_end args k e) in
    let r' = arguments_again ks args r.left k o.1 w.1 h.1 e in
    record { left = r'.left; is = rw (append_assoc (argument_text a) (arguments_text args) k, r.is, r'.is) refl }

-- ---- lines
end_again : (b : Bool) (n : ℕ) (k : List ℕ) → end_at b (record { nodes = n; text = end_text b ++ k }) ≡ (Ok tt, record { nodes = n; text = k })
unfolding word_at
end_again true n k = refl
end_again false n k = refl

pub end_ends : (b : Bool) (k : List ℕ) → Ends (end_text b ++ k)
end_ends true k = refl
end_ends false k = refl

-- the parts of a line in the other grouping
pub line_parts : (path : List Run) (forward : Bool) (q : Rule) (args : List Arg) (k : List ℕ)
    → line_text path forward q args ++ k ≡ 47 ∷ (flat_map run_text path ++ (32 ∷ (direction_text forward ++ (32 ∷ (rule_text q ++ (arguments_text args ++ (end_text (has_inner q) ++ k)))))))
line_parts path forward q args k = simp append_assoc

pub line_again : (path : List Run) (forward : Bool) (q : Rule) (args : List Arg) (n : ℕ) (k : List ℕ) → HasLine path q args → Each IsSmall args
    → ReadsBack (line_at (record { nodes = n; text = line_text path forward q args ++ k })) (made path forward q args) k
unfolding line_at step_at
line_again path forward q args n k l h =
    let r = arguments_again (kinds_of q) args n (end_text (has_inner q) ++ k) l.kinds l.words h (end_ends (has_inner q) k) in
    record {
      left = r.left;
      is = rw (
        line_parts path forward q args k,
        path_again path n (direction_text forward ++ (32 ∷ (rule_text q ++ (arguments_text args ++ (end_text (has_inner q) ++ k))))) l.turns (apart_all path l.normal),
        direction_again forward n (32 ∷ (rule_text q ++ (arguments_text args ++ (end_text (has_inner q) ++ k)))),
        rule_again q n (arguments_text args ++ (end_text (has_inner q) ++ k)),
        r.is,
        end_again (has_inner q) r.left k,
      ) refl;
    }

-- ---- what a line says is read of it
step_read : (b : Bool) (d : Step-F Step) → SaysStep b d → IsRead (line_text d.path d.forward d.rule d.args) (with_inner b (roll-Step (record { path = d.path; forward = d.forward; rule = d.rule; args = d.args; inner = [] })))
step_read b d h =
    let r = line_again d.path d.forward d.rule d.args 0 [] h.parts h.small in
    let e : line_at (record { nodes = 0; text = line_text d.path d.forward d.rule d.args }) ≡ (Ok (made d.path d.forward d.rule d.args), record { nodes = r.left; text = [] }) =
    subst (λ (t : List ℕ). line_at (record { nodes = 0; text = t }) ≡ (Ok (made d.path d.forward d.rule d.args), record { nodes = r.left; text = [] })) (append-nil (line_text d.path d.forward d.rule d.args)) r.is in
    let i : alone line_at (record { nodes = 0; text = line_text d.path d.forward d.rule d.args }) ≡ (Ok (made d.path d.forward d.rule d.args), record { nodes = r.left; text = [] }) = rw e refl in
    subst (λ c. IsRead (line_text d.path d.forward d.rule d.args) (with_inner c (roll-Step (record { path = d.path; forward = d.forward; rule = d.rule; args = d.args; inner = [] })))) h.opens
    (read_told (line_text d.path d.forward d.rule d.args) (made d.path d.forward d.rule d.args) (record { nodes = r.left; text = [] }) i)

-- a step without inner steps is made of its parts
pub same_step : (s : Step) → (out-Step s).inner ≡ [] → roll-Step (record { path = (out-Step s).path; forward = (out-Step s).forward; rule = (out-Step s).rule; args = (out-Step s).args; inner = [] }) ≡ s
same_step s e =
    subst (λ (l : List Step). roll-Step (record { path = (out-Step s).path; forward = (out-Step s).forward; rule = (out-Step s).rule; args = (out-Step s).args; inner = l }) ≡ s) e (roll-out-Step s)

pub says_read : (l : LineStep) → Says l → IsRead (text_of l) l
unfolding line_at word_at
says_read (says.Whole s) h =
    subst (λ z. IsRead (text_of (says.Whole s)) (says.Whole z)) (same_step s h.none) (step_read false (out-Step s) h)
says_read (says.Opens s) h =
    subst (λ z. IsRead (text_of (says.Opens s)) (says.Opens z)) (same_step s h.none) (step_read true (out-Step s) h)
says_read says.Closes h = read_told (codes "}" ++ newline) says.Closes (record { nodes = 0; text = [] }) refl
says_read says.Ends h = read_told (codes "end" ++ newline) says.Ends (record { nodes = 0; text = [] }) refl
