-- The text of what is read of a line is what was taken.
use Rattle.std.proofs.Common.{◌≡◌, ◌≢◌, ℕ, zero, suc, ◌+◌, ◌*◌, ◌^◌, ◌<◌, ◌≤◌, Bool, true, false, ◌&&◌, List, [], ◌∷◌, ◌++◌, length, get_or, Option, Some, None, Ok, Err, refl, sym, ap, ◌∙◌, subst, arith, append_assoc, append-nil}
use Rattle.std.specs.Prelude.{◌==◌, nat_lt, if◌then◌else◌, codes}
use Rattle.std.specs.Fmt.{decimal}
use Rattle.std.specs.List.{flat_map}
use Rattle.std.proofs.lemmas.Bool.{eqb-true, eq-eqb, ltb-true, lt-ltb}
use Rattle.grammar.proofs.languages.Sets.{and_left, and_right}
use Rattle.data_model.specs.Lists.{Each}
use Rattle.u_rules.specs.declared.rule.Rule.{Rule}
use Rattle.u_rules.specs.declared.rule.Arg.{Arg}
use Rattle.u_rules.specs.declared.rule.Arg.TheVariants as arg
use Rattle.u_deriv.specs.declared.run.Run.{Run}
use Rattle.u_deriv.specs.declared.run.Run.TheVariants as run
use Rattle.u_deriv.specs.declared.step.Step.{Step, roll-Step}
use Rattle.u_deriv.specs.declared.step.Step.TheViews.{out-roll-Step}
use Rattle.u_deriv.specs.declared.step.Step.TheOpen.{Step-F}
use Rattle.u_deriv.specs.Normal.{IsCounted, IsLike, EachNeighbour, IsNormal}
use Rattle.u_deriv.specs.StepText.{term_text, value_text, counted, run_text, direction_text, rule_text, argument_text, arguments_text}
use Rattle.proof_text.specs.declared.kinds.Kind.{Kind}
use Rattle.proof_text.specs.declared.kinds.Kind.TheVariants as kind
use Rattle.proof_text.specs.declared.path.Last.{Last}
use Rattle.proof_text.specs.declared.path.Last.TheVariants as last
use Rattle.proof_text.specs.declared.line.LineStep.{LineStep}
use Rattle.proof_text.specs.declared.line.LineStep.TheVariants as says
use Rattle.proof_text.specs.declared.cursor.Stop.TheVariants.{Unexpected}
use Rattle.proof_text.specs.Limits.{most_nodes, most_depth}
use Rattle.proof_text.specs.Signs.{code, sign}
use Rattle.proof_text.specs.RuleNames.{Names, found, word, either, names, mul_names, squash_names, sum_names, not_names, eq_names, s_names, kinds_of, has_inner}
use Rattle.proof_text.specs.Grammar.{made, with_inner}
use Rattle.proof_text.specs.Words.{RunHasWord, ArgumentHasWords}
use Rattle.proof_text.specs.Written.{IsOf, AreOf, HasLine, IsSmall, end_text, line_text, SaysStep, Says, text_of}
use Rattle.proof_text.specs.Paths.{IsApart}
use Rattle.proof_text.specs.Reading.{Rest, Reading, ◌>>=◌, sign_at, next, passed, bad, expected, fresh, is_longer, longest, longest_at, number_at, count_at, turns_at, word_at, may_be_left, may_be_right, may_be_inside, run_at, runs_with, runs_at, path_at, last_of, direction_at, rule_at, term_at, value_at, list_of, argument_at, arguments_at, end_at, step_at, line_at, if_over, alone}
use Rattle.proof_text.proofs.spelled.Glyphs.{glyphs, Has, Spelt, spelt_then, AsBefore, expected_has, passed_byte, are_glyphs, word_has}
use Rattle.proof_text.proofs.spelled.TermsAgain.{list_text, first_text-list}
use Rattle.proof_text.proofs.spelled.TermsSpelled.{IsWord, longest_spelt, digit_passed, number_has, gives_spelt, IsTermOf, IsValueOf, IsListOf, term_has, value_has, list_of_has}
use Rattle.proof_text.proofs.spelled.LinesAgain.{Apart}

-- ---- counts
above : (m : ℕ) (text : List ℕ) → m ≤ (longest m text).0
above m [] = omega arith
above m (byte ∷ text) = go (is_longer m (code (sign byte))) (above (10 * m + code (sign byte)) text)
  where
    go : (b : Bool) → 10 * m + code (sign byte) ≤ (longest (10 * m + code (sign byte)) text).0 → m ≤ (if b then longest (10 * m + code (sign byte)) text else (m, byte ∷ text)).0
    go true h = omega arith
    go false h = omega arith

two_digits : (text : List ℕ) → nat_lt (code (sign_at text)) 10 ≡ true → 2 ≤ (longest 1 text).0
two_digits [] e = cc
two_digits (byte ∷ text) e =
    let h : code (sign byte) < 10 = ltb-true (code (sign byte)) 10 e in
    let k : 10 * 1 + code (sign byte) ≤ (longest (10 * 1 + code (sign byte)) text).0 = above (10 * 1 + code (sign byte)) text in
    rw (e, lt-ltb (10 * 1 + code (sign byte)) (2 ^ 32) (omega arith)) (omega arith)

abbrev IsCount : ℕ → ℕ → Type 0
IsCount n after = (2 ≤ n) × (n < 2 ^ 32)

count_has : (all x : List ℕ) (rest : Rest) → all ≡ x ++ rest.text → Spelt all (λ n. x ++ decimal n) IsCount (count_at rest)
unfolding count_at
count_has all x rest i = go (code (next rest) == 0) (code (next rest) == 1) (nat_lt (code (next (passed rest))) 10) (nat_lt (code (next rest)) 10) refl refl refl refl
  where
    go : (a b c d : Bool) → (code (next rest) == 0) ≡ a → (code (next rest) == 1) ≡ b → nat_lt (code (next (passed rest))) 10 ≡ c → nat_lt (code (next rest)) 10 ≡ d
        → Spelt all (λ n. x ++ decimal n) IsCount
        (if a then bad rest else (if b then (if c then longest_at 1 (passed rest) else bad (passed rest)) else (if d then longest_at (code (next rest)) (passed rest) else bad rest)))
    go true b c d e f g h = tt
    go false true false d e f g h = tt
    go false true true d e f g h =
        let z : code (next rest) ≡ 1 = eqb-true (code (next rest)) 1 f in
        let t : all ≡ (x ++ decimal 1) ++ (passed rest).text = subst (λ m. all ≡ (x ++ decimal m) ++ (passed rest).text) z (digit_passed all x rest i (rw z refl)) in
        let c = longest_spelt 1 all x (passed rest) (omega arith) (omega arith) t in
        record { text = c.text; is = (two_digits (passed rest).text g, c.is.0) }
    go false false c true e f g h =
        let low : code (next rest) < 10 = ltb-true (code (next rest)) 10 h in
        let some : code (next rest) ≢ 0 = λ z. let t : (code (next rest) == 0) ≡ true = eq-eqb (code (next rest)) 0 z in cc in
        let more : code (next rest) ≢ 1 = λ z. let t : (code (next rest) == 1) ≡ true = eq-eqb (code (next rest)) 1 z in cc in
        let c = longest_spelt (code (next rest)) all x (passed rest) (omega arith) (omega arith) (digit_passed all x rest i h) in
        let k = above (code (next rest)) (passed rest).text in
        record { text = c.text; is = (omega arith, c.is.0) }
    go false false c false e f g h = tt

counted_many : (n : ℕ) → 2 ≤ n → decimal n ≡ counted n
counted_many zero h = absurd (omega arith)
counted_many (suc zero) h = absurd (omega arith)
counted_many (suc (suc n)) h = refl

abbrev IsTurns : ℕ → ℕ → Type 0
IsTurns n after = (1 ≤ n) × (n < 2 ^ 32)

turns_has : (all x : List ℕ) (rest : Rest) → all ≡ x ++ rest.text → Spelt all (λ n. x ++ counted n) IsTurns (turns_at rest)
turns_has all x rest i = go (nat_lt 0 (code (next rest)) && nat_lt (code (next rest)) 10)
  where
    many : (reading : Reading ℕ) → Spelt all (λ n. x ++ decimal n) IsCount reading → Spelt all (λ n. x ++ counted n) IsTurns reading
    many (Ok n, r) c = let h = c.is.0 in record { text = c.text ∙ ap (λ (z : List ℕ). (x ++ z) ++ r.text) (counted_many n c.is.0); is = (omega arith, c.is.1) }
    many (Err stop, r) c = tt

    go : (b : Bool) → Spelt all (λ n. x ++ counted n) IsTurns (if b then count_at rest else (Ok 1, rest))
    go true = many (count_at rest) (count_has all x rest i)
    go false = record { text = i ∙ ap (λ (z : List ℕ). z ++ rest.text) (sym (append-nil x)); is = (omega arith, omega arith) }

-- ---- paths
abbrev found_text : Option Run → List ℕ
found_text None = []
found_text (Some x) = run_text x

abbrev IsFound : Last → Option Run → ℕ → Type 0
IsFound l None after = Unit {0}
IsFound l (Some x) after = RunHasWord x × IsApart l x

left_apart : (l : Last) (n : ℕ) → may_be_left l ≡ true → IsApart l (run.Left n)
left_apart last.Other n e = tt
left_apart last.Left n e = cc
left_apart last.Right n e = tt
left_apart last.Inside n e = tt

right_apart : (l : Last) (n : ℕ) → may_be_right l ≡ true → IsApart l (run.Right n)
right_apart last.Other n e = tt
right_apart last.Left n e = tt
right_apart last.Right n e = cc
right_apart last.Inside n e = tt

inside_apart : (l : Last) (n : ℕ) → may_be_inside l ≡ true → IsApart l (run.Inside n)
inside_apart last.Other n e = tt
inside_apart last.Left n e = tt
inside_apart last.Right n e = tt
inside_apart last.Inside n e = cc

argument_apart : (l : Last) (n : ℕ) → IsApart l (run.Argument n)
argument_apart last.Other n = tt
argument_apart last.Left n = tt
argument_apart last.Right n = tt
argument_apart last.Inside n = tt

counted_has : (c glyph : ℕ) → (c == 53) ≡ false → (54 == c) ≡ false → get_or glyphs c 0 ≡ glyph → (of : ℕ → Run) → ((n : ℕ) → run_text (of n) ≡ glyph ∷ counted n) → (l : Last) → ((n : ℕ) → IsTurns n 0 → RunHasWord (of n) × IsApart l (of n))
    → (all x : List ℕ) (rest : Rest) → all ≡ x ++ rest.text → (code (next rest) == c) ≡ true
    → Spelt all (λ o. x ++ found_text o) (IsFound l) (turns_at (passed rest) >>= λ n r. (Ok (Some (of n)), r))
counted_has c glyph o e g of t l k all x rest i h =
    gives_spelt all (λ n. (x ++ glyph ∷ []) ++ counted n) IsTurns (λ o. x ++ found_text o) (IsFound l) (turns_at (passed rest)) (λ n. Some (of n))
    (turns_has all (x ++ glyph ∷ []) (passed rest) (passed_byte c glyph o e g all x rest i h))
    (λ n. append_assoc x (glyph ∷ []) (counted n) ∙ ap (λ (z : List ℕ). x ++ z) (sym (t n))) (λ n m w. k n w)

run_has : (l : Last) (all x : List ℕ) (rest : Rest) → all ≡ x ++ rest.text → Spelt all (λ o. x ++ found_text o) (IsFound l) (run_at l rest)
unfolding run_at
run_has l all x rest i =
    go ((code (next rest) == 39) && may_be_left l) ((code (next rest) == 45) && may_be_right l) ((code (next rest) == 37) && may_be_inside l) (code (next rest) == 31) refl refl refl refl
  where
    go : (a b c d : Bool) → ((code (next rest) == 39) && may_be_left l) ≡ a → ((code (next rest) == 45) && may_be_right l) ≡ b → ((code (next rest) == 37) && may_be_inside l) ≡ c → (code (next rest) == 31) ≡ d
        → Spelt all (λ o. x ++ found_text o) (IsFound l)
        (if a then (turns_at (passed rest) >>= λ n r. (Ok (Some (run.Left n)), r)) else
        (if b then (turns_at (passed rest) >>= λ n r. (Ok (Some (run.Right n)), r)) else
        (if c then (turns_at (passed rest) >>= λ n r. (Ok (Some (run.Inside n)), r)) else
        (if d then (number_at (passed rest) >>= λ n r. (Ok (Some (run.Argument n)), r)) else (Ok None, rest)))))
    go true b c d e f g h =
        counted_has 39 108 refl refl refl run.Left (λ n. refl) l (λ n w. (w, left_apart l n (and_right (code (next rest) == 39) (may_be_left l) e))) all x rest i (and_left (code (next rest) == 39) (may_be_left l) e)
    go false true c d e f g h =
        counted_has 45 114 refl refl refl run.Right (λ n. refl) l (λ n w. (w, right_apart l n (and_right (code (next rest) == 45) (may_be_right l) f))) all x rest i (and_left (code (next rest) == 45) (may_be_right l) f)
    go false false true d e f g h =
        counted_has 37 105 refl refl refl run.Inside (λ n. refl) l (λ n w. (w, inside_apart l n (and_right (code (next rest) == 37) (may_be_inside l) g))) all x rest i (and_left (code (next rest) == 37) (may_be_inside l) g)
    go false false false true e f g h =
        gives_spelt all (λ n. (x ++ 97 ∷ []) ++ decimal n) (IsWord rest.nodes) (λ o. x ++ found_text o) (IsFound l) (number_at (passed rest)) (λ n. Some (run.Argument n))
        (number_has all (x ++ 97 ∷ []) (passed rest) (passed_byte 31 97 refl refl refl all x rest i h))
        (λ n. append_assoc x (97 ∷ []) (decimal n)) (λ n m w. (w.0, argument_apart l n))
    go false false false false e f g h = record { text = i ∙ ap (λ (z : List ℕ). z ++ rest.text) (sym (append-nil x)); is = tt }

abbrev AreRuns : Last → List Run → ℕ → Type 0
AreRuns l xs after = Each RunHasWord xs × Apart l xs

runs_has : (most : ℕ) (l : Last) (all x : List ℕ) (rest : Rest) → all ≡ x ++ rest.text → Spelt all (λ xs. x ++ flat_map run_text xs) (AreRuns l) (runs_at most l rest)
unfolding runs_at
runs_has zero l all x rest i = record { text = i ∙ ap (λ (z : List ℕ). z ++ rest.text) (sym (append-nil x)); is = (tt, tt) }
runs_has (suc most) l all x rest i =
    spelt_then all (λ o. x ++ found_text o) (IsFound l) (λ xs. x ++ flat_map run_text xs) (AreRuns l) (run_at l rest) (runs_with (runs_at most)) (run_has l all x rest i)
    (λ o r e w. behind (λ l x r i. runs_has most l all x r i) o r e w)
  where
    behind : ((l : Last) (x : List ℕ) (r : Rest) → all ≡ x ++ r.text → Spelt all (λ xs. x ++ flat_map run_text xs) (AreRuns l) (runs_at most l r)) → (o : Option Run) (r : Rest) → all ≡ (x ++ found_text o) ++ r.text → IsFound l o r.nodes
        → Spelt all (λ xs. x ++ flat_map run_text xs) (AreRuns l) (runs_with (runs_at most) o r)
    behind k None r e w = record { text = e; is = (tt, tt) }
    behind k (Some y) r e w =
        gives_spelt all (λ xs. (x ++ run_text y) ++ flat_map run_text xs) (AreRuns (last_of y)) (λ xs. x ++ flat_map run_text xs) (AreRuns l) (runs_at most (last_of y) r) (λ xs. y ∷ xs)
        (k (last_of y) (x ++ run_text y) r e) (λ xs. append_assoc x (run_text y) (flat_map run_text xs)) (λ xs m q. ((w.0, q.0), (w.1, q.1)))

-- ---- directions and names
abbrev pub Any : {A : Type 0} → A → ℕ → Type 0
Any a after = Unit {0}

direction_has : (all x : List ℕ) (rest : Rest) → all ≡ x ++ rest.text → Spelt all (λ b. x ++ direction_text b) Any (direction_at rest)
direction_has all x rest i = go (code (next rest) == 26) refl
  where
    go : (b : Bool) → (code (next rest) == 26) ≡ b → Spelt all (λ b. x ++ direction_text b) Any (if b then (Ok true, passed rest) else (expected 27 rest >>= λ o r. (Ok false, r)))
    go true e = record { text = passed_byte 26 62 refl refl refl all x rest i e; is = tt }
    go false e = gives_spelt all (λ o. x ++ 60 ∷ []) (AsBefore rest.nodes) (λ b. x ++ direction_text b) Any (expected 27 rest) (λ o. false) (expected_has 27 60 refl refl refl all x rest i) (λ o. refl) (λ o m w. tt)

-- the names behind these bytes are those of the rules
abbrev Checked : List ℕ → Names → Type 0
Checked y (found q) = y ≡ rule_text q
Checked y (word bytes more) = (are_glyphs bytes ≡ true) × Checked (y ++ bytes) more
Checked y (either letter one others) = ((code letter == 53) ≡ false) × ((54 == code letter) ≡ false) × Checked (y ++ get_or glyphs (code letter) 0 ∷ []) one × Checked y others

rule_has : (t : Names) (y : List ℕ) → Checked y t → (all x : List ℕ) (rest : Rest) → all ≡ (x ++ y) ++ rest.text → Spelt all (λ q. x ++ rule_text q) Any (rule_at t rest)
unfolding rule_at
rule_has (found q) y c all x rest i = record { text = i ∙ ap (λ (z : List ℕ). (x ++ z) ++ rest.text) c; is = tt }
rule_has (word bytes t) y c all x rest i =
    spelt_then all (λ o. (x ++ y) ++ bytes) (AsBefore rest.nodes) (λ q. x ++ rule_text q) Any (word_at bytes rest) (λ o r. rule_at t r) (word_has bytes c.0 all (x ++ y) rest i)
    (λ o r e w. rule_has t (y ++ bytes) c.1 all x r (e ∙ ap (λ (z : List ℕ). z ++ r.text) (append_assoc x y bytes)))
rule_has (either letter one others) y c all x rest i =
    by (code (next rest) == code letter) refl
    (λ r e. rule_has one (y ++ get_or glyphs (code letter) 0 ∷ []) c.2 all x r e) (rule_has others y c.3 all x rest i)
  where
    by : (b : Bool) → (code (next rest) == code letter) ≡ b
        → ((r : Rest) → all ≡ (x ++ (y ++ get_or glyphs (code letter) 0 ∷ [])) ++ r.text → Spelt all (λ q. x ++ rule_text q) Any (rule_at one r)) → Spelt all (λ q. x ++ rule_text q) Any (rule_at others rest)
        → Spelt all (λ q. x ++ rule_text q) Any (if b then rule_at one (passed rest) else rule_at others rest)
    by true e k m =
        k (passed rest) (passed_byte (code letter) (get_or glyphs (code letter) 0) c.0 c.1 refl all (x ++ y) rest i e ∙ ap (λ (z : List ℕ). z ++ (passed rest).text) (append_assoc x y (get_or glyphs (code letter) 0 ∷ [])))
    by false e k m = m

names_checked : Checked [] names
unfolding names mul_names squash_names sum_names not_names eq_names s_names
names_checked = (refl, refl, (refl, refl), (refl, refl, (refl, (refl, refl, (refl, refl), (refl, refl))), (refl, refl, (refl, refl), (refl, refl, (refl, refl, (refl, (refl, refl, (refl, refl), (refl, refl, (refl, refl), (refl, refl, (refl, refl, (refl, refl), (refl, refl)), (refl, refl, (refl, refl), (refl, refl, (refl, refl), (refl, refl, (refl, refl), (refl, refl, (refl, refl, (refl, refl), (refl, refl)), (refl, refl, (refl, refl), (refl, refl)))))))))), (refl, refl, (refl, refl), (refl, (refl, refl, (refl, refl), (refl, refl, (refl, refl), (refl, refl, (refl, refl, (refl, refl), (refl, refl)), (refl, refl, (refl, refl), (refl, refl, (refl, refl), (refl, refl))))))))), (refl, refl, (refl, (refl, refl, (refl, refl), (refl, refl, (refl, refl), (refl, refl, (refl, refl), (refl, refl, (refl, refl), (refl, refl, (refl, refl, refl, (refl, refl)), (refl, refl))))))), (refl, refl, (refl, (refl, refl, (refl, refl), (refl, (refl, refl, (refl, refl), (refl, refl, (refl, refl), (refl, refl)))))), (refl, refl, (refl, refl), (refl, refl))))))))

-- ---- arguments
abbrev IsArgument : Kind → Arg → ℕ → Type 0
IsArgument k a after = IsOf k a × ArgumentHasWords a × IsSmall a

argument_has : (k : Kind) (all x : List ℕ) (rest : Rest) → all ≡ x ++ rest.text → Spelt all (λ a. x ++ argument_text a) (IsArgument k) (argument_at k rest)
argument_has kind.Term all x rest i =
    gives_spelt all (λ a. x ++ term_text a) (IsTermOf most_depth most_nodes) (λ a. x ++ argument_text a) (IsArgument kind.Term) (term_at most_depth (fresh rest)) (λ a. arg.Term a) (term_has most_depth all x (fresh rest) i)
    (λ a. refl) (λ a m z. (tt, z.words, (omega (arith, z.count), z.shallow)))
argument_has kind.Body all x rest i =
    gives_spelt all (λ a. x ++ term_text a) (IsTermOf most_depth most_nodes) (λ a. x ++ argument_text a) (IsArgument kind.Body) (term_at most_depth (fresh rest)) (λ a. arg.Body a) (term_has most_depth all x (fresh rest) i)
    (λ a. refl) (λ a m z. (tt, z.words, (omega (arith, z.count), z.shallow)))
argument_has kind.Value all x rest i =
    gives_spelt all (λ a. x ++ value_text a) (IsValueOf most_depth most_nodes) (λ a. x ++ argument_text a) (IsArgument kind.Value) (value_at most_depth (fresh rest)) (λ a. arg.Value a) (value_has most_depth all x (fresh rest) i)
    (λ a. refl) (λ a m z. (tt, z.words, (omega (arith, z.count), z.shallow)))
argument_has kind.Values all x rest i =
    gives_spelt all (λ a. x ++ (40 ∷ list_text a)) (IsListOf most_depth most_nodes) (λ a. x ++ argument_text a) (IsArgument kind.Values) (list_of (value_at most_depth) (fresh rest)) (λ a. arg.Values a) (list_of_has most_depth all x (fresh rest) i)
    (λ a. ap (λ (z : List ℕ). x ++ (40 ∷ z)) (sym (first_text-list a))) (λ a m z. (tt, z.words, (omega (arith, z.count), z.shallow)))
argument_has kind.Num all x rest i =
    gives_spelt all (λ n. x ++ decimal n) (IsWord most_nodes) (λ a. x ++ argument_text a) (IsArgument kind.Num) (number_at (fresh rest)) (λ n. arg.Num n) (number_has all x (fresh rest) i) (λ n. refl) (λ n m w. (tt, w.0, tt))

abbrev AreArguments : List Kind → List Arg → ℕ → Type 0
AreArguments ks args after = AreOf ks args × Each ArgumentHasWords args × Each IsSmall args

arguments_has : (ks : List Kind) (all x : List ℕ) (rest : Rest) → all ≡ x ++ rest.text → Spelt all (λ args. x ++ arguments_text args) (AreArguments ks) (arguments_at ks rest)
unfolding arguments_at
arguments_has [] all x rest i = record { text = i ∙ ap (λ (z : List ℕ). z ++ rest.text) (sym (append-nil x)); is = (tt, tt, tt) }
arguments_has (k ∷ ks) all x rest i =
    spelt_then all (λ o. x ++ 32 ∷ []) (AsBefore rest.nodes) (λ args. x ++ arguments_text args) (AreArguments (k ∷ ks)) (expected 23 rest) (λ o r. argument_at k r >>= λ a r. arguments_at ks r >>= λ others r. (Ok (a ∷ others), r))
    (expected_has 23 32 refl refl refl all x rest i)
    (λ o r e n. spelt_then all (λ a. (x ++ 32 ∷ []) ++ argument_text a) (IsArgument k) (λ args. x ++ arguments_text args) (AreArguments (k ∷ ks)) (argument_at k r) (λ a r. arguments_at ks r >>= λ others r. (Ok (a ∷ others), r))
    (argument_has k all (x ++ 32 ∷ []) r e)
    (λ a r' e' w. gives_spelt all (λ args. ((x ++ 32 ∷ []) ++ argument_text a) ++ arguments_text args) (AreArguments ks) (λ args. x ++ arguments_text args) (AreArguments (k ∷ ks)) (arguments_at ks r') (λ others. a ∷ others)
    (arguments_has ks all ((x ++ 32 ∷ []) ++ argument_text a) r' e')
    (λ args. append_assoc (x ++ 32 ∷ []) (argument_text a) (arguments_text args) ∙ append_assoc x (32 ∷ []) (argument_text a ++ arguments_text args) ∙ ap (λ (z : List ℕ). x ++ (32 ∷ z)) refl)
    (λ args m z. ((w.0, z.0), (w.1, z.1), (w.2, z.2)))))

-- ---- the end of a line
end_has : (b : Bool) (all x : List ℕ) (rest : Rest) → all ≡ x ++ rest.text → Spelt all (λ o. x ++ end_text b) Any (end_at b rest)
end_has false all x rest i = gives_any (expected 24 rest) (expected_has 24 10 refl refl refl all x rest i)
  where
    gives_any : (reading : Reading (Unit {0})) → Spelt all (λ o. x ++ 10 ∷ []) (AsBefore rest.nodes) reading → Spelt all (λ o. x ++ 10 ∷ []) Any reading
    gives_any (Ok o, r) c = record { text = c.text; is = tt }
    gives_any (Err stop, r) c = tt
end_has true all x rest i =
    spelt_then all (λ o. x ++ codes " {") (AsBefore rest.nodes) (λ o. x ++ end_text true) Any (word_at (codes " {") rest) (λ o r. expected 24 r) (word_has (codes " {") refl all x rest i)
    (λ o r e n. gives_any r (expected 24 r) (expected_has 24 10 refl refl refl all (x ++ codes " {") r e))
  where
    gives_any : (r : Rest) (reading : Reading (Unit {0})) → Spelt all (λ o. (x ++ codes " {") ++ 10 ∷ []) (AsBefore r.nodes) reading → Spelt all (λ o. x ++ end_text true) Any reading
    gives_any r (Ok o, z) c = record { text = c.text ∙ ap (λ (y : List ℕ). y ++ z.text) (append_assoc x (codes " {") (10 ∷ [])); is = tt }
    gives_any r (Err stop, z) c = tt

-- ---- steps
unlike : (x y : Run) → IsApart (last_of x) y → IsLike x y → ⊥
unlike (run.Left m) (run.Left n) h e = h
unlike (run.Left m) (run.Right n) h e = e
unlike (run.Left m) (run.Inside n) h e = e
unlike (run.Left m) (run.Argument n) h e = e
unlike (run.Right m) (run.Left n) h e = e
unlike (run.Right m) (run.Right n) h e = h
unlike (run.Right m) (run.Inside n) h e = e
unlike (run.Right m) (run.Argument n) h e = e
unlike (run.Inside m) (run.Left n) h e = e
unlike (run.Inside m) (run.Right n) h e = e
unlike (run.Inside m) (run.Inside n) h e = h
unlike (run.Inside m) (run.Argument n) h e = e
unlike (run.Argument m) (run.Left n) h e = e
unlike (run.Argument m) (run.Right n) h e = e
unlike (run.Argument m) (run.Inside n) h e = e
unlike (run.Argument m) (run.Argument n) h e = e

neighbours : (l : Last) (xs : List Run) → Apart l xs → EachNeighbour (λ run next. IsLike run next → ⊥) xs
neighbours l [] h = tt
neighbours l (x ∷ []) h = tt
neighbours l (x ∷ (y ∷ xs)) h = (unlike x y h.1.0, neighbours (last_of x) (y ∷ xs) h.1)

word_counted : (x : Run) → RunHasWord x → IsCounted x
word_counted (run.Left n) w = w.0
word_counted (run.Right n) w = w.0
word_counted (run.Inside n) w = w.0
word_counted (run.Argument n) w = omega arith

all_counted : (xs : List Run) → Each RunHasWord xs → Each IsCounted xs
all_counted [] w = tt
all_counted (x ∷ xs) w = (word_counted x w.0, all_counted xs w.1)

normal : (xs : List Run) → AreRuns last.Other xs 0 → IsNormal xs
normal xs w = record { counted = all_counted xs w.0; apart = neighbours last.Other xs w.1 }

abbrev Said : LineStep → ℕ → Type 0
Said l after = Says l

-- the line of these parts
made_has : (all : List ℕ) (path : List Run) (forward : Bool) (q : Rule) (args : List Arg) (r : Rest) → all ≡ line_text path forward q args ++ r.text → HasLine path q args → Each IsSmall args
    → Has all text_of Said (made path forward q args) r
made_has all path forward q args r i parts small = by (has_inner q) refl
  where
    by : (b : Bool) → has_inner q ≡ b → Has all text_of Said (with_inner b (roll-Step (record { path = path; forward = forward; rule = q; args = args; inner = [] }))) r
    by true e =
        subst (λ (f : Step-F Step). (all ≡ line_text f.path f.forward f.rule f.args ++ r.text) → SaysStep true f → Has all text_of Said (says.Opens (roll-Step (record { path = path; forward = forward; rule = q; args = args; inner = [] }))) r)
        (out-roll-Step (record { path = path; forward = forward; rule = q; args = args; inner = [] })) (λ t p. record { text = t; is = p }) i (record { parts = parts; small = small; opens = e; none = refl })
    by false e =
        subst (λ (f : Step-F Step). (all ≡ line_text f.path f.forward f.rule f.args ++ r.text) → SaysStep false f → Has all text_of Said (says.Whole (roll-Step (record { path = path; forward = forward; rule = q; args = args; inner = [] }))) r)
        (out-roll-Step (record { path = path; forward = forward; rule = q; args = args; inner = [] })) (λ t p. record { text = t; is = p }) i (record { parts = parts; small = small; opens = e; none = refl })

-- the parts of a line, one after the other
parts_text : (path : List Run) (forward : Bool) (q : Rule) (args : List Arg) (k : List ℕ)
    → ((((((((47 ∷ []) ++ flat_map run_text path) ++ 32 ∷ []) ++ direction_text forward) ++ 32 ∷ []) ++ rule_text q) ++ arguments_text args) ++ end_text (has_inner q)) ++ k ≡ line_text path forward q args ++ k
parts_text path forward q args k = simp append_assoc

step_has : (all : List ℕ) (rest : Rest) → all ≡ (47 ∷ []) ++ rest.text → Spelt all text_of Said (step_at rest)
unfolding step_at
step_has all rest i =
    let x0 : List ℕ = 47 ∷ [] in
    spelt_then all (λ p. x0 ++ flat_map run_text p) (AreRuns last.Other) text_of Said (path_at rest) _ (runs_has (length rest.text) last.Other all x0 rest i) (λ path r i runs.
    let x1 : List ℕ = x0 ++ flat_map run_text path in
    spelt_then all (λ o. x1 ++ 32 ∷ []) (AsBefore r.nodes) text_of Said (expected 23 r) _ (expected_has 23 32 refl refl refl all x1 r i) (λ o r i n.
    let x2 : List ℕ = x1 ++ 32 ∷ [] in
    spelt_then all (λ b. x2 ++ direction_text b) Any text_of Said (direction_at r) _ (direction_has all x2 r i) (λ forward r i n.
    let x3 : List ℕ = x2 ++ direction_text forward in
    spelt_then all (λ o. x3 ++ 32 ∷ []) (AsBefore r.nodes) text_of Said (expected 23 r) _ (expected_has 23 32 refl refl refl all x3 r i) (λ o r i n.
    let x4 : List ℕ = x3 ++ 32 ∷ [] in
    spelt_then all (λ q. x4 ++ rule_text q) Any text_of Said (rule_at names r) _ (rule_has names [] names_checked all x4 r (i ∙ ap (λ (z : List ℕ). z ++ r.text) (sym (append-nil x4)))) (λ q r i n.
    let x5 : List ℕ = x4 ++ rule_text q in
    spelt_then all (λ args. x5 ++ arguments_text args) (AreArguments (kinds_of q)) text_of Said (arguments_at (kinds_of q) r) _ (arguments_has (kinds_of q) all x5 r i) (λ args r i are.
    let x6 : List ℕ = x5 ++ arguments_text args in
    spelt_then all (λ o. x6 ++ end_text (has_inner q)) Any text_of Said (end_at (has_inner q) r) _ (end_has (has_inner q) all x6 r i) (λ o r i n.
    made_has all path forward q args r (i ∙ parts_text path forward q args r.text)
    (record { normal = normal path runs; turns = runs.0; kinds = are.0; words = are.1 }) are.2)))))))

-- ---- lines
line_has : (all : List ℕ) (rest : Rest) → all ≡ rest.text → Spelt all text_of Said (line_at rest)
unfolding line_at
line_has all rest i = go (code (next rest) == 25) (code (next rest) == 29) refl refl
  where
    go : (a b : Bool) → (code (next rest) == 25) ≡ a → (code (next rest) == 29) ≡ b
        → Spelt all text_of Said (if a then step_at (passed rest) else (if b then (expected 24 (passed rest) >>= λ o r. (Ok says.Closes, r)) else (word_at (codes "end") rest >>= λ o r. expected 24 r >>= λ o r. (Ok says.Ends, r))))
    go true b e f = step_has all (passed rest) (passed_byte 25 47 refl refl refl all [] rest i e)
    go false true e f =
        spelt_then all (λ o. codes "}" ++ 10 ∷ []) (AsBefore rest.nodes) text_of Said (expected 24 (passed rest)) (λ o r. (Ok says.Closes, r))
        (expected_has 24 10 refl refl refl all (codes "}") (passed rest) (passed_byte 29 125 refl refl refl all [] rest i f)) (λ o r e n. record { text = e; is = tt })
    go false false e f =
        spelt_then all (λ o. codes "end") (AsBefore rest.nodes) text_of Said (word_at (codes "end") rest) (λ o r. expected 24 r >>= λ o r. (Ok says.Ends, r)) (word_has (codes "end") refl all [] rest i)
        (λ o r e n. spelt_then all (λ o. codes "end" ++ 10 ∷ []) (AsBefore r.nodes) text_of Said (expected 24 r) (λ o r. (Ok says.Ends, r)) (expected_has 24 10 refl refl refl all (codes "end") r e) (λ o r e n. record { text = e; is = tt }))

-- a whole line that is read is the line that says this
pub line_spelled : (text : List ℕ) (l : LineStep) (r : Rest) → alone line_at (record { nodes = 0; text = text }) ≡ (Ok l, r) → (text ≡ text_of l) × Says l
line_spelled text l r e = by (line_at (record { nodes = 0; text = text })) (line_has text (record { nodes = 0; text = text }) refl) e
  where
    over : (l' : LineStep) (z : Rest) (left : List ℕ) → z.text ≡ left → Has text text_of Said l' z → if_over left l' z ≡ (Ok l, r) → (text ≡ text_of l) × Says l
    over l' z [] i c e =
        let o : Ok l' ≡ Ok l = ap (λ (p : Reading LineStep). p.0) e in
        let j : l' ≡ l = cc in
        subst (λ y. (text ≡ text_of y) × Says y) j (c.text ∙ (rw i (append-nil (text_of l'))), c.is)
    over l' z (byte ∷ left) i c e = let o : Err Unexpected ≡ Ok l = ap (λ (p : Reading LineStep). p.0) e in cc

    by : (reading : Reading LineStep) → Spelt text text_of Said reading → (reading >>= λ a r. if_over r.text a r) ≡ (Ok l, r) → (text ≡ text_of l) × Says l
    by (Ok l', z) c e = over l' z z.text refl c e
    by (Err stop, z) c e = let o : Err stop ≡ Ok l = ap (λ (p : Reading LineStep). p.0) e in cc
