-- The lines of a text, and those of the text of a proof.
use Rattle.std.proofs.Common.{◌≡◌, ℕ, zero, suc, ◌+◌, ◌%◌, ◌^◌, ◌<◌, ◌≤◌, Bool, true, false, List, [], ◌∷◌, ◌++◌, map, refl, sym, ap, subst, ◌∙◌, arith, append_assoc, append-nil, inl, inr}
use Rattle.std.specs.Prelude.{◌⊎◌, ◌==◌, nat_lt, codes}
use Rattle.std.specs.List.{flat_map, list_all, concat}
use Rattle.std.specs.Fmt.{decimal}
use Rattle.std.proofs.lemmas.Bool.{eqb-true}
use Rattle.std.proofs.lemmas.Fmt.{decimal_by_steps, decimal_digit}
use Rattle.std.proofs.lemmas.List.Folds.{concat-append}
use Rattle.data_model.specs.Lists.{Each}
use Rattle.grammar.proofs.languages.Sets.{and_left, and_right}
use Rattle.u_terms.specs.Syntax.{U, Zero, One, Add, Mul, Squash, Not, Sum, Rel, Eq, Pred, Val, Bound, Free, Lit, Fun, Agg, Vals, NoVals, ValThen, row_of}
use Rattle.u_rules.specs.declared.rule.Rule.{Rule}
use Rattle.u_rules.specs.declared.rule.Rule.TheVariants as rule
use Rattle.u_rules.specs.declared.rule.Arg.{Arg}
use Rattle.u_rules.specs.declared.rule.Arg.TheVariants as arg
use Rattle.u_deriv.specs.declared.run.Run.{Run}
use Rattle.u_deriv.specs.declared.run.Run.TheVariants as run
use Rattle.u_deriv.specs.declared.step.Step as step
use Rattle.u_deriv.specs.declared.step.Step.{Step, out-Step}
use Rattle.u_deriv.specs.declared.step.Step.TheOpen.{Step-F}
use Rattle.u_deriv.specs.declared.step.Step.TheViews.{out-roll-Step}
use Rattle.u_deriv.specs.StepText.{term_text, value_text, first_text, rest_text, newline, counted, run_text, direction_text, rule_text, argument_text, arguments_text, head_text, steps_text}
use Rattle.proof_text.specs.declared.line.LineStep.{LineStep}
use Rattle.proof_text.specs.declared.line.LineStep.TheVariants.{Whole, Closes, Ends}
use Rattle.proof_text.specs.Heading.{numbered_line}
use Rattle.proof_text.specs.LinesOfText.{fed, AreLines, none, first, last}
use Rattle.proof_text.specs.RuleNames.{has_inner}
use Rattle.proof_text.specs.Words.{HasWords, ValueHasWords, RowHasWords, ArgumentHasWords, RunHasWord}
use Rattle.proof_text.specs.Written.{HasLine, end_text, line_text, text_of, IsWritable, AreWritable, proof_text, ProofText}
use Rattle.proof_text.specs.StepLines.{bare_step, lines_with, step_lines, row_lines, lines_of, proof_lines}
use Rattle.proof_text.proofs.spelled.TermsAgain.{words-list}
use Rattle.proof_text.proofs.texts.StepLines.{steps_say}

-- ---- bytes without line feeds
abbrev pub Unbroken : List ℕ → Type 0
Unbroken = Each (λ byte. byte ≡ 10 → ⊥)

unbroken-append : (x y : List ℕ) → Unbroken x → Unbroken y → Unbroken (x ++ y)
unbroken-append [] y u v = v
unbroken-append (byte ∷ x) y u v = (u.0, unbroken-append x y u.1 v)

above_feed : (byte : ℕ) → nat_lt 10 byte ≡ true → byte ≡ 10 → ⊥
above_feed byte e i = let f : nat_lt 10 10 ≡ true = subst (λ (n : ℕ). nat_lt 10 n ≡ true) i e in cc f

-- bytes that are written out
constant : (x : List ℕ) → list_all (λ byte. nat_lt 10 byte) x ≡ true → Unbroken x
constant [] e = tt
constant (byte ∷ x) e =
    (above_feed byte (and_left (nat_lt 10 byte) (list_all (λ byte. nat_lt 10 byte) x) e), constant x (and_right (nat_lt 10 byte) (list_all (λ byte. nat_lt 10 byte) x) e))

decimal_unbroken : (n : ℕ) → n < 2 ^ 32 → Unbroken (decimal n)
decimal_unbroken n h = decimal_by_steps (λ n digits. Unbroken digits) one more n (omega (arith, h))
  where
    one : (n : ℕ) → n < 10 → Unbroken ((48 + n) ∷ [])
    one n h = (λ e. absurd (omega (arith, e)), tt)

    more : (n : ℕ) (digits : List ℕ) → 10 ≤ n → Unbroken digits → Unbroken (digits ++ ((48 + n % 10) ∷ []))
    more n digits h u = unbroken-append digits ((48 + n % 10) ∷ []) u (λ e. absurd (omega (arith, e)), tt)

-- ---- terms and values
one_within : (prefix a : List ℕ) → Unbroken prefix → Unbroken a → Unbroken (prefix ++ (a ++ codes ")"))
one_within prefix a u v = unbroken-append prefix (a ++ codes ")") u (unbroken-append a (codes ")") v (constant (codes ")") refl))

two_within : (prefix a b : List ℕ) → Unbroken prefix → Unbroken a → Unbroken b → Unbroken (prefix ++ (a ++ (codes "," ++ (b ++ codes ")"))))
two_within prefix a b u v w = unbroken-append prefix (a ++ (codes "," ++ (b ++ codes ")"))) u (unbroken-append a (codes "," ++ (b ++ codes ")")) v (one_within (codes ",") b (constant (codes ",") refl) w))

numbered : (prefix : List ℕ) (n : ℕ) → Unbroken prefix → n < 2 ^ 32 → Unbroken (prefix ++ decimal n)
numbered prefix n u h = unbroken-append prefix (decimal n) u (decimal_unbroken n h)

applied : (prefix : List ℕ) (n : ℕ) (rest : List ℕ) → Unbroken prefix → n < 2 ^ 32 → Unbroken rest → Unbroken (prefix ++ (decimal n ++ (codes "(" ++ rest)))
applied prefix n rest u h v =
    unbroken-append prefix (decimal n ++ (codes "(" ++ rest)) u (unbroken-append (decimal n) (codes "(" ++ rest) (decimal_unbroken n h) (unbroken-append (codes "(") rest (constant (codes "(") refl) v))

mutual
  unfolding term_text HasWords

  term_unbroken : (x : U) → HasWords x → Unbroken (term_text x)
  term_unbroken Zero w = constant (codes "0") refl
  term_unbroken One w = constant (codes "1") refl
  term_unbroken (Add a b) w = two_within (codes "+(") (term_text a) (term_text b) (constant (codes "+(") refl) (term_unbroken a w.0) (term_unbroken b w.1)
  term_unbroken (Mul a b) w = two_within (codes "*(") (term_text a) (term_text b) (constant (codes "*(") refl) (term_unbroken a w.0) (term_unbroken b w.1)
  term_unbroken (Squash a) w = one_within (codes "#(") (term_text a) (constant (codes "#(") refl) (term_unbroken a w)
  term_unbroken (Not a) w = one_within (codes "!(") (term_text a) (constant (codes "!(") refl) (term_unbroken a w)
  term_unbroken (Sum body) w = one_within (codes "S(") (term_text body) (constant (codes "S(") refl) (term_unbroken body w)
  term_unbroken (Rel table shape arguments) w = applied (codes "R") table (first_text arguments) (constant (codes "R") refl) w.0 (first_unbroken arguments w.1)
  term_unbroken (Eq a b) w = two_within (codes "=(") (value_text a) (value_text b) (constant (codes "=(") refl) (value_unbroken a w.0) (value_unbroken b w.1)
  term_unbroken (Pred symbol shape arguments) w = applied (codes "P") symbol (first_text arguments) (constant (codes "P") refl) w.0 (first_unbroken arguments w.1)

  value_unbroken : (value : Val) → ValueHasWords value → Unbroken (value_text value)
  value_unbroken (Bound place) w = numbered (codes "b") place (constant (codes "b") refl) w
  value_unbroken (Free name) w = numbered (codes "f") name (constant (codes "f") refl) w
  value_unbroken (Lit literal) w = numbered (codes "c") literal (constant (codes "c") refl) w
  value_unbroken (Fun symbol shape arguments) w = applied (codes "F") symbol (first_text arguments) (constant (codes "F") refl) w.0 (first_unbroken arguments w.1)
  value_unbroken (Agg aggregate body) w =
      applied (codes "G") aggregate (term_text body ++ codes ")") (constant (codes "G") refl) w.0 (unbroken-append (term_text body) (codes ")") (term_unbroken body w.1) (constant (codes ")") refl))

  first_unbroken : {n : _} (row : Vals n) → RowHasWords row → Unbroken (first_text row)
  first_unbroken NoVals w = constant (codes ")") refl
  first_unbroken (ValThen value rest) w = unbroken-append (value_text value) (rest_text rest) (value_unbroken value w.0) (rest_unbroken rest w.1)

  rest_unbroken : {n : _} (row : Vals n) → RowHasWords row → Unbroken (rest_text row)
  rest_unbroken NoVals w = constant (codes ")") refl
  rest_unbroken (ValThen value rest) w =
      unbroken-append (codes ",") (value_text value ++ rest_text rest) (constant (codes ",") refl) (unbroken-append (value_text value) (rest_text rest) (value_unbroken value w.0) (rest_unbroken rest w.1))

-- ---- the parts of a line
argument_unbroken : (a : Arg) → ArgumentHasWords a → Unbroken (argument_text a)
argument_unbroken (arg.Term x) w = term_unbroken x w
argument_unbroken (arg.Body f) w = term_unbroken f w
argument_unbroken (arg.Value a) w = value_unbroken a w
argument_unbroken (arg.Values s) w =
    unbroken-append (codes "(") (first_text (row_of s)) (constant (codes "(") refl) (first_unbroken (row_of s) (subst (λ (P : Type 0). P) (sym (words-list s)) w))
argument_unbroken (arg.Num m) w = decimal_unbroken m w

arguments_unbroken : (args : List Arg) → Each ArgumentHasWords args → Unbroken (arguments_text args)
arguments_unbroken [] w = tt
arguments_unbroken (a ∷ args) w =
    unbroken-append (codes " " ++ argument_text a) (arguments_text args) (unbroken-append (codes " ") (argument_text a) (constant (codes " ") refl) (argument_unbroken a w.0)) (arguments_unbroken args w.1)

counted_unbroken : (count : ℕ) → count < 2 ^ 32 → Unbroken (counted count)
counted_unbroken zero h = decimal_unbroken zero h
counted_unbroken (suc zero) h = tt
counted_unbroken (suc (suc count)) h = decimal_unbroken (suc (suc count)) h

run_unbroken : (r : Run) → RunHasWord r → Unbroken (run_text r)
run_unbroken (run.Left count) w = unbroken-append (codes "l") (counted count) (constant (codes "l") refl) (counted_unbroken count w.1)
run_unbroken (run.Right count) w = unbroken-append (codes "r") (counted count) (constant (codes "r") refl) (counted_unbroken count w.1)
run_unbroken (run.Inside count) w = unbroken-append (codes "i") (counted count) (constant (codes "i") refl) (counted_unbroken count w.1)
run_unbroken (run.Argument index) w = numbered (codes "a") index (constant (codes "a") refl) w

runs_unbroken : (path : List Run) → Each RunHasWord path → Unbroken (flat_map run_text path)
runs_unbroken [] w = tt
runs_unbroken (r ∷ path) w = unbroken-append (run_text r) (flat_map run_text path) (run_unbroken r w.0) (runs_unbroken path w.1)

direction_unbroken : (forward : Bool) → Unbroken (direction_text forward)
direction_unbroken true = constant (codes ">") refl
direction_unbroken false = constant (codes "<") refl

rule_unbroken : (q : Rule) → Unbroken (rule_text q)
rule_unbroken rule.SqFix = constant (codes "sq_fix") refl
rule_unbroken q = constant (rule_text q) refl

head_unbroken : (path : List Run) (forward : Bool) (q : Rule) (args : List Arg) → HasLine path q args → Unbroken (head_text path forward q args)
head_unbroken path forward q args l =
    unbroken-append (codes "/" ++ flat_map run_text path) (codes " " ++ (direction_text forward ++ (codes " " ++ (rule_text q ++ arguments_text args))))
    (unbroken-append (codes "/") (flat_map run_text path) (constant (codes "/") refl) (runs_unbroken path l.turns))
    (unbroken-append (codes " ") (direction_text forward ++ (codes " " ++ (rule_text q ++ arguments_text args))) (constant (codes " ") refl)
    (unbroken-append (direction_text forward) (codes " " ++ (rule_text q ++ arguments_text args)) (direction_unbroken forward)
    (unbroken-append (codes " ") (rule_text q ++ arguments_text args) (constant (codes " ") refl)
    (unbroken-append (rule_text q) (arguments_text args) (rule_unbroken q) (arguments_unbroken args l.words)))))

-- ---- lines with their line feed
pub record IsLine (text : List ℕ) : Type 0 where
  pub bytes : List ℕ
  pub unbroken : Unbroken bytes
  pub is : text ≡ bytes ++ 10 ∷ []

step_line : (b : Bool) (head : List ℕ) → Unbroken head → IsLine (head ++ end_text b)
step_line true head u =
    record { bytes = head ++ codes " {"; unbroken = unbroken-append head (codes " {") u (constant (codes " {") refl); is = sym (append_assoc head (codes " {") (10 ∷ [])) }
step_line false head u = record { bytes = head; unbroken = u; is = refl }

pub line_is : (path : List Run) (forward : Bool) (q : Rule) (args : List Arg) → HasLine path q args → IsLine (line_text path forward q args)
line_is path forward q args l = step_line (has_inner q) (head_text path forward q args) (head_unbroken path forward q args l)

closes_is : IsLine (text_of Closes)
closes_is = record { bytes = codes "}"; unbroken = constant (codes "}") refl; is = refl }

pub ends_is : IsLine (text_of Ends)
ends_is = record { bytes = codes "end"; unbroken = constant (codes "end") refl; is = refl }

pub numbered_is : (prefix : List ℕ) (n : ℕ) → list_all (λ byte. nat_lt 10 byte) prefix ≡ true → n < 2 ^ 32 → IsLine (numbered_line prefix n)
numbered_is prefix n e h = record { bytes = prefix ++ decimal n; unbroken = numbered prefix n (constant prefix e) h; is = sym (append_assoc prefix (decimal n) (10 ∷ [])) }

-- the lines of steps are lines
abbrev AreTexts : List LineStep → Type 0
AreTexts = Each (λ says. IsLine (text_of says))

texts-append : (x y : List LineStep) → AreTexts x → AreTexts y → AreTexts (x ++ y)
texts-append [] y u v = v
texts-append (says ∷ x) y u v = (u.0, texts-append x y u.1 v)

with_texts : (b : Bool) (s : Step) (inner : List LineStep) → IsLine (text_of (Whole s)) → AreTexts inner → AreTexts (lines_with b s inner)
with_texts true s inner l t = (l, texts-append inner (Closes ∷ []) t (closes_is, tt))
with_texts false s inner l t = (l, tt)

mutual
  unfolding IsWritable step_lines

  step_texts : (s : Step) → IsWritable s → AreTexts (step_lines s)
  step_texts (step.Step' path forward q args shape inner) w =
      with_texts (has_inner q) (bare_step path forward q args) (row_lines inner)
      (subst (λ (d : Step-F Step). IsLine (line_text d.path d.forward d.rule d.args)) (sym (out-roll-Step (record { path = path; forward = forward; rule = q; args = args; inner = [] }))) (line_is path forward q args w.0))
      (row_texts inner w.2)

  row_texts : {n : _} (row : step.Row_of-Step n) → AreWritable row → AreTexts (row_lines row)
  row_texts step.end_of-Step w = tt
  row_texts (step.more_of-Step s rest) w = texts-append (step_lines s) (row_lines rest) (step_texts s w.0) (row_texts rest w.1)

steps_texts : (steps : List Step) → Each IsWritable steps → AreTexts (lines_of steps)
steps_texts [] w = tt
steps_texts (s ∷ steps) w = texts-append (step_lines s) (lines_of steps) (step_texts s w.0) (steps_texts steps w.1)

-- ---- a text has one list of lines
pub lines_whole : (text : List ℕ) (lines : List (List ℕ)) → AreLines text lines → text ≡ concat lines
lines_whole _ _ none = refl
lines_whole _ _ (first bytes {text = text} {lines = lines} u more) = ap (λ (z : List ℕ). fed bytes true ++ z) (lines_whole text lines more)
lines_whole _ _ (last {bytes = bytes} u some) = sym (append-nil bytes)

pub behind_feed : (x y r s : List ℕ) → Unbroken x → Unbroken y → x ++ 10 ∷ r ≡ y ++ 10 ∷ s → (x ≡ y) × (r ≡ s)
behind_feed [] [] r s u v e = (refl, cc)
behind_feed [] (b ∷ y) r s u v e = let i : b ≡ 10 = cc in absurd (v.0 i)
behind_feed (a ∷ x) [] r s u v e = let i : a ≡ 10 = cc in absurd (u.0 i)
behind_feed (a ∷ x) (b ∷ y) r s u v e =
    let i : a ≡ b = cc in
    let j : x ++ 10 ∷ r ≡ y ++ 10 ∷ s = cc in
    let k = behind_feed x y r s u.1 v.1 j in
    (ap (λ (c : ℕ). c ∷ x) i ∙ ap (λ (z : List ℕ). b ∷ z) k.0, k.1)

pub without_feed : (x y r : List ℕ) → Unbroken x → x ≡ y ++ 10 ∷ r → ⊥
without_feed [] [] r u e = cc e
without_feed [] (b ∷ y) r u e = cc e
without_feed (a ∷ x) [] r u e = let i : a ≡ 10 = cc in u.0 i
without_feed (a ∷ x) (b ∷ y) r u e = let j : x ≡ y ++ 10 ∷ r = cc in without_feed x y r u.1 j

fed_first : (bytes text : List ℕ) → fed bytes true ++ text ≡ bytes ++ 10 ∷ text
fed_first bytes text = append_assoc bytes (10 ∷ []) text

not_nothing : (bytes text : List ℕ) → [] ≡ bytes ++ 10 ∷ text → ⊥
not_nothing [] text e = cc e
not_nothing (b ∷ bytes) text e = cc e

pub one_lines : (x y : List ℕ) (ls ks : List (List ℕ)) → x ≡ y → AreLines x ls → AreLines y ks → ls ≡ ks
one_lines _ _ _ _ e none none = refl
one_lines _ _ _ _ e none (first bytes {text = text} u more) = absurd (not_nothing bytes text (e ∙ fed_first bytes text))
one_lines _ _ _ _ e none (last u some) = absurd (some (sym e))
one_lines _ _ _ _ e (first bytes {text = text} u more) none = absurd (not_nothing bytes text (sym e ∙ fed_first bytes text))
one_lines _ _ _ _ e (first x {text = r} {lines = ls} u more) (first y {text = s} {lines = ks} v others) =
    let i = behind_feed x y r s u v (sym (fed_first x r) ∙ e ∙ fed_first y s) in
    ap (λ (z : List ℕ). fed z true ∷ ls) i.0 ∙ ap (λ (z : List (List ℕ)). fed y true ∷ z) (one_lines r s ls ks i.1 more others)
one_lines _ _ _ _ e (first x {text = r} u more) (last {bytes = y} v some) = absurd (without_feed y x r v (sym e ∙ fed_first x r))
one_lines _ _ _ _ e (last u some) none = absurd (some e)
one_lines _ _ _ _ e (last {bytes = x} u some) (first y {text = s} v more) = absurd (without_feed x y s u (e ∙ fed_first y s))
one_lines _ _ _ _ e (last u some) (last v others) = ap (λ (z : List ℕ). z ∷ []) e

is_feed : (byte : ℕ) → (byte ≡ 10) ⊎ (byte ≡ 10 → ⊥)
is_feed byte = by (byte == 10) refl
  where
    by : (b : Bool) → (byte == 10) ≡ b → (byte ≡ 10) ⊎ (byte ≡ 10 → ⊥)
    by true e = inl (eqb-true byte 10 e)
    by false e = inr (λ i. let f : (10 == 10) ≡ false = subst (λ (n : ℕ). (n == 10) ≡ false) i e in cc f)

-- every text has its lines
pub HasLines : List ℕ → Type 0
HasLines text = (lines : List (List ℕ)) × AreLines text lines

one_byte_more : (byte : ℕ) (text : List ℕ) (lines : List (List ℕ)) → (byte ≡ 10 → ⊥) → AreLines text lines → HasLines (byte ∷ text)
unfolding HasLines
one_byte_more byte _ _ n none = ((byte ∷ []) ∷ [], last (n, tt) (λ e. cc e))
one_byte_more byte _ _ n (first bytes {lines = lines} u more) = (fed (byte ∷ bytes) true ∷ lines, first (byte ∷ bytes) (n, u) more)
one_byte_more byte _ _ n (last {bytes = bytes} u some) = ((byte ∷ bytes) ∷ [], last (n, u) (λ e. cc e))

pub every_text : (text : List ℕ) → (lines : List (List ℕ)) × AreLines text lines
unfolding HasLines
every_text [] = ([], none)
every_text (byte ∷ text) = by (is_feed byte) (every_text text)
  where
    by : (byte ≡ 10) ⊎ (byte ≡ 10 → ⊥) → HasLines text → HasLines (byte ∷ text)
    by (inl e) ls = subst (λ (b : ℕ). HasLines (b ∷ text)) (sym e) ((10 ∷ []) ∷ ls.0, first [] tt ls.1)
    by (inr n) ls = one_byte_more byte text ls.0 n ls.1

-- lines in front of a text are the first ones of all
pub prefix_lines : (prefixes : List (List ℕ)) (rest : List ℕ) (lines : List (List ℕ)) → Each IsLine prefixes → AreLines rest lines → AreLines (concat prefixes ++ rest) (prefixes ++ lines)
prefix_lines [] rest lines f more = more
prefix_lines (prefix ∷ prefixes) rest lines f more =
    let l = f.0 in
    let i : fed l.bytes true ++ (concat prefixes ++ rest) ≡ (prefix ++ concat prefixes) ++ rest =
    ap (λ (z : List ℕ). z ++ (concat prefixes ++ rest)) (sym l.is) ∙ sym (append_assoc prefix (concat prefixes) rest) in
    subst (λ (z : List ℕ). AreLines z (prefix ∷ (prefixes ++ lines))) i
    (subst (λ (z : List ℕ). AreLines (fed l.bytes true ++ (concat prefixes ++ rest)) (z ∷ (prefixes ++ lines))) (sym l.is) (first l.bytes l.unbroken (prefix_lines prefixes rest lines f.1 more)))

-- ---- the lines of a proof
map_concat : (ls : List LineStep) → flat_map text_of ls ≡ concat (map text_of ls)
map_concat [] = refl
map_concat (l ∷ ls) = ap (λ (z : List ℕ). text_of l ++ z) (map_concat ls)

pub proof_whole : (outs : ℕ) (steps : List Step) → proof_text outs steps ≡ concat (proof_lines outs steps)
proof_whole outs steps =
    let end : List ℕ = text_of Ends in
    let body : List (List ℕ) = map text_of (lines_of steps) in
    let one : decimal 1 ≡ 49 ∷ [] = decimal_digit 1 (omega arith) in
    let i : steps_text steps ++ end ≡ concat (body ++ end ∷ []) =
    ap (λ (z : List ℕ). z ++ end) (steps_say steps ∙ map_concat (lines_of steps)) ∙ ap (λ (z : List ℕ). concat body ++ z) (sym (append-nil end)) ∙ sym (concat-append body (end ∷ [])) in
    ap (λ (z : List ℕ). codes "udp-proof 1" ++ (newline ++ (codes "outs " ++ (decimal outs ++ (newline ++ z))))) i
    ∙ ap (λ (z : List ℕ). codes "udp-proof 1" ++ (newline ++ z)) (sym (append_assoc (codes "outs ") (decimal outs ++ newline) (concat (body ++ end ∷ [])) ∙ ap (λ (z : List ℕ). codes "outs " ++ z) (append_assoc (decimal outs) newline (concat (body ++ end ∷ [])))))
    ∙ ap (λ (z : List ℕ). numbered z (width ++ concat (body ++ end ∷ []))) (sym one)
  where
    width : List ℕ
    width = numbered_line (codes "outs ") outs

    numbered : List ℕ → List ℕ → List ℕ
    numbered digits rest = (codes "udp-proof " ++ (digits ++ newline)) ++ rest

are_texts : (ls : List LineStep) → AreTexts ls → Each IsLine (map text_of ls)
are_texts [] t = tt
are_texts (l ∷ ls) t = (t.0, are_texts ls t.1)

each-append : (x y : List (List ℕ)) → Each IsLine x → Each IsLine y → Each IsLine (x ++ y)
each-append [] y u v = v
each-append (l ∷ x) y u v = (u.0, each-append x y u.1 v)

pub lines_of_proof : (bytes : List ℕ) (outs : ℕ) (steps : List Step) → ProofText bytes outs steps → AreLines bytes (proof_lines outs steps)
lines_of_proof bytes outs steps p =
    let ls = proof_lines outs steps in
    let each : Each IsLine ls = (
      numbered_is (codes "udp-proof ") 1 refl (omega arith),
      (
        numbered_is (codes "outs ") outs refl p.word,
        each-append (map text_of (lines_of steps)) (text_of Ends ∷ []) (are_texts (lines_of steps) (steps_texts steps p.writable)) (ends_is, tt),
      ),
    ) in
    let lines : AreLines (concat ls ++ []) (ls ++ []) = prefix_lines ls [] [] each none in
    subst (λ (z : List ℕ). AreLines z ls) (append-nil (concat ls) ∙ sym (proof_whole outs steps) ∙ sym p.spelled)
    (subst (λ (z : List (List ℕ)). AreLines (concat ls ++ []) z) (append-nil ls) lines)

-- the lines of the text of steps are theirs
pub lines_of_steps : (steps : List Step) → Each IsWritable steps → AreLines (steps_text steps) (map text_of (lines_of steps))
lines_of_steps steps w =
    let body : List (List ℕ) = map text_of (lines_of steps) in
    let lines : AreLines (concat body ++ []) (body ++ []) = prefix_lines body [] [] (are_texts (lines_of steps) (steps_texts steps w)) none in
    subst (λ (z : List ℕ). AreLines z body) (append-nil (concat body) ∙ sym (steps_say steps ∙ map_concat (lines_of steps)))
    (subst (λ (z : List (List ℕ)). AreLines (concat body ++ []) z) (append-nil body) lines)
