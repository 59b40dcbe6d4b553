-- A line comes to one thing, and so does a list of lines.
use Rattle.std.proofs.Common.{◌≡◌, ℕ, ◌+◌, ◌^◌, ◌<◌, ◌≤◌, Bool, true, false, List, [], ◌∷◌, ◌++◌, length, Result, Ok, Err, refl, sym, ap, subst, ◌∙◌, arith, inl, inr}
use Rattle.std.specs.Prelude.{◌≢◌, ◌⊎◌, codes}
use Rattle.std.specs.Fmt.{decimal}
use Rattle.std.proofs.lemmas.Fmt.{decimal_injective}
use Rattle.std.proofs.lemmas.List.{append_cancel_left, append_cancel_right}
use Rattle.u_terms.specs.Syntax.{U}
use Rattle.u_terms.specs.Size.{nodes, depth}
use Rattle.u_terms.specs.declared.term.U.TheVariants as u
use Rattle.u_terms.specs.declared.facts.Facts.{Facts}
use Rattle.u_terms.specs.Binding.{closed_path}
use Rattle.u_rules.specs.declared.rule.Arg.{Arg}
use Rattle.u_rules.specs.declared.rule.Arg.TheVariants.{Term}
use Rattle.u_rules.specs.declared.side_sizes.Sizes.{Sizes}
use Rattle.u_rules.proofs.arguments.OneInstance.{one-instance}
use Rattle.u_deriv.specs.declared.step.Step.{Step, out-Step}
use Rattle.u_deriv.specs.Contexts.{Context, filled, binders}
use Rattle.u_deriv.specs.Steps.{Sides, Exchanged, Rewrites}
use Rattle.u_deriv.specs.StepText.{newline}
use Rattle.u_deriv.proofs.contexts.OneContext.{same_context}
use Rattle.u_deriv.proofs.steps.OneResult.{one_result}
use Rattle.proof_text.specs.declared.limits.LimitKind.{LimitKind}
use Rattle.proof_text.specs.declared.limits.LimitKind.TheVariants.{Nodes, Depth, Steps, Nesting}
use Rattle.proof_text.specs.declared.line.LineStep.{LineStep}
use Rattle.proof_text.specs.declared.line.LineStep.TheVariants.{Whole, Opens, Closes, Ends}
use Rattle.proof_text.specs.declared.line.LineFault.{LineFault}
use Rattle.proof_text.specs.declared.line.LineFault.TheVariants as refusal
use Rattle.proof_text.specs.ReadingLines.{IsAnswer}
use Rattle.proof_text.proofs.answers.OneAnswer as reading
use Rattle.proof_text.proofs.texts.TextLines.{one_lines}
use Rattle.proof_check.specs.declared.answers.ProofFault.{ProofFault}
use Rattle.proof_check.specs.declared.answers.ProofFault.TheVariants.{BadHeader, BadVersion, BadOuts, BadLine, AfterEnd, Limit, NoMemory}
use Rattle.proof_check.specs.declared.answers.Stop.{Stop}
use Rattle.proof_check.specs.declared.answers.Stop.TheVariants.{Fails, Fault}
use Rattle.proof_check.specs.declared.answers.Verdict.{Verdict}
use Rattle.proof_check.specs.Limits.{IsWithin, Passes, IsSmall, TermPasses, SidesAreSmall, SidesPass, sizes_for, most_steps, most_nesting}
use Rattle.proof_check.specs.Judging as j
use Rattle.proof_check.specs.Judging.{Level, Waiting, Progress, begun, versioned, among, ended, header, width_line, OpensProof, behind_step, square_of, Takes, Stops}
use Rattle.proof_check.specs.Checking.{State, on, stopped, Stands, none, takes, stops, stays, no_memory, Finishes, Shows}

-- what a line comes to
data Outcome : Type 0 where
  goes : Progress → Outcome
  halts : Stop → Outcome

-- there is at most one
abbrev One : (Outcome → Type 0) → Type 0
One P = (o o' : Outcome) → P o → P o' → o ≡ o'

either : (P Q : Outcome → Type 0) → ((o o' : Outcome) → P o → Q o' → ⊥) → One P → One Q → One (λ o. P o ⊎ Q o)
either P Q apart p q o o' (inl a) (inl b) = p o o' a b
either P Q apart p q o o' (inl a) (inr b) = absurd (apart o o' a b)
either P Q apart p q o o' (inr a) (inl b) = absurd (apart o' o b a)
either P Q apart p q o o' (inr a) (inr b) = q o o' a b

-- this one, where something holds
abbrev Only : Type 0 → Outcome → Outcome → Type 0
Only A is o = A × (o ≡ is)

only : (A : Type 0) (is : Outcome) → One (Only A is)
only A is o o' a b = a.1 ∙ sym b.1

behind : (A : Type 0) (P : Outcome → Type 0) → One P → One (λ o. A × P o)
behind A P p o o' a b = p o o' a.1 b.1

-- ---- limits
within-none : (n d : ℕ) (what : LimitKind) (count : ℕ) → IsWithin n d → Passes n d what count → ⊥
within-none n d Nodes count w p = absurd (omega (arith, w.few, p.0))
within-none n d Depth count w p = absurd (omega (arith, w.flat, p.1))
within-none n d Steps count w p = p
within-none n d Nesting count w p = p

sides-none : (sizes : Sizes) (what : LimitKind) (count : ℕ) → SidesAreSmall sizes → SidesPass sizes what count → ⊥
sides-none sizes what count w (inl p) = within-none sizes.left_nodes sizes.left_depth what count w.left p
sides-none sizes what count w (inr p) = within-none sizes.right_nodes sizes.right_depth what count w.right p.1

abbrev OnePassing : (LimitKind → ℕ → Type 0) → Type 0
OnePassing P = (what what' : LimitKind) (count count' : ℕ) → P what count → P what' count' → (what ≡ what') × (count ≡ count')

one_passing : (n d : ℕ) → OnePassing (Passes n d)
one_passing n d Nodes Nodes count count' p q = (refl, p.1 ∙ sym q.1)
one_passing n d Depth Depth count count' p q = (refl, p.2 ∙ sym q.2)
one_passing n d Nodes Depth count count' p q = absurd (omega (arith, p.0, q.0))
one_passing n d Depth Nodes count count' p q = absurd (omega (arith, p.0, q.0))
one_passing n d Steps w count count' p q = absurd p
one_passing n d Nesting w count count' p q = absurd p
one_passing n d Nodes Steps count count' p q = absurd q
one_passing n d Nodes Nesting count count' p q = absurd q
one_passing n d Depth Steps count count' p q = absurd q
one_passing n d Depth Nesting count count' p q = absurd q

one_side_passing : (sizes : Sizes) → OnePassing (SidesPass sizes)
one_side_passing sizes what what' count count' (inl p) (inl q) = one_passing sizes.left_nodes sizes.left_depth what what' count count' p q
one_side_passing sizes what what' count count' (inl p) (inr q) = absurd (within-none sizes.left_nodes sizes.left_depth what count q.0 p)
one_side_passing sizes what what' count count' (inr p) (inl q) = absurd (within-none sizes.left_nodes sizes.left_depth what' count' p.0 q)
one_side_passing sizes what what' count count' (inr p) (inr q) = one_passing sizes.right_nodes sizes.right_depth what what' count count' p.1 q.1

abbrev Limited : (LimitKind → ℕ → Type 0) → Outcome → Type 0
Limited P o = (what : LimitKind) × (count : ℕ) × P what count × (o ≡ halts (Fault (Limit what count)))

one_limited : (P : LimitKind → ℕ → Type 0) → OnePassing P → One (Limited P)
one_limited P one o o' a b =
    let e = one a.0 b.0 a.1 b.1 a.2 b.2 in
    a.3 ∙ ap (λ (what : LimitKind). halts (Fault (Limit what a.1))) e.0 ∙ ap (λ (count : ℕ). halts (Fault (Limit b.0 count))) e.1 ∙ sym b.3

-- a term that is left behind is looked at
abbrev Leaves : U → Progress → Outcome → Type 0
Leaves u after o = Limited (TermPasses u) o ⊎ Only (IsSmall u) (goes after) o

one_left : (x : U) (after : Progress) → One (Leaves x after)
one_left x after =
    either (Limited (TermPasses x)) (Only (IsSmall x) (goes after)) (λ o o' a b. within-none (nodes x) (depth x) a.0 a.1 b.0 a.2) (one_limited (TermPasses x) (one_passing (nodes x) (depth x)))
    (only (IsSmall x) (goes after))

-- so are the sides, and then comes more
abbrev Sided : Sizes → (Outcome → Type 0) → Outcome → Type 0
Sided sizes P o = Limited (SidesPass sizes) o ⊎ (SidesAreSmall sizes × P o)

one_sided : (sizes : Sizes) (P : Outcome → Type 0) → One P → One (Sided sizes P)
one_sided sizes P p =
    either (Limited (SidesPass sizes)) (λ o. SidesAreSmall sizes × P o) (λ o o' a b. sides-none sizes a.0 a.1 b.0 a.2) (one_limited (SidesPass sizes) (one_side_passing sizes)) (behind (SidesAreSmall sizes) P p)

-- ---- a step that opens inner steps has one argument and one term after it
one_to : (facts : Facts) (forward : Bool) (step : Step) (f t f' t' : U) → Sides facts forward step f t → Sides facts forward step f' t' → t ≡ t'
one_to facts true step f t f' t' i k = let e = one-instance facts (out-Step step).rule (out-Step step).args f t f' t' i k in e.1
one_to facts false step f t f' t' i k = let e = one-instance facts (out-Step step).rule (out-Step step).args t f t' f' i k in e.0

module _ (facts : Facts) (outs : ℕ) (before : U) (step : Step) (after after' : U) (t : Exchanged facts outs before step after) (w : Exchanged facts outs before step after') where
  one_way : t.replaced.context ≡ w.replaced.context
  one_way = same_context t.replaced.context w.replaced.context (closed_path t.from outs (binders t.replaced.context)) (closed_path w.from outs (binders w.replaced.context))
      (t.replaced.at_path ∙ sym w.replaced.at_path) (sym t.replaced.is_from ∙ w.replaced.is_from)

  one_depth : binders t.replaced.context ≡ binders w.replaced.context
  one_depth = ap binders one_way

  one_exchanged : after ≡ after'
  one_exchanged = t.replaced.is_to ∙ ap (λ (d : Context). filled d (closed_path t.to outs (binders d))) one_way
      ∙ ap (λ (x : U). filled w.replaced.context (closed_path x outs (binders w.replaced.context))) (one_to facts (out-Step step).forward step t.from t.to w.from w.to t.sides w.sides)
      ∙ sym w.replaced.is_to

abbrev term_of : List Arg → U
term_of (Term x ∷ []) = x
term_of _ = u.Zero

module _ (facts : Facts) (level : Level) (step : Step) (x x' after after' : U) (m m' : ℕ) (o : OpensProof facts level step x after m) (p : OpensProof facts level step x' after' m') where
  one_x : x ≡ x'
  one_x = ap term_of (sym o.args ∙ p.args)

  one_after : after ≡ after'
  one_after = one_exchanged facts level.outs level.term step after after' o.exchanged p.exchanged

  one_outs : m ≡ m'
  one_outs = o.outs ∙ ap (λ (n : ℕ). level.outs + n) (one_depth facts level.outs level.term step after after' o.exchanged p.exchanged) ∙ sym p.outs

-- ---- a line among the steps, once it is read
module _ (facts : Facts) (number : ℕ) (level : Level) (waiting : List Waiting) (count : ℕ) where
  abbrev fails_here : Outcome
  fails_here = halts (Fails number)

  abbrev NoResult : Step → Type 0
  NoResult step = (after : U) → Rewrites facts level.outs level.term step after → ⊥

  abbrev HasResult : Step → Outcome → Type 0
  HasResult step o = (after : U) × Rewrites facts level.outs level.term step after × Leaves after (among (behind_step level after) waiting (count + 1)) o

  abbrev Applies : Step → Outcome → Type 0
  Applies step o = Only (NoResult step) fails_here o ⊎ HasResult step o

  one_applied : (step : Step) → One (Applies step)
  one_applied step = either (Only (NoResult step) fails_here) (HasResult step) (λ o o' a b. a.0 b.0 b.1) (only (NoResult step) fails_here) one
    where
      one : One (HasResult step)
      one o o' a b =
          let e : a.0 ≡ b.0 = one_result facts level.outs level.term step a.0 b.0 a.1 b.1 in
          one_left b.0 (among (behind_step level b.0) waiting (count + 1)) o o' (subst (λ (y : U). Leaves y (among (behind_step level y) waiting (count + 1)) o) e a.2) b.2

  abbrev OpensNothing : Step → Type 0
  OpensNothing step = (x after : U) (m : ℕ) → OpensProof facts level step x after m → ⊥

  abbrev opened : U → U → ℕ → Outcome
  opened x after m = goes (among (square_of x m) (record { behind = behind_step level after; root = x } ∷ waiting) (count + 1))

  abbrev OpensSome : Step → Outcome → Type 0
  OpensSome step o = (x : U) × (after : U) × (m : ℕ) × OpensProof facts level step x after m × (o ≡ opened x after m)

  abbrev Opening : Step → Outcome → Type 0
  Opening step o = Only (OpensNothing step) fails_here o ⊎ OpensSome step o

  one_opened : (step : Step) → One (Opening step)
  one_opened step = either (Only (OpensNothing step) fails_here) (OpensSome step) (λ o o' a b. a.0 b.0 b.1 b.2 b.3) (only (OpensNothing step) fails_here) one
    where
      one : One (OpensSome step)
      one o o' a b =
          a.4 ∙ ap (λ (x : U). opened x a.1 a.2) (one_x facts level step a.0 b.0 a.1 b.1 a.2 b.2 a.3 b.3) ∙ ap (λ (y : U). opened b.0 y a.2) (one_after facts level step a.0 b.0 a.1 b.1 a.2 b.2 a.3 b.3)
          ∙ ap (λ (m : ℕ). opened b.0 b.1 m) (one_outs facts level step a.0 b.0 a.1 b.1 a.2 b.2 a.3 b.3) ∙ sym b.4

  -- the count of steps, and how many inner proofs are open
  abbrev too_many : Outcome
  too_many = halts (Fault (Limit Steps (most_steps + 1)))

  abbrev too_nested : Outcome
  too_nested = halts (Fault (Limit Nesting (most_nesting + 1)))

  abbrev Counted : (Outcome → Type 0) → Outcome → Type 0
  Counted P o = Only (most_steps ≤ count) too_many o ⊎ ((count < most_steps) × P o)

  one_counted : (P : Outcome → Type 0) → One P → One (Counted P)
  one_counted P p = either (Only (most_steps ≤ count) too_many) (λ o. (count < most_steps) × P o) (λ o o' a b. absurd (omega (arith, a.0, b.0))) (only (most_steps ≤ count) too_many) (behind (count < most_steps) P p)

  abbrev Nested : (Outcome → Type 0) → Outcome → Type 0
  Nested P o = Only (most_nesting ≤ length waiting) too_nested o ⊎ ((length waiting < most_nesting) × P o)

  one_nested : (P : Outcome → Type 0) → One P → One (Nested P)
  one_nested P p =
      either (Only (most_nesting ≤ length waiting) too_nested) (λ o. (length waiting < most_nesting) × P o) (λ o o' a b. absurd (omega (arith, a.0, b.0))) (only (most_nesting ≤ length waiting) too_nested)
      (behind (length waiting < most_nesting) P p)

  -- the line that closes inner steps, and the last one
  abbrev Closing : List Waiting → Outcome → Type 0
  Closing [] o = o ≡ halts (Fault (BadLine number 1))
  Closing (inner ∷ rest) o = Only (level.term ≢ inner.root) fails_here o ⊎ ((level.term ≡ inner.root) × Leaves inner.behind.term (among inner.behind rest count) o)

  one_closed : (ws : List Waiting) → One (Closing ws)
  one_closed [] = λ o o' a b. a ∙ sym b
  one_closed (inner ∷ rest) =
      either (Only (level.term ≢ inner.root) fails_here) (λ o. (level.term ≡ inner.root) × Leaves inner.behind.term (among inner.behind rest count) o) (λ o o' a b. a.0 b.0) (only (level.term ≢ inner.root) fails_here)
      (behind (level.term ≡ inner.root) (Leaves inner.behind.term (among inner.behind rest count)) (one_left inner.behind.term (among inner.behind rest count)))

  abbrev Ending : List Waiting → Outcome → Type 0
  Ending [] o = o ≡ goes (ended level.term)
  Ending (inner ∷ rest) o = o ≡ halts (Fault (BadLine number 1))

  one_ended : (ws : List Waiting) → One (Ending ws)
  one_ended [] o o' a b = a ∙ sym b
  one_ended (inner ∷ rest) o o' a b = a ∙ sym b

  -- what comes of this reading
  abbrev Answered : Result LineStep LineFault → Outcome → Type 0
  Answered (Ok (Whole step)) o = Counted (Sided (sizes_for facts step) (Applies step)) o
  Answered (Ok (Opens step)) o = Counted (Nested (Sided (sizes_for facts step) (Opening step))) o
  Answered (Ok Closes) o = Closing waiting o
  Answered (Ok Ends) o = Ending waiting o
  Answered (Err (refusal.Bad column)) o = o ≡ halts (Fault (BadLine number column))
  Answered (Err (refusal.Limit what passing)) o = o ≡ halts (Fault (Limit what passing))
  Answered (Err refusal.NoMemory) o = ⊥

  one_answered : (answer : Result LineStep LineFault) → One (Answered answer)
  one_answered (Ok (Whole step)) = one_counted (Sided (sizes_for facts step) (Applies step)) (one_sided (sizes_for facts step) (Applies step) (one_applied step))
  one_answered (Ok (Opens step)) =
      one_counted (Nested (Sided (sizes_for facts step) (Opening step))) (one_nested (Sided (sizes_for facts step) (Opening step)) (one_sided (sizes_for facts step) (Opening step) (one_opened step)))
  one_answered (Ok Closes) = one_closed waiting
  one_answered (Ok Ends) = one_ended waiting
  one_answered (Err (refusal.Bad column)) = λ o o' a b. a ∙ sym b
  one_answered (Err (refusal.Limit what passing)) = λ o o' a b. a ∙ sym b
  one_answered (Err refusal.NoMemory) = λ o o' a b. absurd a

  record Reads (text : List ℕ) (o : Outcome) : Type 0 where
    pub answer : Result LineStep LineFault
    pub told : answer ≡ Err refusal.NoMemory → ⊥
    pub is : IsAnswer text answer
    pub answered : Answered answer o

  one_read : (text : List ℕ) → One (Reads text)
  one_read text o o' a b =
      let e : a.answer ≡ b.answer = reading.one_answer text a.answer b.answer a.told b.told a.is b.is in
      one_answered b.answer o o' (subst (λ (answer : Result LineStep LineFault). Answered answer o) e a.answered) b.answered

-- ---- a line at any place
one_version : (m n : ℕ) → m < 2 ^ 32 → n < 2 ^ 32 → header m ≡ header n → m ≡ n
one_version m n v w e =
    let i : decimal m ++ newline ≡ decimal n ++ newline = append_cancel_left (codes "udp-proof ") (decimal m ++ newline) (decimal n ++ newline) e in
    decimal_injective m n (omega (arith, v)) (omega (arith, w)) (append_cancel_right (decimal m) (decimal n) newline i)

module _ (facts : Facts) (outs number : ℕ) where
  abbrev NoHeader : List ℕ → Type 0
  NoHeader text = (version : ℕ) → version < 2 ^ 32 → text ≡ header version → ⊥

  abbrev OtherVersion : List ℕ → Outcome → Type 0
  OtherVersion text o = (version : ℕ) × (version < 2 ^ 32) × (text ≡ header version) × (version ≢ 1) × (o ≡ halts (Fault BadVersion))

  abbrev AnyHeader : U → List ℕ → Outcome → Type 0
  AnyHeader x text o = Only (text ≡ header 1) (goes (versioned x)) o ⊎ OtherVersion text o

  abbrev Comes : Progress → List ℕ → Outcome → Type 0
  Comes (begun x) text o = Only (NoHeader text) (halts (Fault BadHeader)) o ⊎ AnyHeader x text o
  Comes (versioned x) text o = Only (text ≢ width_line outs) (halts (Fault BadOuts)) o ⊎ Only (text ≡ width_line outs) (goes (among (record { outs = outs; term = x }) [] 0)) o
  Comes (among level waiting count) text o = Reads facts number level waiting count text o
  Comes (ended x) text o = o ≡ halts (Fault AfterEnd)

  no-header : (x : U) (text : List ℕ) (o : Outcome) → NoHeader text → AnyHeader x text o → ⊥
  no-header x text o n (inl a) = n 1 (omega arith) a.0
  no-header x text o n (inr a) = n a.0 a.1 a.2

  one_coming : (progress : Progress) (text : List ℕ) → One (Comes progress text)
  one_coming (begun x) text =
      either (Only (NoHeader text) (halts (Fault BadHeader))) (AnyHeader x text) (λ o o' a b. no-header x text o' a.0 b) (only (NoHeader text) (halts (Fault BadHeader)))
      (either (Only (text ≡ header 1) (goes (versioned x))) (OtherVersion text) (λ o o' a b. b.3 (one_version b.0 1 b.1 (omega arith) (sym b.2 ∙ a.0))) (only (text ≡ header 1) (goes (versioned x)))
      (λ o o' a b. a.4 ∙ sym b.4))
  one_coming (versioned x) text =
      either (Only (text ≢ width_line outs) (halts (Fault BadOuts))) (Only (text ≡ width_line outs) (goes (among (record { outs = outs; term = x }) [] 0))) (λ o o' a b. a.0 b.0)
      (only (text ≢ width_line outs) (halts (Fault BadOuts))) (only (text ≡ width_line outs) (goes (among (record { outs = outs; term = x }) [] 0)))
  one_coming (among level waiting count) text = one_read facts number level waiting count text
  one_coming (ended x) text = λ o o' a b. a ∙ sym b

  taken-comes : (before : Progress) (text : List ℕ) (after : Progress) → Takes facts outs before text after → Comes before text (goes after)
  taken-comes _ text _ (j.version e) = inr (inl (e, refl))
  taken-comes _ text _ (j.width e) = inr (e, refl)
  taken-comes _ text _ (j.makes {step = s} {after = after} a r small) =
      record { answer = Ok (Whole s); told = λ e. cc e; is = a.read; answered = inr (a.room, inr (a.sides, inr (after, r, inr (small, refl)))) }
  taken-comes _ text _ (j.opens {step = s} {x = x} {after = after} {inner_outs = m} a o) =
      record { answer = Ok (Opens s); told = λ e. cc e; is = a.read; answered = inr (a.room.0, inr (a.room.1, inr (a.sides, inr (x, after, m, o, refl)))) }
  taken-comes _ text _ (j.closes read same small) = record { answer = Ok Closes; told = λ e. cc e; is = read; answered = inr (same, inr (small, refl)) }
  taken-comes _ text _ (j.ends read) = record { answer = Ok Ends; told = λ e. cc e; is = read; answered = refl }

  stopped-comes : (before : Progress) (text : List ℕ) (stop : Stop) → Stops facts outs number before text stop → Comes before text (halts stop)
  stopped-comes _ text _ (j.no_header n) = inl (n, refl)
  stopped-comes _ text _ (j.other_version version w e n) = inr (inr (version, w, e, n, refl))
  stopped-comes _ text _ (j.other_width n) = inl (n, refl)
  stopped-comes _ text _ (j.bad {column = column} b) = record { answer = Err (refusal.Bad column); told = λ e. cc e; is = b; answered = refl }
  stopped-comes _ text _ (j.argument_passes {what = what} {passing = passing} p) = record { answer = Err (refusal.Limit what passing); told = λ e. cc e; is = p; answered = refl }
  stopped-comes _ text _ (j.closes_nothing read) = record { answer = Ok Closes; told = λ e. cc e; is = read; answered = refl }
  stopped-comes _ text _ (j.ends_within read) = record { answer = Ok Ends; told = λ e. cc e; is = read; answered = refl }
  stopped-comes _ text _ j.late = refl
  stopped-comes _ text _ (j.too_many false s read many) = record { answer = Ok (Whole s); told = λ e. cc e; is = read; answered = inl (many, refl) }
  stopped-comes _ text _ (j.too_many true s read many) = record { answer = Ok (Opens s); told = λ e. cc e; is = read; answered = inl (many, refl) }
  stopped-comes _ text _ (j.too_nested {step = s} read few deep) = record { answer = Ok (Opens s); told = λ e. cc e; is = read; answered = inr (few, inl (deep, refl)) }
  stopped-comes _ text _ (j.side_passes {what = what} {passing = passing} false s read room p) =
      record { answer = Ok (Whole s); told = λ e. cc e; is = read; answered = inr (room, inl (what, passing, p, refl)) }
  stopped-comes _ text _ (j.side_passes {what = what} {passing = passing} true s read room p) =
      record { answer = Ok (Opens s); told = λ e. cc e; is = read; answered = inr (room.0, inr (room.1, inl (what, passing, p, refl))) }
  stopped-comes _ text _ (j.fails {step = s} a n) = record { answer = Ok (Whole s); told = λ e. cc e; is = a.read; answered = inr (a.room, inr (a.sides, inl (n, refl))) }
  stopped-comes _ text _ (j.opens_nothing {step = s} a n) = record { answer = Ok (Opens s); told = λ e. cc e; is = a.read; answered = inr (a.room.0, inr (a.room.1, inr (a.sides, inl (n, refl)))) }
  stopped-comes _ text _ (j.passes {step = s} {after = after} {what = what} {passing = passing} a r p) =
      record { answer = Ok (Whole s); told = λ e. cc e; is = a.read; answered = inr (a.room, inr (a.sides, inr (after, r, inl (what, passing, p, refl)))) }
  stopped-comes _ text _ (j.inner_end_differs read n) = record { answer = Ok Closes; told = λ e. cc e; is = read; answered = inl (n, refl) }
  stopped-comes _ text _ (j.passes_behind {what = what} {passing = passing} read same p) = record { answer = Ok Closes; told = λ e. cc e; is = read; answered = inr (same, inl (what, passing, p, refl)) }

-- ---- lists of lines
nothing-more : (xs : List (List ℕ)) (text : List ℕ) → [] ≡ xs ++ text ∷ [] → ⊥
nothing-more [] text e = cc e
nothing-more (x ∷ xs) text e = cc e

pub record SameEnd (xs ys : List (List ℕ)) (text other : List ℕ) : Type 0 where
  pub prefixes : xs ≡ ys
  pub lasts : text ≡ other

same_end : (xs ys : List (List ℕ)) (text other : List ℕ) → xs ++ text ∷ [] ≡ ys ++ other ∷ [] → SameEnd xs ys text other
same_end [] [] text other e = record { prefixes = refl; lasts = cc }
same_end [] (y ∷ ys) text other e = let i : [] ≡ ys ++ other ∷ [] = cc in absurd (nothing-more ys other i)
same_end (x ∷ xs) [] text other e = let i : xs ++ text ∷ [] ≡ [] = cc in absurd (nothing-more xs text (sym i))
same_end (x ∷ xs) (y ∷ ys) text other e =
    let head : x ≡ y = cc in
    let i : xs ++ text ∷ [] ≡ ys ++ other ∷ [] = cc in
    let s = same_end xs ys text other i in
    record { prefixes = ap (λ (z : List ℕ). z ∷ xs) head ∙ ap (λ (zs : List (List ℕ)). y ∷ zs) s.prefixes; lasts = s.lasts }

abbrev lines_in : State → ℕ
lines_in (on lines progress) = lines
lines_in (stopped stop) = 0

abbrev progress_in : Progress → State → Progress
progress_in default (on lines progress) = progress
progress_in default (stopped stop) = default

abbrev next_of : Progress → Outcome → Progress
next_of default (goes progress) = progress
next_of default (halts stop) = default

abbrev halted : Stop → Outcome → State
halted default (goes progress) = stopped default
halted default (halts stop) = stopped stop

module _ (facts : Facts) (outs : ℕ) (left : U) where
  abbrev Told : State → Type 0
  Told state = state ≡ stopped (Fault NoMemory) → ⊥

  -- what follows the same lines is the same
  same_coming : (m n : ℕ) (p q : Progress) (text other : List ℕ) (o o' : Outcome) → on m p ≡ on n q → text ≡ other → Comes facts outs (m + 1) p text o → Comes facts outs (n + 1) q other o' → o ≡ o'
  same_coming m n p q text other o o' e t a b =
      let i : m ≡ n = ap lines_in e in
      let k : p ≡ q = ap (progress_in p) e in
      one_coming facts outs (n + 1) q other o o'
      (subst (λ (l : ℕ). Comes facts outs (l + 1) q other o) i (subst (λ (r : Progress). Comes facts outs (m + 1) r other o) k (subst (λ (x : List ℕ). Comes facts outs (m + 1) p x o) t a))) b

  pub one_state : (xs ys : List (List ℕ)) (s s' : State) → xs ≡ ys → Told s → Told s' → Stands facts outs left xs s → Stands facts outs left ys s' → s ≡ s'
  one_state _ _ _ _ e n m none none = refl
  one_state _ _ _ _ e n m none (takes {texts = ys} {text = y} b k) = absurd (nothing-more ys y e)
  one_state _ _ _ _ e n m none (stops {texts = ys} {text = y} b k) = absurd (nothing-more ys y e)
  one_state _ _ _ _ e n m none (stays {texts = ys} y b) = absurd (nothing-more ys y e)
  one_state _ _ _ _ e n m none no_memory = absurd (m refl)
  one_state _ _ _ _ e n m (takes {texts = xs} {text = x} a h) none = absurd (nothing-more xs x (sym e))
  one_state _ _ _ _ e n m (takes {texts = xs} {lines = i} {before = p} {after = after} {text = x} a h) (takes {texts = ys} {lines = l} {before = q} {after = other} {text = y} b k) =
      let s = same_end xs ys x y e in
      let before = one_state xs ys (on i p) (on l q) s.prefixes (λ z. cc z) (λ z. cc z) a b in
      let o : goes after ≡ goes other = same_coming i l p q x y (goes after) (goes other) before s.lasts (taken-comes facts outs (i + 1) p x after h) (taken-comes facts outs (l + 1) q y other k) in
      ap (λ (z : ℕ). on (z + 1) after) (ap lines_in before) ∙ ap (on (l + 1)) (ap (next_of after) o)
  one_state _ _ _ _ e n m (takes {texts = xs} {lines = i} {before = p} {after = after} {text = x} a h) (stops {texts = ys} {lines = l} {before = q} {text = y} {stop = stop} b k) =
      let s = same_end xs ys x y e in
      let before = one_state xs ys (on i p) (on l q) s.prefixes (λ z. cc z) (λ z. cc z) a b in
      let o : goes after ≡ halts stop = same_coming i l p q x y (goes after) (halts stop) before s.lasts (taken-comes facts outs (i + 1) p x after h) (stopped-comes facts outs (l + 1) q y stop k) in
      absurd (cc o)
  one_state _ _ _ _ e n m (takes {texts = xs} {lines = i} {before = p} {text = x} a h) (stays {texts = ys} {stop = stop} y b) =
      let s = same_end xs ys x y e in
      let before = one_state xs ys (on i p) (stopped stop) s.prefixes (λ z. cc z) m a b in
      absurd (cc before)
  one_state _ _ _ _ e n m (takes a h) no_memory = absurd (m refl)
  one_state _ _ _ _ e n m (stops {texts = xs} {text = x} a h) none = absurd (nothing-more xs x (sym e))
  one_state _ _ _ _ e n m (stops {texts = xs} {lines = i} {before = p} {text = x} {stop = stop} a h) (takes {texts = ys} {lines = l} {before = q} {after = other} {text = y} b k) =
      let s = same_end xs ys x y e in
      let before = one_state xs ys (on i p) (on l q) s.prefixes (λ z. cc z) (λ z. cc z) a b in
      let o : halts stop ≡ goes other = same_coming i l p q x y (halts stop) (goes other) before s.lasts (stopped-comes facts outs (i + 1) p x stop h) (taken-comes facts outs (l + 1) q y other k) in
      absurd (cc o)
  one_state _ _ _ _ e n m (stops {texts = xs} {lines = i} {before = p} {text = x} {stop = stop} a h) (stops {texts = ys} {lines = l} {before = q} {text = y} {stop = other} b k) =
      let s = same_end xs ys x y e in
      let before = one_state xs ys (on i p) (on l q) s.prefixes (λ z. cc z) (λ z. cc z) a b in
      let o : halts stop ≡ halts other = same_coming i l p q x y (halts stop) (halts other) before s.lasts (stopped-comes facts outs (i + 1) p x stop h) (stopped-comes facts outs (l + 1) q y other k) in
      ap (halted stop) o
  one_state _ _ _ _ e n m (stops {texts = xs} {lines = i} {before = p} {text = x} a h) (stays {texts = ys} {stop = stop} y b) =
      let s = same_end xs ys x y e in
      let before = one_state xs ys (on i p) (stopped stop) s.prefixes (λ z. cc z) m a b in
      absurd (cc before)
  one_state _ _ _ _ e n m (stops a h) no_memory = absurd (m refl)
  one_state _ _ _ _ e n m (stays {texts = xs} x a) none = absurd (nothing-more xs x (sym e))
  one_state _ _ _ _ e n m (stays {texts = xs} {stop = stop} x a) (takes {texts = ys} {lines = l} {before = q} {text = y} b k) =
      let s = same_end xs ys x y e in
      let before = one_state xs ys (stopped stop) (on l q) s.prefixes n (λ z. cc z) a b in
      absurd (cc before)
  one_state _ _ _ _ e n m (stays {texts = xs} {stop = stop} x a) (stops {texts = ys} {lines = l} {before = q} {text = y} b k) =
      let s = same_end xs ys x y e in
      let before = one_state xs ys (stopped stop) (on l q) s.prefixes n (λ z. cc z) a b in
      absurd (cc before)
  one_state _ _ _ _ e n m (stays {texts = xs} {stop = stop} x a) (stays {texts = ys} {stop = other} y b) =
      one_state xs ys (stopped stop) (stopped other) (same_end xs ys x y e).prefixes n m a b
  one_state _ _ _ _ e n m (stays x a) no_memory = absurd (m refl)
  one_state _ _ _ _ e n m no_memory b = absurd (n refl)

  -- ---- and so bytes have one answer
  abbrev Answer : Type 0
  Answer = Result Verdict ProofFault

  one_finish : (right : U) (state : State) (a b : Answer) → Finishes right state a → Finishes right state b → a ≡ b
  one_finish right (on lines (begun x)) a b f g = f ∙ sym g
  one_finish right (on lines (versioned x)) a b f g = f ∙ sym g
  one_finish right (on lines (among level waiting count)) a b f g = f ∙ sym g
  one_finish right (on lines (ended x)) a b (inl f) (inl g) = f.1 ∙ sym g.1
  one_finish right (on lines (ended x)) a b (inl f) (inr g) = absurd (g.0 f.0)
  one_finish right (on lines (ended x)) a b (inr f) (inl g) = absurd (f.0 g.0)
  one_finish right (on lines (ended x)) a b (inr f) (inr g) = f.1 ∙ sym g.1
  one_finish right (stopped (Fails line)) a b f g = f ∙ sym g
  one_finish right (stopped (Fault fault)) a b f g = f ∙ sym g

  told_by : (right : U) (state : State) (a : Answer) → (a ≡ Err NoMemory → ⊥) → Finishes right state a → Told state
  told_by right state a n f e = n (subst (λ (s : State). Finishes right s a) e f)

  pub one_answer : (right : U) (bytes : List ℕ) (a b : Answer) → (a ≡ Err NoMemory → ⊥) → (b ≡ Err NoMemory → ⊥) → Shows facts outs left right bytes a → Shows facts outs left right bytes b → a ≡ b
  one_answer right bytes a b n m s t =
      let same : s.state ≡ t.state = one_state s.lines t.lines s.state t.state (one_lines bytes bytes s.lines t.lines refl s.are_lines t.are_lines) (told_by right s.state a n s.finishes) (told_by right t.state b m t.finishes) s.stands t.stands in
      one_finish right t.state a b (subst (λ (z : State). Finishes right z a) same s.finishes) t.finishes
