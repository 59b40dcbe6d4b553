-- The readers step by step.
use Rattle.std.proofs.Common.{◌≡◌, ℕ, zero, suc, ◌+◌, ◌-◌, ◌<◌, ◌≤◌, Bool, true, false, List, [], ◌∷◌, ◌++◌, length, get_or, drop, drop-cons, add-one, Some, None, Ok, Err, refl, sym, ap, ◌∙◌, subst, arith, append_assoc}
use Rattle.std.specs.Prelude.{if◌then◌else◌, ◌==◌}
use Rattle.std.proofs.lemmas.List.{append-nil, drop_all}
use Rattle.u_terms.specs.declared.term.Val.{Val}
use Rattle.proof_text.specs.declared.cursor.Stop.{Stop}
use Rattle.proof_text.specs.declared.cursor.Stop.TheVariants.{Unexpected, TooMany, TooDeep, NoMemory}
use Rattle.proof_text.specs.Signs.{code}
use Rattle.proof_text.specs.Grammar.{begins_term, begins_value}
use Rattle.proof_text.specs.Reading.{Rest, Reading, Stops, ◌>>=◌, next, passed, bad, expected, entered, longest_at, values_with, values_at, term_with, value_with, term_at, value_at}
use Rattle.proof_text.specs.Signs.{Sign, sign}
use Rattle.proof_text.specs.Signs as s
use Rattle.proof_text.specs.Reading.{word_at, run_at, runs_with, runs_at, last_of, argument_at, arguments_at}
use Rattle.proof_text.specs.declared.path.Last.{Last}
use Rattle.proof_text.specs.declared.kinds.Kind.{Kind}
use Rattle.proof_text.specs.declared.kinds.Kind.TheVariants as kind
use Rattle.u_deriv.specs.declared.run.Run.{Run}
use Rattle.u_rules.specs.declared.rule.Arg.{Arg}
use Rattle.proof_text.specs.NumberSteps.{Lengthens, Ends}

-- ---- numbers
longest-longer : (m nodes : ℕ) (text : List ℕ) (n : ℕ) (after : Rest) → Lengthens m (record { nodes = nodes; text = text }) n after
    → (longest_at n after ≡ longest_at m (record { nodes = nodes; text = text })) × (length after.text < length text)
longest-longer m nodes [] n after l = let e = l.is in cc
longest-longer m nodes (byte ∷ text) n after l = (rw (l.is, l.number, l.moved) refl, rw (l.moved) (omega arith))

pub goes_on : (m : ℕ) (before : Rest) (n : ℕ) (after : Rest) → Lengthens m before n after → longest_at n after ≡ longest_at m before
goes_on m before n after l = (longest-longer m before.nodes before.text n after l).0

pub fewer : (m : ℕ) (before : Rest) (n : ℕ) (after : Rest) → Lengthens m before n after → length after.text < length before.text
fewer m before n after l = (longest-longer m before.nodes before.text n after l).1

pub greater : (m : ℕ) (before : Rest) (n : ℕ) (after : Rest) → Lengthens m before n after → m ≤ n
greater m before n after l = omega (arith, l.number)

longest-ends : (m nodes : ℕ) (text : List ℕ) (after : Rest) → Ends m (record { nodes = nodes; text = text }) after → longest_at m (record { nodes = nodes; text = text }) ≡ (Ok m, after)
longest-ends m nodes [] after l = rw (l.still) refl
longest-ends m nodes (byte ∷ text) after l = rw (l.is_not, l.still) refl

pub ends : (m : ℕ) (before after : Rest) → Ends m before after → longest_at m before ≡ (Ok m, after)
ends m before after l = longest-ends m before.nodes before.text after l

-- ---- terms
-- with no levels left none is entered
not_entered : {A : Type 0} (rest : Rest) (f g : Unit {0} → Rest → Reading A) → (entered 0 rest >>= f) ≡ (entered 0 rest >>= g)
not_entered {A = A} rest f g = go (rest.nodes == 0)
  where
    go : (full : Bool) → ((if full then (Err TooMany, rest) else (Err TooDeep, rest)) >>= f) ≡ ((if full then (Err TooMany, rest) else (Err TooDeep, rest)) >>= g)
    go true = refl
    go false = refl

pub term_step : (levels : ℕ) (rest : Rest)
    → term_at levels rest ≡ (if begins_term (next rest) then (entered levels rest >>= λ e r. term_with (term_at (levels - 1)) (value_at (levels - 1)) (next rest) r) else bad rest)
unfolding term_at
term_step zero rest = rw (not_entered rest (λ e r. bad r) (λ e r. term_with (term_at (0 - 1)) (value_at (0 - 1)) (next rest) r)) refl
term_step (suc levels) rest = let e : suc levels - 1 ≡ levels = omega arith in rw e refl

pub value_step : (levels : ℕ) (rest : Rest)
    → value_at levels rest ≡ (if begins_value (next rest) then (entered levels rest >>= λ e r. value_with (term_at (levels - 1)) (value_at (levels - 1)) (next rest) r) else bad rest)
unfolding value_at
value_step zero rest = rw (not_entered rest (λ e r. bad r) (λ e r. value_with (term_at (0 - 1)) (value_at (0 - 1)) (next rest) r)) refl
value_step (suc levels) rest = let e : suc levels - 1 ≡ levels = omega arith in rw e refl

-- ---- values up to the closing parenthesis
-- those that were read before stand before
abbrev pub behind : {A : Type 0} → List A → Reading (List A) → Reading (List A)
behind prefix reading = reading >>= λ others r. (Ok (prefix ++ others), r)

pub behind-none : {A : Type 0} (reading : Reading (List A)) → behind [] reading ≡ reading
behind-none (Ok items, r) = refl
behind-none (Err stop, r) = refl

behind-more : {A : Type 0} (prefix : List A) (value : A) (reading : Reading (List A))
    → behind prefix (reading >>= λ others r. (Ok (value ∷ others), r)) ≡ behind (prefix ++ value ∷ []) reading
behind-more prefix value (Err stop, r) = refl
behind-more prefix value (Ok others, r) = ap (λ (vs : List _). (Ok vs, r)) (sym (append_assoc prefix (value ∷ []) others))

behind-last : (prefix : List Val) (value : Val) (reading : Reading (Unit {0}))
    → behind prefix (reading >>= λ c r. (Ok (value ∷ []), r)) ≡ (reading >>= λ c r. (Ok (prefix ++ value ∷ []), r))
behind-last prefix value (Ok c, r) = refl
behind-last prefix value (Err stop, r) = refl

values_at-step : (read : Rest → Reading Val) (most : ℕ) (rest : Rest) → 0 < most → values_at read most rest ≡ (read rest >>= values_with (values_at read (most - 1)))
unfolding values_at
values_at-step read zero rest h = absurd (omega arith)
values_at-step read (suc most) rest h = let e : suc most - 1 ≡ most = omega arith in rw e refl

module _ (read : Rest → Reading Val) (prefix : List Val) (most : ℕ) (rest : Rest) (whole : Reading (List Val)) (so_far : behind prefix (values_at read most rest) ≡ whole) where
  -- none may come any more
  pub values-over : most ≡ 0 → whole ≡ bad rest
  unfolding values_at
  values-over e = sym so_far ∙ (rw e refl)

  module _ (h : 0 < most) where
    pub values-stopped : (stop : Stop) (left : Rest) → read rest ≡ (Err stop, left) → whole ≡ (Err stop, left)
    values-stopped stop left e = sym so_far ∙ (rw (values_at-step read most rest h, e) refl)

    -- the same, as code tells it
    pub values-halted : (stop : Stop) (left : Rest) → Stops stop left (read rest) → Stops stop left whole
    values-halted Unexpected left e = values-stopped Unexpected left e
    values-halted TooMany left e = values-stopped TooMany left e
    values-halted TooDeep left e = values-stopped TooDeep left e
    values-halted NoMemory left e = tt

    module _ (value : Val) (left : Rest) (e : read rest ≡ (Ok value, left)) where
      pub values-next : (code (next left) == 22) ≡ true → behind (prefix ++ value ∷ []) (values_at read (most - 1) (passed left)) ≡ whole
      values-next c = sym (behind-more prefix value (values_at read (most - 1) (passed left))) ∙ sym (rw (values_at-step read most rest h, e, c) refl) ∙ so_far

      pub values-last : (code (next left) == 22) ≡ false → whole ≡ (expected 21 left >>= λ c r. (Ok (prefix ++ value ∷ []), r))
      values-last c = sym so_far ∙ (rw (values_at-step read most rest h, e, c) (behind-last prefix value (expected 21 left)))

-- ---- words
word_at-next : (bytes : List ℕ) (i : ℕ) (rest : Rest) → i < length bytes
    → word_at (drop i bytes) rest ≡ (expected (code (sign (get_or bytes i 0))) rest >>= λ o r. word_at (drop (i + 1) bytes) r)
unfolding word_at
word_at-next bytes i rest h = rw (drop-cons bytes i 0, add-one) refl

module _ (bytes : List ℕ) (i : ℕ) (rest : Rest) (whole : Reading (Unit {0})) (so_far : word_at (drop i bytes) rest ≡ whole) where
  pub word-over : length bytes ≤ i → whole ≡ (Ok tt, rest)
  unfolding word_at
  word-over e = sym so_far ∙ (rw (drop_all i bytes e) refl)

  module _ (h : i < length bytes) (k : Sign) (is : k ≡ sign (get_or bytes i 0)) where
    word-stopped : (stop : Stop) (left : Rest) → expected (code k) rest ≡ (Err stop, left) → whole ≡ (Err stop, left)
    word-stopped stop left e =
        let o : expected (code (sign (get_or bytes i 0))) rest ≡ (Err stop, left) = subst (λ z. expected (code z) rest ≡ (Err stop, left)) is e in
        sym so_far ∙ (rw (word_at-next bytes i rest h, o) refl)

    pub word-halted : (stop : Stop) (left : Rest) → Stops stop left (expected (code k) rest) → Stops stop left whole
    word-halted Unexpected left e = word-stopped Unexpected left e
    word-halted TooMany left e = word-stopped TooMany left e
    word-halted TooDeep left e = word-stopped TooDeep left e
    word-halted NoMemory left e = tt

    pub word-next : (left : Rest) → expected (code k) rest ≡ (Ok tt, left) → word_at (drop (i + 1) bytes) left ≡ whole
    word-next left e =
        let o : expected (code (sign (get_or bytes i 0))) rest ≡ (Ok tt, left) = subst (λ z. expected (code z) rest ≡ (Ok tt, left)) is e in
        sym (rw (word_at-next bytes i rest h, o) refl) ∙ so_far

-- ---- paths
runs_at-step : (most : ℕ) (l : Last) (rest : Rest) → 0 < most → runs_at most l rest ≡ (run_at l rest >>= runs_with (runs_at (most - 1)))
unfolding runs_at
runs_at-step zero l rest h = absurd (omega arith)
runs_at-step (suc most) l rest h = let e : suc most - 1 ≡ most = omega arith in rw e refl

module _ (prefix : List Run) (most : ℕ) (l : Last) (rest : Rest) (whole : Reading (List Run)) (so_far : behind prefix (runs_at most l rest) ≡ whole) where
  -- none may come any more
  pub runs-over : most ≡ 0 → whole ≡ (Ok prefix, rest)
  unfolding runs_at
  runs-over e = sym so_far ∙ (rw (e, append-nil prefix) refl)

  module _ (h : 0 < most) where
    runs-stopped : (stop : Stop) (left : Rest) → run_at l rest ≡ (Err stop, left) → whole ≡ (Err stop, left)
    runs-stopped stop left e = sym so_far ∙ (rw (runs_at-step most l rest h, e) refl)

    -- the same, as code tells it
    pub runs-halted : (stop : Stop) (left : Rest) → Stops stop left (run_at l rest) → Stops stop left whole
    runs-halted Unexpected left e = runs-stopped Unexpected left e
    runs-halted TooMany left e = runs-stopped TooMany left e
    runs-halted TooDeep left e = runs-stopped TooDeep left e
    runs-halted NoMemory left e = tt

    pub runs-last : (left : Rest) → run_at l rest ≡ (Ok None, left) → whole ≡ (Ok prefix, left)
    runs-last left e = sym so_far ∙ (rw (runs_at-step most l rest h, e, append-nil prefix) refl)

    pub runs-next : (run : Run) (left : Rest) → run_at l rest ≡ (Ok (Some run), left) → behind (prefix ++ run ∷ []) (runs_at (most - 1) (last_of run) left) ≡ whole
    runs-next run left e = sym (behind-more prefix run (runs_at (most - 1) (last_of run) left)) ∙ sym (rw (runs_at-step most l rest h, e) refl) ∙ so_far

-- ---- arguments
arguments_at-step : (kinds : List Kind) (i : ℕ) (rest : Rest) → i < length kinds
    → arguments_at (drop i kinds) rest ≡ (expected (code s.Space) rest >>= λ o r. argument_at (get_or kinds i kind.Term) r >>= λ a r. arguments_at (drop (i + 1) kinds) r >>= λ others r. (Ok (a ∷ others), r))
unfolding arguments_at
arguments_at-step kinds i rest h = rw (drop-cons kinds i kind.Term, add-one) refl

module _ (prefix : List Arg) (kinds : List Kind) (i : ℕ) (rest : Rest) (whole : Reading (List Arg)) (so_far : behind prefix (arguments_at (drop i kinds) rest) ≡ whole) where
  pub arguments-over : length kinds ≤ i → whole ≡ (Ok prefix, rest)
  unfolding arguments_at
  arguments-over e = sym so_far ∙ (rw (drop_all i kinds e, append-nil prefix) refl)

  module _ (h : i < length kinds) where
    arguments-stopped : (stop : Stop) (left : Rest) → expected (code s.Space) rest ≡ (Err stop, left) → whole ≡ (Err stop, left)
    arguments-stopped stop left e = sym so_far ∙ (rw (arguments_at-step kinds i rest h, e) refl)

    pub arguments-halted : (stop : Stop) (left : Rest) → Stops stop left (expected (code s.Space) rest) → Stops stop left whole
    arguments-halted Unexpected left e = arguments-stopped Unexpected left e
    arguments-halted TooMany left e = arguments-stopped TooMany left e
    arguments-halted TooDeep left e = arguments-stopped TooDeep left e
    arguments-halted NoMemory left e = tt

    module _ (middle : Rest) (o : expected (code s.Space) rest ≡ (Ok tt, middle)) where
      argument-stopped : (stop : Stop) (left : Rest) → argument_at (get_or kinds i kind.Term) middle ≡ (Err stop, left) → whole ≡ (Err stop, left)
      argument-stopped stop left e = sym so_far ∙ (rw (arguments_at-step kinds i rest h, o, e) refl)

      pub argument-halted : (stop : Stop) (left : Rest) → Stops stop left (argument_at (get_or kinds i kind.Term) middle) → Stops stop left whole
      argument-halted Unexpected left e = argument-stopped Unexpected left e
      argument-halted TooMany left e = argument-stopped TooMany left e
      argument-halted TooDeep left e = argument-stopped TooDeep left e
      argument-halted NoMemory left e = tt

      pub arguments-next : (a : Arg) (left : Rest) → argument_at (get_or kinds i kind.Term) middle ≡ (Ok a, left) → behind (prefix ++ a ∷ []) (arguments_at (drop (i + 1) kinds) left) ≡ whole
      arguments-next a left e = sym (behind-more prefix a (arguments_at (drop (i + 1) kinds) left)) ∙ sym (rw (arguments_at-step kinds i rest h, o, e) refl) ∙ so_far
