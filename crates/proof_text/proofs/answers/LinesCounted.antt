-- The nodes of each argument of a line are counted.
use Rattle.std.proofs.Common.{◌≡◌, ℕ, zero, suc, ◌+◌, ◌*◌, ◌≤◌, ◌<◌, Bool, true, false, not, ◌&&◌, ◌||◌, List, [], ◌∷◌, ◌++◌, Option, Some, None, Ok, Err, refl, sym, ap, ◌∙◌, subst, arith, append_assoc}
use Rattle.std.specs.Prelude.{◌==◌, nat_lt, if◌then◌else◌, codes}
use Rattle.std.specs.List.{list_all}
use Rattle.std.proofs.lemmas.Bool.{eqb-true, ltb-true}
use Rattle.grammar.proofs.languages.Sets.{and_left, and_right}
use Rattle.u_rules.specs.declared.rule.Rule.{Rule}
use Rattle.u_rules.specs.declared.rule.Arg.{Arg}
use Rattle.u_rules.specs.declared.rule.Arg.TheVariants as arg
use Rattle.u_deriv.specs.declared.run.Run.{Run}
use Rattle.u_deriv.specs.declared.run.Run.TheVariants as run
use Rattle.proof_text.specs.declared.kinds.Kind.{Kind}
use Rattle.proof_text.specs.declared.kinds.Kind.TheVariants as kind
use Rattle.proof_text.specs.declared.path.Last.{Last}
use Rattle.proof_text.specs.declared.path.Last.TheVariants as last
use Rattle.proof_text.specs.declared.line.LineStep.{LineStep}
use Rattle.proof_text.specs.declared.line.LineStep.TheVariants.{Closes, Ends}
use Rattle.proof_text.specs.declared.cursor.Stop.{Stop}
use Rattle.proof_text.specs.declared.cursor.Stop.TheVariants.{Unexpected, TooMany, TooDeep, NoMemory}
use Rattle.proof_text.specs.Limits.{most_nodes, most_depth}
use Rattle.proof_text.specs.Signs.{Sign, code, sign}
use Rattle.proof_text.specs.RuleNames.{Names, found, word, either, names, mul_names, squash_names, sum_names, not_names, eq_names, s_names, kinds_of, has_inner}
use Rattle.proof_text.specs.Grammar.{made}
use Rattle.proof_text.specs.Reading.{Rest, Reading, ◌>>=◌, next, passed, bad, expected, fresh, is_longer, longest, longest_at, number_at, count_at, turns_at, term_at, value_at, list_of, word_at, may_be_left, may_be_right, may_be_inside, run_at, runs_with, runs_at, path_at, last_of, direction_at, rule_at, argument_at, arguments_at, end_at, step_at, line_at, if_over, alone}
use Rattle.proof_text.specs.Begun.{Begun, is_parenthesis, opens, begun_with, begun_from, KeepsNodes}
use Rattle.proof_text.proofs.answers.Counting.{Kept, at_end, then_more, begun_from-append, kept-append, Counts, term_counts, value_counts, values_list_counts}
use Rattle.proof_text.proofs.reading.NumbersRead.{not_equal}

-- so far no argument has too many nodes, and one that may begin has none
pub record Fine (b : Begun) : Type 0 where
  pub few : b.nodes ≤ most_nodes
  pub none : b.may ≡ true → b.nodes ≡ 0

pub record Stays (b : Begun) (before after : Rest) : Type 0 where
  pub taken : List ℕ
  pub whole : before.text ≡ taken ++ after.text
  pub kept : Kept most_nodes b taken
  pub fine : Fine (begun_from b taken)

-- the next byte begins a node that is too many
pub record IsTooMany (b : Begun) (after : Rest) : Type 0 where
  pub byte : ℕ
  pub more : List ℕ
  pub text : after.text ≡ byte ∷ more
  pub nodes : (begun_with b byte).nodes ≡ most_nodes + 1

abbrev pub Stopped : Stop → Begun → Rest → Type 0
Stopped TooMany b after = IsTooMany b after
Stopped TooDeep b after = (byte : ℕ) → (begun_with b byte).nodes ≤ most_nodes
Stopped _ b after = Unit {0}

pub record Stands (b : Begun) (stop : Stop) (before after : Rest) : Type 0 where
  pub taken : List ℕ
  pub whole : before.text ≡ taken ++ after.text
  pub kept : Kept most_nodes b taken
  pub stopped : Stopped stop (begun_from b taken) after

abbrev pub LineAt : {A : Type 0} → Begun → Rest → Reading A → Type 0
LineAt b before (Ok v, after) = Stays b before after
LineAt b before (Err stop, after) = Stands b stop before after

abbrev pub Keeps : {A : Type 0} → Rest → Reading A → Type 0
Keeps before reading = (b : Begun) → Fine b → LineAt b before reading

keeps_still : (A : Type 0) (v : A) (rest : Rest) → Keeps rest (Ok v, rest)
keeps_still A v rest b f = record { taken = []; whole = refl; kept = at_end f.few; fine = f }

keeps_bad : (A : Type 0) (rest : Rest) → Keeps {A = A} rest (bad rest)
keeps_bad A rest b f = record { taken = []; whole = refl; kept = at_end f.few; stopped = tt }

-- ---- one after the other
stays_then : {b : Begun} {before middle after : Rest} (p : Stays b before middle) → Stays (begun_from b p.taken) middle after → Stays b before after
stays_then {b = b} p q = record {
  taken = p.taken ++ q.taken;
  whole = p.whole ∙ ap (λ z. p.taken ++ z) q.whole ∙ sym (append_assoc p.taken q.taken _);
  kept = kept-append q.taken p.kept q.kept;
  fine = subst Fine (sym (begun_from-append b p.taken q.taken)) q.fine;
}

stands_then : {b : Begun} {stop : Stop} {before middle after : Rest} (p : Stays b before middle) → Stands (begun_from b p.taken) stop middle after → Stands b stop before after
stands_then {b = b} {stop = stop} {after = after} p q = record {
  taken = p.taken ++ q.taken;
  whole = p.whole ∙ ap (λ z. p.taken ++ z) q.whole ∙ sym (append_assoc p.taken q.taken _);
  kept = kept-append q.taken p.kept q.kept;
  stopped = subst (λ (z : Begun). Stopped stop z after) (sym (begun_from-append b p.taken q.taken)) q.stopped;
}

join : {A : Type 0} {b : Begun} {before middle : Rest} (p : Stays b before middle) (reading : Reading A) → LineAt (begun_from b p.taken) middle reading → LineAt b before reading
join p (Ok w, z) q = stays_then p q
join p (Err stop, z) q = stands_then p q

keeps_then : {A B : Type 0} (before : Rest) (reading : Reading A) (more : A → Rest → Reading B) → Keeps before reading → ((v : A) (r : Rest) → Keeps r (more v r)) → Keeps before (reading >>= more)
keeps_then before (Err stop, r) more c k b f = c b f
keeps_then before (Ok v, r) more c k b f = join (c b f) (more v r) (k v r (begun_from b (c b f).taken) (c b f).fine)

keeps_gives : {A B : Type 0} (before : Rest) (reading : Reading A) (h : A → B) → Keeps before reading → Keeps before (reading >>= λ v r. (Ok (h v), r))
keeps_gives before (Ok v, r) h c = c
keeps_gives before (Err stop, r) h c = c

either_way : {A : Type 0} (before : Rest) (one other : Reading A) (x : Bool) → (x ≡ true → Keeps before one) → (x ≡ false → Keeps before other) → Keeps before (if x then one else other)
either_way before one other true c k = c refl
either_way before one other false c k = k refl

-- ---- bytes behind which no node may begin
one_more : (b : Begun) (byte : ℕ) → (begun_with b byte).nodes ≤ b.nodes + 1
one_more b byte = go (code (sign byte) == 23) (b.may && not (is_parenthesis (sign byte)))
  where
    go : (x y : Bool) → (let z : Begun = if x then record { nodes = 0; may = true } else record { nodes = b.nodes + (if y then 1 else 0); may = opens (sign byte) } in z.nodes ≤ b.nodes + 1)
    go true y = omega arith
    go false true = omega arith
    go false false = omega arith

fine_behind : (b : Begun) (byte : ℕ) → Fine b → opens (sign byte) ≡ false → Fine (begun_with b byte)
fine_behind b byte f o = go (code (sign byte) == 23) b.may refl
  where
    of_none : (may : Bool) → b.may ≡ may → b.nodes + (if may && not (is_parenthesis (sign byte)) then 1 else 0) ≤ most_nodes
    of_none false i = let h = f.few in omega arith
    of_none true i = go (not (is_parenthesis (sign byte)))
      where
        go : (x : Bool) → b.nodes + (if x then 1 else 0) ≤ most_nodes
        go true = let z = f.none i in omega arith
        go false = let h = f.few in omega arith

    go : (x may : Bool) → b.may ≡ may → Fine (if x then record { nodes = 0; may = true } else record { nodes = b.nodes + (if b.may && not (is_parenthesis (sign byte)) then 1 else 0); may = opens (sign byte) })
    go true may i = record { few = omega arith; none = λ e. refl }
    go false may i = record { few = of_none b.may refl; none = λ e. let z : false ≡ true = sym o ∙ e in cc }

behind_byte : {A : Type 0} (nodes byte : ℕ) (text : List ℕ) (reading : Reading A) → opens (sign byte) ≡ false → Keeps (record { nodes = nodes; text = text }) reading → Keeps (record { nodes = nodes; text = byte ∷ text }) reading
behind_byte nodes byte text reading o k b f =
    let step : Stays b (record { nodes = nodes; text = byte ∷ text }) (record { nodes = nodes; text = text }) =
    record { taken = byte ∷ []; whole = refl; kept = then_more f.few (at_end (fine_behind b byte f o).few); fine = fine_behind b byte f o } in
    join step reading (k (begun_with b byte) (fine_behind b byte f o))

-- signs behind which none may begin
abbrev quiet : ℕ → Bool
quiet c = not ((c == 20) || (c == 22)) && not (54 == c)

is_not : (x : Bool) → not x ≡ true → x ≡ false
is_not true e = cc
is_not false e = refl

quiet_opens : (c : ℕ) (k : Sign) → quiet c ≡ true → (code k == c) ≡ true → opens k ≡ false
quiet_opens c k q e = let i : code k ≡ c = eqb-true (code k) c e in rw i (is_not ((c == 20) || (c == 22)) (and_left (not ((c == 20) || (c == 22))) (not (54 == c)) q))

behind_sign : {A : Type 0} (c : ℕ) → quiet c ≡ true → (rest : Rest) (reading : Reading A) → (code (next rest) == c) ≡ true → Keeps (passed rest) reading → Keeps rest reading
behind_sign {A = A} c q rest reading = at rest.nodes rest.text
  where
    at : (nodes : ℕ) (text : List ℕ) → (code (next (record { nodes = nodes; text = text })) == c) ≡ true → Keeps (passed (record { nodes = nodes; text = text })) reading → Keeps (record { nodes = nodes; text = text }) reading
    at nodes [] e k = let z : (54 == c) ≡ false = is_not (54 == c) (and_right (not ((c == 20) || (c == 22))) (not (54 == c)) q) in cc
    at nodes (byte ∷ text) e k = behind_byte nodes byte text reading (quiet_opens c (sign byte) q e) k

digit_quiet : (c : ℕ) → nat_lt c 10 ≡ true → ((c == 20) || (c == 22)) ≡ false
digit_quiet c e = let h : c < 10 = ltb-true c 10 e in rw (not_equal c 20 (λ i. omega arith), not_equal c 22 (λ i. omega arith)) refl

behind_digit : {A : Type 0} (rest : Rest) (reading : Reading A) → nat_lt (code (next rest)) 10 ≡ true → Keeps (passed rest) reading → Keeps rest reading
behind_digit rest reading = at rest.nodes rest.text
  where
    at : (nodes : ℕ) (text : List ℕ) → nat_lt (code (next (record { nodes = nodes; text = text }))) 10 ≡ true → Keeps (passed (record { nodes = nodes; text = text })) reading → Keeps (record { nodes = nodes; text = text }) reading
    at nodes [] e k = cc
    at nodes (byte ∷ text) e k = behind_byte nodes byte text reading (digit_quiet (code (sign byte)) e) k

keeps_expected : (c : ℕ) → quiet c ≡ true → (rest : Rest) → Keeps rest (expected c rest)
keeps_expected c q rest =
    either_way {A = Unit {0}} rest (Ok tt, passed rest) (bad rest) (code (next rest) == c) (λ e. behind_sign {A = Unit {0}} c q rest (Ok tt, passed rest) e (keeps_still (Unit {0}) tt (passed rest))) (λ e. keeps_bad (Unit {0}) rest)

abbrev quiet_word : List ℕ → Bool
quiet_word = list_all (λ byte. quiet (code (sign byte)))

keeps_word : (bytes : List ℕ) → quiet_word bytes ≡ true → (rest : Rest) → Keeps rest (word_at bytes rest)
unfolding word_at
keeps_word [] q rest = keeps_still (Unit {0}) tt rest
keeps_word (byte ∷ bytes) q rest =
    keeps_then rest (expected (code (sign byte)) rest) (λ o r. word_at bytes r) (keeps_expected (code (sign byte)) (and_left (quiet (code (sign byte))) (quiet_word bytes) q) rest)
    (λ o r. keeps_word bytes (and_right (quiet (code (sign byte))) (quiet_word bytes) q) r)

-- ---- numbers
keeps_longest : (m : ℕ) (rest : Rest) → Keeps rest (longest_at m rest)
keeps_longest m rest = by m rest.nodes rest.text
  where
    by : (m nodes : ℕ) (text : List ℕ) → Keeps (record { nodes = nodes; text = text }) (longest_at m (record { nodes = nodes; text = text }))
    by m nodes [] = keeps_still ℕ m (record { nodes = nodes; text = [] })
    by m nodes (byte ∷ text) = go (is_longer m (code (sign byte))) refl (by (10 * m + code (sign byte)) nodes text)
      where
        go : (x : Bool) → is_longer m (code (sign byte)) ≡ x → Keeps (record { nodes = nodes; text = text }) (longest_at (10 * m + code (sign byte)) (record { nodes = nodes; text = text }))
            → Keeps {A = ℕ} (record { nodes = nodes; text = byte ∷ text })
            (Ok (if x then longest (10 * m + code (sign byte)) text else (m, byte ∷ text)).0, record { nodes = nodes; text = (if x then longest (10 * m + code (sign byte)) text else (m, byte ∷ text)).1 })
        go true e k = behind_byte nodes byte text (longest_at (10 * m + code (sign byte)) (record { nodes = nodes; text = text })) (digit_quiet (code (sign byte)) (and_left (nat_lt (code (sign byte)) 10) _ e)) k
        go false e k = keeps_still ℕ m (record { nodes = nodes; text = byte ∷ text })

keeps_number : (rest : Rest) → Keeps rest (number_at rest)
unfolding number_at
keeps_number rest =
    either_way {A = ℕ} rest (Ok 0, passed rest) (if nat_lt (code (next rest)) 10 then longest_at (code (next rest)) (passed rest) else bad rest) (code (next rest) == 0)
    (λ e. behind_sign {A = ℕ} 0 refl rest (Ok 0, passed rest) e (keeps_still ℕ 0 (passed rest)))
    (λ e. either_way rest (longest_at (code (next rest)) (passed rest)) (bad rest) (nat_lt (code (next rest)) 10)
    (λ i. behind_digit rest (longest_at (code (next rest)) (passed rest)) i (keeps_longest (code (next rest)) (passed rest))) (λ i. keeps_bad ℕ rest))

module _ (rest : Rest) where
  abbrev behind_more : Reading ℕ
  behind_more = if nat_lt (code (next rest)) 10 then longest_at (code (next rest)) (passed rest) else bad rest

  abbrev behind_one : Reading ℕ
  behind_one = if nat_lt (code (next (passed rest))) 10 then longest_at 1 (passed rest) else bad (passed rest)

  abbrev behind_zero : Reading ℕ
  behind_zero = if code (next rest) == 1 then behind_one else behind_more

  keeps_count : Keeps rest (count_at rest)
  unfolding count_at
  keeps_count =
      either_way rest (bad rest) behind_zero (code (next rest) == 0) (λ e. keeps_bad ℕ rest)
      (λ e. either_way rest behind_one behind_more (code (next rest) == 1)
      (λ i. behind_sign 1 refl rest behind_one i (either_way (passed rest) (longest_at 1 (passed rest)) (bad (passed rest)) (nat_lt (code (next (passed rest))) 10) (λ j. keeps_longest 1 (passed rest)) (λ j. keeps_bad ℕ (passed rest))))
      (λ i. either_way rest (longest_at (code (next rest)) (passed rest)) (bad rest) (nat_lt (code (next rest)) 10)
      (λ j. behind_digit rest (longest_at (code (next rest)) (passed rest)) j (keeps_longest (code (next rest)) (passed rest))) (λ j. keeps_bad ℕ rest)))

keeps_turns : (rest : Rest) → Keeps rest (turns_at rest)
keeps_turns rest = either_way {A = ℕ} rest (count_at rest) (Ok 1, rest) (nat_lt 0 (code (next rest)) && nat_lt (code (next rest)) 10) (λ e. keeps_count rest) (λ e. keeps_still ℕ 1 rest)

-- ---- paths
module _ (l : Last) (rest : Rest) where
  abbrev lefts : Reading (Option Run)
  lefts = turns_at (passed rest) >>= λ n r. (Ok (Some (run.Left n)), r)

  abbrev rights : Reading (Option Run)
  rights = turns_at (passed rest) >>= λ n r. (Ok (Some (run.Right n)), r)

  abbrev insides : Reading (Option Run)
  insides = turns_at (passed rest) >>= λ n r. (Ok (Some (run.Inside n)), r)

  abbrev arguments : Reading (Option Run)
  arguments = number_at (passed rest) >>= λ n r. (Ok (Some (run.Argument n)), r)

  abbrev others_inside : Reading (Option Run)
  others_inside = if code (next rest) == 31 then arguments else (Ok None, rest)

  abbrev others_right : Reading (Option Run)
  others_right = if (code (next rest) == 37) && may_be_inside l then insides else others_inside

  abbrev others_left : Reading (Option Run)
  others_left = if (code (next rest) == 45) && may_be_right l then rights else others_right

  keeps_run : Keeps rest (run_at l rest)
  unfolding run_at
  keeps_run =
      either_way rest lefts others_left ((code (next rest) == 39) && may_be_left l)
      (λ e. behind_sign 39 refl rest lefts (and_left (code (next rest) == 39) (may_be_left l) e) (keeps_gives (passed rest) (turns_at (passed rest)) (λ n. Some (run.Left n)) (keeps_turns (passed rest))))
      (λ e. either_way rest rights others_right ((code (next rest) == 45) && may_be_right l)
      (λ e. behind_sign 45 refl rest rights (and_left (code (next rest) == 45) (may_be_right l) e) (keeps_gives (passed rest) (turns_at (passed rest)) (λ n. Some (run.Right n)) (keeps_turns (passed rest))))
      (λ e. either_way rest insides others_inside ((code (next rest) == 37) && may_be_inside l)
      (λ e. behind_sign 37 refl rest insides (and_left (code (next rest) == 37) (may_be_inside l) e) (keeps_gives (passed rest) (turns_at (passed rest)) (λ n. Some (run.Inside n)) (keeps_turns (passed rest))))
      (λ e. either_way {A = Option Run} rest arguments (Ok None, rest) (code (next rest) == 31)
      (λ e. behind_sign 31 refl rest arguments e (keeps_gives (passed rest) (number_at (passed rest)) (λ n. Some (run.Argument n)) (keeps_number (passed rest))))
      (λ e. keeps_still (Option Run) None rest))))

keeps_runs : (n : ℕ) (l : Last) (rest : Rest) → Keeps rest (runs_at n l rest)
unfolding runs_at
keeps_runs zero l rest = keeps_still (List Run) [] rest
keeps_runs (suc n) l rest = keeps_then rest (run_at l rest) (runs_with (runs_at n)) (keeps_run l rest) (λ o r. behind (λ l r. keeps_runs n l r) o r)
  where
    behind : ((l : Last) (r : Rest) → Keeps r (runs_at n l r)) → (o : Option Run) (r : Rest) → Keeps r (runs_with (runs_at n) o r)
    behind k None r = keeps_still (List Run) [] r
    behind k (Some x) r = keeps_gives r (runs_at n (last_of x) r) (λ xs. x ∷ xs) (k (last_of x) r)

-- ---- arguments
-- an argument begins
abbrev begins : Begun
begins = record { nodes = 0; may = true }

argument_line : {A : Type 0} (rest : Rest) (reading : Reading A) → Counts true false (fresh rest) reading → LineAt begins rest reading
argument_line rest (Ok v, after) c =
    let m = c begins refl in
    record {
      taken = m.passed.taken;
      whole = m.passed.whole;
      kept = m.passed.kept;
      fine = record { few = let h = m.passed.count in omega arith; none = λ e. let z : false ≡ true = sym m.state ∙ e in cc };
    }
argument_line rest (Err Unexpected, after) c = let m = c begins refl in record { taken = m.passed.taken; whole = m.passed.whole; kept = m.passed.kept; stopped = tt }
argument_line rest (Err TooMany, after) c =
    let m = c begins refl in
    record {
      taken = m.passed.taken;
      whole = m.passed.whole;
      kept = m.passed.kept;
      stopped = record { byte = m.full.1.byte; more = m.full.1.more; text = m.full.1.text; nodes = let h = m.passed.count in let k = m.full.1.one_more in let z = m.full.0 in omega arith };
    }
argument_line rest (Err TooDeep, after) c =
    let m = c begins refl in
    record {
      taken = m.passed.taken;
      whole = m.passed.whole;
      kept = m.passed.kept;
      stopped = λ byte. let h = m.passed.count in let k = one_more (begun_from begins m.passed.taken) byte in let z = m.full in omega arith;
    }
argument_line rest (Err NoMemory, after) c = let m = c begins refl in record { taken = m.passed.taken; whole = m.passed.whole; kept = m.passed.kept; stopped = tt }

line_gives : {A B : Type 0} (b : Begun) (before : Rest) (reading : Reading A) (h : A → B) → LineAt b before reading → LineAt b before (reading >>= λ v r. (Ok (h v), r))
line_gives b before (Ok v, r) h c = c
line_gives b before (Err stop, r) h c = c

line_then : {A B : Type 0} (b : Begun) (before : Rest) (reading : Reading A) (more : A → Rest → Reading B) → LineAt b before reading → ((v : A) (r : Rest) → Keeps r (more v r)) → LineAt b before (reading >>= more)
line_then b before (Err stop, r) more c k = c
line_then b before (Ok v, r) more c k = join c (more v r) (k v r (begun_from b c.taken) c.fine)

-- only the text before counts
refreshed : {A : Type 0} (b : Begun) (rest : Rest) (reading : Reading A) → LineAt b (fresh rest) reading → LineAt b rest reading
refreshed b rest (Ok v, r) c = record { taken = c.taken; whole = c.whole; kept = c.kept; fine = c.fine }
refreshed b rest (Err stop, r) c = record { taken = c.taken; whole = c.whole; kept = c.kept; stopped = c.stopped }

argument_keeps : (k : Kind) (rest : Rest) → LineAt begins rest (argument_at k rest)
argument_keeps kind.Term rest = line_gives begins rest (term_at most_depth (fresh rest)) (λ x. arg.Term x) (argument_line rest (term_at most_depth (fresh rest)) (term_counts most_depth (fresh rest)))
argument_keeps kind.Body rest = line_gives begins rest (term_at most_depth (fresh rest)) (λ x. arg.Body x) (argument_line rest (term_at most_depth (fresh rest)) (term_counts most_depth (fresh rest)))
argument_keeps kind.Value rest = line_gives begins rest (value_at most_depth (fresh rest)) (λ x. arg.Value x) (argument_line rest (value_at most_depth (fresh rest)) (value_counts most_depth (fresh rest)))
argument_keeps kind.Values rest = line_gives begins rest (list_of (value_at most_depth) (fresh rest)) (λ x. arg.Values x) (argument_line rest (list_of (value_at most_depth) (fresh rest)) (values_list_counts most_depth (fresh rest)))
argument_keeps kind.Num rest = line_gives begins rest (number_at (fresh rest)) (λ n. arg.Num n) (refreshed begins rest (number_at (fresh rest)) (keeps_number (fresh rest) begins (record { few = omega arith; none = λ e. refl })))

-- behind a space an argument begins
behind_space : {A : Type 0} (rest : Rest) (more : Rest → Reading A) → ((r : Rest) → LineAt begins r (more r)) → Keeps rest (expected 23 rest >>= λ o r. more r)
behind_space {A = A} rest more k = at rest.nodes rest.text
  where
    at : (nodes : ℕ) (text : List ℕ) → Keeps (record { nodes = nodes; text = text }) (expected 23 (record { nodes = nodes; text = text }) >>= λ o r. more r)
    at nodes [] b f = keeps_bad A (record { nodes = nodes; text = [] }) b f
    at nodes (byte ∷ text) b f = go (code (sign byte) == 23) refl
      where
        go : (x : Bool) → (code (sign byte) == 23) ≡ x
            → LineAt b (record { nodes = nodes; text = byte ∷ text }) (◌>>=◌ {A = Unit {0}} (if x then (Ok tt, record { nodes = nodes; text = text }) else (Err Unexpected, record { nodes = nodes; text = byte ∷ text })) (λ o r. more r))
        go true e =
            let w : begun_with b byte ≡ begins = rw e refl in
            let fine : Fine begins = record { few = omega arith; none = λ e. refl } in
            let step : Stays b (record { nodes = nodes; text = byte ∷ text }) (record { nodes = nodes; text = text }) =
            record { taken = byte ∷ []; whole = refl; kept = then_more f.few (subst (λ z. Kept most_nodes z []) (sym w) (at_end fine.few)); fine = subst Fine (sym w) fine } in
            join step (more (record { nodes = nodes; text = text })) (subst (λ z. LineAt z (record { nodes = nodes; text = text }) (more (record { nodes = nodes; text = text }))) (sym w) (k (record { nodes = nodes; text = text })))
        go false e = keeps_bad A (record { nodes = nodes; text = byte ∷ text }) b f

keeps_arguments : (ks : List Kind) (rest : Rest) → Keeps rest (arguments_at ks rest)
unfolding arguments_at
keeps_arguments [] rest = keeps_still (List Arg) [] rest
keeps_arguments (k ∷ ks) rest =
    behind_space rest (λ r. argument_at k r >>= λ a r. arguments_at ks r >>= λ others r. (Ok (a ∷ others), r))
    (λ r. line_then begins r (argument_at k r) (λ a r. arguments_at ks r >>= λ others r. (Ok (a ∷ others), r)) (argument_keeps k r)
    (λ a r. keeps_gives r (arguments_at ks r) (λ others. a ∷ others) (keeps_arguments ks r)))

-- ---- the other parts of a line
keeps_direction : (rest : Rest) → Keeps rest (direction_at rest)
keeps_direction rest =
    either_way {A = Bool} rest (Ok true, passed rest) (expected 27 rest >>= λ o r. (Ok false, r)) (code (next rest) == 26)
    (λ e. behind_sign {A = Bool} 26 refl rest (Ok true, passed rest) e (keeps_still Bool true (passed rest))) (λ e. keeps_gives rest (expected 27 rest) (λ o. false) (keeps_expected 27 refl rest))

abbrev quiet_names : Names → Bool
quiet_names (found q) = true
quiet_names (word bytes more) = quiet_word bytes && quiet_names more
quiet_names (either letter one others) = quiet (code letter) && (quiet_names one && quiet_names others)

keeps_rule : (t : Names) → quiet_names t ≡ true → (rest : Rest) → Keeps rest (rule_at t rest)
unfolding rule_at
keeps_rule (found q) e rest = keeps_still Rule q rest
keeps_rule (word bytes t) e rest =
    keeps_then rest (word_at bytes rest) (λ o r. rule_at t r) (keeps_word bytes (and_left (quiet_word bytes) (quiet_names t) e) rest) (λ o r. keeps_rule t (and_right (quiet_word bytes) (quiet_names t) e) r)
keeps_rule (either letter a b) e rest =
    let both = and_right (quiet (code letter)) (quiet_names a && quiet_names b) e in
    either_way rest (rule_at a (passed rest)) (rule_at b rest) (code (next rest) == code letter)
    (λ i. behind_sign (code letter) (and_left (quiet (code letter)) (quiet_names a && quiet_names b) e) rest (rule_at a (passed rest)) i (keeps_rule a (and_left (quiet_names a) (quiet_names b) both) (passed rest)))
    (λ i. keeps_rule b (and_right (quiet_names a) (quiet_names b) both) rest)

names_quiet : quiet_names names ≡ true
unfolding names mul_names squash_names sum_names not_names eq_names s_names
names_quiet = refl

keeps_end : (b : Bool) (rest : Rest) → Keeps rest (end_at b rest)
keeps_end false rest = keeps_expected 24 refl rest
keeps_end true rest = keeps_then rest (word_at (codes " {") rest) (λ o r. expected 24 r) (keeps_word (codes " {") refl rest) (λ o r. keeps_expected 24 refl r)

keeps_step : (rest : Rest) → Keeps rest (step_at rest)
unfolding step_at
keeps_step rest =
    keeps_then rest (path_at rest) _ (keeps_runs _ last.Other rest) (λ path r.
    keeps_then r (expected 23 r) _ (keeps_expected 23 refl r) (λ o r.
    keeps_then r (direction_at r) _ (keeps_direction r) (λ forward r.
    keeps_then r (expected 23 r) _ (keeps_expected 23 refl r) (λ o r.
    keeps_then r (rule_at names r) _ (keeps_rule names names_quiet r) (λ q r.
    keeps_then r (arguments_at (kinds_of q) r) _ (keeps_arguments (kinds_of q) r) (λ args r.
    keeps_gives r (end_at (has_inner q) r) (λ o. made path forward q args) (keeps_end (has_inner q) r)))))))

module _ (rest : Rest) where
  abbrev closes : Reading LineStep
  closes = expected 24 (passed rest) >>= λ o r. (Ok Closes, r)

  abbrev ends : Reading LineStep
  ends = word_at (codes "end") rest >>= λ o r. expected 24 r >>= λ o r. (Ok Ends, r)

  abbrev others : Reading LineStep
  others = if code (next rest) == 29 then closes else ends

  keeps_line : Keeps rest (line_at rest)
  unfolding line_at
  keeps_line =
      either_way rest (step_at (passed rest)) others (code (next rest) == 25) (λ e. behind_sign 25 refl rest (step_at (passed rest)) e (keeps_step (passed rest)))
      (λ e. either_way rest closes ends (code (next rest) == 29)
      (λ e. behind_sign 29 refl rest closes e (keeps_gives (passed rest) (expected 24 (passed rest)) (λ o. Closes) (keeps_expected 24 refl (passed rest))))
      (λ e. keeps_then rest (word_at (codes "end") rest) _ (keeps_word (codes "end") refl rest) (λ o r. keeps_gives r (expected 24 r) (λ o. Ends) (keeps_expected 24 refl r))))

pub keeps_whole_line : (rest : Rest) → Keeps rest (alone line_at rest)
keeps_whole_line rest = keeps_then rest (line_at rest) (λ a r. if_over r.text a r) (keeps_line rest) (λ a r. over a r.text r)
  where
    over : (a : LineStep) (text : List ℕ) (r : Rest) → Keeps r (if_over text a r)
    over a [] r = keeps_still LineStep a r
    over a (byte ∷ text) r = keeps_bad LineStep r

-- ---- what it says of the bytes
kept_before : {most : ℕ} {b : Begun} (text : List ℕ) → Kept most b text → (x y : List ℕ) → text ≡ x ++ y → (begun_from b x).nodes ≤ most
kept_before text (at_end h) [] y e = h
kept_before text (then_more h k) [] y e = h
kept_before [] (at_end h) (c ∷ x) y e = cc
kept_before {most = most} {b = b} (byte ∷ text) (then_more h k) (c ∷ x) y e =
    let i : text ≡ x ++ y = cc in
    let j : byte ≡ c = cc in
    subst (λ z. (begun_from (begun_with b z) x).nodes ≤ most) j (kept_before text k x y i)

pub keeps_nodes : (taken : List ℕ) → Kept most_nodes (record { nodes = 0; may = false }) taken → KeepsNodes taken
keeps_nodes taken k x y e = kept_before taken k x y e

pub at_start : Fine (record { nodes = 0; may = false })
at_start = record { few = omega arith; none = λ e. refl }
