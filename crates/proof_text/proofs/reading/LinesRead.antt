-- Lines are read as the grammar takes them.
use Rattle.std.proofs.Common.{◌≡◌, ℕ, zero, suc, ◌≤◌, Bool, true, false, not, ◌&&◌, List, [], ◌∷◌, length, length-append, inl, inr, Option, Some, Ok, Err, refl, ap, subst, arith}
use Rattle.std.specs.Prelude.{◌==◌, nat_lt, if◌then◌else◌, codes}
use Rattle.std.specs.List.{list_all}
use Rattle.std.proofs.lemmas.Bool.{eqb-true}
use Rattle.std.proofs.Math.Bool.{and-false}
use Rattle.grammar.specs.Form.{empty, seq, alt, map, ref}
use Rattle.grammar.specs.Productions.{skip_then}
use Rattle.grammar.specs.Reading.{Took}
use Rattle.grammar.proofs.readers.Predictions.{ok}
use Rattle.grammar.proofs.languages.Sets.{and_left, and_right}
use Rattle.grammar.proofs.readers.Steps.{empty_took}
use Rattle.u_rules.specs.declared.rule.Rule.{Rule}
use Rattle.u_rules.specs.declared.rule.Rule.TheVariants as rule
use Rattle.u_rules.specs.declared.rule.Arg.{Arg}
use Rattle.u_deriv.specs.declared.run.Run.{Run}
use Rattle.u_deriv.specs.declared.run.Run.TheVariants as run
use Rattle.proof_text.specs.declared.kinds.Kind.{Kind}
use Rattle.proof_text.specs.declared.kinds.Kind.TheVariants as kind
use Rattle.proof_text.specs.declared.path.Last.{Last}
use Rattle.proof_text.specs.declared.path.Last.TheVariants as last
use Rattle.proof_text.specs.declared.line.LineStep.{LineStep}
use Rattle.proof_text.specs.declared.line.LineStep.TheVariants.{Closes, Ends}
use Rattle.proof_text.specs.declared.cursor.Stop.TheVariants.{Unexpected, TooMany, TooDeep, NoMemory}
use Rattle.proof_text.specs.Limits.{most_depth}
use Rattle.proof_text.specs.Signs.{Sign, code, sign}
use Rattle.proof_text.specs.Signs as s
use Rattle.proof_text.specs.RuleNames.{Names, found, word, either, names, mul_names, squash_names, sum_names, not_names, eq_names, s_names, kinds_of, has_inner}
use Rattle.proof_text.specs.Grammar.{F, term, value, arguments, number, count, runs, use_of_rule, line, rules, the, spelled, line_feed, counted_run, run_then, an_argument, no_run, argument_form, arguments_then, end_of_line, of_rule, named, direction, made}
use Rattle.proof_text.specs.Reading.{Rest, Reading, ◌>>=◌, expected, fresh, number_at, count_at, turns_at, term_at, value_at, list_of, word_at, run_at, runs_with, runs_at, path_at, last_of, direction_at, rule_at, argument_at, arguments_at, end_at, step_at, line_at}
use Rattle.proof_text.specs.Outcomes.{free, bounded, Outcome}
use Rattle.proof_text.proofs.reading.OneLine.{grammar}
use Rattle.proof_text.proofs.reading.Goes.{Goes, whole, mapped, production, second, then_next, then_known, ends_in, first, other, by_next, takes, passing, closing}
use Rattle.proof_text.proofs.reading.NumbersRead.{fails, reads_number, reads_count, count_prefix}
use Rattle.proof_text.proofs.reading.TermsRead.{reads_term, reads_value, reads_values}

-- what is read one after the other, in another grouping
then_then : {A B C : Type 0} (reading : Reading A) (f : A → Rest → Reading B) (g : B → Rest → Reading C) → ((reading >>= f) >>= g) ≡ (reading >>= λ a r. f a r >>= g)
then_then (Ok a, r) f g = refl
then_then (Err stop, r) f g = refl

-- no byte of a word is the end of the text
abbrev are_signs : List ℕ → Bool
are_signs = list_all (λ byte. not (54 == code (sign byte)))

is_not : (b : Bool) → not b ≡ true → b ≡ false
is_not true e = cc
is_not false e = refl

ok_behind : {C : Type 0} (f : F C) (bytes : List ℕ) → ok grammar (spelled bytes f) ≡ true → ok grammar f ≡ true
ok_behind f [] o = o
ok_behind f (byte ∷ bytes) o = ok_behind f bytes (and_left (ok grammar (spelled bytes f)) true o)

reads_argument : (k : Kind) (rest : Rest) → Outcome (argument_form k) most_depth rest.text (argument_at k rest)
reads_argument kind.Term rest =
    ends_in {f = ref term} (mapped (whole {N = argument_form kind.Term} {levels = most_depth} {start = rest.text})) (term_at most_depth (fresh rest)) (reads_term most_depth (fresh rest))
reads_argument kind.Body rest =
    ends_in {f = ref term} (mapped (whole {N = argument_form kind.Body} {levels = most_depth} {start = rest.text})) (term_at most_depth (fresh rest)) (reads_term most_depth (fresh rest))
reads_argument kind.Value rest =
    ends_in {f = ref value} (mapped (whole {N = argument_form kind.Value} {levels = most_depth} {start = rest.text})) (value_at most_depth (fresh rest)) (reads_value most_depth (fresh rest))
reads_argument kind.Values rest =
    ends_in {f = ref arguments} (mapped (whole {N = argument_form kind.Values} {levels = most_depth} {start = rest.text})) (list_of (value_at most_depth) (fresh rest)) (reads_values most_depth (fresh rest))
reads_argument kind.Num rest =
    ends_in {f = ref number} (mapped (whole {N = argument_form kind.Num} {levels = most_depth} {start = rest.text})) (number_at (fresh rest)) (reads_number most_depth (fresh rest))

-- no letter of a name is the end of the text
abbrev name_signs : Names → Bool
name_signs (found q) = true
name_signs (word bytes more) = are_signs bytes && name_signs more
name_signs (either letter one others) = not (54 == code letter) && (name_signs one && name_signs others)

module _ {A : Type 0} {N : F A} {most : ℕ} {start : List ℕ} where
  -- ---- words
  reads_word : {C : Type 0} (f : F C) {levels : ℕ} {h : C → A} (bytes : List ℕ) (rest : Rest) → are_signs bytes ≡ true → ok grammar (spelled bytes f) ≡ true
      → Goes (spelled bytes f) levels rest.text N most start h → (more : Rest → Reading A)
      → ((mid : Rest) → Goes f levels mid.text N most start h → Outcome N most start (more mid))
      → Outcome N most start (word_at bytes rest >>= λ o r. more r)
  unfolding word_at
  reads_word f [] rest e o l more k = k rest l
  reads_word f (byte ∷ bytes) rest e o l more k =
      rw (then_then (expected (code (sign byte)) rest) (λ o r. word_at bytes r) (λ o r. more r))
      (passing (code (sign byte)) (is_not (54 == code (sign byte)) (and_left (not (54 == code (sign byte))) (are_signs bytes) e)) rest.nodes rest.text
      (mapped {k = λ p. p.1} {f = seq (the (sign byte)) (spelled bytes f)} l) o (λ r. word_at bytes r >>= λ o r. more r)
      (λ b mid g. reads_word f bytes mid (and_right (not (54 == code (sign byte))) (are_signs bytes) e) (and_left (ok grammar (spelled bytes f)) true o) g more k))

  -- ---- names of rules
  reads_either : {levels : ℕ} {h : Rule × List Arg → A} (letter : Sign) (a b : Names) → (54 == code letter) ≡ false
      → ok grammar (named (either letter a b)) ≡ true → ok grammar (skip_then (the letter) (named a)) ≡ true → (more : Rule → Rest → Reading A)
      → ((rest : Rest) → Goes (named a) levels rest.text N most start h → Outcome N most start (rule_at a rest >>= more))
      → ((rest : Rest) → Goes (named b) levels rest.text N most start h → Outcome N most start (rule_at b rest >>= more))
      → (nodes : ℕ) (text : List ℕ) → Goes (named (either letter a b)) levels text N most start h
      → Outcome N most start (rule_at (either letter a b) (record { nodes = nodes; text = text }) >>= more)
  unfolding rule_at
  reads_either letter a b no_end o ok_a more first_goes other_goes nodes [] l = rw no_end (other_goes (record { nodes = nodes; text = [] }) (other l ok_a refl))
  reads_either {levels = levels} letter a b no_end o ok_a more first_goes other_goes nodes (byte ∷ text) l = go (code (sign byte) == code letter) refl
    where
      go : (x : Bool) → (code (sign byte) == code letter) ≡ x
          → Outcome N most start ((if x then rule_at a (record { nodes = nodes; text = text }) else rule_at b (record { nodes = nodes; text = byte ∷ text })) >>= more)
      go true i =
          first_goes (record { nodes = nodes; text = text })
          (second (mapped {k = λ p. p.1} {f = seq (the letter) (named a)} (by_next l o byte text refl (inl (inr (byte, refl, i))))) ok_a byte text (takes levels (λ x. code x == code letter) byte text i))
      go false i = other_goes (record { nodes = nodes; text = byte ∷ text }) (other l ok_a (rw i refl))

  reads_name : {levels : ℕ} {h : Rule × List Arg → A} (t : Names) (rest : Rest) → name_signs t ≡ true → ok grammar (named t) ≡ true
      → Goes (named t) levels rest.text N most start h → (more : Rule → Rest → Reading A)
      → ((q : Rule) (mid : Rest) → Goes (of_rule q) levels mid.text N most start h → Outcome N most start (more q mid))
      → Outcome N most start (rule_at t rest >>= more)
  unfolding rule_at
  reads_name (found q) rest e o l more k = k q rest l
  reads_name (word bytes t) rest e o l more k =
      rw (then_then (word_at bytes rest) (λ o r. rule_at t r) more)
      (reads_word (named t) bytes rest (and_left (are_signs bytes) (name_signs t) e) o l (λ r. rule_at t r >>= more)
      (λ mid g. reads_name t mid (and_right (are_signs bytes) (name_signs t) e) (ok_behind (named t) bytes o) g more k))
  reads_name (either letter a b) rest e o l more k =
      let signs_too = and_right (not (54 == code letter)) (name_signs a && name_signs b) e in
      let both = and_left (ok grammar (skip_then (the letter) (named a)) && ok grammar (named b)) _ o in
      let ok_a = and_left (ok grammar (skip_then (the letter) (named a))) (ok grammar (named b)) both in
      let ok_b = and_right (ok grammar (skip_then (the letter) (named a))) (ok grammar (named b)) both in
      reads_either letter a b (is_not (54 == code letter) (and_left (not (54 == code letter)) (name_signs a && name_signs b) e)) o ok_a more
      (λ r g. reads_name a r (and_left (name_signs a) (name_signs b) signs_too) (and_left (ok grammar (named a)) true ok_a) g more k)
      (λ r g. reads_name b r (and_right (name_signs a) (name_signs b) signs_too) ok_b g more k) rest.nodes rest.text l

  -- ---- arguments
  reads_arguments : {C : Type 0} (f : F C) (ks : List Kind) (rest : Rest) {h : List Arg × C → A} → ok grammar (arguments_then ks f) ≡ true
      → Goes (arguments_then ks f) most_depth rest.text N most start h → (more : List Arg → Rest → Reading A)
      → ((args : List Arg) (mid : Rest) → Goes f most_depth mid.text N most start (λ v. h (args, v)) → Outcome N most start (more args mid))
      → Outcome N most start (arguments_at ks rest >>= more)
  unfolding arguments_at
  reads_arguments f [] rest o l more k = k [] rest (mapped l)
  reads_arguments f (kind ∷ ks) rest o l more k =
      rw (then_then (expected 23 rest) (λ o r. argument_at kind r >>= λ a r. arguments_at ks r >>= λ others r. (Ok (a ∷ others), r)) more)
      (passing 23 refl rest.nodes rest.text (mapped {k = λ p. p.1} {f = seq (the s.Space) (seq (argument_form kind) (arguments_then ks f))} (mapped l)) o
      (λ r. (argument_at kind r >>= λ a r. arguments_at ks r >>= λ others r. (Ok (a ∷ others), r)) >>= more)
      (λ b r g.
      rw (then_then (argument_at kind r) (λ a r. arguments_at ks r >>= λ others r. (Ok (a ∷ others), r)) more)
      (then_next g ok_both (argument_at kind r) (λ a r. (arguments_at ks r >>= λ others r. (Ok (a ∷ others), r)) >>= more) (reads_argument kind r)
      (λ a r g.
      rw (then_then (arguments_at ks r) (λ others r. (Ok (a ∷ others), r)) more)
      (reads_arguments f ks r ok_others g (λ others r. more (a ∷ others) r) (λ args r g. k (a ∷ args) r g))))))
    where
      ok_both : ok grammar (seq (argument_form kind) (arguments_then ks f)) ≡ true
      ok_both = and_left (ok grammar (seq (argument_form kind) (arguments_then ks f))) true o

      ok_others : ok grammar (arguments_then ks f) ≡ true
      ok_others = and_right (ok grammar (argument_form kind)) (ok grammar (arguments_then ks f)) (and_left (ok grammar (argument_form kind) && ok grammar (arguments_then ks f)) _ ok_both)

  -- ---- the end of a line
  reads_end : {levels : ℕ} (b : Bool) (rest : Rest) (a : A) → Goes (end_of_line b) levels rest.text N most start (λ v. a) → Outcome N most start (end_at b rest >>= λ o r. (Ok a, r))
  reads_end false rest a l = closing 24 refl rest.nodes rest.text a l
  reads_end true rest a l =
      rw (then_then (word_at (codes " {") rest) (λ o r. expected 24 r) (λ o r. (Ok a, r)))
      (reads_word line_feed (codes " {") rest refl refl l (λ r. expected 24 r >>= λ o r. (Ok a, r)) (λ r g. closing 24 refl r.nodes r.text a g))

-- ---- paths

shorter : {C : Type 0} (f : F C) (levels : ℕ) (text : List ℕ) (reading : Reading C) → Outcome f levels text reading → (v : C) (r : Rest) → reading ≡ (Ok v, r) → length r.text ≤ length text
shorter f levels text reading t v r e =
    let took : Took (free f) (bounded levels f) text v r.text = subst (λ z. Outcome f levels text z) e t in
    omega (arith, ap length took.whole, length-append took.taken r.text)

-- how often a run takes its turn
turns_form : (ℕ → Run) → F Run
turns_form made = alt (map made (ref count)) (map (λ e. made 1) empty)

reads_turns : (levels : ℕ) (made : ℕ → Run) (nodes : ℕ) (text : List ℕ)
    → Outcome (turns_form made) levels text (turns_at (record { nodes = nodes; text = text }) >>= λ n r. (Ok (made n), r))
unfolding turns_form
reads_turns levels made nodes [] = (mapped (other (whole {N = turns_form made} {levels = levels} {start = []}) refl refl)).deep.took tt [] (empty_took [])
reads_turns levels made nodes (byte ∷ text) = go (nat_lt 0 (code (sign byte)) && nat_lt (code (sign byte)) 10) refl
  where
    there : Goes (turns_form made) levels (byte ∷ text) (turns_form made) levels (byte ∷ text) (λ v. v)
    there = whole

    go : (b : Bool) → (nat_lt 0 (code (sign byte)) && nat_lt (code (sign byte)) 10) ≡ b
        → Outcome (turns_form made) levels (byte ∷ text) ((if b then count_at (record { nodes = nodes; text = byte ∷ text }) else (Ok 1, record { nodes = nodes; text = byte ∷ text })) >>= λ n r. (Ok (made n), r))
    go true e = ends_in (mapped {k = made} {f = ref count} (by_next there refl byte text refl (count_prefix byte e))) (count_at (record { nodes = nodes; text = byte ∷ text })) (reads_count levels (record { nodes = nodes; text = byte ∷ text }))
    go false e = (mapped (other there refl (rw e refl))).deep.took tt (byte ∷ text) (empty_took (byte ∷ text))

-- the number of turns, as a run
as_run : (made : ℕ → Run) (reading : Reading ℕ) (more : Option Run → Rest → Reading (List Run))
    → ((reading >>= λ n r. (Ok (Some (made n)), r)) >>= more) ≡ ((reading >>= λ n r. (Ok (made n), r)) >>= λ x r. more (Some x) r)
as_run of (Ok n, r) more = refl
as_run of (Err stop, r) more = refl

made_by : (made : ℕ → Run) (l : Last) → ((n : ℕ) → last_of (made n) ≡ l) → (reading : Reading ℕ) (x : Run) (r : Rest) → (reading >>= λ n r. (Ok (made n), r)) ≡ (Ok x, r) → last_of x ≡ l
made_by of l is (Ok n, r) x z e =
    let i : Ok (of n) ≡ Ok x = ap (λ (p : Reading Run). p.0) e in
    let j : of n ≡ x = cc in
    subst (λ y. last_of y ≡ l) j (is n)
made_by of l is (Err stop, r) x z e = let i : Err stop ≡ Ok x = ap (λ (p : Reading Run). p.0) e in cc

module _ (levels n nodes byte : ℕ) (text : List ℕ) (within : length text ≤ n)
    (others : (l : Last) (mid : Rest) → length mid.text ≤ n → Outcome (ref (runs l)) levels mid.text (runs_at n l mid)) where
  abbrev here : Rest
  here = record { nodes = nodes; text = text }

  -- a letter, and how often its run takes its turn
  reads_letter : (letter : Sign) (made : ℕ → Run) → ok grammar (counted_run letter made) ≡ true → (code (sign byte) == code letter) ≡ true
      → Outcome (counted_run letter made) levels (byte ∷ text) (turns_at here >>= λ n r. (Ok (made n), r))
  unfolding turns_form
  reads_letter letter made o e =
      as_read (turns_at here >>= λ n r. (Ok (made n), r))
      (ends_in (second (mapped {k = λ p. p.1} {f = seq (the letter) (turns_form made)} (whole {N = counted_run letter made} {levels = levels} {start = byte ∷ text})) o byte text (takes levels (λ x. code x == code letter) byte text e))
      (turns_at here >>= λ n r. (Ok (made n), r)) (reads_turns levels made nodes text))
    where
      as_read : (reading : Reading Run) → Outcome (counted_run letter made) levels (byte ∷ text) (reading >>= λ v r. (Ok v, r)) → Outcome (counted_run letter made) levels (byte ∷ text) reading
      as_read (Ok v, r) t = t
      as_read (Err Unexpected, r) t = t
      as_read (Err TooMany, r) t = t
      as_read (Err TooDeep, r) t = t
      as_read (Err NoMemory, r) t = t

  module _ {N : F (List Run)} where
    -- behind a run others are read
    behind_run : (f : F Run) (l : Last) → ok grammar (seq f (ref (runs l))) ≡ true → (reading : Reading Run) → Outcome f levels (byte ∷ text) reading
        → ((x : Run) (r : Rest) → reading ≡ (Ok x, r) → (last_of x ≡ l) × (length r.text ≤ length text))
        → Goes (seq f (ref (runs l))) levels (byte ∷ text) N levels (byte ∷ text) (λ p. p.0 ∷ p.1)
        → Outcome N levels (byte ∷ text) (reading >>= λ x r. runs_with (runs_at n) (Some x) r)
    behind_run f l o reading reads fits g =
        then_known g o reading (λ x r. runs_with (runs_at n) (Some x) r) reads
        (λ x r e g.
        let h : length r.text ≤ length text = (fits x r e).1 in
        rw ((fits x r e).0) (ends_in g (runs_at n l r) (others l r (omega arith))))

    counted_case : (letter : Sign) (made : ℕ → Run) (l : Last) → ok grammar (counted_run letter made) ≡ true → ok grammar (seq (counted_run letter made) (ref (runs l))) ≡ true
        → ((m : ℕ) → last_of (made m) ≡ l) → (code (sign byte) == code letter) ≡ true
        → Goes (run_then (counted_run letter made) l) levels (byte ∷ text) N levels (byte ∷ text) (λ v. v)
        → Outcome N levels (byte ∷ text) ((turns_at here >>= λ m r. (Ok (Some (made m)), r)) >>= runs_with (runs_at n))
    unfolding turns_form
    counted_case letter made l o p is e g =
        rw (as_run made (turns_at here) (runs_with (runs_at n)))
        (behind_run (counted_run letter made) l p (turns_at here >>= λ m r. (Ok (made m), r)) (reads_letter letter made o e)
        (λ x r i. (made_by made l is (turns_at here) x r i, shorter (turns_form made) levels text (turns_at here >>= λ m r. (Ok (made m), r)) (reads_turns levels made nodes text) x r i))
        (mapped g))

    argument_case : (code (sign byte) == 31) ≡ true → Goes an_argument levels (byte ∷ text) N levels (byte ∷ text) (λ v. v)
        → Outcome N levels (byte ∷ text) ((number_at here >>= λ m r. (Ok (Some (run.Argument m)), r)) >>= runs_with (runs_at n))
    argument_case e g =
        rw (as_run run.Argument (number_at here) (runs_with (runs_at n)))
        (behind_run (skip_then (the s.SmallA) (map run.Argument (ref number))) last.Other refl (number_at here >>= λ m r. (Ok (run.Argument m), r)) reads
        (λ x r i. (made_by run.Argument last.Other (λ m. refl) (number_at here) x r i, short x r i))
        (mapped g))
      where
        reads : Outcome (skip_then (the s.SmallA) (map run.Argument (ref number))) levels (byte ∷ text) (number_at here >>= λ m r. (Ok (run.Argument m), r))
        reads =
            ends_in (mapped {k = run.Argument} {f = ref number} (second (mapped {k = λ p. p.1} {f = seq (the s.SmallA) (map run.Argument (ref number))}
            (whole {N = skip_then (the s.SmallA) (map run.Argument (ref number))} {levels = levels} {start = byte ∷ text})) refl byte text (takes levels (λ x. code x == 31) byte text e)))
            (number_at here) (reads_number levels here)

        short : (x : Run) (r : Rest) → (number_at here >>= λ m r. (Ok (run.Argument m), r)) ≡ (Ok x, r) → length r.text ≤ length text
        short x r i = by_number (number_at here) (reads_number levels here) i
          where
            by_number : (reading : Reading ℕ) → Outcome (ref number) levels text reading → (reading >>= λ m r. (Ok (run.Argument m), r)) ≡ (Ok x, r) → length r.text ≤ length text
            by_number (Ok m, z) t i = let e : z ≡ r = ap (λ (p : Reading Run). p.1) i in subst (λ (y : Rest). length y.text ≤ length text) e (shorter (ref number) levels text (Ok m, z) t m z refl)
            by_number (Err stop, z) t i = let e : Err stop ≡ Ok x = ap (λ (p : Reading Run). p.0) i in cc

    -- no run goes on
    no_run_case : Goes no_run levels (byte ∷ text) N levels (byte ∷ text) (λ v. v) → Took (free N) (bounded levels N) (byte ∷ text) [] (byte ∷ text)
    no_run_case g = (mapped g).deep.took tt (byte ∷ text) (empty_took (byte ∷ text))

  there : (l : Last) → Goes (rules (runs l)) levels (byte ∷ text) (ref (runs l)) levels (byte ∷ text) (λ v. v)
  there l = production (runs l) whole

  reads_next : (l : Last) (a b c d : Bool) → (code (sign byte) == 39) ≡ a → (code (sign byte) == 45) ≡ b → (code (sign byte) == 37) ≡ c → (code (sign byte) == 31) ≡ d
      → Outcome (ref (runs l)) levels (byte ∷ text) (run_at l (record { nodes = nodes; text = byte ∷ text }) >>= runs_with (runs_at n))
  unfolding run_at
  reads_next last.Other true b c d i j k m =
      rw i (counted_case s.SmallL run.Left last.Left refl refl (λ z. refl) i (by_next (there last.Other) refl byte text refl (inl (inl (inr (byte, refl, i))))))
  reads_next last.Other false true c d i j k m =
      rw (i, j) (counted_case s.SmallR run.Right last.Right refl refl (λ z. refl) j (by_next (other (there last.Other) refl (rw i refl)) refl byte text refl (inl (inl (inr (byte, refl, j))))))
  reads_next last.Other false false true d i j k m =
      rw (i, j, k) (counted_case s.SmallI run.Inside last.Inside refl refl (λ z. refl) k (by_next (other (other (there last.Other) refl (rw i refl)) refl (rw j refl)) refl byte text refl (inl (inl (inr (byte, refl, k))))))
  reads_next last.Other false false false true i j k m =
      rw (i, j, k, m) (argument_case m (by_next (other (other (other (there last.Other) refl (rw i refl)) refl (rw j refl)) refl (rw k refl)) refl byte text refl (inl (inl (inr (byte, refl, m))))))
  reads_next last.Other false false false false i j k m =
      rw (i, j, k, m) (no_run_case (other (other (other (other (there last.Other) refl (rw i refl)) refl (rw j refl)) refl (rw k refl)) refl (rw m refl)))
  reads_next last.Left a true c d i j k m =
      let e : code (sign byte) ≡ 45 = eqb-true (code (sign byte)) 45 j in
      rw e (counted_case s.SmallR run.Right last.Right refl refl (λ z. refl) j (by_next (there last.Left) refl byte text refl (inl (inl (inr (byte, refl, j))))))
  reads_next last.Left a false true d i j k m =
      let e : code (sign byte) ≡ 37 = eqb-true (code (sign byte)) 37 k in
      rw e (counted_case s.SmallI run.Inside last.Inside refl refl (λ z. refl) k (by_next (other (there last.Left) refl (rw j refl)) refl byte text refl (inl (inl (inr (byte, refl, k))))))
  reads_next last.Left a false false true i j k m =
      let e : code (sign byte) ≡ 31 = eqb-true (code (sign byte)) 31 m in
      rw e (argument_case m (by_next (other (other (there last.Left) refl (rw j refl)) refl (rw k refl)) refl byte text refl (inl (inl (inr (byte, refl, m))))))
  reads_next last.Left a false false false i j k m = rw (j, k, m, and-false (code (sign byte) == 39)) (no_run_case (other (other (other (there last.Left) refl (rw j refl)) refl (rw k refl)) refl (rw m refl)))
  reads_next last.Right true b c d i j k m =
      let e : code (sign byte) ≡ 39 = eqb-true (code (sign byte)) 39 i in
      rw e (counted_case s.SmallL run.Left last.Left refl refl (λ z. refl) i (by_next (there last.Right) refl byte text refl (inl (inl (inr (byte, refl, i))))))
  reads_next last.Right false b true d i j k m =
      let e : code (sign byte) ≡ 37 = eqb-true (code (sign byte)) 37 k in
      rw e (counted_case s.SmallI run.Inside last.Inside refl refl (λ z. refl) k (by_next (other (there last.Right) refl (rw i refl)) refl byte text refl (inl (inl (inr (byte, refl, k))))))
  reads_next last.Right false b false true i j k m =
      let e : code (sign byte) ≡ 31 = eqb-true (code (sign byte)) 31 m in
      rw e (argument_case m (by_next (other (other (there last.Right) refl (rw i refl)) refl (rw k refl)) refl byte text refl (inl (inl (inr (byte, refl, m))))))
  reads_next last.Right false b false false i j k m = rw (i, k, m, and-false (code (sign byte) == 45)) (no_run_case (other (other (other (there last.Right) refl (rw i refl)) refl (rw k refl)) refl (rw m refl)))
  reads_next last.Inside true b c d i j k m =
      let e : code (sign byte) ≡ 39 = eqb-true (code (sign byte)) 39 i in
      rw e (counted_case s.SmallL run.Left last.Left refl refl (λ z. refl) i (by_next (there last.Inside) refl byte text refl (inl (inl (inr (byte, refl, i))))))
  reads_next last.Inside false true c d i j k m =
      let e : code (sign byte) ≡ 45 = eqb-true (code (sign byte)) 45 j in
      rw e (counted_case s.SmallR run.Right last.Right refl refl (λ z. refl) j (by_next (other (there last.Inside) refl (rw i refl)) refl byte text refl (inl (inl (inr (byte, refl, j))))))
  reads_next last.Inside false false c true i j k m =
      let e : code (sign byte) ≡ 31 = eqb-true (code (sign byte)) 31 m in
      rw e (argument_case m (by_next (other (other (there last.Inside) refl (rw i refl)) refl (rw j refl)) refl byte text refl (inl (inl (inr (byte, refl, m))))))
  reads_next last.Inside false false c false i j k m = rw (i, j, m, and-false (code (sign byte) == 37)) (no_run_case (other (other (other (there last.Inside) refl (rw i refl)) refl (rw j refl)) refl (rw m refl)))

none_left : (l : Last) (levels : ℕ) → Took (free (ref (runs l))) (bounded levels (ref (runs l))) [] [] []
none_left last.Other levels = (mapped (other (other (other (other (production (runs last.Other) whole) refl refl) refl refl) refl refl) refl refl)).deep.took tt [] (empty_took [])
none_left last.Left levels = (mapped (other (other (other (production (runs last.Left) whole) refl refl) refl refl) refl refl)).deep.took tt [] (empty_took [])
none_left last.Right levels = (mapped (other (other (other (production (runs last.Right) whole) refl refl) refl refl) refl refl)).deep.took tt [] (empty_took [])
none_left last.Inside levels = (mapped (other (other (other (production (runs last.Inside) whole) refl refl) refl refl) refl refl)).deep.took tt [] (empty_took [])

reads_runs : (levels n : ℕ) (l : Last) (nodes : ℕ) (text : List ℕ) → length text ≤ n → Outcome (ref (runs l)) levels text (runs_at n l (record { nodes = nodes; text = text }))
unfolding runs_at run_at
reads_runs levels zero l nodes [] h = none_left l levels
reads_runs levels zero l nodes (byte ∷ text) h = absurd (omega (arith, h))
reads_runs levels (suc n) l nodes [] h = no_letter l
  where
    no_letter : (l : Last) → Outcome (ref (runs l)) levels [] (run_at l (record { nodes = nodes; text = [] }) >>= runs_with (runs_at n))
    no_letter last.Other = none_left last.Other levels
    no_letter last.Left = none_left last.Left levels
    no_letter last.Right = none_left last.Right levels
    no_letter last.Inside = none_left last.Inside levels
reads_runs levels (suc n) l nodes (byte ∷ text) h =
    reads_next levels n nodes byte text (omega arith) (λ l mid k. reads_runs levels n l mid.nodes mid.text k) l _ _ _ _ refl refl refl refl

pub reads_path : (levels : ℕ) (rest : Rest) → Outcome (ref (runs last.Other)) levels rest.text (path_at rest)
reads_path levels rest = reads_runs levels (length rest.text) last.Other rest.nodes rest.text (omega arith)

-- ---- directions
reads_direction : (levels : ℕ) (rest : Rest) → Outcome direction levels rest.text (direction_at rest)
reads_direction levels rest = at rest.nodes rest.text
  where
    there : (text : List ℕ) → Goes direction levels text direction levels text (λ v. v)
    there text = whole

    at : (nodes : ℕ) (text : List ℕ) → Outcome direction levels text (direction_at (record { nodes = nodes; text = text }))
    at nodes [] = fails direction levels refl [] refl
    at nodes (byte ∷ text) = go (code (sign byte) == 26) refl
      where
        go : (b : Bool) → (code (sign byte) == 26) ≡ b
            → Outcome direction levels (byte ∷ text) (if b then (Ok true, record { nodes = nodes; text = text }) else (expected 27 (record { nodes = nodes; text = byte ∷ text }) >>= λ o r. (Ok false, r)))
        go true e =
            let i : code (sign byte) ≡ 26 = eqb-true (code (sign byte)) 26 e in
            (mapped (first (there (byte ∷ text)) refl (rw i refl))).deep.took byte text (takes levels (λ x. code x == 26) byte text e)
        go false e = closing 27 refl nodes (byte ∷ text) false (mapped (other (there (byte ∷ text)) refl (rw e refl)))

-- ---- steps
rule_ok : (q : Rule) → ok grammar (arguments_then (kinds_of q) (end_of_line (has_inner q))) ≡ true
rule_ok rule.AddAc = refl
rule_ok rule.MulAc = refl
rule_ok rule.MulZero = refl
rule_ok rule.Distr = refl
rule_ok rule.SqZero = refl
rule_ok rule.SqOne = refl
rule_ok rule.SqAdd = refl
rule_ok rule.SqMul = refl
rule_ok rule.SqDup = refl
rule_ok rule.SqAbs = refl
rule_ok rule.SqFix = refl
rule_ok rule.SqPart = refl
rule_ok rule.SqEq = refl
rule_ok rule.SqPred = refl
rule_ok rule.NotZero = refl
rule_ok rule.NotOne = refl
rule_ok rule.NotMul = refl
rule_ok rule.NotAdd = refl
rule_ok rule.NotSq = refl
rule_ok rule.SqNot = refl
rule_ok rule.NotSelf = refl
rule_ok rule.NotNot = refl
rule_ok rule.Split = refl
rule_ok rule.SumZero = refl
rule_ok rule.SumAdd = refl
rule_ok rule.SumSwap = refl
rule_ok rule.SumMul = refl
rule_ok rule.SumSq = refl
rule_ok rule.SumPoint = refl
rule_ok rule.SumUse = refl
rule_ok rule.EqRefl = refl
rule_ok rule.EqSym = refl
rule_ok rule.EqSubst = refl
rule_ok rule.EqSplit = refl
rule_ok rule.Key = refl
rule_ok rule.Fkey = refl

names_ok : ok grammar (named names) ≡ true
unfolding names mul_names squash_names sum_names not_names eq_names s_names
names_ok = refl

names_signs : name_signs names ≡ true
unfolding names mul_names squash_names sum_names not_names eq_names s_names
names_signs = refl

-- a rule and what follows it
abbrev used : (made : Rule → List Arg → LineStep) → Rest → Reading LineStep
used of r = rule_at names r >>= λ q r. arguments_at (kinds_of q) r >>= λ args r. end_at (has_inner q) r >>= λ o r. (Ok (of q args), r)

module _ {N : F LineStep} {most : ℕ} {start : List ℕ} where
  reads_use : (of : Rule → List Arg → LineStep) (rest : Rest) → Goes (ref use_of_rule) most_depth rest.text N most start (λ p. of p.0 p.1) → Outcome N most start (used of rest)
  reads_use of rest l =
      reads_name names rest names_signs names_ok (production use_of_rule l) (λ q r. arguments_at (kinds_of q) r >>= λ args r. end_at (has_inner q) r >>= λ o r. (Ok (of q args), r))
      (λ q r g. reads_arguments (end_of_line (has_inner q)) (kinds_of q) r (rule_ok q) (mapped g) (λ args r. end_at (has_inner q) r >>= λ o r. (Ok (of q args), r))
      (λ args r g. reads_end (has_inner q) r (of q args) g))

  reads_step : (rest : Rest)
      → Goes (seq (ref (runs last.Other)) (skip_then (the s.Space) (seq direction (skip_then (the s.Space) (ref use_of_rule))))) most_depth rest.text N most start (λ p. made p.0 p.1.0 p.1.1.0 p.1.1.1)
      → Outcome N most start (step_at rest)
  unfolding step_at
  reads_step rest l =
      then_next l refl (path_at rest) (λ path r. expected 23 r >>= λ o r. direction_at r >>= λ forward r. expected 23 r >>= λ o r. used (made path forward) r) (reads_path most_depth rest)
      (λ path r g.
      passing 23 refl r.nodes r.text (mapped {k = λ p. p.1} {f = seq (the s.Space) (seq direction (skip_then (the s.Space) (ref use_of_rule)))} g) refl
      (λ r. direction_at r >>= λ forward r. expected 23 r >>= λ o r. used (made path forward) r)
      (λ b r g.
      then_next g refl (direction_at r) (λ forward r. expected 23 r >>= λ o r. used (made path forward) r) (reads_direction most_depth r)
      (λ forward r g.
      passing 23 refl r.nodes r.text (mapped {k = λ p. p.1} {f = seq (the s.Space) (ref use_of_rule)} g) refl (used (made path forward)) (λ b r g. reads_use (made path forward) r g))))

-- ---- lines
pub reads_line : (rest : Rest) → Outcome (ref line) most_depth rest.text (line_at rest)
unfolding line_at word_at
reads_line rest = at rest.nodes rest.text
  where
    there : (text : List ℕ) → Goes (rules line) most_depth text (ref line) most_depth text (λ v. v)
    there text = production line whole

    at : (nodes : ℕ) (text : List ℕ) → Outcome (ref line) most_depth text (line_at (record { nodes = nodes; text = text }))
    at nodes [] = fails (ref line) most_depth refl [] refl
    at nodes (byte ∷ text) = go (code (sign byte) == 25) (code (sign byte) == 29) refl refl
      where
        go : (a b : Bool) → (code (sign byte) == 25) ≡ a → (code (sign byte) == 29) ≡ b → Outcome (ref line) most_depth (byte ∷ text) (line_at (record { nodes = nodes; text = byte ∷ text }))
        go true b i j =
            let e : code (sign byte) ≡ 25 = eqb-true (code (sign byte)) 25 i in
            rw i (reads_step (record { nodes = nodes; text = text }) (second (mapped {k = λ p. p.1} {f = seq (the s.Slash) (seq (ref (runs last.Other)) (skip_then (the s.Space) (seq direction (skip_then (the s.Space) (ref use_of_rule)))))}
            (mapped (first (there (byte ∷ text)) refl (rw e refl)))) refl byte text (takes most_depth (λ x. code x == 25) byte text i)))
        go false true i j =
            let e : code (sign byte) ≡ 29 = eqb-true (code (sign byte)) 29 j in
            rw (i, j) (closing 24 refl nodes text Closes (second (mapped {k = λ p. p.1} {f = seq (the s.CloseBrace) line_feed} (mapped (first (other (there (byte ∷ text)) refl (rw i refl)) refl (rw e refl)))) refl byte text (takes most_depth (λ x. code x == 29) byte text j)))
        go false false i j =
            rw (i, j) (reads_word line_feed (codes "end") (record { nodes = nodes; text = byte ∷ text }) refl refl (mapped {k = λ t. Ends} (other (other (there (byte ∷ text)) refl (rw i refl)) refl (rw j refl))) (λ r. expected 24 r >>= λ o r. (Ok Ends, r))
            (λ r g. closing 24 refl r.nodes r.text Ends g))
