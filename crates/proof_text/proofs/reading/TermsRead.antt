-- Terms and values are read as the grammar takes them.
use Rattle.std.proofs.Common.{◌≡◌, ℕ, zero, suc, ◌-◌, Bool, true, false, true≢false, List, [], ◌∷◌, inl, inr, None, Ok, Err, refl, sym}
use Rattle.std.specs.Prelude.{◌==◌, if◌then◌else◌}
use Rattle.std.proofs.Math.Dec.{eqb-suc-zero}
use Rattle.grammar.specs.Form.{seq, ref}
use Rattle.grammar.specs.Productions.{skip_then}
use Rattle.grammar.specs.Reading.{Exceeded}
use Rattle.grammar.proofs.readers.Predictions.{ok, produced}
use Rattle.grammar.proofs.readers.Residuals.{too_deep}
use Rattle.u_terms.specs.declared.term.U.{U}
use Rattle.u_terms.specs.declared.term.Val.{Val}
use Rattle.u_terms.specs.declared.term.U.TheVariants as u
use Rattle.u_terms.specs.declared.term.Val.TheVariants as v
use Rattle.proof_text.specs.declared.cursor.Stop.TheVariants.{TooMany, TooDeep}
use Rattle.proof_text.specs.Signs as s
use Rattle.proof_text.specs.Signs.{Sign, code, sign}
use Rattle.proof_text.specs.Grammar.{F, Name, Tree, term, value, arguments, number, rules, term_form, value_form, of_code, pair}
use Rattle.proof_text.specs.Grammar as g
use Rattle.proof_text.specs.Grammar.{begins_term, begins_value}
use Rattle.proof_text.specs.Reading.{Rest, Reading, ◌>>=◌, next, bad, entered, within, both, pair_of, list_of, number_at, term_with, value_with, term_at, value_at}
use Rattle.proof_text.specs.Outcomes.{free, bounded, GoesOn, Outcome}
use Rattle.proof_text.proofs.reading.OneLine.{grammar}
use Rattle.proof_text.proofs.reading.Goes.{Goes, deep_within, whole, mapped, production, second, then_next, ends_in, first, other, takes}
use Rattle.proof_text.proofs.reading.NumbersRead.{fails, reads_number}
use Rattle.proof_text.proofs.reading.PartsRead.{reads_within, reads_both, reads_list}

-- ---- the first byte

pub term_prefix : (byte : ℕ) → begins_term (sign byte) ≡ true → (free (rules term)).prefix (byte ∷ [])
term_prefix byte h = go (sign byte) refl h
  where
    go : (k : Sign) → sign byte ≡ k → begins_term k ≡ true → (free (rules term)).prefix (byte ∷ [])
    go s.Digit0 e h = inl (inr (byte, refl, rw e refl))
    go s.Digit1 e h = inr (inl (inr (byte, refl, rw e refl)))
    go s.Plus e h = inr (inr (inl (inl (inr (byte, refl, rw e refl)))))
    go s.Star e h = inr (inr (inr (inl (inl (inr (byte, refl, rw e refl))))))
    go s.Hash e h = inr (inr (inr (inr (inl (inl (inr (byte, refl, rw e refl)))))))
    go s.Bang e h = inr (inr (inr (inr (inr (inl (inl (inr (byte, refl, rw e refl))))))))
    go s.UpperS e h = inr (inr (inr (inr (inr (inr (inl (inl (inr (byte, refl, rw e refl)))))))))
    go s.UpperR e h = inr (inr (inr (inr (inr (inr (inr (inl (inl (inr (byte, refl, rw e refl))))))))))
    go s.Equals e h = inr (inr (inr (inr (inr (inr (inr (inr (inl (inl (inr (byte, refl, rw e refl)))))))))))
    go s.UpperP e h = inr (inr (inr (inr (inr (inr (inr (inr (inr (inl (inr (byte, refl, rw e refl)))))))))))
    go k e h = absurd (true≢false (sym h))

pub value_prefix : (byte : ℕ) → begins_value (sign byte) ≡ true → (free (rules value)).prefix (byte ∷ [])
value_prefix byte h = go (sign byte) refl h
  where
    go : (k : Sign) → sign byte ≡ k → begins_value k ≡ true → (free (rules value)).prefix (byte ∷ [])
    go s.UpperF e h = inr (inr (inr (inl (inl (inr (byte, refl, rw e refl))))))
    go s.UpperG e h = inr (inr (inr (inr (inl (inr (byte, refl, rw e refl))))))
    go s.SmallB e h = inl (inl (inr (byte, refl, rw e refl)))
    go s.SmallC e h = inr (inr (inl (inl (inr (byte, refl, rw e refl)))))
    go s.SmallF e h = inr (inl (inl (inr (byte, refl, rw e refl))))
    go k e h = absurd (true≢false (sym h))

pub term_begins : (byte : ℕ) → begins_term (sign byte) ≡ true → (free (ref term)).prefix (byte ∷ [])
term_begins byte h = (produced grammar None term).there.prefix (byte ∷ []) (term_prefix byte h)

term_too_many : (levels byte : ℕ) (text : List ℕ) → begins_term (sign byte) ≡ true → GoesOn (ref term) levels (byte ∷ text) (byte ∷ text)
term_too_many levels byte text h = record {
  byte = byte;
  more = text;
  next = refl;
  up_to = record { taken = []; whole = refl; begun = (deep_within levels (ref term)).prefixes.empty };
  with_it = record { taken = byte ∷ []; whole = refl; begun = term_begins byte h };
}

term_too_deep : (byte : ℕ) (text : List ℕ) → begins_term (sign byte) ≡ true → Exceeded (free (ref term)) (bounded zero (ref term)) (byte ∷ text) (byte ∷ text)
term_too_deep byte text h =
    (production term (whole {N = ref term} {levels = zero} {start = byte ∷ text})).deep.exceeded (byte ∷ text) (too_deep grammar term_form (byte ∷ text) byte text refl (term_prefix byte h))

-- a node begins here, and what follows is read with one level fewer
term_entered : (levels nodes byte : ℕ) (text : List ℕ) (more : Rest → Reading U) → begins_term (sign byte) ≡ true
    → Outcome (ref term) (suc levels) (byte ∷ text) (more (record { nodes = nodes - 1; text = text }))
    → Outcome (ref term) (suc levels) (byte ∷ text) (entered (suc levels) (record { nodes = nodes; text = byte ∷ text }) >>= λ e r. more r)
term_entered levels nodes byte text more h t = rw (eqb-suc-zero levels) (go (nodes == 0))
  where
    go : (b : Bool)
        → Outcome (ref term) (suc levels) (byte ∷ text) (◌>>=◌ {A = Unit {0}} (if b then (Err TooMany, record { nodes = nodes; text = byte ∷ text }) else (Ok (tt {0}), record { nodes = nodes - 1; text = text })) (λ e r. more r))
    go true = term_too_many (suc levels) byte text h
    go false = t

term_at_none : (rest : Rest) → Outcome (ref term) zero rest.text (if begins_term (next rest) then (entered 0 rest >>= λ e r. bad r) else bad rest)
term_at_none rest = at rest.nodes rest.text
  where
    at : (nodes : ℕ) (text : List ℕ) → Outcome (ref term) zero text (if begins_term (next (record { nodes = nodes; text = text })) then (entered 0 (record { nodes = nodes; text = text }) >>= λ e r. bad r) else bad (record { nodes = nodes; text = text }))
    at nodes [] = fails (ref term) zero refl [] refl
    at nodes (byte ∷ text) = go (begins_term (sign byte)) (nodes == 0) refl
      where
        go : (a b : Bool) → begins_term (sign byte) ≡ a
            → Outcome (ref term) zero (byte ∷ text)
            (if a then (◌>>=◌ {A = Unit {0}} (if b then (Err TooMany, record { nodes = nodes; text = byte ∷ text }) else (Err TooDeep, record { nodes = nodes; text = byte ∷ text })) (λ e r. bad r)) else bad (record { nodes = nodes; text = byte ∷ text }))
        go true true e = term_too_many zero byte text e
        go true false e = term_too_deep byte text e
        go false b e = fails (ref term) zero refl (byte ∷ text) (rw e refl)

pub value_begins : (byte : ℕ) → begins_value (sign byte) ≡ true → (free (ref value)).prefix (byte ∷ [])
value_begins byte h = (produced grammar None value).there.prefix (byte ∷ []) (value_prefix byte h)

value_too_many : (levels byte : ℕ) (text : List ℕ) → begins_value (sign byte) ≡ true → GoesOn (ref value) levels (byte ∷ text) (byte ∷ text)
value_too_many levels byte text h = record {
  byte = byte;
  more = text;
  next = refl;
  up_to = record { taken = []; whole = refl; begun = (deep_within levels (ref value)).prefixes.empty };
  with_it = record { taken = byte ∷ []; whole = refl; begun = value_begins byte h };
}

value_too_deep : (byte : ℕ) (text : List ℕ) → begins_value (sign byte) ≡ true → Exceeded (free (ref value)) (bounded zero (ref value)) (byte ∷ text) (byte ∷ text)
value_too_deep byte text h =
    (production value (whole {N = ref value} {levels = zero} {start = byte ∷ text})).deep.exceeded (byte ∷ text) (too_deep grammar value_form (byte ∷ text) byte text refl (value_prefix byte h))

-- a node begins here, and what follows is read with one level fewer
value_entered : (levels nodes byte : ℕ) (text : List ℕ) (more : Rest → Reading Val) → begins_value (sign byte) ≡ true
    → Outcome (ref value) (suc levels) (byte ∷ text) (more (record { nodes = nodes - 1; text = text }))
    → Outcome (ref value) (suc levels) (byte ∷ text) (entered (suc levels) (record { nodes = nodes; text = byte ∷ text }) >>= λ e r. more r)
value_entered levels nodes byte text more h t = rw (eqb-suc-zero levels) (go (nodes == 0))
  where
    go : (b : Bool)
        → Outcome (ref value) (suc levels) (byte ∷ text) (◌>>=◌ {A = Unit {0}} (if b then (Err TooMany, record { nodes = nodes; text = byte ∷ text }) else (Ok (tt {0}), record { nodes = nodes - 1; text = text })) (λ e r. more r))
    go true = value_too_many (suc levels) byte text h
    go false = t

value_at_none : (rest : Rest) → Outcome (ref value) zero rest.text (if begins_value (next rest) then (entered 0 rest >>= λ e r. bad r) else bad rest)
value_at_none rest = at rest.nodes rest.text
  where
    at : (nodes : ℕ) (text : List ℕ) → Outcome (ref value) zero text (if begins_value (next (record { nodes = nodes; text = text })) then (entered 0 (record { nodes = nodes; text = text }) >>= λ e r. bad r) else bad (record { nodes = nodes; text = text }))
    at nodes [] = fails (ref value) zero refl [] refl
    at nodes (byte ∷ text) = go (begins_value (sign byte)) (nodes == 0) refl
      where
        go : (a b : Bool) → begins_value (sign byte) ≡ a
            → Outcome (ref value) zero (byte ∷ text)
            (if a then (◌>>=◌ {A = Unit {0}} (if b then (Err TooMany, record { nodes = nodes; text = byte ∷ text }) else (Err TooDeep, record { nodes = nodes; text = byte ∷ text })) (λ e r. bad r)) else bad (record { nodes = nodes; text = byte ∷ text }))
        go true true e = value_too_many zero byte text e
        go true false e = value_too_deep byte text e
        go false b e = fails (ref value) zero refl (byte ∷ text) (rw e refl)

-- ---- behind the first byte

module _ (levels : ℕ) (term_read : Rest → Reading U) (value_read : Rest → Reading Val)
    (terms : (rest : Rest) → Outcome (ref term) levels rest.text (term_read rest)) (values : (rest : Rest) → Outcome (ref value) levels rest.text (value_read rest))
    (unread : (rest : Rest) → begins_value (next rest) ≡ false → value_read rest ≡ bad rest) where
  lists : (rest : Rest) → Outcome (ref arguments) levels rest.text (list_of value_read rest)
  lists = reads_list levels value_read values unread value_begins

  -- a number, and then what is read so
  reads_numbered : {A B : Type 0} (f : F A) (read : Rest → Reading A) (reads : (rest : Rest) → Outcome f levels rest.text (read rest)) (built : ℕ → A → B) (o : ok grammar (seq (ref number) f) ≡ true) {C : Type 0} {N : F C} {most : ℕ} {start : List ℕ} (h : B → C)
      (rest : Rest) → Goes (seq (ref number) f) levels rest.text N most start (λ p. h (built p.0 p.1)) → Outcome N most start (number_at rest >>= λ n r. read r >>= λ a r. (Ok (h (built n a)), r))
  reads_numbered f read reads built o h rest l = then_next l o (number_at rest) (λ n r. read r >>= λ a r. (Ok (h (built n a)), r)) (reads_number levels rest) (λ n mid k. ends_in k (read mid) (reads mid))

  module _ (nodes byte : ℕ) (text : List ℕ) where
    abbrev here : Rest
    here = record { nodes = nodes; text = text }

    term_there : Goes (rules term) (suc levels) (byte ∷ text) (ref term) (suc levels) (byte ∷ text) (λ v. v)
    term_there = production term (whole {N = ref term} {levels = suc levels} {start = byte ∷ text})

    term_inner : Goes (term_form) levels (byte ∷ text) (ref term) (suc levels) (byte ∷ text) (λ v. v)
    term_inner = record { deep = term_there.deep; any = term_there.any }

    pub reads_term_with : (k : Sign) → sign byte ≡ k → begins_term k ≡ true → Outcome (ref term) (suc levels) (byte ∷ text) (term_with term_read value_read k here)
    reads_term_with s.Digit0 e h = (mapped {k = λ t. u.Zero} {f = of_code 0} (first term_inner refl (rw e refl))).deep.took byte text (takes levels (λ x. code x == 0) byte text (rw e refl))
    reads_term_with s.Digit1 e h = (mapped {k = λ t. u.One} {f = of_code 1} (first (other term_inner refl (rw e refl)) refl (rw e refl))).deep.took byte text (takes levels (λ x. code x == 1) byte text (rw e refl))
    reads_term_with s.Plus e h = ends_in (second (mapped {k = λ p. p.1} {f = seq (of_code 10) (pair (ref term))} (mapped {k = λ p. u.Add p.0 p.1} {f = skip_then (of_code 10) (pair (ref term))} (first (other (other term_inner refl (rw e refl)) refl (rw e refl)) refl (rw e refl)))) refl byte text (takes levels (λ x. code x == 10) byte text (rw e refl))) (pair_of term_read here) (reads_within (seq (ref term) (skip_then (of_code 22) (ref term))) levels (both term_read) (reads_both (ref term) levels term_read terms refl refl) refl refl here)
    reads_term_with s.Star e h = ends_in (second (mapped {k = λ p. p.1} {f = seq (of_code 11) (pair (ref term))} (mapped {k = λ p. u.Mul p.0 p.1} {f = skip_then (of_code 11) (pair (ref term))} (first (other (other (other term_inner refl (rw e refl)) refl (rw e refl)) refl (rw e refl)) refl (rw e refl)))) refl byte text (takes levels (λ x. code x == 11) byte text (rw e refl))) (pair_of term_read here) (reads_within (seq (ref term) (skip_then (of_code 22) (ref term))) levels (both term_read) (reads_both (ref term) levels term_read terms refl refl) refl refl here)
    reads_term_with s.Hash e h = ends_in (second (mapped {k = λ p. p.1} {f = seq (of_code 12) (g.within (ref term))} (mapped {k = λ a. u.Squash a} {f = skip_then (of_code 12) (g.within (ref term))} (first (other (other (other (other term_inner refl (rw e refl)) refl (rw e refl)) refl (rw e refl)) refl (rw e refl)) refl (rw e refl)))) refl byte text (takes levels (λ x. code x == 12) byte text (rw e refl))) (within term_read here) (reads_within (ref term) levels term_read terms refl refl here)
    reads_term_with s.Bang e h = ends_in (second (mapped {k = λ p. p.1} {f = seq (of_code 13) (g.within (ref term))} (mapped {k = λ a. u.Not a} {f = skip_then (of_code 13) (g.within (ref term))} (first (other (other (other (other (other term_inner refl (rw e refl)) refl (rw e refl)) refl (rw e refl)) refl (rw e refl)) refl (rw e refl)) refl (rw e refl)))) refl byte text (takes levels (λ x. code x == 13) byte text (rw e refl))) (within term_read here) (reads_within (ref term) levels term_read terms refl refl here)
    reads_term_with s.UpperS e h = ends_in (second (mapped {k = λ p. p.1} {f = seq (of_code 14) (g.within (ref term))} (mapped {k = λ a. u.Sum a} {f = skip_then (of_code 14) (g.within (ref term))} (first (other (other (other (other (other (other term_inner refl (rw e refl)) refl (rw e refl)) refl (rw e refl)) refl (rw e refl)) refl (rw e refl)) refl (rw e refl)) refl (rw e refl)))) refl byte text (takes levels (λ x. code x == 14) byte text (rw e refl))) (within term_read here) (reads_within (ref term) levels term_read terms refl refl here)
    reads_term_with s.UpperR e h = reads_numbered (ref arguments) (list_of value_read) lists (λ n a. u.Rel n a) refl (λ v. v) here (second (mapped {k = λ p. p.1} {f = seq (of_code 15) (seq (ref number) (ref arguments))} (mapped {k = λ p. u.Rel p.0 p.1} {f = skip_then (of_code 15) (seq (ref number) (ref arguments))} (first (other (other (other (other (other (other (other term_inner refl (rw e refl)) refl (rw e refl)) refl (rw e refl)) refl (rw e refl)) refl (rw e refl)) refl (rw e refl)) refl (rw e refl)) refl (rw e refl)))) refl byte text (takes levels (λ x. code x == 15) byte text (rw e refl)))
    reads_term_with s.Equals e h = ends_in (second (mapped {k = λ p. p.1} {f = seq (of_code 16) (pair (ref value))} (mapped {k = λ p. u.Eq p.0 p.1} {f = skip_then (of_code 16) (pair (ref value))} (first (other (other (other (other (other (other (other (other term_inner refl (rw e refl)) refl (rw e refl)) refl (rw e refl)) refl (rw e refl)) refl (rw e refl)) refl (rw e refl)) refl (rw e refl)) refl (rw e refl)) refl (rw e refl)))) refl byte text (takes levels (λ x. code x == 16) byte text (rw e refl))) (pair_of value_read here) (reads_within (seq (ref value) (skip_then (of_code 22) (ref value))) levels (both value_read) (reads_both (ref value) levels value_read values refl refl) refl refl here)
    reads_term_with s.UpperP e h = reads_numbered (ref arguments) (list_of value_read) lists (λ n a. u.Pred n a) refl (λ v. v) here (second (mapped {k = λ p. p.1} {f = seq (of_code 17) (seq (ref number) (ref arguments))} (mapped {k = λ p. u.Pred p.0 p.1} {f = skip_then (of_code 17) (seq (ref number) (ref arguments))} (other (other (other (other (other (other (other (other (other term_inner refl (rw e refl)) refl (rw e refl)) refl (rw e refl)) refl (rw e refl)) refl (rw e refl)) refl (rw e refl)) refl (rw e refl)) refl (rw e refl)) refl (rw e refl)))) refl byte text (takes levels (λ x. code x == 17) byte text (rw e refl)))
    reads_term_with k e h = absurd (true≢false (sym h))

    value_there : Goes (rules value) (suc levels) (byte ∷ text) (ref value) (suc levels) (byte ∷ text) (λ v. v)
    value_there = production value (whole {N = ref value} {levels = suc levels} {start = byte ∷ text})

    value_inner : Goes (value_form) levels (byte ∷ text) (ref value) (suc levels) (byte ∷ text) (λ v. v)
    value_inner = record { deep = value_there.deep; any = value_there.any }

    pub reads_value_with : (k : Sign) → sign byte ≡ k → begins_value k ≡ true → Outcome (ref value) (suc levels) (byte ∷ text) (value_with term_read value_read k here)
    reads_value_with s.UpperF e h = reads_numbered (ref arguments) (list_of value_read) lists (λ n a. v.Fun n a) refl (λ v. v) here (second (mapped {k = λ p. p.1} {f = seq (of_code 18) (seq (ref number) (ref arguments))} (mapped {k = λ p. v.Fun p.0 p.1} {f = skip_then (of_code 18) (seq (ref number) (ref arguments))} (first (other (other (other value_inner refl (rw e refl)) refl (rw e refl)) refl (rw e refl)) refl (rw e refl)))) refl byte text (takes levels (λ x. code x == 18) byte text (rw e refl)))
    reads_value_with s.UpperG e h = reads_numbered (g.within (ref term)) (within term_read) (reads_within (ref term) levels term_read terms refl refl) (λ n a. v.Agg n a) refl (λ v. v) here (second (mapped {k = λ p. p.1} {f = seq (of_code 19) (seq (ref number) (g.within (ref term)))} (mapped {k = λ p. v.Agg p.0 p.1} {f = skip_then (of_code 19) (seq (ref number) (g.within (ref term)))} (other (other (other (other value_inner refl (rw e refl)) refl (rw e refl)) refl (rw e refl)) refl (rw e refl)))) refl byte text (takes levels (λ x. code x == 19) byte text (rw e refl)))
    reads_value_with s.SmallB e h = ends_in (second (mapped {k = λ p. p.1} {f = seq (of_code 32) (ref number)} (mapped {k = λ i. v.Bound i} {f = skip_then (of_code 32) (ref number)} (first value_inner refl (rw e refl)))) refl byte text (takes levels (λ x. code x == 32) byte text (rw e refl))) (number_at here) (reads_number levels here)
    reads_value_with s.SmallC e h = ends_in (second (mapped {k = λ p. p.1} {f = seq (of_code 33) (ref number)} (mapped {k = λ i. v.Lit i} {f = skip_then (of_code 33) (ref number)} (first (other (other value_inner refl (rw e refl)) refl (rw e refl)) refl (rw e refl)))) refl byte text (takes levels (λ x. code x == 33) byte text (rw e refl))) (number_at here) (reads_number levels here)
    reads_value_with s.SmallF e h = ends_in (second (mapped {k = λ p. p.1} {f = seq (of_code 36) (ref number)} (mapped {k = λ i. v.Free i} {f = skip_then (of_code 36) (ref number)} (first (other value_inner refl (rw e refl)) refl (rw e refl)))) refl byte text (takes levels (λ x. code x == 36) byte text (rw e refl))) (number_at here) (reads_number levels here)
    reads_value_with k e h = absurd (true≢false (sym h))

  term_read_at : (nodes : ℕ) (text : List ℕ)
      → Outcome (ref term) (suc levels) text
      (if begins_term (next (record { nodes = nodes; text = text })) then (entered (suc levels) (record { nodes = nodes; text = text }) >>= λ e r. term_with term_read value_read (next (record { nodes = nodes; text = text })) r) else bad (record { nodes = nodes; text = text }))
  term_read_at nodes [] = fails (ref term) (suc levels) refl [] refl
  term_read_at nodes (byte ∷ text) = go (begins_term (sign byte)) refl
    where
      go : (a : Bool) → begins_term (sign byte) ≡ a
          → Outcome (ref term) (suc levels) (byte ∷ text) (if a then (entered (suc levels) (record { nodes = nodes; text = byte ∷ text }) >>= λ e r. term_with term_read value_read (sign byte) r) else bad (record { nodes = nodes; text = byte ∷ text }))
      go true e = term_entered levels nodes byte text (λ r. term_with term_read value_read (sign byte) r) e (reads_term_with (nodes - 1) byte text (sign byte) refl e)
      go false e = fails (ref term) (suc levels) refl (byte ∷ text) (rw e refl)

  value_read_at : (nodes : ℕ) (text : List ℕ)
      → Outcome (ref value) (suc levels) text
      (if begins_value (next (record { nodes = nodes; text = text })) then (entered (suc levels) (record { nodes = nodes; text = text }) >>= λ e r. value_with term_read value_read (next (record { nodes = nodes; text = text })) r) else bad (record { nodes = nodes; text = text }))
  value_read_at nodes [] = fails (ref value) (suc levels) refl [] refl
  value_read_at nodes (byte ∷ text) = go (begins_value (sign byte)) refl
    where
      go : (a : Bool) → begins_value (sign byte) ≡ a
          → Outcome (ref value) (suc levels) (byte ∷ text) (if a then (entered (suc levels) (record { nodes = nodes; text = byte ∷ text }) >>= λ e r. value_with term_read value_read (sign byte) r) else bad (record { nodes = nodes; text = byte ∷ text }))
      go true e = value_entered levels nodes byte text (λ r. value_with term_read value_read (sign byte) r) e (reads_value_with (nodes - 1) byte text (sign byte) refl e)
      go false e = fails (ref value) (suc levels) refl (byte ∷ text) (rw e refl)

-- ---- with so many levels

value_unread : (levels : ℕ) (rest : Rest) → begins_value (next rest) ≡ false → value_at levels rest ≡ bad rest
unfolding value_at
value_unread zero rest e = rw e refl
value_unread (suc levels) rest e = rw e refl

mutual
  unfolding term_at value_at

  pub reads_term : (levels : ℕ) (rest : Rest) → Outcome (ref term) levels rest.text (term_at levels rest)
  reads_term zero rest = term_at_none rest
  reads_term (suc levels) rest = term_read_at levels (term_at levels) (value_at levels) (reads_term levels) (reads_value levels) (value_unread levels) rest.nodes rest.text

  pub reads_value : (levels : ℕ) (rest : Rest) → Outcome (ref value) levels rest.text (value_at levels rest)
  reads_value zero rest = value_at_none rest
  reads_value (suc levels) rest = value_read_at levels (term_at levels) (value_at levels) (reads_term levels) (reads_value levels) (value_unread levels) rest.nodes rest.text

pub reads_values : (levels : ℕ) (rest : Rest) → Outcome (ref arguments) levels rest.text (list_of (value_at levels) rest)
reads_values levels rest = reads_list levels (value_at levels) (reads_value levels) (value_unread levels) value_begins rest
