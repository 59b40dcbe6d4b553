-- What stands in parentheses is read as the grammar takes it.
use Rattle.std.proofs.Common.{◌≡◌, ℕ, zero, suc, ◌≤◌, ◌<◌, Bool, true, false, List, [], ◌∷◌, length, length-append, inl, inr, Option, Some, None, Ok, Err, refl, ap, ◌∙◌, subst, arith}
use Rattle.std.specs.Prelude.{◌==◌, if◌then◌else◌}
use Rattle.std.proofs.lemmas.Bool.{eqb-true}
use Rattle.grammar.specs.Form.{empty, seq, star, ref}
use Rattle.grammar.specs.Productions.{skip_then, then_skip, optional, separated}
use Rattle.grammar.specs.Reading.{Took}
use Rattle.grammar.proofs.readers.Predictions.{ok, ahead, named}
use Rattle.grammar.proofs.readers.Choices.{is_absent}
use Rattle.grammar.proofs.readers.Residuals as r
use Rattle.grammar.proofs.readers.Steps.{empty_took}
use Rattle.u_terms.specs.declared.term.Val.{Val}
use Rattle.proof_text.specs.declared.cursor.Stop.TheVariants.{Unexpected, TooMany, TooDeep, NoMemory}
use Rattle.proof_text.specs.Signs.{code, sign}
use Rattle.proof_text.specs.Grammar.{F, Name, value, arguments, rules, of_code, pair}
use Rattle.proof_text.specs.Grammar as g
use Rattle.proof_text.specs.Grammar.{begins_value}
use Rattle.proof_text.specs.Reading.{Rest, Reading, ◌>>=◌, next, passed, bad, expected, within, both, values_with, values_at, list_of}
use Rattle.proof_text.specs.Outcomes.{free, bounded, Outcome}
use Rattle.proof_text.proofs.reading.OneLine.{grammar}
use Rattle.proof_text.proofs.reading.Goes.{Goes, deep_within, any_within, whole, mapped, production, second, then_next, then_known, ends_in, other, by_next, takes, passing, closing, misses}

module _ {C : Type 0} (f : F C) (levels : ℕ) (read : Rest → Reading C) (reads : (rest : Rest) → Outcome f levels rest.text (read rest)) where
  pub reads_within : ok grammar (seq (of_code 20) (then_skip f (of_code 21))) ≡ true → ok grammar (seq f (of_code 21)) ≡ true → (rest : Rest) → Outcome (g.within f) levels rest.text (within read rest)
  reads_within o p rest =
      passing 20 refl rest.nodes rest.text (mapped {k = λ p. p.1} {f = seq (of_code 20) (then_skip f (of_code 21))} (whole {N = g.within f} {levels = levels} {start = rest.text})) o (λ r. read r >>= λ a r. expected 21 r >>= λ c r. (Ok a, r))
      (λ byte mid l. then_next (mapped {k = λ p. p.0} {f = seq f (of_code 21)} l) p (read mid) (λ a r. expected 21 r >>= λ c r. (Ok a, r)) (reads mid) (λ a end k. closing 21 refl end.nodes end.text a k))

  pub reads_both : ok grammar (seq f (skip_then (of_code 22) f)) ≡ true → ok grammar (seq (of_code 22) f) ≡ true → (rest : Rest) → Outcome (seq f (skip_then (of_code 22) f)) levels rest.text (both read rest)
  reads_both o p rest =
      then_next (whole {N = seq f (skip_then (of_code 22) f)} {levels = levels} {start = rest.text}) o (read rest) (λ a r. expected 22 r >>= λ m r. read r >>= λ b r. (Ok (a, b), r)) (reads rest)
      (λ a mid l. passing 22 refl mid.nodes mid.text (mapped {k = λ p. p.1} {f = seq (of_code 22) f} l) p (λ r. read r >>= λ b r. (Ok (a, b), r)) (λ byte end k. ends_in k (read end) (reads end)))

-- ---- lists of values

abbrev comma_value : F Val
comma_value = skip_then (of_code 22) (ref value)

module _ (read : Rest → Reading Val) where
  -- values, each behind a comma
  abbrev more_values : ℕ → Rest → Reading (List Val)
  more_values zero rest = if code (next rest) == 22 then bad (passed rest) else (Ok [], rest)
  more_values (suc most) rest = if code (next rest) == 22 then (read (passed rest) >>= λ a r. more_values most r >>= λ others r. (Ok (a ∷ others), r)) else (Ok [], rest)

  last_sign : (a b : Val) (others : List Val) (reading : Reading (Unit {0}))
      → ((reading >>= λ c r. (Ok (b ∷ others), r)) >>= λ others r. (Ok (a ∷ others), r)) ≡ (reading >>= λ c r. (Ok (a ∷ (b ∷ others)), r))
  last_sign a b others (Ok c, r) = refl
  last_sign a b others (Err stop, r) = refl

  then_others : (a b : Val) (reading : Reading (List Val))
      → ((reading >>= λ others r. expected 21 r >>= λ c r. (Ok (b ∷ others), r)) >>= λ others r. (Ok (a ∷ others), r))
      ≡ ((reading >>= λ others r. (Ok (b ∷ others), r)) >>= λ others r. expected 21 r >>= λ c r. (Ok (a ∷ others), r))
  then_others a b (Ok others, r) = last_sign a b others (expected 21 r)
  then_others a b (Err stop, r) = refl

  one_by_one : (a : Val) (reading : Reading Val) (more : Rest → Reading (List Val))
      → ((reading >>= λ b r. more r >>= λ others r. expected 21 r >>= λ c r. (Ok (b ∷ others), r)) >>= λ others r. (Ok (a ∷ others), r))
      ≡ ((reading >>= λ b r. more r >>= λ others r. (Ok (b ∷ others), r)) >>= λ others r. expected 21 r >>= λ c r. (Ok (a ∷ others), r))
  one_by_one a (Ok b, r) more = then_others a b (more r)
  one_by_one a (Err stop, r) more = refl

  abbrev closing_all : ℕ → Val → Rest → Reading (List Val)
  closing_all most a rest = more_values most rest >>= λ others r. expected 21 r >>= λ c r. (Ok (a ∷ others), r)

  pub values_split : (most : ℕ) (rest : Rest) → values_at read (suc most) rest ≡ (read rest >>= closing_all most)
  unfolding values_at
  values_split zero rest = over (read rest)
    where
      last : (a : Val) (r : Rest) (b : Bool)
          → (if b then (bad (passed r) >>= λ others r. (Ok (a ∷ others), r)) else (expected 21 r >>= λ c r. (Ok (a ∷ []), r)))
          ≡ ((if b then bad (passed r) else (Ok [], r)) >>= λ others r. expected 21 r >>= λ c r. (Ok (a ∷ others), r))
      last a r true = refl
      last a r false = refl

      over : (reading : Reading Val) → (reading >>= values_with (values_at read zero)) ≡ (reading >>= closing_all zero)
      over (Ok a, r) = last a r (code (next r) == 22)
      over (Err stop, r) = refl
  values_split (suc most) rest = over (λ r. values_split most r) (read rest)
    where
      go : (a : Val) (r : Rest) → values_at read (suc most) (passed r) ≡ (read (passed r) >>= closing_all most) → (b : Bool)
          → (if b then (values_at read (suc most) (passed r) >>= λ others r. (Ok (a ∷ others), r)) else (expected 21 r >>= λ c r. (Ok (a ∷ []), r)))
          ≡ ((if b then (read (passed r) >>= λ b r. more_values most r >>= λ others r. (Ok (b ∷ others), r)) else (Ok [], r)) >>= λ others r. expected 21 r >>= λ c r. (Ok (a ∷ others), r))
      go a r e true = ap (λ reading. reading >>= λ others r. (Ok (a ∷ others), r)) e ∙ one_by_one a (read (passed r)) (more_values most)
      go a r e false = refl

      over : ((r : Rest) → values_at read (suc most) r ≡ (read r >>= closing_all most)) → (reading : Reading Val) → (reading >>= values_with (values_at read (suc most))) ≡ (reading >>= closing_all (suc most))
      over more (Ok a, r) = go a r (more (passed r)) (code (next r) == 22)
      over more (Err stop, r) = refl

module _ (levels : ℕ) (read : Rest → Reading Val) (reads : (rest : Rest) → Outcome (ref value) levels rest.text (read rest)) where
  reads_comma : (rest : Rest) → Outcome comma_value levels rest.text (expected 22 rest >>= λ c r. read r >>= λ a r. (Ok a, r))
  reads_comma rest = passing 22 refl rest.nodes rest.text (mapped (whole {N = comma_value} {levels = levels} {start = rest.text})) refl (λ r. read r >>= λ a r. (Ok a, r)) (λ byte mid k. ends_in k (read mid) (reads mid))

  abbrev stars : F (List Val)
  stars = star None comma_value

  over_star : (byte : ℕ) (text : List ℕ) → (code (sign byte) == 22) ≡ true → (most : ℕ) (one : Reading Val) → Outcome comma_value levels (byte ∷ text) one → ((v : Val) (r : Rest) → one ≡ (Ok v, r) → Outcome stars levels r.text (more_values read most r))
      → Outcome stars levels (byte ∷ text) (one >>= λ a r. more_values read most r >>= λ others r. (Ok (a ∷ others), r))
  over_star byte text e most (Ok a, mid) t k = ends_in (more_left a mid t) (more_values read most mid) (k a mid refl)
    where
      more_left : (a : Val) (rest : Rest) → Took (free comma_value) (bounded levels comma_value) (byte ∷ text) a rest.text → Goes stars levels rest.text stars levels (byte ∷ text) (λ others. a ∷ others)
      more_left a rest t = record {
        deep = r.left_next grammar _ _ (byte ∷ text) (Some levels) None comma_value (bounded levels comma_value) (deep_within levels comma_value) (byte ∷ text) (λ v. v) refl (whole {N = stars} {levels = levels} {start = byte ∷ text}).deep a rest.text t;
        any = r.left_next grammar _ _ (byte ∷ text) None None comma_value (free comma_value) (any_within comma_value) (byte ∷ text) (λ v. v) refl (whole {N = stars} {levels = levels} {start = byte ∷ text}).any a rest.text
            (record { taken = t.taken; whole = t.whole; spelled = (deep_within levels comma_value).includes.spells t.taken a t.spelled; stops = t.stops });
      }
  over_star byte text e most (Err Unexpected, rest) t k =
      r.left_next_failed grammar _ _ (byte ∷ text) (Some levels) None comma_value (bounded levels comma_value) (deep_within levels comma_value) (byte ∷ text) (λ v. v) refl (whole {N = stars} {levels = levels} {start = byte ∷ text}).deep
      byte text refl (inl (inr (byte, refl, e))) rest.text t
  over_star byte text e most (Err TooDeep, rest) t k =
      r.left_next_exceeded grammar _ _ (byte ∷ text) (Some levels) None comma_value (bounded levels comma_value) (deep_within levels comma_value) (byte ∷ text) (λ v. v) refl (whole {N = stars} {levels = levels} {start = byte ∷ text}).deep rest.text t
  over_star byte text e most (Err TooMany, rest) t k = record {
    byte = t.byte;
    more = t.more;
    next = t.next;
    up_to = r.left_next_began grammar _ _ (byte ∷ text) (Some levels) None comma_value (bounded levels comma_value) (deep_within levels comma_value) (byte ∷ text) (λ v. v) refl (whole {N = stars} {levels = levels} {start = byte ∷ text}).deep rest.text t.up_to;
    with_it = r.left_next_began grammar _ _ (byte ∷ text) None None comma_value (free comma_value) (any_within comma_value) (byte ∷ text) (λ v. v) refl (whole {N = stars} {levels = levels} {start = byte ∷ text}).any t.more t.with_it;
  }
  over_star byte text e most (Err NoMemory, r) t k = elim t [ ]

  same_reading : (start : List ℕ) (reading : Reading Val) → Outcome comma_value levels start (reading >>= λ v r. (Ok v, r)) → Outcome comma_value levels start reading
  same_reading start (Ok v, r) t = t
  same_reading start (Err Unexpected, r) t = t
  same_reading start (Err TooMany, r) t = t
  same_reading start (Err TooDeep, r) t = t
  same_reading start (Err NoMemory, r) t = t

  shorter : (text : List ℕ) (reading : Reading Val) → Outcome (ref value) levels text reading → (v : Val) (r : Rest) → reading ≡ (Ok v, r) → length r.text ≤ length text
  shorter text reading t v r e =
      let took : Took (free (ref value)) (bounded levels (ref value)) text v r.text = subst (λ z. Outcome (ref value) levels text z) e t in
      omega (arith, ap length took.whole, length-append took.taken r.text)

  no_more : (text : List ℕ) → is_absent sign (ahead grammar comma_value) text ≡ true → Took (free stars) (bounded levels stars) text [] text
  no_more text n = r.left_end grammar _ _ text (Some levels) None comma_value (bounded levels comma_value) (deep_within levels comma_value) text (λ v. v) refl (whole {N = stars} {levels = levels} {start = text}).deep n

  reads_more : (most nodes : ℕ) (text : List ℕ) → length text ≤ most → Outcome stars levels text (more_values read most (record { nodes = nodes; text = text }))
  reads_more zero nodes [] h = no_more [] refl
  reads_more zero nodes (byte ∷ text) h = absurd (omega (arith, h))
  reads_more (suc most) nodes [] h = no_more [] refl
  reads_more (suc most) nodes (byte ∷ text) h = go (code (sign byte) == 22) refl (λ v r e. reads_more most r.nodes r.text (let k = shorter text (read (record { nodes = nodes; text = text })) (reads (record { nodes = nodes; text = text })) v r e in omega arith))
    where
      go : (b : Bool) → (code (sign byte) == 22) ≡ b
          → ((v : Val) (r : Rest) → read (record { nodes = nodes; text = text }) ≡ (Ok v, r) → Outcome stars levels r.text (more_values read most r))
          → Outcome stars levels (byte ∷ text) (if b then (read (record { nodes = nodes; text = text }) >>= λ a r. more_values read most r >>= λ others r. (Ok (a ∷ others), r)) else (Ok [], record { nodes = nodes; text = byte ∷ text }))
      go true e k =
          over_star byte text e most (read (record { nodes = nodes; text = text }))
          (same_reading (byte ∷ text) (read (record { nodes = nodes; text = text }))
          (ends_in (second (mapped {k = λ p. p.1} {f = seq (of_code 22) (ref value)} (whole {N = comma_value} {levels = levels} {start = byte ∷ text})) refl byte text (takes levels (λ x. code x == 22) byte text e)) (read (record { nodes = nodes; text = text })) (reads (record { nodes = nodes; text = text }))))
          k
      go false e k = no_more (byte ∷ text) (rw e refl)

  -- ---- with parentheses

  abbrev some : F (Val × List Val)
  some = separated None (of_code 22) (ref value)

  abbrev items : ℕ → Rest → Reading (Option (Val × List Val))
  items most rest = read rest >>= λ a r. more_values read most r >>= λ others r. (Ok (Some (a, others)), r)

  split_items : (most : ℕ) (reading : Reading Val)
      → (reading >>= closing_all read most) ≡ ((reading >>= λ a r. more_values read most r >>= λ others r. (Ok (Some (a, others)), r)) >>= λ o r. expected 21 r >>= λ c r. (Ok (g.or_none o), r))
  split_items most (Err stop, r) = refl
  split_items most (Ok a, r) = over (more_values read most r)
    where
      over : (reading : Reading (List Val)) → (reading >>= λ others r. expected 21 r >>= λ c r. (Ok (a ∷ others), r))
          ≡ ((reading >>= λ others r. (Ok (Some (a, others)), r)) >>= λ o r. expected 21 r >>= λ c r. (Ok (g.or_none o), r))
      over (Ok others, r) = refl
      over (Err stop, r) = refl

  -- what stands behind the parenthesis
  abbrev opened : Rest → Reading (List Val)
  opened rest = if code (next rest) == 21 then (Ok [], passed rest) else values_at read (length rest.text) rest

  none_there : (text : List ℕ) → is_absent sign (ahead grammar some) text ≡ true → Took (free (optional some)) (bounded levels (optional some)) text None text
  none_there text n = (mapped {k = λ v. None} {f = empty} (other (whole {N = optional some} {levels = levels} {start = text}) refl n)).deep.took tt text (empty_took text)

  some_taken : (x : List ℕ) (v : Val) → (bounded levels (ref value)).spells x v → 1 ≤ length x
  some_taken [] v s = let e : false ≡ true = (named grammar (Some levels) value).ahead.nullable v s in cc
  some_taken (c ∷ x) v s = omega arith

  strictly : (text : List ℕ) (reading : Reading Val) → Outcome (ref value) levels text reading → (v : Val) (r : Rest) → reading ≡ (Ok v, r) → length r.text < length text
  strictly text reading t v r e =
      let took : Took (free (ref value)) (bounded levels (ref value)) text v r.text = subst (λ z. Outcome (ref value) levels text z) e t in
      omega (arith, ap length took.whole, length-append took.taken r.text, some_taken took.taken v took.spelled)

  module _ (unread : (rest : Rest) → begins_value (next rest) ≡ false → read rest ≡ bad rest) (prefix : (byte : ℕ) → begins_value (sign byte) ≡ true → (free (ref value)).prefix (byte ∷ [])) where
    items_read : (nodes byte : ℕ) (text : List ℕ) → begins_value (sign byte) ≡ true → Outcome (optional some) levels (byte ∷ text) (items (length text) (record { nodes = nodes; text = byte ∷ text }))
    items_read nodes byte text e =
        then_known (mapped {k = λ v. Some v} {f = some} (by_next (whole {N = optional some} {levels = levels} {start = byte ∷ text}) refl byte text refl (inl (prefix byte e)))) refl
        (read (record { nodes = nodes; text = byte ∷ text })) (λ a r. more_values read (length text) r >>= λ others r. (Ok (Some (a, others)), r)) (reads (record { nodes = nodes; text = byte ∷ text }))
        (λ a mid i k. ends_in k (more_values read (length text) mid)
        (reads_more (length text) mid.nodes mid.text (let h = strictly (byte ∷ text) (read (record { nodes = nodes; text = byte ∷ text })) (reads (record { nodes = nodes; text = byte ∷ text })) a mid i in omega arith)))

    module _ {N : F (List Val)} {start : List ℕ} where
      behind : (nodes : ℕ) (text : List ℕ) → Goes (seq (optional some) (of_code 21)) levels text N levels start (λ p. g.or_none p.0) → Outcome N levels start (opened (record { nodes = nodes; text = text }))
      unfolding values_at
      behind nodes [] l = closing 21 refl nodes [] [] (second l refl None [] (none_there [] refl))
      behind nodes (byte ∷ text) l = go (code (sign byte) == 21) (begins_value (sign byte)) refl refl
        where
          go : (a b : Bool) → (code (sign byte) == 21) ≡ a → begins_value (sign byte) ≡ b → Outcome N levels start (opened (record { nodes = nodes; text = byte ∷ text }))
          go true b i j =
              let e : code (sign byte) ≡ 21 = eqb-true (code (sign byte)) 21 i in
              rw i ((second l refl None (byte ∷ text) (none_there (byte ∷ text) (rw e refl))).deep.took byte text (takes levels (λ x. code x == 21) byte text i))
          go false true i j =
              rw (i, values_split read (length text) (record { nodes = nodes; text = byte ∷ text }), split_items (length text) (read (record { nodes = nodes; text = byte ∷ text })))
              (then_next l refl (items (length text) (record { nodes = nodes; text = byte ∷ text })) (λ o r. expected 21 r >>= λ c r. (Ok (g.or_none o), r)) (items_read nodes byte text j)
              (λ o end k. closing 21 refl end.nodes end.text (g.or_none o) k))
          go false false i j =
              rw (i, values_split read (length text) (record { nodes = nodes; text = byte ∷ text }), unread (record { nodes = nodes; text = byte ∷ text }) j)
              ((second l refl None (byte ∷ text) (none_there (byte ∷ text) (rw j refl))).deep.failed (byte ∷ text) (misses levels (λ x. code x == 21) (byte ∷ text) i))

    pub reads_list : (rest : Rest) → Outcome (ref arguments) levels rest.text (list_of read rest)
    reads_list rest =
        passing 20 refl rest.nodes rest.text
        (mapped {k = λ p. p.1} {f = seq (of_code 20) (then_skip (optional some) (of_code 21))} (mapped {k = g.or_none} {f = g.within (optional some)} (production arguments (whole {N = ref arguments} {levels = levels} {start = rest.text}))))
        refl (λ r. opened r) (λ byte mid l. behind mid.nodes mid.text (mapped {k = λ p. p.0} {f = seq (optional some) (of_code 21)} l))
