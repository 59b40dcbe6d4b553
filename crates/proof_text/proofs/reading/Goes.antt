-- The steps of a reading through the forms of the grammar.
use Rattle.std.proofs.Common.{◌≡◌, ℕ, Bool, true, false, not, ◌&&◌, List, [], ◌∷◌, Some, None, Ok, Err, refl}
use Rattle.std.specs.Prelude.{◌==◌, if◌then◌else◌}
use Rattle.grammar.specs.Form.{token, seq, alt, map, ref, language}
use Rattle.grammar.specs.Lookahead.{Lookahead}
use Rattle.grammar.specs.Reading.{Took, Failed, Residual}
use Rattle.grammar.proofs.readers.Choices.{is_absent}
use Rattle.grammar.proofs.readers.Predictions.{ok, ahead, within, limits_within, produced}
use Rattle.grammar.proofs.readers.Residuals as r
use Rattle.grammar.proofs.readers.Steps.{IsWithin, token_took, token_failed, token_ended}
use Rattle.proof_text.specs.declared.cursor.Stop.TheVariants.{Unexpected, TooMany, TooDeep, NoMemory}
use Rattle.proof_text.specs.Signs.{Sign, code, sign}
use Rattle.proof_text.specs.Grammar.{F, Name, Tree, rules, of_code}
use Rattle.proof_text.specs.Reading.{Rest, Reading, ◌>>=◌, sign_at, expected}
use Rattle.proof_text.specs.Outcomes.{free, bounded, Outcome}
use Rattle.proof_text.proofs.reading.OneLine.{grammar}

pub deep_within : {A : Type 0} (levels : ℕ) (f : F A) → IsWithin (free f) (bounded levels f)
deep_within levels f = within grammar (language sign rules) (limits_within grammar) (Some levels) f

pub any_within : {A : Type 0} (f : F A) → IsWithin (free f) (free f)
any_within f = within grammar (language sign rules) (limits_within grammar) None f

took_any : {A : Type 0} (levels : ℕ) (f : F A) (here : List ℕ) (v : A) (rest : List ℕ) → Took (free f) (bounded levels f) here v rest → Took (free f) (free f) here v rest
took_any levels f here v rest t = record { taken = t.taken; whole = t.whole; spelled = (deep_within levels f).includes.spells t.taken v t.spelled; stops = t.stops }

-- f remains to be read here, with so many levels, of a reading of N that began at the start
pub record Goes {C A : Type 0} (f : F C) (levels : ℕ) (here : List ℕ) (N : F A) (most : ℕ) (start : List ℕ) (h : C → A) : Type 0 where
  pub deep : Residual (free f) (bounded levels f) here (free N) (bounded most N) start h
  pub any : Residual (free f) (free f) here (free N) (free N) start h

pub whole : {A : Type 0} {N : F A} {levels : ℕ} {start : List ℕ} → Goes N levels start N levels start (λ v. v)
whole {N = N} {levels = levels} {start = start} = record { deep = r.residual_whole (free N) (bounded levels N) start; any = r.residual_whole (free N) (free N) start }

module _ {A : Type 0} {N : F A} {most : ℕ} {start : List ℕ} where
  -- what is read of the last form is what is read of N
  pub ends_in : {C : Type 0} {f : F C} {levels : ℕ} {here : List ℕ} {h : C → A} → Goes f levels here N most start h → (reading : Reading C) → Outcome f levels here reading
      → Outcome N most start (reading >>= λ v rest. (Ok (h v), rest))
  ends_in l (Ok v, rest) t = l.deep.took v rest.text t
  ends_in l (Err Unexpected, rest) t = l.deep.failed rest.text t
  ends_in l (Err TooMany, rest) t = record { byte = t.byte; more = t.more; next = t.next; up_to = l.deep.began rest.text t.up_to; with_it = l.any.began t.more t.with_it }
  ends_in l (Err TooDeep, rest) t = l.deep.exceeded rest.text t
  ends_in l (Err NoMemory, rest) t = elim t [ ]

  pub mapped : {C D : Type 0} {k : C → D} {f : F C} {levels : ℕ} {here : List ℕ} {h : D → A} → Goes (map k f) levels here N most start h → Goes f levels here N most start (λ v. h (k v))
  mapped {k = k} {f = f} {levels = levels} {here = here} {h = h} l = record {
    deep = r.left_map grammar _ _ start k f (bounded levels f) here h l.deep;
    any = r.left_map grammar _ _ start k f (free f) here h l.any;
  }

  pub production : {levels : ℕ} {here : List ℕ} (n : Name) {h : Tree n → A} → Goes (ref n) levels here N most start h → Goes (rules n) levels here N most start h
  production {levels = levels} {here = here} n {h = h} l = record {
    deep = r.residual_production grammar n _ _ (produced grammar (Some levels) n) here _ _ start h l.deep;
    any = r.residual_production grammar n _ _ (produced grammar None n) here _ _ start h l.any;
  }

  module _ {C D : Type 0} {f : F C} {e : F D} {levels : ℕ} {here : List ℕ} {h : C × D → A} (l : Goes (seq f e) levels here N most start h) (o : ok grammar (seq f e) ≡ true) where
    pub second : (v : C) (mid : List ℕ) → Took (free f) (bounded levels f) here v mid → Goes e levels mid N most start (λ w. h (v, w))
    second v mid t = record {
      deep = r.left_second grammar _ _ start f e _ _ (deep_within levels f) (deep_within levels e) o here h l.deep v mid t;
      any = r.left_second grammar _ _ start f e _ _ (any_within f) (any_within e) o here h l.any v mid (took_any levels f here v mid t);
    }

    -- the first is read, and then what follows
    pub then_known : (reading : Reading C) (more : C → Rest → Reading A) → Outcome f levels here reading
        → ((v : C) (mid : Rest) → reading ≡ (Ok v, mid) → Goes e levels mid.text N most start (λ w. h (v, w)) → Outcome N most start (more v mid))
        → Outcome N most start (reading >>= more)
    then_known (Ok v, mid) more t k = k v mid refl (second v mid.text t)
    then_known (Err Unexpected, rest) more t k = r.left_first_failed grammar _ _ start f e _ _ (deep_within levels f) (deep_within levels e) o here h l.deep rest.text t
    then_known (Err TooDeep, rest) more t k = r.left_first_exceeded grammar _ _ start f e _ _ (deep_within levels f) (deep_within levels e) o here h l.deep rest.text t
    then_known (Err TooMany, rest) more t k = record {
      byte = t.byte;
      more = t.more;
      next = t.next;
      up_to = r.left_first_began grammar _ _ start f e _ _ (deep_within levels f) (deep_within levels e) o here h l.deep rest.text t.up_to;
      with_it = r.left_first_began grammar _ _ start f e _ _ (any_within f) (any_within e) o here h l.any t.more t.with_it;
    }
    then_known (Err NoMemory, rest) more t k = elim t [ ]

    pub then_next : (reading : Reading C) (more : C → Rest → Reading A) → Outcome f levels here reading
        → ((v : C) (mid : Rest) → Goes e levels mid.text N most start (λ w. h (v, w)) → Outcome N most start (more v mid))
        → Outcome N most start (reading >>= more)
    then_next reading more t k = then_known reading more t (λ v mid i g. k v mid g)

  module _ {C : Type 0} {f e : F C} {levels : ℕ} {here : List ℕ} {h : C → A} (l : Goes (alt f e) levels here N most start h) where
    pub first : ok grammar e ≡ true → is_absent sign (ahead grammar e) here ≡ true → Goes f levels here N most start h
    first o n = record {
      deep = r.left_first grammar _ _ start f e _ _ here h l.deep (deep_within levels e) o n;
      any = r.left_first grammar _ _ start f e _ _ here h l.any (any_within e) o n;
    }

    pub other : ok grammar f ≡ true → is_absent sign (ahead grammar f) here ≡ true → Goes e levels here N most start h
    other o n = record {
      deep = r.left_other grammar _ _ start f e _ _ here h l.deep (deep_within levels f) o n;
      any = r.left_other grammar _ _ start f e _ _ here h l.any (any_within f) o n;
    }

    -- the next byte begins the first
    pub by_next : ok grammar (alt f e) ≡ true → (byte : ℕ) (text : List ℕ) → here ≡ byte ∷ text → (free f).prefix (byte ∷ []) → Goes f levels here N most start h
    by_next o byte text i b = record {
      deep = r.left_by_token grammar _ _ start f e _ _ here h l.deep (deep_within levels e) o byte text i b;
      any = r.left_by_token grammar _ _ start f e _ _ here h l.any (any_within e) o byte text i b;
    }

-- ---- tokens
-- the sign that stands here begins nothing of the form
pub absent_by : (a : Lookahead Sign) (k : Sign) (byte : ℕ) (text : List ℕ) → sign byte ≡ k → (not a.nullable && not (a.first k)) ≡ true → is_absent sign a (byte ∷ text) ≡ true
absent_by a k byte text e n = rw e n

-- one byte of these signs, where it stands here
pub takes : (levels : ℕ) (p : Sign → Bool) (byte : ℕ) (text : List ℕ) → p (sign byte) ≡ true → Took (free (token p)) (bounded levels (token p)) (byte ∷ text) byte text
takes levels p byte text e = token_took sign p byte text e

pub misses : (levels : ℕ) (p : Sign → Bool) (text : List ℕ) → p (sign_at text) ≡ false → Failed (free (token p)) (bounded levels (token p)) text text
misses levels p [] e = token_ended sign p
misses levels p (byte ∷ text) e = token_failed sign p byte text e

module _ {A : Type 0} {N : F A} {most : ℕ} {start : List ℕ} {D : Type 0} {f : F D} {levels : ℕ} {h : ℕ × D → A} (c : ℕ) (no_end : (54 == c) ≡ false) (nodes : ℕ) where
  -- this sign is passed, and then what follows is read
  pub passing : (text : List ℕ) → Goes (seq (of_code c) f) levels text N most start h → ok grammar (seq (of_code c) f) ≡ true → (more : Rest → Reading A)
      → ((byte : ℕ) (mid : Rest) → Goes f levels mid.text N most start (λ w. h (byte, w)) → Outcome N most start (more mid))
      → Outcome N most start (expected c (record { nodes = nodes; text = text }) >>= λ t r. more r)
  passing [] l o more k = rw no_end (then_next l o (Err Unexpected, record { nodes = nodes; text = [] }) (λ t r. more r) (misses levels (λ x. code x == c) [] no_end) (λ v mid g. k v mid g))
  passing (byte ∷ text) l o more k = go (code (sign byte) == c) refl
    where
      go : (b : Bool) → (code (sign byte) == c) ≡ b
          → Outcome N most start (◌>>=◌ {A = Unit {0}} (if b then (Ok (tt {0}), record { nodes = nodes; text = text }) else (Err Unexpected, record { nodes = nodes; text = byte ∷ text })) (λ t r. more r))
      go true e = k byte (record { nodes = nodes; text = text }) (second l o byte text (takes levels (λ x. code x == c) byte text e))
      go false e = then_next l o (Err Unexpected, record { nodes = nodes; text = byte ∷ text }) (λ t r. more r) (misses levels (λ x. code x == c) (byte ∷ text) e) (λ v mid g. k v mid g)

module _ {A : Type 0} {N : F A} {most : ℕ} {start : List ℕ} {levels : ℕ} (c : ℕ) (no_end : (54 == c) ≡ false) (nodes : ℕ) where
  -- this sign is the last
  pub closing : (text : List ℕ) (a : A) → Goes (of_code c) levels text N most start (λ w. a) → Outcome N most start (expected c (record { nodes = nodes; text = text }) >>= λ t r. (Ok a, r))
  closing [] a l = rw no_end (l.deep.failed [] (misses levels (λ x. code x == c) [] no_end))
  closing (byte ∷ text) a l = go (code (sign byte) == c) refl
    where
      go : (b : Bool) → (code (sign byte) == c) ≡ b
          → Outcome N most start (◌>>=◌ {A = Unit {0}} (if b then (Ok (tt {0}), record { nodes = nodes; text = text }) else (Err Unexpected, record { nodes = nodes; text = byte ∷ text })) (λ t r. (Ok a, r)))
      go true e = l.deep.took byte text (takes levels (λ x. code x == c) byte text e)
      go false e = l.deep.failed (byte ∷ text) (misses levels (λ x. code x == c) (byte ∷ text) e)
