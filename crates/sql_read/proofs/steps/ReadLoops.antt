-- The steps of the reader through a repetition: none follows, one more was read, one more begins, and one more is one too many.
use Rattle.std.proofs.Common.{◌≡◌, ℕ, zero, suc, ◌-◌, ◌<◌, Bool, true, List, [], ◌∷◌, Option, Some, None, Err, inl, inr, refl, sym, subst, arith}
use Rattle.grammar.specs.Form.{token, seq, star, counted}
use Rattle.grammar.specs.Productions.{skip_then}
use Rattle.grammar.specs.Language.{Language}
use Rattle.grammar.specs.Reading.{Exceeded, Began}
use Rattle.grammar.proofs.readers.Begun.{nothing_began}
use Rattle.grammar.proofs.readers.Choices.{is_absent}
use Rattle.grammar.proofs.readers.Predictions.{ok, ahead}
use Rattle.grammar.proofs.readers.Residuals as r
use Rattle.grammar.proofs.readers.Repetitions.{once_more}
use Rattle.grammar.proofs.readers.Steps.{counted_failed, counted_exceeded}
use Rattle.sql_lex.specs.Lexemes.{Lexeme}
use Rattle.sql_cursor.specs.declared.fault.ReadFault.{ReadFault}
use Rattle.sql_cursor.specs.declared.fault.ReadFault.TheVariants.{TooDeep}
use Rattle.sql_cursor.specs.Cursor.{Cursor}
use Rattle.sql_cursor.specs.Eating.{ExpectsWithin, Extends, is_next, Stays, Overflows, PassesWithin}
use Rattle.sql_grammar.specs.declared.kinds.Kind.{Kind}
use Rattle.sql_grammar.specs.Kinds.{kind_of}
use Rattle.sql_grammar.specs.QueryGrammar.{The}
use Rattle.sql_read.specs.Reads.{Told, TellsEntries, few_form, TakesWithin, RefusesWithin}
use Rattle.sql_grammar.proofs.queries.QueryTable.{left_factored}
pub use Rattle.sql_read.proofs.steps.ReadSteps.{takes}
use Rattle.sql_cursor.proofs.code.Extending.{extends_misses, extends_overflows}
use Rattle.sql_read.proofs.steps.ReadSteps.{halts_as, LeftOf, BlocksOf, absent_unless, begins_with, deep_within, entries_within}
use Rattle.sql_grammar.specs.FactoredQueries.{in_factored}

-- ---- what stands next

-- the token that stands next
pub record IsFirst (p : Kind → Bool) (ts : List Lexeme) : Type 0 where
  pub first : Lexeme
  pub others : List Lexeme
  pub stood : ts ≡ first ∷ others
  pub of_kind : p (kind_of first) ≡ true

pub first_there : (p : Kind → Bool) (ts : List Lexeme) → is_next p ts ≡ true → IsFirst p ts
first_there p [] e = cc
first_there p (t ∷ ts) e = record { first = t; others = ts; stood = refl; of_kind = e }

-- each token of these kinds begins the form
abbrev pub Begins : {C : Type 0} → (Kind → Bool) → The C → Type 0
Begins p f = (t : Lexeme) → p (kind_of t) ≡ true → (in_factored None f).prefix (t ∷ [])

pub begins_seq : {C : Type 0} (p : Kind → Bool) (g : The C) → Begins p (seq (token p) g)
begins_seq p g t i = inl (inr (t, refl, i))

pub begins_skip : {C : Type 0} (p : Kind → Bool) (g : The C) → Begins p (skip_then (token p) g)
begins_skip p g t i = inl (inr (t, refl, i))

-- ---- repetitions

module _ {A C : Type 0} {told : Told} {N : The A} {NB : Language Lexeme A} {e : ℕ} {start : List Lexeme} {f : The C} {d : ℕ} where
  -- no more of them
  pub repeated_end : {most : Option ℕ} {here : List Lexeme} {h : List C → A} → LeftOf told (star most f) d here N NB e start h
      → ok left_factored (star most f) ≡ true → is_absent kind_of (ahead left_factored f) here ≡ true → TakesWithin told N NB e start (h []) here
  unfolding few_form
  repeated_end {most = most} {here = here} {h = h} l o n = record {
    took = r.left_end left_factored _ _ start (Some d) most f _ (deep_within d f) here h o l.residual n;
    few = λ t. r.left_end left_factored _ _ start None most f (few_form f) (entries_within f) here h o (l.few t) n;
  }

  -- one more of them
  pub repeated_next : {most : Option ℕ} {v : C} {here mid : List Lexeme} {h : List C → A} → LeftOf told (star (once_more most) f) d here N NB e start h
      → ok left_factored (star (once_more most) f) ≡ true → TakesWithin told f (few_form f) d here v mid → LeftOf told (star most f) d mid N NB e start (λ vs. h (v ∷ vs))
  unfolding few_form
  repeated_next {most = most} {v = v} {here = here} {mid = mid} {h = h} l o t = record {
    residual = r.left_next left_factored _ _ start (Some d) most f _ (deep_within d f) here h o l.residual v mid t.took;
    few = λ n. r.left_next left_factored _ _ start None most f (few_form f) (entries_within f) here h o (l.few n) v mid (t.few n);
  }

  -- one more begins
  pub repeated_begins : (most : Option ℕ) {here : List Lexeme} {h : List C → A} → LeftOf told (star (once_more most) f) d here N NB e start h
      → ok left_factored (star (once_more most) f) ≡ true → (t : Lexeme) (more : List Lexeme) → here ≡ t ∷ more → (in_factored None f).prefix (t ∷ []) → BlocksOf told f (few_form f) d here N NB e start
  unfolding few_form
  repeated_begins most {here = here} {h = h} l o t more s b = record {
    halts = record {
      failed = r.left_next_failed left_factored _ _ start (Some d) most f _ (deep_within d f) here h o l.residual t more s b;
      exceeded = r.left_next_exceeded left_factored _ _ start (Some d) most f _ (deep_within d f) here h o l.residual;
      began = r.left_next_began left_factored _ _ start (Some d) most f _ (deep_within d f) here h o l.residual;
    };
    few = λ n. record {
      failed = r.left_next_failed left_factored _ _ start None most f (few_form f) (entries_within f) here h o (l.few n) t more s b;
      exceeded = r.left_next_exceeded left_factored _ _ start None most f (few_form f) (entries_within f) here h o (l.few n);
      began = r.left_next_began left_factored _ _ start None most f (few_form f) (entries_within f) here h o (l.few n);
    };
  }

  pub none_more : {room : ℕ} {p : Kind → Bool} {a b : Cursor} {h : List C → A} → LeftOf told (star (Some room) f) d a.tokens N NB e start h
      → ok left_factored (star (Some room) f) ≡ true → begins_with p (ahead left_factored f) ≡ true → Stays p a b → TakesWithin told N NB e start (h []) b.tokens
  none_more {p = p} {a = a} {b = b} {h = h} l o w q =
      subst (λ z. TakesWithin told N NB e start (h []) z.tokens) (sym q.still) (repeated_end l o (absent_unless p (ahead left_factored f) w a.tokens q.not_next))

  pub one_taken : {room : ℕ} {v : C} {here mid : List Lexeme} {h : List C → A} → LeftOf told (star (Some room) f) d here N NB e start h
      → ok left_factored (star (Some room) f) ≡ true → 0 < room → TakesWithin told f (few_form f) d here v mid → LeftOf told (star (Some (room - 1)) f) d mid N NB e start (λ vs. h (v ∷ vs))
  one_taken {room = zero} l o n t = absurd (omega arith)
  one_taken {room = suc m} {v = v} {here = here} {mid = mid} {h = h} l o n t =
      let fewer : suc m - 1 ≡ m = omega arith in
      subst (λ z. LeftOf told (star (Some z) f) d mid N NB e start (λ vs. h (v ∷ vs))) (sym fewer) (repeated_next {most = Some m} l o t)

  pub one_begins : {room : ℕ} {p : Kind → Bool} {a b : Cursor} {t : Lexeme} {h : List C → A} → LeftOf told (star (Some room) f) d a.tokens N NB e start h
      → ok left_factored (star (Some room) f) ≡ true → Begins p f → PassesWithin p room a t b → BlocksOf told f (few_form f) d a.tokens N NB e start
  one_begins {room = zero} l o i q = let n : 0 < 0 = q.room_left in absurd (omega arith)
  one_begins {room = suc m} {b = b} {t = t} l o i q = repeated_begins (Some m) l o t b.tokens q.passes.stood (i t q.passes.of_kind)

  full : (p : Kind → Bool) {here : List Lexeme} {h : List C → A} (room : ℕ) → room ≡ 0 → LeftOf told (star (Some room) f) d here N NB e start h
      → Begins p f → is_next p here ≡ true → Exceeded (in_factored None N) (in_factored (Some e) N) start here
  full p {here = here} {h = h} zero z l i n =
      let first = first_there p here n in
      r.left_full left_factored _ _ start d f _ here h l.residual first.first first.others first.stood (i first.first first.of_kind)
  full p (suc room) z l i n = absurd (omega arith)

-- what was taken up to here begins the whole
pub begins_here : {A C : Type 0} {told : Told} {N : The A} {NB : Language Lexeme A} {e : ℕ} {start : List Lexeme} {f : The C} {d : ℕ} {here : List Lexeme} {h : C → A}
    → LeftOf told f d here N NB e start h → TellsEntries told → Began NB start here
begins_here {f = f} {here = here} l n = (l.few n).began here (nothing_began (few_form f) (entries_within f).prefixes here)

pub one_too_many : {A C : Type 0} {told : Told} {N : The A} {NB : Language Lexeme A} {e d room : ℕ} {f : The C} {p : Kind → Bool} {s a b : Cursor} {fault : ReadFault} {h : List C → A}
    → LeftOf told (star (Some room) f) d a.tokens N NB e s.tokens h → ok left_factored (star (Some room) f) ≡ true → Begins p f → Overflows p room a fault b → RefusesWithin told N NB e s fault b
one_too_many {told = told} {N = N} {NB = NB} {e = e} {room = room} {p = p} {s = s} {b = b} l o i q =
    subst (λ z. RefusesWithin told N NB e s z b) (sym q.too_deep)
    (subst (λ z. RefusesWithin told N NB e s (TooDeep q.at) z) (sym q.still) (record { says = record { exceeded = full p room q.full l i q.next; few = begins_here l; place = q.place } }))

-- ---- with a count of tokens

-- what stops a part stops it where its tokens are counted
pub counted_part : {A C : Type 0} {told : Told} {N : The A} {NB : Language Lexeme A} {e : ℕ} {start : List Lexeme} {f : The C} {d : ℕ} {here : List Lexeme} {h : C × ℕ → A}
    → LeftOf told (counted f) d here N NB e start h → BlocksOf told f (few_form f) d here N NB e start
unfolding few_form
counted_part {f = f} {d = d} {here = here} l = record {
  halts = halts_as (counted_failed (in_factored None f) (in_factored (Some d) f) here) (counted_exceeded (in_factored None f) (in_factored (Some d) f) here) (λ ts b. b) l.residual;
  few = λ n. halts_as (counted_failed (in_factored None f) (few_form f) here) (counted_exceeded (in_factored None f) (few_form f) here) (λ ts b. b) (l.few n);
}

-- a level that was not opened
pub extends_unopened : (p : Kind → Bool) (room : ℕ) (a b : Cursor) (fault : ReadFault) → ExpectsWithin p room a (Err fault) b → Extends a b
extends_unopened p room a b (TooDeep at) q = extends_overflows q
extends_unopened p room a b other q = extends_misses q
