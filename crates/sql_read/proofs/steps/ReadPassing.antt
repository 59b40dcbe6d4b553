-- More steps of the reader: answers that are handed on, limits on levels, and what stands next where the first of two forms may be empty.
use Rattle.std.proofs.Common.{◌≡◌, ℕ, zero, ◌+◌, ◌-◌, ◌≤◌, Bool, true, false, ◌||◌, List, [], ◌∷◌, inl, inr, Some, None, Result, Ok, Err, refl, sym, ◌∙◌, ap, subst, arith, length}
use mathlib.Core.Path.{fun_ext}
use Rattle.std.proofs.lemmas.Bool.{or_from, or_left, or_right}
use Rattle.grammar.specs.Form.{token, seq, alt, nest, counted}
use Rattle.grammar.specs.Language.{Language, Includes, alt_language}
use Rattle.grammar.proofs.readers.Choices.{absent_failed}
use Rattle.grammar.proofs.readers.Begun.{nothing_began}
use Rattle.grammar.proofs.readers.Predictions.{ok, ahead, known}
use Rattle.grammar.proofs.readers.Residuals as r
use Rattle.grammar.proofs.readers.Steps.{IsWithin, Same}
use Rattle.grammar.specs.Reading.{Failed}
use Rattle.sql_lex.specs.Lexemes.{Lexeme}
use Rattle.sql_cursor.specs.declared.fault.ReadFault.{ReadFault}
use Rattle.sql_cursor.specs.declared.fault.ReadFault.TheVariants.{TooDeep}
use Rattle.sql_cursor.specs.Cursor.{Cursor}
use Rattle.sql_cursor.specs.Eating.{Extends, is_next, Misses, Numbers, Overflows, Passes, PassesWithin, Stays}
use Rattle.sql_grammar.specs.declared.kinds.Kind.{Kind}
use Rattle.sql_grammar.specs.Kinds.{among, kind_of, same}
use Rattle.sql_grammar.specs.Numbering.{Built}
use Rattle.sql_grammar.specs.QueryGrammar.{The}
use Rattle.sql_read.specs.Reads.{Told, few_form, Builds, IsBuilt, ReadsWithin, RefusesWithin, Takes}
use Rattle.sql_grammar.proofs.queries.QueryTable.{left_factored}
use Rattle.sql_read.proofs.steps.ReadSteps.{absent_unless, absent_where, begins_otherwise, begins_with, blocks, by_next, deep_within, entries_within, ExceededForm, fails, first, gives, LeftOf, LeftWithin, other, refuses}
use Rattle.sql_grammar.specs.FactoredQueries.{in_factored}

-- ---- sets of one kind

or_false : (b : Bool) → (b || false) ≡ b
or_false true = refl
or_false false = refl

module _ (k : Kind) where
  pub alone : among (k ∷ []) ≡ same k
  alone = fun_ext (λ x. or_false (same k x))

  pub passes_alone : {a b : Cursor} {t : Lexeme} → Passes (among (k ∷ [])) a t b → Passes (same k) a t b
  passes_alone {a = a} {b = b} {t = t} q = subst (λ p. Passes p a t b) alone q

  pub stays_alone : {a b : Cursor} → Stays (among (k ∷ [])) a b → Stays (same k) a b
  stays_alone {a = a} {b = b} q = subst (λ p. Stays p a b) alone q

-- ---- two sets of kinds

module _ (p q : Kind → Bool) where
  pub either_next : (ts : List Lexeme) → is_next p ts ≡ true → is_next (λ x. p x || q x) ts ≡ true
  either_next [] e = cc
  either_next (t ∷ ts) e = or_left (p (kind_of t)) (q (kind_of t)) e

  pub or_next : (ts : List Lexeme) → is_next q ts ≡ true → is_next (λ x. p x || q x) ts ≡ true
  or_next [] e = cc
  or_next (t ∷ ts) e = or_right (p (kind_of t)) (q (kind_of t)) e

  pub neither_next : (ts : List Lexeme) → is_next p ts ≡ false → is_next q ts ≡ false → is_next (λ x. p x || q x) ts ≡ false
  neither_next [] e i = refl
  neither_next (t ∷ ts) e i = or_from (p (kind_of t)) (q (kind_of t)) e i

-- ---- where what is built begins

-- nothing was numbered and nothing was copied between the one and the other
pub record Alike (a b : Cursor) : Type 0 where
  pub numbers : b.numbers ≡ a.numbers
  pub copies : b.copies ≡ a.copies

pub alike_passes : {p : Kind → Bool} {a b : Cursor} {t : Lexeme} → Passes p a t b → Alike a b
alike_passes {a = a} q = subst (λ z. Alike a z) (sym q.moved) (record { numbers = refl; copies = refl })

pub alike_within : {p : Kind → Bool} {room : ℕ} {a b : Cursor} {t : Lexeme} → PassesWithin p room a t b → Alike a b
alike_within q = alike_passes q.passes

infixl 10 ◌then◌
pub ◌then◌ : {a b c : Cursor} → Alike a b → Alike b c → Alike a c
◌then◌ q s = record { numbers = s.numbers ∙ q.numbers; copies = s.copies ∙ q.copies }

module _ {X : Type 0} {built : Built X} {value : X} where
  pub built_from : {a b c : Cursor} → Alike a b → Builds built b value c → Builds built a value c
  built_from {c = c} q t = record {
    numbers = subst (λ z. built.build z ≡ (value, c.numbers)) q.numbers t.numbers;
    copies = subst (λ z. c.copies ≡ z + built.copies) q.copies t.copies;
  }

  pub built_until : {a b c : Cursor} → Builds built a value b → Alike b c → Builds built a value c
  built_until {a = a} t q = record {
    numbers = t.numbers ∙ ap (λ z. (value, z)) (sym q.numbers);
    copies = q.copies ∙ t.copies;
  }

-- ---- an answer that is handed on

module _ {C A X : Type 0} {told : Told} {f : The C} {B : Language Lexeme C} {d : ℕ} {N : The A} {NB : Language Lexeme A} {e : ℕ} {h : C → A} {k : A → Built X} {start s a b : Cursor} where
  pub handed_on : {result : Result X ReadFault} → LeftWithin told f B d a.tokens N NB e s.tokens h → ReadsWithin told f B d (λ v. k (h v)) start a result b
      → ReadsWithin told N NB e k start s result b
  handed_on {result = Ok value} l t = record { answers = gives l t.answers.read t.answers.takes t.answers.builds }
  handed_on {result = Err fault} l t = record { answers = refuses (blocks l) t.answers }

-- ---- a form that cannot begin here

module _ {C : Type 0} {told : Told} {f : The C} {p : Kind → Bool} {d : ℕ} {a b : Cursor} {fault : ReadFault} where
  pub misses_in : (B : Language Lexeme C) → IsWithin (in_factored None f) B → ok left_factored f ≡ true → begins_with p (ahead left_factored f) ≡ true → Misses p a fault b → RefusesWithin told f B d a fault b
  misses_in B i o w m = record { says = fails told f B d a b fault (failed (in_factored (Some d) f) (deep_within d f)) (λ n. failed B i) m.refusing }
    where
      failed : (B : Language Lexeme C) → IsWithin (in_factored None f) B → Failed (in_factored None f) B a.tokens b.tokens
      failed B i = subst (λ z. Failed (in_factored None f) B a.tokens z.tokens) (sym m.stays.still)
          (absent_failed kind_of (in_factored None f) (ahead left_factored f) (known left_factored f o) B i a.tokens (absent_unless p (ahead left_factored f) w a.tokens m.stays.not_next))

  pub misses : ok left_factored f ≡ true → begins_with p (ahead left_factored f) ≡ true → Misses p a fault b → RefusesWithin told f (few_form f) d a fault b
  misses o w m = misses_in (few_form f) (entries_within f) o w m

module _ {A : Type 0} {told : Told} {N : The A} {NB : Language Lexeme A} {e : ℕ} {start : List Lexeme} {C : Type 0} {d : ℕ} {f g : The C} {h : C → A} where
  pub other_unless : (p : Kind → Bool) {here : List Lexeme} → LeftOf told (alt f g) d here N NB e start h → ok left_factored f ≡ true → begins_with p (ahead left_factored f) ≡ true
      → is_next p here ≡ false → LeftOf told g d here N NB e start h
  other_unless p {here = here} l o w n = other l o (absent_unless p (ahead left_factored f) w here n)

  pub first_unless : (p : Kind → Bool) {here : List Lexeme} → LeftOf told (alt f g) d here N NB e start h → ok left_factored g ≡ true → begins_with p (ahead left_factored g) ≡ true
      → is_next p here ≡ false → LeftOf told f d here N NB e start h
  first_unless p {here = here} l o w n = first l o (absent_unless p (ahead left_factored g) w here n)

  -- what stands next begins the one, so not the other
  pub first_where : (p : Kind → Bool) {here : List Lexeme} → LeftOf told (alt f g) d here N NB e start h → ok left_factored g ≡ true → begins_otherwise p (ahead left_factored g) ≡ true
      → is_next p here ≡ true → LeftOf told f d here N NB e start h
  first_where p {here = here} l o w n = first l o (absent_where p (ahead left_factored g) w here n)

  pub other_where : (p : Kind → Bool) {here : List Lexeme} → LeftOf told (alt f g) d here N NB e start h → ok left_factored f ≡ true → begins_otherwise p (ahead left_factored f) ≡ true
      → is_next p here ≡ true → LeftOf told g d here N NB e start h
  other_where p {here = here} l o w n = other l o (absent_where p (ahead left_factored f) w here n)

  -- what stands next begins the first
  pub first_next : (p : Kind → Bool) {here : List Lexeme} → LeftOf told (alt f g) d here N NB e start h → ok left_factored (alt f g) ≡ true
      → ((t : Lexeme) → p (kind_of t) ≡ true → (in_factored None f).prefix (t ∷ [])) → is_next p here ≡ true → LeftOf told f d here N NB e start h
  first_next p {here = []} l o i n = cc
  first_next p {here = t ∷ ts} l o i n =
      by_next l o t ts refl (i t n)

-- the two exchanged
exchanged : {A : Type 0} (L M : Language Lexeme A) → Includes (alt_language M L) (alt_language L M)
exchanged L M = record { spells = λ ts v s. elim s [ inl a ↦ inr a | inr b ↦ inl b ]; prefix = λ ts f. elim f [ inl a ↦ inr a | inr b ↦ inl b ] }

same_exchanged : {A : Type 0} (L M : Language Lexeme A) → Same (alt_language L M) (alt_language M L)
same_exchanged L M = record { there = exchanged L M; back = exchanged M L }

module _ {A : Type 0} {told : Told} {N : The A} {NB : Language Lexeme A} {e : ℕ} {start : List Lexeme} {C : Type 0} {d : ℕ} {f g : The C} {h : C → A} where
  exchange : {here : List Lexeme} → LeftOf told (alt f g) d here N NB e start h → LeftOf told (alt g f) d here N NB e start h
  unfolding few_form
  exchange {here = here} l =
      let free = same_exchanged (in_factored None g) (in_factored None f) in
      record {
        residual = r.residual_same _ _ _ _ free (same_exchanged (in_factored (Some d) g) (in_factored (Some d) f)) here _ _ start h l.residual;
        few = λ n. r.residual_same _ _ _ _ free (same_exchanged (few_form g) (few_form f)) here _ _ start h (l.few n);
      }

  -- what stands next begins the second
  pub other_next : (p : Kind → Bool) {here : List Lexeme} → LeftOf told (alt f g) d here N NB e start h → ok left_factored (alt g f) ≡ true
      → ((t : Lexeme) → p (kind_of t) ≡ true → (in_factored None g).prefix (t ∷ [])) → is_next p here ≡ true → LeftOf told g d here N NB e start h
  other_next p l o i n = first_next p (exchange l) o i n

-- ---- levels

module _ {C : Type 0} (g : The C) (p : Kind → Bool) where
  full : (ts : List Lexeme) → is_next p ts ≡ true → ExceededForm (nest (seq (token p) g)) zero ts ts
  full [] n = cc
  full (t ∷ ts) n = r.too_deep left_factored (seq (token p) g) (t ∷ ts) t ts refl (inl (inr (t, refl, n)))

module _ {C : Type 0} {g : The C} {p : Kind → Bool} {d : ℕ} where
  -- one token more would open a level, and none is left
  pub overflows : {told : Told} {a b : Cursor} {fault : ReadFault} → Overflows p d a fault b → RefusesWithin told (nest (seq (token p) g)) (few_form (nest (seq (token p) g))) d a fault b
  overflows {told = told} {a = a} {b = b} q =
      let B = few_form (nest (seq (token p) g)) in
      subst (λ z. RefusesWithin told (nest (seq (token p) g)) B d a z b) (sym q.too_deep)
      (subst (λ z. RefusesWithin told (nest (seq (token p) g)) B d a (TooDeep q.at) z) (sym q.still)
      (subst (λ z. RefusesWithin told (nest (seq (token p) g)) B z a (TooDeep q.at) a) (sym q.full)
      (record {
        says = record {
          exceeded = full g p a.tokens q.next;
          few = λ n. nothing_began (few_form (nest (seq (token p) g))) (entries_within (nest (seq (token p) g))).prefixes a.tokens;
          place = q.place;
        };
      })))

-- ---- numbers

pub numbered : {given : Built ℕ} {number : ℕ} {a b : Cursor} → given.copies ≡ 0 → Numbers given a number b → Builds given a number b
numbered {given = given} {number = number} {a = a} {b = b} none q = record { numbers = numbers; copies = copies }
  where
    numbers : given.build a.numbers ≡ (number, b.numbers)
    numbers = rw q.moved (ap (λ z. (z, (given.build a.numbers).1)) (sym q.is))

    copies : b.copies ≡ a.copies + given.copies
    copies = rw q.moved (rw none (omega arith))

-- ---- parts with the number of their tokens

taken_tokens : (before after : ℕ) → before ≤ after → after ≡ before + (after - before)
taken_tokens before after i = omega (arith, i)

counted_tokens : (before after : ℕ) (here rest : List Lexeme) → before ≤ after → after + length rest ≡ before + length here → length here ≡ (after - before) + length rest
counted_tokens before after here rest i e = omega (arith, i, e)

module _ {C : Type 0} {f : The C} {d : ℕ} {a b : Cursor} {v : C} where
  pub took_counted : Extends a b → Takes f d a.tokens v b.tokens → Takes (counted f) d a.tokens (v, b.passed - a.passed) b.tokens
  unfolding few_form
  took_counted x t =
      let tokens = counted_tokens a.passed b.passed a.tokens b.tokens x.passed x.counted in
      record {
        took = r.took_counted left_factored f _ a.tokens v b.tokens (b.passed - a.passed) tokens t.took;
        few = λ n. r.took_counted left_factored f (few_form f) a.tokens v b.tokens (b.passed - a.passed) tokens (t.few n);
      }

pub built_counted : {X : Type 0} {built : Built X} {value : X} {a b : Cursor} → Extends a b → Builds built a value b → IsBuilt built (b.passed - a.passed) a value b
built_counted {a = a} {b = b} x t = record { builds = t; counted = taken_tokens a.passed b.passed x.passed }
