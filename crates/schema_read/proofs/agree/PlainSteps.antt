-- Readers of parts in which nothing is numbered or copied: what a reading comes to, and the steps through it.
use Rattle.std.proofs.Common.{◌≡◌, ℕ, ◌-◌, ◌<◌, Bool, true, false, List, [], ◌∷◌, Option, Some, None, Ok, refl, sym, ◌∙◌, ap, subst, arith}
use Rattle.grammar.specs.Form.{alt, empty, map, nest, seq, star, token}
use Rattle.grammar.proofs.readers.Predictions.{ahead, ok}
use Rattle.sql_lex.specs.Lexemes.{Lexeme}
use Rattle.sql_cursor.specs.Cursor.{Cursor}
use Rattle.sql_cursor.specs.Eating.{Passes, is_next}
use Rattle.sql_cursor.specs.Readers.{Reader, Reading, ◌>>=◌, done, eaten, expected}
use Rattle.sql_read.specs.Reads.{Builds, Takes}
use Rattle.sql_grammar.specs.declared.kinds.Kind.{Kind}
use Rattle.sql_grammar.specs.Numbering.{plain}
use Rattle.sql_grammar.specs.QueryGrammar.{The}
use Rattle.sql_grammar.proofs.copies.QueryCompletions.{filled, is_filled}
use Rattle.sql_grammar.proofs.copies.QueryFillings.{Filled}
use Rattle.sql_grammar.proofs.queries.QueryTable.{left_factored}
use Rattle.sql_read.proofs.steps.AgreeLoops.{next_behind, next_of}
use Rattle.sql_read.proofs.steps.Agreeing as steps
use Rattle.sql_read.proofs.steps.Agreeing.{Agrees, Residual, ends_by, makes}
use Rattle.sql_read.proofs.steps.AgreeSteps.{one_by_one, token_agrees}
use Rattle.sql_cursor.proofs.code.Extending.{extends_itself, extends_passes}
use Rattle.sql_read.proofs.steps.ReadLoops.{Begins, repeated_end}
use Rattle.sql_read.proofs.steps.ReadPassing.{Alike, ◌then◌, alike_passes}
use Rattle.sql_read.proofs.steps.ReadSteps.{absent_unless, begins_with, built_as, built_plain, took_nothing, took_token}

-- ---- what is built

module _ {X : Type 0} {x value : X} {s b : Cursor} where
  pub alike_built : Builds (plain x) s value b → Alike s b
  alike_built t = record { numbers = sym (ap (λ p. p.1) t.numbers); copies = omega (arith, t.copies) }

  pub value_built : Builds (plain x) s value b → value ≡ x
  value_built t = sym (ap (λ p. p.0) t.numbers)

  pub plainly : value ≡ x → Alike s b → Builds (plain x) s value b
  plainly e q = built_as e (built_plain x q.numbers q.copies)

-- ---- what is read

-- the value is made of what was read
abbrev pub Spells : {V A : Type 0} → The V → ℕ → (V → A) → Cursor → Reading A → Type 0
Spells f levels k c r = Agrees f levels (λ v. plain (k v)) (λ v. plain (k v)) c c r

-- f remains here of a reading of N, and nothing was numbered or copied before it
pub record Stands {C A : Type 0} (f : The C) (d : ℕ) (here : Cursor) (N : The A) (e : ℕ) (start : Cursor) (h : C → A) : Type 0 where
  pub residual : Residual f d here N e start h
  pub alike : Alike start here

pub whole : {A : Type 0} {N : The A} {e : ℕ} {start : Cursor} → Stands N e start N e start (λ v. v)
whole = record { residual = steps.whole; alike = record { numbers = refl; copies = refl } }

module _ {A : Type 0} {N : The A} {e : ℕ} {start : Cursor} where
  module _ {C : Type 0} {d : ℕ} {here : Cursor} where
    pub mapped : {D : Type 0} {k : C → D} {f : The C} {h : D → A} → Stands (map k f) d here N e start h → Stands f d here N e start (λ v. h (k v))
    mapped l = record { residual = steps.mapped l.residual; alike = l.alike }

    pub nested : {f : The C} {h : C → A} → Stands (nest f) d here N e start h → 0 < d → Stands f (d - 1) here N e start h
    nested l n = record { residual = steps.nested l.residual n; alike = l.alike }

  pub behind : {C : Type 0} {d : ℕ} {q : Kind → Bool} {a b : Cursor} {t : Lexeme} {g : The C} {h : Lexeme × C → A} → Stands (seq (token q) g) d a N e start h → ok left_factored (seq (token q) g) ≡ true → Passes q a t b
      → Stands g d b N e start (λ w. h (t, w))
  behind l o q = record { residual = steps.behind l.residual o q; alike = l.alike then alike_passes q }

-- one token that is to stand next
pub one_token : (q : Kind → Bool) → is_filled (token q) ≡ true → (levels : ℕ) (c : Cursor) → Spells (token q) levels (λ v. v) c (expected q c)
one_token q w levels c = token_agrees (filled (token q) w).filled c

module _ {A X : Type 0} {N : The A} {e : ℕ} {k : A → X} {start : Cursor} where
  -- the first part is read in two steps
  pub regrouped : {Y Z : Type 0} (r : Reading Z) (f : Z → Reader Y) (next : Y → Reader X) → Spells N e k start ((r >>= f) >>= next) → Spells N e k start (r >>= λ z c. f z c >>= next)
  regrouped r f next p = subst (λ z. Spells N e k start z) (one_by_one r f next) p

  module _ {C Y : Type 0} {f : The C} {d : ℕ} {m : C → Y} {here : Cursor} (r : Reading Y) (t : Spells f d m here r) where
    -- the first part is read, and then the rest
    pub first_then : {D : Type 0} {g : The D} {h : C × D → A} (next : Y → Reader X) → Stands (seq f g) d here N e start h → ok left_factored (seq f g) ≡ true → is_filled g ≡ true
        → ((v : C) (mid : Cursor) → Stands g d mid N e start (λ w. h (v, w)) → Spells N e k start (next (m v) mid)) → Spells N e k start (r >>= next)
    first_then {g = g} next l o w more = steps.then_rest r t
        (λ y mid u. let read = u.reads.answers in subst (λ z. Spells N e k start (next z mid)) (sym (value_built read.builds))
        (more read.read mid (record { residual = steps.second l.residual o u; alike = l.alike then alike_built read.builds })))
        l.residual o (filled g w).filled (λ v. omega (arith, l.alike.copies))

    -- all that remains is read, and something is made of it
    pub all_made : {h : C → A} (of : Y → X) → Stands f d here N e start h → ((v : C) → of (m v) ≡ k (h v)) → Spells N e k start (r >>= λ y. done (of y))
    all_made of l same = makes r of l.residual (λ v. omega (arith, l.alike.copies))
        (λ v y end u. plainly (ap of (value_built u) ∙ same v) (l.alike then alike_built u)) t

  pub all_read : {C : Type 0} {f : The C} {d : ℕ} {m : C → X} {here : Cursor} (r : Reading X) → Spells f d m here r → {h : C → A} → Stands f d here N e start h → ((v : C) → m v ≡ k (h v)) → Spells N e k start r
  all_read r t l same = ends_by r l.residual (λ v. omega (arith, l.alike.copies)) (λ v y end u. plainly (value_built u ∙ same v) (l.alike then alike_built u)) t

  module _ {d : ℕ} {here : Cursor} where
    -- a token, and then the rest
    module _ {q : Kind → Bool} {D : Type 0} {g : The D} {h : Lexeme × D → A} {next : Lexeme → Reader X} (l : Stands (seq (token q) g) d here N e start h) (o : ok left_factored (seq (token q) g) ≡ true) where
      pub word_then : {v : Lexeme × D} → Filled (seq (token q) g) v → ((t : Lexeme) (mid : Cursor) → Stands g d mid N e start (λ w. h (t, w)) → Spells N e k start (next t mid)) → Spells N e k start (expected q here >>= next)
      word_then fills more = steps.needs l.residual o fills (omega (arith, l.alike.copies)) (λ t mid i. more t mid (behind l o i))

      pub token_then : is_filled (seq (token q) g) ≡ true → ((t : Lexeme) (mid : Cursor) → Stands g d mid N e start (λ w. h (t, w)) → Spells N e k start (next t mid)) → Spells N e k start (expected q here >>= next)
      token_then w more = word_then (filled (seq (token q) g) w).filled more

    -- one or the other, by the token that stands next
    pub either : (q : Kind → Bool) (next : Option Lexeme → Reader X) {C : Type 0} {f g : The C} {h : C → A} → Stands (alt f g) d here N e start h → ok left_factored (alt f g) ≡ true → ok left_factored f ≡ true
        → begins_with q (ahead left_factored f) ≡ true → Begins q f → ((t : Lexeme) (mid : Cursor) → Passes q here t mid → Stands f d here N e start h → Spells N e k start (next (Some t) mid))
        → (Stands g d here N e start h → Spells N e k start (next None here)) → Spells N e k start (eaten q here >>= next)
    either q next l o i w b there absent = steps.by_eaten (λ z. Spells N e k start z) q here next (λ t mid p. there t mid p (record { residual = steps.by_token l.residual o p (b t p.of_kind); alike = l.alike }))
        (λ n. absent (record { residual = steps.other_unless q l.residual i w n; alike = l.alike }))

    -- nothing more is read
    pub no_more : {h : Unit {0} → A} {x : X} → Stands empty d here N e start h → x ≡ k (h tt) → Spells N e k start (Ok x, here)
    no_more l same = steps.built l.residual tt (took_nothing d here.tokens) extends_itself (plainly same l.alike)

    -- all that remained was a token
    pub token_read : {q : Kind → Bool} {h : Lexeme → A} {t : Lexeme} {mid : Cursor} {x : X} → Stands (token q) d here N e start h → Passes q here t mid → x ≡ k (h t) → Spells N e k start (Ok x, mid)
    token_read {t = t} l i same = steps.built l.residual t (took_token d i) (extends_passes i) (plainly same (l.alike then alike_passes i))

    -- ---- further parts

    -- no more of them
    pub no_further : (q : Kind → Bool) {C : Type 0} {f : The C} {most : Option ℕ} {h : List C → A} {x : X} → Stands (star most f) d here N e start h → ok left_factored (star most f) ≡ true → begins_with q (ahead left_factored f) ≡ true
        → is_next q here.tokens ≡ false → x ≡ k (h []) → Spells N e k start (Ok x, here)
    no_further q {f = f} l o w n same = record {
      reads = record { answers = record { read = _; takes = repeated_end l.residual.left o (absent_unless q (ahead left_factored f) w here.tokens n); builds = plainly same l.alike } };
      copied = record { answers = tt };
      extends = l.residual.extends;
    }

    -- one more, where it begins, and then those behind it
    pub one_further : {C Y : Type 0} {f : The C} {m : C → Y} {h : List C → A} (q : Kind → Bool) (next : Y → Reader X) → Stands (star None f) d here N e start h → ok left_factored (star None f) ≡ true → Begins q f
        → is_next q here.tokens ≡ true → (r : Reading Y) → Spells f d m here r
        → ((v : C) (mid : Cursor) → Takes f d here.tokens v mid.tokens → Stands (star None f) d mid N e start (λ vs. h (v ∷ vs)) → Spells N e k start (next (m v) mid)) → Spells N e k start (r >>= next)
    one_further q next l o i n r t more = steps.then_part r next t (next_of None l.residual o q i n) (λ v. omega (arith, l.alike.copies))
        (λ y mid u. let read = u.reads.answers in subst (λ z. Spells N e k start (next z mid)) (sym (value_built read.builds))
        (more read.read mid read.takes (record { residual = next_behind None l.residual o read.takes u.extends; alike = l.alike then alike_built read.builds })))
