-- The steps of the reader through a repetition without a limit, and that a form which is never empty takes tokens.
use Rattle.std.proofs.Common.{◌≡◌, ℕ, ◌<◌, Bool, true, false, List, [], ◌∷◌, ◌++◌, length, length-append, None, sym, ◌∙◌, ap, arith}
use Rattle.grammar.specs.Form.{star}
use Rattle.grammar.proofs.readers.Predictions.{ok, ahead, known, bounded_within}
use Rattle.sql_lex.specs.Lexemes.{Lexeme}
use Rattle.sql_cursor.specs.Eating.{is_next}
use Rattle.sql_grammar.specs.declared.kinds.Kind.{Kind}
use Rattle.sql_grammar.specs.QueryGrammar.{The}
use Rattle.sql_read.specs.Reads.{Takes}
use Rattle.sql_grammar.proofs.queries.QueryTable.{left_factored}
use Rattle.sql_read.proofs.steps.ReadLoops.{Begins, first_there, repeated_begins, repeated_next}
use Rattle.sql_read.proofs.steps.ReadSteps.{Left, Blocks}
use Rattle.sql_grammar.specs.FactoredQueries.{in_factored}

module _ {A C : Type 0} {N : The A} {e : ℕ} {start : List Lexeme} {f : The C} {d : ℕ} where
  pub one_follows : {v : C} {here mid : List Lexeme} {h : List C → A} → Left (star None f) d here N e start h
      → ok left_factored (star None f) ≡ true → Takes f d here v mid → Left (star None f) d mid N e start (λ vs. h (v ∷ vs))
  one_follows l o t = repeated_next {most = None} l o t

  pub next_begins : (p : Kind → Bool) {here : List Lexeme} {h : List C → A} → Left (star None f) d here N e start h
      → ok left_factored (star None f) ≡ true → Begins p f → is_next p here ≡ true → Blocks f d here N e start
  next_begins p {here = here} l o i n =
      let next = first_there p here n in repeated_begins None l o next.first next.others next.stood (i next.first next.of_kind)

fewer_left : {C : Type 0} (f : The C) (v : C) (here rest : List Lexeme) → ok left_factored f ≡ true → (ahead left_factored f).nullable ≡ false → (taken : List Lexeme) → here ≡ taken ++ rest
    → (in_factored None f).spells taken v → length rest < length here
fewer_left f v here rest o n [] e s = let two : true ≡ false = sym ((known left_factored f o).ahead.nullable v s) ∙ n in cc
fewer_left f v here rest o n (t ∷ taken) e s = omega (arith, ap length e, length-append taken rest)

-- a form that is never empty takes tokens
pub takes_tokens : {C : Type 0} {f : The C} {d : ℕ} {here rest : List Lexeme} {v : C} → ok left_factored f ≡ true → (ahead left_factored f).nullable ≡ false → Takes f d here v rest
    → length rest < length here
takes_tokens {f = f} {d = d} {here = here} {rest = rest} {v = v} o n t = fewer_left f v here rest o n t.took.taken t.took.whole ((bounded_within left_factored d f).includes.spells t.took.taken v t.took.spelled)
