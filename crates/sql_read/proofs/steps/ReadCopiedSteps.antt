-- More steps of a reader, on to what it has copied: loops, counted parts, and what goes by the value of a first part.
use Rattle.std.proofs.Common.{inl, ◌≡◌, ℕ, List, [], ◌∷◌, ◌⊎◌, inr, Option, None, Some, sym, subst}
use Rattle.grammar.specs.Reading.{Took}
use Rattle.grammar.specs.Form.{counted, fork, star}
use Rattle.grammar.proofs.readers.Completing as c
use Rattle.grammar.proofs.readers.Completing.{either_of}
use Rattle.sql_lex.specs.Lexemes.{Lexeme}
use Rattle.sql_cursor.specs.Cursor.{Cursor}
use Rattle.sql_grammar.specs.QueryCopies.{copies_nothing}
use Rattle.sql_grammar.specs.QueryGrammar.{The}
use Rattle.sql_read.specs.Reads.{Takes}
use Rattle.sql_grammar.proofs.copies.CopySteps.{factored_filled}
use Rattle.sql_grammar.proofs.copies.QueryFillings.{Filled}
use Rattle.sql_grammar.proofs.queries.QueryTable.{left_factored}
use Rattle.sql_read.proofs.steps.ReadCopies.{Going}
use Rattle.sql_grammar.specs.FactoredQueries.{in_factored}

module _ {A : Type 0} {N : The A} {start : List Lexeme} where
  -- no token was passed
  pub on_still : {C : Type 0} {f : The C} {h : C → A} {a b : Cursor} → Going f a.tokens N start h → b ≡ a → Going f b.tokens N start h
  on_still {f = f} {h = h} l s = subst (λ z. Going f z.tokens N start h) (sym s) l

  module _ {C : Type 0} {f : The C} {most : Option ℕ} {here : List Lexeme} {h : List C → A} (l : Going (star most f) here N start h) where
    -- one was read
    pub on_next_taken : {fewer : Option ℕ} (d : ℕ) {v : C} {mid : List Lexeme} → Took (in_factored None f) (in_factored (Some d) f) here v mid → Going (star fewer f) mid N start (λ vs. h (v ∷ vs))
    on_next_taken {fewer = fewer} d {v = v} {mid = mid} t = record { goes = c.left_next left_factored d copies_nothing (in_factored None N) start most fewer f here h l.goes v mid t }

    -- one begins, and none follows it
    pub on_last : Going f here N start (λ v. h (v ∷ []))
    on_last = record { goes = c.left_last left_factored 0 copies_nothing (in_factored None N) start most None f here h l.goes }

  -- where nothing goes by the number of tokens
  pub on_counted : {C : Type 0} {f : The C} {here : List Lexeme} {h : C × ℕ → A} {k : C → A} → Going (counted f) here N start h → ((v : C) (count : ℕ) → h (v, count) ≡ k v) → Going f here N start k
  on_counted {f = f} {here = here} {h = h} {k = k} l i = record { goes = c.left_counted left_factored 0 copies_nothing (in_factored None N) start f here h k i l.goes }

  module _ {C D E : Type 0} {f : The (C ⊎ D)} {e : The (C → E)} {i : The (D → E)} {here : List Lexeme} {h : E → A} (l : Going (fork f e i) here N start h) where
    -- the first part, by which the rest goes
    pub on_either : {k : C → E} {j : D → E} → Filled e k → Filled i j → Going f here N start (λ v. h (either_of left_factored 0 copies_nothing (in_factored None N) start k j v))
    on_either {k = k} {j = j} p q = record { goes = c.left_of_either left_factored 0 copies_nothing (in_factored None N) start f e i here h l.goes k j (factored_filled e k p) (factored_filled i j q) }

    -- what follows a first kind of first part
    pub on_behind_first : {d : ℕ} {v : C} {mid : List Lexeme} → Takes f d here (inl v) mid → Going e mid N start (λ k. h (k v))
    on_behind_first {d = d} {v = v} {mid = mid} t = record { goes = c.left_of_first left_factored d copies_nothing (in_factored None N) start f e i here h l.goes v mid t.took }

    -- and a second kind
    pub on_behind_other : {d : ℕ} {v : D} {mid : List Lexeme} → Takes f d here (inr v) mid → Going i mid N start (λ k. h (k v))
    on_behind_other {d = d} {v = v} {mid = mid} t = record { goes = c.left_of_other left_factored d copies_nothing (in_factored None N) start f e i here h l.goes v mid t.took }
