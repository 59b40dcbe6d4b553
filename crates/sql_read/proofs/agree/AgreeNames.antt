-- The readers of literals and of names agree with the left-factored grammar.
use Rattle.std.proofs.Common.{◌≡◌, ℕ, Bool, true, false, ◌||◌, List, [], ◌∷◌, codes, Option, Some, None, Ok, refl, ap, inl, arith, sym, subst}
use Rattle.grammar.specs.Form.{ref, token}
use Rattle.grammar.specs.Productions.{skip_then}
use Rattle.sql_lex.specs.Lexemes.{Lexeme}
use Rattle.sql_model.specs.declared.tree.Expr.{Expr}
use Rattle.sql_model.specs.declared.tree.Expr.TheVariants as an_expr
use Rattle.sql_cursor.specs.Cursor.{Cursor}
use Rattle.sql_cursor.specs.Eating.{Numbers, Passes, is_next}
use Rattle.sql_read.specs.Reads.{Builds, Takes}
use Rattle.sql_read.specs.Reading.{column, literal, reference}
use Rattle.sql_cursor.specs.Readers.{Reader, Reading, ◌>>=◌, done, numbered}
use Rattle.sql_grammar.specs.declared.kinds.Kind.TheVariants as k
use Rattle.sql_grammar.specs.declared.kinds.Kind.{Kind}
use Rattle.sql_grammar.specs.Kinds.{name_kinds, same, among}
use Rattle.sql_grammar.specs.Numbering.{literal_number, plain}
use Rattle.sql_grammar.specs.QueryGrammar as grammar
use Rattle.sql_grammar.specs.FactoredQueries.{column_of, column_or, dot_name}
use Rattle.sql_grammar.specs.FactoredQueries as factored
use Rattle.sql_grammar.specs.QueryTrees as t
use Rattle.sql_grammar.proofs.copies.QueryFillings.{fill_absent, fill_seq, fill_token_of, word as spelled, word}
use Rattle.sql_read.proofs.steps.Agreeing.{Agrees, Residual, behind, built, by_eaten, by_token, ends_by, mapped, needs, needs_last, other_unless, production, whole}
use Rattle.sql_read.proofs.steps.AgreeSteps.{by_numbered, extends_literal, none_here}
use Rattle.sql_cursor.proofs.code.Extending.{◌⨟◌, extends_itself, extends_passes}
use Rattle.sql_read.proofs.steps.ReadPassing.{alike_passes, built_from, either_next, neither_next, or_next, numbered as number_built}
use Rattle.sql_read.proofs.steps.ReadSteps.{before, next_there, none_taken, plain_here, starts, took_token, built_map}
use Rattle.sql_grammar.specs.QueryGrammar.{a, The}
use Rattle.sql_grammar.specs.QueryTrees.{literal_at}
use Rattle.sql_model.specs.declared.symbols.Lit.{Lit}

abbrev pub literal_kinds : Kind → Bool
literal_kinds x = same k.Number x || same k.Text x

abbrev pub word_kinds : Kind → Bool
word_kinds = among (k.Not ∷ k.Exists ∷ [])

-- ---- literals

takes_there : {C : Type 0} {f : The C} {d : ℕ} {v : C} {here rest other : List Lexeme} → other ≡ rest → Takes f d here v rest → Takes f d here v other
takes_there {f = f} {d = d} {v = v} {here = here} e t = subst (λ z. Takes f d here v z) (sym e) t

literal_built : {p : Kind → Bool} {m n o : Cursor} {t : Lexeme} {number : ℕ} (l : Lit) → Passes p m t n → Numbers (literal_number l) n number o → Builds (literal_at t.start l) m (an_expr.Lit number t.start) o
literal_built {t = t} l q u = built_from (alike_passes q) (built_map (λ z. an_expr.Lit z t.start) (number_built refl u))

literal_agrees : {levels : ℕ} {q : Kind → Bool} {c mid end : Cursor} {word : Lexeme} {lit : ℕ} (of : Lexeme → Lit) → Residual (token q) levels c factored.literal levels c (λ t. literal_at t.start (of t))
    → Passes q c word mid
    → Numbers (literal_number (of word)) mid lit end → Agrees factored.literal levels (λ read. read) (λ read. read) c c (Ok (an_expr.Lit lit word.start), end)
literal_agrees {levels = levels} {word = word} of l i u =
    built l word (takes_there (ap (λ z. z.tokens) u.moved) (took_token levels i)) (extends_passes i ⨟ extends_literal u) (literal_built (of word) i u)

-- a literal stands next, or none does
module _ {X : Type 0} (P : Reading X → Type 0) (next : Option Expr → Reader X) (c : Cursor) where
  pub by_literal : ((x : Expr) (mid : Cursor) → is_next literal_kinds c.tokens ≡ true → ((levels : ℕ) → Agrees factored.literal levels (λ read. read) (λ read. read) c c (Ok x, mid)) → P (next (Some x) mid))
      → (is_next literal_kinds c.tokens ≡ false → P (next None c)) → P (literal c >>= next)
  unfolding literal
  by_literal some none =
      by_eaten (λ r. P (r >>= next)) (same k.Number) c _
      (λ word mid i. found t.number_of word mid (either_next (same k.Number) (same k.Text) c.tokens (next_there (same k.Number) c mid word i))
      (λ levels lit end u. literal_agrees t.number_of (mapped (by_token whole refl i (starts i))) i u))
      (λ n. by_eaten (λ r. P (r >>= next)) (same k.Text) c _
      (λ word mid i. found t.text_of word mid (or_next (same k.Number) (same k.Text) c.tokens (next_there (same k.Text) c mid word i))
      (λ levels lit end u. literal_agrees t.text_of (mapped (other_unless (same k.Number) whole refl refl n)) i u))
      (λ m. none (neither_next (same k.Number) (same k.Text) c.tokens n m)))
    where
      found : (of : Lexeme → Lit) (word : Lexeme) (mid : Cursor) → is_next literal_kinds c.tokens ≡ true
          → ((levels lit : ℕ) (end : Cursor) → Numbers (literal_number (of word)) mid lit end → Agrees factored.literal levels (λ read. read) (λ read. read) c c (Ok (an_expr.Lit lit word.start), end))
          → P ((numbered (literal_number (of word)) mid >>= λ lit. done (Some (an_expr.Lit lit word.start))) >>= next)
      found of word mid n agrees = by_numbered (λ r. P (r >>= next)) mid (literal_number (of word)) _ (λ lit end u. some (an_expr.Lit lit word.start) end n (λ levels. agrees levels lit end u))

-- ---- columns

column_built : (word : Lexeme) (v : Option Lexeme) {x : Expr} {start end : Cursor} → Builds (column_of word v) start x end → Builds (plain (column_or word v)) start x end
column_built word None u = u
column_built word (Some name) u = u

column_cost : (word : Lexeme) (read : Option Lexeme) → (column_of word read).copies ≡ 0
column_cost word None = refl
column_cost word (Some other) = refl

module _ (levels : ℕ) where
  pub column_agrees : (word : Lexeme) (c : Cursor) → Agrees dot_name levels (column_of word) (column_of word) c c (column word c)
  unfolding column
  column_agrees word c =
      by_eaten (λ r. Agrees dot_name levels (column_of word) (column_of word) c c r) (same k.Dot) c _
      (λ dot mid i. let l = behind (mapped (mapped (by_token (whole {start = c}) refl i (inl (starts i))))) refl i in
      needs_last l (fill_token_of name_kinds (spelled (codes "a")) refl refl) (omega (arith, ap (λ z. z.copies) i.moved))
      (λ name end j. built l name (took_token levels j) (extends_passes j) (before (before plain_here i) j)))
      (λ n. built whole None (none_taken levels refl refl (none_here (same k.Dot) c n)) extends_itself plain_here)

  pub reference_agrees : (c : Cursor) → Agrees (ref grammar.reference) levels plain plain c c (reference c)
  unfolding reference
  reference_agrees c =
      needs (mapped (production grammar.reference (whole {start = c}))) refl (fill_seq (fill_token_of name_kinds (spelled (codes "a")) refl refl) (fill_absent (skip_then (grammar.a k.Dot) grammar.name))) (omega arith)
      (λ word mid i. ends_by (column word mid) (behind (mapped (production grammar.reference (whole {start = c}))) refl i)
      (λ v. omega (arith, column_cost word v, ap (λ z. z.copies) i.moved)) (λ v x end u. column_built word v (built_from (alike_passes i) u)) (column_agrees word mid))
