-- Chains of operators, chains of AND and OR, and lists with commas: where the readers of their parts agree with the left-factored grammar, so do theirs.
use Rattle.std.proofs.Common.{◌≡◌, ℕ, ◌+◌, Bool, true, false, List, [], ◌∷◌, ◌++◌, Some, None, refl, sym, ◌∙◌, ap, arith}
use Rattle.grammar.specs.Form.{seq, star, token}
use Rattle.grammar.specs.Productions.{skip_then}
use Rattle.grammar.proofs.readers.Predictions.{ok, ahead}
use Rattle.sql_lex.specs.Lexemes.{Lexeme}
use Rattle.sql_model.specs.declared.tree.Expr.{Expr}
use Rattle.sql_model.specs.declared.tree.Expr.TheVariants as an_expr
use Rattle.sql_cursor.specs.Cursor.{Cursor}
use Rattle.sql_cursor.specs.Eating.{PassesWithin, is_next}
use Rattle.sql_read.specs.Reads.{Builds}
use Rattle.sql_read.specs.Reading as reading
use Rattle.sql_read.specs.Reading.{one_more, comma}
use Rattle.sql_cursor.specs.Readers.{Reader, Reading, ◌>>=◌, done, eaten_within, repeated, seen}
use Rattle.sql_grammar.specs.declared.kinds.Kind.{Kind}
use Rattle.sql_grammar.specs.Kinds.{among, kind_of, same}
use Rattle.sql_grammar.specs.Numbering.{Built, both, each, mapped}
use Rattle.sql_grammar.specs.QueryGrammar.{The, a, listed, most_operators, most_separators}
use Rattle.sql_grammar.specs.QueryTrees.{chained, operated, operator, place_of, all_of}
use Rattle.sql_grammar.proofs.queries.QueryTable.{left_factored}
use Rattle.sql_read.proofs.steps.AgreeLoops.{parts_repeat, skipped_word, token_word, each_more_same, same_by}
use Rattle.sql_read.proofs.steps.AgreeSteps.{by_eaten_alone, none_here}
use Rattle.sql_read.proofs.steps.Agreeing.{Agrees, by_eaten_within, by_next, whole, built, second, then_rest}
use Rattle.sql_read.proofs.steps.Agreeing as agreeing
use Rattle.sql_cursor.proofs.code.Extending.{extends_itself}
use Rattle.sql_read.proofs.steps.ReadLoops.{begins_seq, begins_skip, none_more}
use Rattle.sql_read.proofs.steps.ReadSteps as steps
use Rattle.sql_read.proofs.steps.ReadSteps.{begins_with, built_both, built_map, plain_here}
use Rattle.sql_grammar.specs.declared.kinds.Kind.TheVariants as kinds
use Rattle.sql_grammar.proofs.copies.QueryFillings.{fill_none}

-- ---- operators

operated_more : (first : Built Expr) (done : List (Lexeme × Built Expr)) (t : Lexeme) (x : Built Expr)
    → operated first (done ++ (t, x) ∷ []) ≡ mapped (λ p. an_expr.Fun (operator (kind_of t)) (p.0 ∷ p.1 ∷ []) (place_of p.0)) (both (operated first done) x)
operated_more first [] t x = refl
operated_more first (p ∷ done) t x = operated_more (mapped (λ q. an_expr.Fun (operator (kind_of p.0)) (q.0 ∷ q.1 ∷ []) (place_of q.0)) (both first p.1)) done t x

module _ (q : Kind → Bool) (g : The (Built Expr)) (levels : ℕ) (reader : Reader Expr) (agrees : (c : Cursor) → Agrees g levels (λ read. read) (λ read. read) c c (reader c))
    (o : ok left_factored (star None (seq (token q) g)) ≡ true) (s : ok left_factored (seq (token q) g) ≡ true) (w : begins_with q (ahead left_factored (seq (token q) g)) ≡ true) (before : Built Expr) (start begun : Cursor) where
  abbrev Chain : Reading Expr → Type 0
  Chain r = Agrees (star (Some most_operators) (seq (token q) g)) levels (λ more. operated before more) (λ more. operated before more) start begun r

  pub operators_agree : (left : Expr) → Builds before start left begun → Chain (repeated (eaten_within q) (reading.operated reader) most_operators left begun)
  operators_agree left b = parts_repeat begun g (λ t x. (t, x)) q (λ more. more) Chain (eaten_within q) (λ room now t mid. PassesWithin q room now t mid) (λ room now t mid i. token_word s i)
      (λ room now go. by_eaten_within Chain q now room go) o (begins_seq q g) w reader agrees (λ x t y. an_expr.Fun (operator (kind_of t)) (x ∷ y ∷ []) (place_of x)) (operated before)
      (λ done t x. same_by (operated_more before done t x)) (λ done. refl)
      (λ fault end t. t) (λ done x now r first n t e. agreeing.built whole done t e r) most_operators left b whole

-- ---- AND and OR

chain_cost : (node : List Expr → ℕ → Expr) (first : Built Expr) (xs : List (Built Expr)) → (chained node (first, xs)).copies ≡ first.copies + (each xs).copies
chain_cost node first [] = omega arith
chain_cost node first (x ∷ xs) = refl

chained_built : (node : List Expr → ℕ → Expr) {first : Built Expr} {start begun now : Cursor} {x : Expr} {parts : List Expr} (done : List (Built Expr)) → (done ≡ [] → ⊥)
    → Builds first start x begun → Builds (each (first ∷ done)) start parts now → Builds (chained node (first, done)) start (node parts (place_of x)) now
chained_built node [] n t u = absurd (n refl)
chained_built node {first = first} {start = start} {now = now} {parts = parts} (next ∷ others) n t u =
    let built : (place_of (first.build start.numbers).0) ≡ _ = ap (λ q. place_of q.0) t.numbers in
    record {
      numbers = ap (λ q. (node q.0 (place_of (first.build start.numbers).0), q.1)) u.numbers ∙ ap (λ z. (node parts z, now.numbers)) built;
      copies = u.copies;
    }

module _ (kind : Kind) (g : The (Built Expr)) (levels : ℕ) (reader : Reader Expr) (agrees : (c : Cursor) → Agrees g levels (λ read. read) (λ read. read) c c (reader c)) (node : List Expr → ℕ → Expr)
    (o : ok left_factored (star None (skip_then (a kind) g)) ≡ true) (s : ok left_factored (seq (a kind) g) ≡ true) (w : begins_with (same kind) (ahead left_factored (skip_then (a kind) g)) ≡ true)
    (before : Built Expr) (start begun : Cursor) (first : Expr) (built : Builds before start first begun) where
  abbrev Parts : Reading Expr → Type 0
  Parts r = Agrees (star (Some most_separators) (skip_then (a kind) g)) levels (λ more. chained node (before, more)) (λ more. chained node (before, more)) start begun r

  abbrev of_parts : List Expr → Reader Expr
  of_parts parts = done (node parts (place_of first))

  abbrev further : ℕ → List Expr → Reader (List Expr)
  further = repeated (eaten_within (among (kind ∷ []))) (one_more reader)

  -- one is sure to follow the first
  parts : is_next (same kind) begun.tokens ≡ true → Parts (further most_separators (first ∷ []) begun >>= of_parts)
  parts next = parts_repeat begun g (λ t x. x) (same kind) (λ more. more) (λ r. Parts (r >>= of_parts)) (eaten_within (among (kind ∷ [])))
      (λ room now t mid. PassesWithin (same kind) room now t mid) (λ room now t mid i. skipped_word s i) (λ room now go. by_eaten_alone (λ r. Parts (r >>= of_parts)) kind now room go) o
      (begins_skip (same kind) g) w reader agrees (λ xs t x. xs ++ x ∷ [])
      (λ done. each (before ∷ done)) (λ done t x. each_more_same (before ∷ done) x) (chain_cost node before) (λ fault end t. t)
      (λ done xs now r none n t e. agreeing.built whole done t e (chained_built node done (λ i. let both : true ≡ false = sym next ∙ none i in cc) built r)) most_separators (first ∷ []) (built_map (λ y. y.0 ∷ y.1) (built_both built plain_here)) whole

  pub parts_agree : Parts (seen (same kind) (λ c. further most_separators (first ∷ []) c >>= of_parts) (done first) begun)
  parts_agree = by_next Parts (same kind) begun parts (λ n. agreeing.built whole [] (none_more {p = same kind} steps.whole o w (none_here (same kind) begun n)) extends_itself built)

-- ---- lists

abbrev commas : Kind → Bool
commas = same kinds.Comma

module _ {X : Type 0} (f : The (Built X)) (levels : ℕ) (reader : Reader X) (agrees : (c : Cursor) → Agrees f levels (λ read. read) (λ read. read) c c (reader c))
    (o : ok left_factored (listed f) ≡ true) (m : ok left_factored (star None (skip_then (token commas) f)) ≡ true) (w : begins_with commas (ahead left_factored (skip_then (token commas) f)) ≡ true)
    (s : ok left_factored (seq (token commas) f) ≡ true) (c : Cursor) where
  abbrev Members : Reading (List X) → Type 0
  Members r = Agrees (listed f) levels (λ read. each (all_of read)) (λ read. each (all_of read)) c c r

  pub listed_agrees : Members (reading.listed reader c)
  listed_agrees = then_rest (reader c) (agrees c)
      (λ x mid t. let first = t.reads.answers in
      parts_repeat mid f (λ t x. x) commas (λ others. (first.read, others)) Members comma (λ room now t mid. PassesWithin commas room now t mid) (λ room now t mid i. skipped_word s i)
      (λ room now go. by_eaten_alone Members kinds.Comma now room go)
      m (begins_skip commas f) w reader agrees (λ xs t x. xs ++ x ∷ []) (λ done. each (first.read ∷ done)) (λ done t x. each_more_same (first.read ∷ done) x) (λ done. refl) (λ fault end t. t)
      (λ done xs now r first_absent n t e. built whole (first.read, done) t e r) most_separators (x ∷ []) (built_map (λ y. y.0 ∷ y.1) (built_both first.builds plain_here)) (second whole o t))
      whole o (fill_none (Some most_separators) (skip_then (token commas) f)) (λ v. omega arith)
