-- The readers of blocks and of their clauses agree with the left-factored grammar.
use Rattle.std.proofs.Common.{◌≡◌, ℕ, ◌+◌, Bool, true, List, [], ◌∷◌, ◌++◌, codes, Option, Some, None, Ok, refl, sym, ap, arith, inl}
use Rattle.grammar.specs.Form.{ref, seq}
use Rattle.grammar.specs.Productions.{optional, skip_then}
use Rattle.grammar.proofs.readers.Predictions.{ok, ahead}
use Rattle.sql_lex.specs.Lexemes.{Lexeme}
use Rattle.sql_model.specs.declared.tree.Entry.{Entry}
use Rattle.sql_model.specs.declared.tree.Expr.{Expr}
use Rattle.sql_model.specs.declared.tree.Item.{Item}
use Rattle.sql_model.specs.declared.tree.Query.{Query}
use Rattle.sql_cursor.specs.Cursor.{Cursor}
use Rattle.sql_cursor.specs.Eating.{Extends, Passes, PassesWithin}
use Rattle.sql_read.specs.Reads.{Takes, entries_too, few_form}
use Rattle.sql_read.specs.Reading as r
use Rattle.sql_read.specs.Reading.{Deeper, block, clauses, comma, condition, entries, expr, group_by, item, items, reference}
use Rattle.sql_cursor.specs.Readers.{Reader, Reading, ◌>>=◌, accepted, done, expected}
use Rattle.sql_grammar.specs.declared.kinds.Kind.TheVariants as kind
use Rattle.sql_grammar.specs.declared.kinds.Kind.{Kind}
use Rattle.sql_grammar.specs.Kinds.{same}
use Rattle.sql_grammar.specs.Numbering.{Built, each, perhaps, plain}
use Rattle.sql_grammar.specs.QueryEntries.{few_froms, most_further}
use Rattle.sql_grammar.specs.QueryGrammar as grammar
use Rattle.sql_grammar.specs.QueryGrammar.{The, listed, most_separators}
use Rattle.sql_grammar.specs.QueryTrees.{all_entries, all_of, block_node, block_of, columns_of, is_given}
use Rattle.sql_grammar.proofs.copies.QueryFillings.{fill_block, fill_from, fill_froms, fill_groups, fill_having, fill_listed, fill_none, fill_reference, fill_seq, fill_token, fill_where, word}
use Rattle.sql_grammar.proofs.queries.QueryTable.{left_factored}
use Rattle.grammar.proofs.factorings.Alike.{itself}
use Rattle.sql_read.proofs.steps.AgreeChains.{listed_agrees}
use Rattle.sql_read.proofs.steps.AgreeLoops.{parts_repeat, skipped_word}
use Rattle.sql_read.proofs.steps.AgreeSteps.{by_eaten_alone, none_here}
use Rattle.sql_read.proofs.steps.Agreeing.{Agrees, AgreesWithin, Residual, ResidualIn, all_left, behind, behind_taken, built, by_eaten, by_expected, by_read, by_token, first_of, first_to, inside, makes, mapped, mapped_to, needs_at, production, refused_here, second, second_to, stopped, then_part, then_rest, whole, whole_in}
use Rattle.sql_cursor.proofs.code.Extending.{◌⨟◌, extends_itself, extends_passes}
use Rattle.sql_read.proofs.steps.ReadLoops.{begins_skip, takes}
use Rattle.sql_read.proofs.steps.ReadPassing.{◌then◌, Alike, alike_passes, built_from}
use Rattle.sql_read.proofs.parts.ReadBlocks.{Items, after_distinct, after_from, after_items, alike_columns, block_built, built_columns, clause_below, distinct_below, any_froms, fewer_froms, from_clause, froms_below, items_below, optional_below}
use Rattle.sql_read.proofs.steps.ReadSteps as steps
use Rattle.sql_read.proofs.steps.ReadSteps.{begins_with, built_map, none_taken, plain_here, some_left, starts, took_token}
use Rattle.sql_read.proofs.steps.AgreeDeeper.{DeeperAgrees}
use Rattle.sql_read.proofs.agree.AgreeExprs.{expr_agrees}
use Rattle.sql_read.proofs.agree.AgreeGoingOn.{item_agrees}
use Rattle.sql_read.proofs.agree.AgreeNames.{reference_agrees}
use Rattle.sql_read.proofs.agree.AgreeFewEntries.{entries_agrees}

abbrev commas : Kind → Bool
commas = same kind.Comma

-- ---- GROUP BY

abbrev Clauses : Type 0
Clauses = grammar.Froms × (Option (Built Expr) × (Option (Expr × List Expr) × Option (Built Expr)))

abbrev all_items : Items → Built (List Item)
all_items read = each (all_of read)

abbrev columns : Option (Expr × List Expr) → Built (Option (List Expr))
columns found = plain (columns_of found)

module _ (levels : ℕ) where
  abbrev Grouped : Cursor → Reading (List Expr) → Type 0
  Grouped start r = Agrees grammar.group_by levels columns columns start start (r >>= λ found. done (Some found))

  -- behind GROUP BY
  columns_agree : (c next : Cursor) → Alike c next → Residual (listed (ref grammar.reference)) levels next grammar.group_by levels c (λ v. Some v) → Grouped c (r.listed reference next)
  columns_agree c next alike l =
      by_read (Grouped c) (Agrees (ref grammar.reference) levels plain plain next next) (reference next) _ (reference_agrees levels next)
      (λ x end t. let first = t.reads.answers in
      parts_repeat end (ref grammar.reference) (λ t x. x) commas (λ others. Some (first.read, others)) (Grouped c) comma (λ room now t mid. PassesWithin commas room now t mid) (λ room now t mid i. skipped_word refl i)
      (λ room now go. by_eaten_alone (Grouped c) kind.Comma now room go)
      refl (begins_skip commas (ref grammar.reference)) refl reference (reference_agrees levels) (λ xs t x. xs ++ x ∷ []) (λ some. plain (first.read ∷ some)) (λ some t x. record { numbers = λ n. refl; copies = refl })
      (λ some. refl) (λ fault end t. t)
      (λ some xs now r none n t e. built whole (Some (first.read, some)) t e (built_map (λ z. Some z) r)) most_separators (x ∷ []) (built_map (λ z. z ∷ []) (built_from alike first.builds)) (second l refl t))
      (λ fault end t. stopped (first_of l refl (fill_none (Some most_separators) (skip_then (grammar.a kind.Comma) (ref grammar.reference)))) (λ v. omega (arith, alike.copies)) t)

  pub group_by_agrees : (c : Cursor) → Agrees grammar.group_by levels columns columns c c (group_by c)
  unfolding group_by
  group_by_agrees c = by_eaten (Agrees grammar.group_by levels columns columns c c) (same kind.Group) c _
      (λ group mid q. let l = mapped (mapped (by_token (whole {start = c}) refl q (inl (inl (starts q))))) in let words = behind (whole {N = seq (grammar.a kind.Group) (grammar.a kind.By)} {start = c}) refl q in
      needs_at _ (inside (first_of l refl (fill_listed fill_reference)) (all_left words)) (fill_token kind.By (word (codes "by")) refl refl) (omega (arith, (alike_passes q).copies))
      (λ by next p. columns_agree c next (alike_passes q then alike_passes p) (behind_taken l refl (takes words.left (took_token levels p)) (extends_passes q ⨟ extends_passes p))))
      (λ n. built whole None (none_taken levels refl refl (none_here (same kind.Group) c n)) extends_itself plain_here)

-- ---- the clauses with a condition, and blocks

module _ (levels : ℕ) (deeper : Deeper) (d : DeeperAgrees levels deeper) where
  abbrev clause : Kind → The (Option (Built Expr))
  clause word = optional (skip_then (grammar.a word) (ref grammar.expr))

  condition_agrees : (word : Kind) → ok left_factored (clause word) ≡ true → ok left_factored (seq (grammar.a word) (ref grammar.expr)) ≡ true → begins_with (same word) (ahead left_factored (skip_then (grammar.a word) (ref grammar.expr))) ≡ true
      → ok left_factored (skip_then (grammar.a word) (ref grammar.expr)) ≡ true → (c : Cursor) → Agrees (clause word) levels perhaps perhaps c c (condition levels deeper word c)
  unfolding condition
  condition_agrees word o s w i c = by_eaten (Agrees (clause word) levels perhaps perhaps c c) (same word) c _
      (λ t mid q. makes (expr levels deeper mid) (λ x. Some x) (behind (mapped (mapped (by_token (whole {start = c}) o q (inl (starts q))))) s q)
      (λ v. ap (λ z. z + v.copies) (sym (alike_passes q).copies)) (λ v x end t. built_map (λ x. Some x) (built_from (alike_passes q) t)) (expr_agrees levels deeper d mid))
      (λ n. built whole None (none_taken levels i w (none_here (same word) c n)) extends_itself plain_here)

  pub items_agrees : (c : Cursor) → Agrees (listed (ref grammar.item)) levels all_items all_items c c (items levels deeper c)
  unfolding items
  items_agrees c = listed_agrees (ref grammar.item) levels (item levels deeper) (item_agrees levels deeper d) refl refl refl refl c

  abbrev Listed : Cursor → Reading (List Entry) → Type 0
  Listed c r = AgreesWithin entries_too (listed (ref grammar.from)) (few_form (few_froms most_further)) levels all_entries all_entries c c r

  abbrev Block : Cursor → Reading Query → Type 0
  Block c r = Agrees (ref grammar.block) levels (λ read. read) (λ read. read) c c r

  abbrev few_block : The (Lexeme × (Option Lexeme × (Items × Clauses)))
  few_block = seq (grammar.a kind.Select) (seq (optional (grammar.a kind.Distinct)) (after_distinct fewer_froms))

  block_whole : (c : Cursor) → ResidualIn entries_too (seq (grammar.a kind.Select) (seq (optional (grammar.a kind.Distinct)) (after_distinct any_froms))) (few_form few_block) levels c (ref grammar.block)
      (few_form (ref grammar.block)) levels c
      (λ p. block_of p.1.0 p.1.1.0 p.1.1.1.0 p.1.1.1.1.0 p.1.1.1.1.1.0 p.1.1.1.1.1.1)
  block_whole c = mapped_to few_block (mapped_to (skip_then (grammar.a kind.Select) (seq (optional (grammar.a kind.Distinct)) (after_distinct fewer_froms))) (production grammar.block (whole {start = c})))

  distinct_left : {c m n : Cursor} {found : Option Lexeme} {h : Option Lexeme × (Items × Clauses) → Built Query}
      → ResidualIn entries_too (seq (optional (grammar.a kind.Distinct)) (after_distinct any_froms)) (few_form (seq (optional (grammar.a kind.Distinct)) (after_distinct fewer_froms))) levels m
      (ref grammar.block) (few_form (ref grammar.block)) levels c h
      → Takes (optional (grammar.a kind.Distinct)) levels m.tokens found n.tokens → Extends m n → ResidualIn entries_too (after_distinct any_froms) (few_form (after_distinct fewer_froms)) levels n (ref grammar.block)
      (few_form (ref grammar.block)) levels c (λ p. h (found, p))
  distinct_left l t x = second_to (itself (optional (grammar.a kind.Distinct))) distinct_below l refl t x

  -- what follows DISTINCT, or its absence, and what follows the items
  abbrev from_items : Bool → Reader Query
  from_items distinct m = items levels deeper m >>= λ is m. expected (same kind.From) m >>= λ word c. entries levels deeper c >>= clauses levels deeper distinct is

  module _ {c start m : Cursor} (alike : Alike c start) (distinct : Option Lexeme) {is : List Item} (t : AgreesWithin entries_too (listed (ref grammar.item))
      (few_form (listed (ref grammar.item))) levels all_items all_items start start (Ok is, m))
      (l : ResidualIn entries_too (after_items any_froms) (few_form (after_items fewer_froms)) levels m (ref grammar.block) (few_form (ref grammar.block)) levels c
      (λ p. block_of distinct t.reads.answers.read p.0 p.1.0 p.1.1.0 p.1.1.1)) where
    module _ {n o : Cursor} {word : Lexeme} (from : Passes (same kind.From) m word n) {es : List Entry} (u : Listed n (Ok es, o)) where
      abbrev item_list : Items
      item_list = t.reads.answers.read

      abbrev from_list : grammar.Froms
      from_list = u.reads.answers.read

      costed : o.copies ≡ c.copies + ((each (all_of item_list)).copies + (each (all_of from_list)).copies)
      costed = omega (arith, alike.copies, t.reads.answers.builds.copies, (alike_passes from).copies, u.reads.answers.builds.copies)

      behind_entries : Residual after_from levels o (ref grammar.block) levels c (λ p. block_of distinct item_list from_list p.0 p.1.0 p.1.1) → Block c (clauses levels deeper (is_given distinct) is es o)
      unfolding clauses
      behind_entries l =
          then_rest (condition levels deeper kind.Where o) (condition_agrees kind.Where refl refl refl refl o)
          (λ wc g z. let cond = z.reads.answers in
          then_rest (group_by g) (group_by_agrees levels g)
          (λ gs h y. let groups = y.reads.answers in
          makes (condition levels deeper kind.Having h) (λ hv. block_node (is_given distinct) is es wc gs hv) (second (second l refl z) refl y) (λ v. omega (arith, costed, cond.builds.copies, groups.builds.copies))
          (λ v hv end x. block_built distinct item_list from_list cond.read groups.read v (built_from alike t.reads.answers.builds) (built_from (alike_passes from) u.reads.answers.builds) cond.builds
          (built_columns groups.read groups.builds) (built_from (alike_columns groups.read groups.builds) x))
          (condition_agrees kind.Having refl refl refl refl h))
          (second l refl z) refl fill_having (λ v. omega (arith, costed, cond.builds.copies)))
          l refl fill_groups (λ v. omega (arith, costed))

    behind_items : Block c (expected (same kind.From) m >>= λ word c. entries levels deeper c >>= clauses levels deeper (is_given distinct) is)
    behind_items =
        let clause = mapped_to (seq (grammar.a kind.From) (few_froms most_further)) (whole_in {N = (from_clause any_froms)} {NB = few_form (from_clause fewer_froms)} {e = levels} {start = m}) in
        let stops = first_to clause_below (itself after_from) l refl fill_where in
        needs_at _ (inside stops (first_to (itself (grammar.a kind.From)) froms_below clause refl (fill_listed fill_from))) (fill_token kind.From (word (codes "from")) refl refl)
        (omega (arith, alike.copies, t.reads.answers.builds.copies))
        (λ word n from. let froms = second_to (itself (grammar.a kind.From)) froms_below clause refl (took_token levels from) (extends_passes from) in
        then_part (entries levels deeper n) _ (entries_agrees levels deeper d n) (inside stops (all_left froms)) (λ v. omega (arith, alike.copies, t.reads.answers.builds.copies, (alike_passes from).copies))
        (λ es o u. behind_entries from u (second_to clause_below (itself after_from) l refl (takes froms.left u.reads.answers.takes) (extends_passes from ⨟ u.extends))))

  -- behind DISTINCT, or where none stands
  behind_distinct : {c n : Cursor} → Alike c n → (distinct : Option Lexeme) → ResidualIn entries_too (after_distinct any_froms) (few_form (after_distinct fewer_froms)) levels n (ref grammar.block)
      (few_form (ref grammar.block)) levels c
      (λ p. block_of distinct p.0 p.1.0 p.1.1.0 p.1.1.1.0 p.1.1.1.1)
      → Block c (from_items (is_given distinct) n)
  behind_distinct {n = n} alike distinct l =
      then_part (items levels deeper n) _ (items_agrees n) (first_to (itself (listed (ref grammar.item))) items_below l refl (fill_seq fill_froms fill_where)) (λ v. omega (arith, alike.copies))
      (λ is m t. behind_items alike distinct t (second_to (itself (listed (ref grammar.item))) items_below l refl t.reads.answers.takes t.extends))

  pub block_agrees : (c : Cursor) → Block c (block levels deeper c)
  unfolding accepted block
  block_agrees c = by_expected (Block c) (same kind.Select) c _
      (λ select m q. let l = second_to (itself (grammar.a kind.Select)) optional_below (block_whole c) refl (took_token levels q) (extends_passes q) in
      by_eaten (λ (r : Reading Bool). Block c (r >>= from_items)) (same kind.Distinct) m (λ found. done (is_given found))
      (λ word n p. behind_distinct (alike_passes q then alike_passes p) (Some word) (distinct_left l (takes (some_left steps.whole refl p (starts p)) (took_token levels p)) (extends_passes p)))
      (λ n. behind_distinct (alike_passes q) None (distinct_left l (none_taken levels refl refl (none_here (same kind.Distinct) m n)) extends_itself)))
      (λ missed. refused_here (all_left whole) fill_block (omega arith) (steps.refuses {s = c} (steps.first_to (itself (grammar.a kind.Select)) optional_below (block_whole c).left refl) (steps.missed missed)))
