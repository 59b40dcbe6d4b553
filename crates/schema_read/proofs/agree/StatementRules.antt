-- The readers of rules, columns, views and indexes agree with the grammar.
use Rattle.std.proofs.Common.{◌≡◌, ◌||◌, ℕ, zero, suc, ◌≤◌, ◌<◌, Bool, true, false, List, [], ◌∷◌, ◌++◌, append_assoc, codes, length, Option, Some, None, refl, sym, ◌∙◌, ap, arith, inl, inr}
use Rattle.std.proofs.lemmas.List.{append-nil}
use Rattle.grammar.specs.Form.{ref, seq, star}
use Rattle.grammar.specs.Productions.{optional, skip_then}
use Rattle.sql_lex.specs.Lexemes.{Lexeme}
use Rattle.sql_model.specs.declared.statement.NameAt.{NameAt}
use Rattle.sql_model.specs.declared.statement.Statement.TheVariants as statement
use Rattle.sql_model.specs.declared.statement.TableRule.{TableRule}
use Rattle.sql_model.specs.declared.tree.Query.{Query}
use Rattle.sql_cursor.specs.Cursor.{Cursor}
use Rattle.sql_cursor.specs.Eating.{is_next}
use Rattle.sql_read.specs.Reading.{at, query as read_query}
use Rattle.sql_cursor.specs.Readers.{Reader, Reading, ◌>>=◌, done, expected, accepted}
use Rattle.sql_grammar.specs.declared.kinds.Kind.{Kind}
use Rattle.sql_grammar.specs.declared.kinds.Kind.TheVariants as k
use Rattle.sql_grammar.specs.Kinds.{among, same}
use Rattle.sql_grammar.specs.Numbering.{Built}
use Rattle.sql_grammar.specs.Queries.{most_levels}
use Rattle.sql_grammar.specs.QueryGrammar.{The, a, name as a_name, query}
use Rattle.sql_grammar.specs.QueryTrees.{is_given}
use Rattle.grammar.proofs.readers.Predictions.{ok}
use Rattle.sql_grammar.proofs.copies.QueryCompletions.{filled, is_filled}
use Rattle.sql_grammar.proofs.copies.QueryFillings.{fill_seq, fill_token, word as spelled}
use Rattle.sql_grammar.proofs.queries.QueryTable.{left_factored}
use Rattle.sql_read.proofs.agree.AgreeAll.{query_agrees}
use Rattle.sql_read.proofs.steps.Agreeing as steps
use Rattle.sql_read.proofs.steps.Agreeing.{Agrees, by_next, ends_in, makes, needs, then_rest}
use Rattle.sql_read.proofs.parts.ReadBegins.{begins_among, begins_both}
use Rattle.sql_read.proofs.steps.ReadLoops.{Begins}
use Rattle.sql_read.proofs.steps.ReadPassing.{alike_passes, built_from, ◌then◌}
use Rattle.sql_read.proofs.steps.ReadSteps.{built_as, built_map}
use Rattle.sql_read.proofs.steps.ReadUnlimited.{takes_tokens}
use Rattle.schema_read.specs.StatementGrammar as g
use Rattle.schema_read.specs.StatementReaders.{column, column_rule, column_rules, constraint, constraint_name, foreign_key, further_rules, index, name, names, names_if_any, references, rule_element, rule_kinds, table_rule, type_name, unique_word, view}
use Rattle.schema_read.specs.StatementTrees as t
use Rattle.schema_read.specs.StatementTrees.{Elements}
use Rattle.schema_read.proofs.agree.PlainSteps.{Spells, Stands, alike_built, all_made, all_read, behind, either, first_then, mapped, no_further, no_more, one_further, one_token, regrouped, token_read, token_then, value_built, whole, word_then}
use Rattle.schema_read.proofs.agree.StatementNames.{name_agrees, names_agrees, names_if_any_agrees, type_agrees}

-- ---- the rules behind a column

-- what a rule begins with
abbrev from_unique : Kind → Bool
from_unique x = same k.Unique x || same k.References x

abbrev from_primary : Kind → Bool
from_primary x = same k.Primary x || from_unique x

rule_begins : Begins (among rule_kinds) g.column_rule
rule_begins =
    begins_among g.column_rule (among rule_kinds) (λ x. same k.Not x || from_primary x) refl
    (begins_both g.column_rule (same k.Not) from_primary (λ u i. inl (inl (inr (u, refl, i))))
    (begins_both g.column_rule (same k.Primary) from_unique (λ u i. inr (inl (inl (inr (u, refl, i)))))
    (begins_both g.column_rule (same k.Unique) (same k.References) (λ u i. inr (inr (inl (inr (u, refl, i))))) (λ u i. inr (inr (inr (inl (inr (u, refl, i)))))))))

with_rule : (rules : List TableRule) (rule : Option TableRule) (more : List TableRule) → (rules ++ t.before_rules rule []) ++ more ≡ rules ++ t.before_rules rule more
with_rule rules None more = ap (λ z. z ++ more) (append-nil rules)
with_rule rules (Some r) more = append_assoc rules (r ∷ []) more

module _ (levels : ℕ) (some : 0 < levels) where
  pub references_agrees : (columns : List NameAt) (c : Cursor) → Spells g.references levels (λ target. t.foreign_key columns target) c (references columns c)
  unfolding references
  references_agrees columns c = token_then (mapped whole) refl refl
      (λ word mid l. first_then (name mid) (all_read (name mid) (name_agrees levels mid) (mapped whole) (λ v. refl)) _ l refl refl
      (λ table after m. all_made (names_if_any after) (names_if_any_agrees levels some after) (λ target. t.foreign_key columns (table, target)) m (λ v. refl)))

  pub column_rule_agrees : (column : NameAt) (c : Cursor) → Spells g.column_rule levels (λ rule_of. rule_of column) c (column_rule column c)
  unfolding column_rule
  column_rule_agrees column c =
      either (same k.Not) _ whole refl refl refl (λ t i. inl (inr (t, refl, i)))
      (λ word mid i l. all_made (expected (same k.Null) mid) (one_token (same k.Null) refl levels mid) (λ null. None) (behind (mapped l) refl i) (λ v. refl))
      (λ l. either (same k.Primary) _ l refl refl refl (λ t i. inl (inr (t, refl, i)))
      (λ word mid i l. all_made (expected (same k.Key) mid) (one_token (same k.Key) refl levels mid) (λ key. Some (t.primary_key word (column ∷ []))) (behind (mapped (mapped l)) refl i) (λ v. refl))
      (λ l. either (same k.Unique) _ l refl refl refl (λ t i. inr (t, refl, i)) (λ word mid i l. token_read (mapped l) i refl)
      (λ l. all_made (references (column ∷ []) c) (references_agrees (column ∷ []) c) (λ rule. Some rule) (mapped l) (λ v. refl))))

  module _ (column : NameAt) (before : List TableRule) (start : Cursor) where
    abbrev Rules : Reading (List TableRule) → Type 0
    Rules r = Spells (star None g.column_rule) levels (λ read. before ++ t.rules_of column read) start r

    further_agrees : (most : ℕ) (rules : List TableRule) (now : Cursor) → length now.tokens ≤ most → (join : List (NameAt → Option TableRule) → List (NameAt → Option TableRule))
        → Stands (star None g.column_rule) levels now (star None g.column_rule) levels start join → ((more : List (NameAt → Option TableRule)) → rules ++ t.rules_of column more ≡ before ++ t.rules_of column (join more))
        → Rules (further_rules column most rules now)
    unfolding further_rules
    further_agrees zero rules now few join l same_rules = no_further (among rule_kinds) l refl refl (none now.tokens few) (sym (append-nil rules) ∙ same_rules [])
      where
        none : (ts : List Lexeme) → length ts ≤ 0 → is_next (among rule_kinds) ts ≡ false
        none [] i = refl
        none (x ∷ ts) i = absurd (omega (arith, i))
    further_agrees (suc most) rules now few join l same_rules =
        let next : Option TableRule → Reader (List TableRule) = λ rule. further_rules column most (rules ++ t.before_rules rule []) in
        by_next Rules (among rule_kinds) now
        (λ n. one_further (among rule_kinds) next l refl rule_begins n (column_rule column now) (column_rule_agrees column now)
        (λ v mid taken m. let shorter : length mid.tokens < length now.tokens = takes_tokens refl refl taken in
        further_agrees most (rules ++ t.before_rules (v column) []) mid (omega (arith, few, shorter)) (λ more. join (v ∷ more)) m (λ more. with_rule rules (v column) (t.rules_of column more) ∙ same_rules (v ∷ more))))
        (λ n. no_further (among rule_kinds) l refl refl n (sym (append-nil rules) ∙ same_rules []))

  column_rules_agrees : (column : NameAt) (before : List TableRule) (c : Cursor) → Spells (star None g.column_rule) levels (λ read. before ++ t.rules_of column read) c (column_rules column before c)
  unfolding column_rules
  column_rules_agrees column before c = further_agrees column before c (length c.tokens) before c (omega arith) (λ more. more) whole (λ more. refl)

  pub column_agrees : (before : Elements) (c : Cursor) → Spells g.column levels (λ read. t.with_elements before read) c (column before c)
  unfolding column
  column_agrees before c = first_then (name c) (name_agrees levels c) _ (mapped whole) refl refl
      (λ v mid l. first_then (type_name mid) (type_agrees levels some mid) _ (mapped l) refl refl
      (λ u after m. all_made (column_rules (t.named v) before.rules after) (column_rules_agrees (t.named v) before.rules after)
      (λ rules. record { columns = before.columns ++ t.named v ∷ []; rules = rules }) m (λ read. refl)))

  -- ---- the rules of a table

  constraint_name_agrees : (c : Cursor) → Spells g.constraint_name levels (λ v. tt {0}) c (constraint_name c)
  unfolding constraint_name
  constraint_name_agrees c = either (same k.Constraint) _ whole refl refl refl (λ t i. inl (inr (t, refl, i)))
      (λ word mid i l. all_made (name mid) (name_agrees levels mid) (λ v. tt {0}) (behind (mapped l) refl i) (λ v. refl)) (λ l. no_more (mapped l) refl)

  -- two words, the one behind the other
  two_words : (c : Cursor) → Spells (seq (a k.Foreign) (a k.Key)) levels (λ v. v.1) c (expected (same k.Foreign) c >>= λ word. expected (same k.Key))
  two_words c = word_then whole refl (fill_seq (fill_token k.Foreign (spelled (codes "foreign")) refl refl) (filled (a k.Key) refl).filled) (λ word mid l. all_read (expected (same k.Key) mid) (one_token (same k.Key) refl levels mid) l (λ v. refl))

  foreign_key_agrees : (c : Cursor) → Spells g.foreign_key levels (λ v. v) c (foreign_key c)
  unfolding foreign_key
  foreign_key_agrees c = regrouped (expected (same k.Foreign) c) (λ word. expected (same k.Key)) _
      (first_then (expected (same k.Foreign) c >>= λ word. expected (same k.Key)) (two_words c) _ (mapped (mapped whole)) refl refl
      (λ v mid l. first_then (names mid) (names_agrees levels some mid) _ l refl refl (λ columns after m. all_read (references columns after) (references_agrees columns after) m (λ v. refl))))

  table_rule_agrees : (c : Cursor) → Spells g.table_rule levels (λ v. v) c (table_rule c)
  unfolding table_rule
  table_rule_agrees c =
      either (same k.Primary) _ whole refl refl refl (λ t i. inl (inl (inr (t, refl, i))))
      (λ word mid i l. regrouped (expected (same k.Key) mid) (λ key. done word) _
      (first_then {m = λ v. v} (expected (same k.Key) mid >>= λ key. done word) (all_made (expected (same k.Key) mid) (one_token (same k.Key) refl levels mid) (λ key. word) (behind (mapped (whole {N = g.primary_key} {start = c})) refl i) (λ v. refl)) _
      (mapped l) refl refl (λ v after m. all_made (names after) (names_agrees levels some after) (λ columns. t.primary_key v columns) m (λ v. refl))))
      (λ l. either (same k.Unique) _ l refl refl refl (λ t i. inl (inr (t, refl, i)))
      (λ word mid i l. all_made (names mid) (names_agrees levels some mid) (λ columns. t.unique_key word columns) (behind (mapped l) refl i) (λ v. refl))
      (λ l. all_read (foreign_key c) (foreign_key_agrees c) l (λ v. refl)))

  constraint_agrees : (c : Cursor) → Spells (skip_then g.constraint_name g.table_rule) levels (λ v. v) c (constraint c)
  unfolding constraint
  constraint_agrees c = first_then (constraint_name c) (constraint_name_agrees c) _ (mapped whole) refl refl (λ v mid l. all_read (table_rule mid) (table_rule_agrees mid) l (λ v. refl))

  pub rule_element_agrees : (before : Elements) (c : Cursor) → Spells g.constraint levels (λ read. t.with_elements before read) c (rule_element before c)
  unfolding rule_element
  rule_element_agrees before c = all_made (constraint c) (constraint_agrees c) (λ rule. record { columns = before.columns; rules = before.rules ++ rule ∷ [] }) (mapped whole)
      (λ v. ap (λ z. record { columns = z; rules = before.rules ++ v ∷ [] }) (sym (append-nil before.columns)))

  -- ---- indexes

  abbrev index_parts : The (Option Lexeme × (Lexeme × (Lexeme × List NameAt)))
  index_parts = seq (optional (a k.Unique)) (seq (skip_then (a k.Index) a_name) (seq (skip_then (a k.On) a_name) g.names))

  unique_word_agrees : (c : Cursor) → Spells (optional (a k.Unique)) levels (λ v. is_given v) c (unique_word c)
  unfolding accepted
  unique_word_agrees c = either (same k.Unique) _ whole refl refl refl (λ t i. inr (t, refl, i)) (λ word mid i l. token_read (mapped l) i refl) (λ l. no_more (mapped l) refl)

  -- a name behind a word
  word_and_name : (kind : Kind) → is_filled (seq (a kind) a_name) ≡ true → ok left_factored (seq (a kind) a_name) ≡ true → (c : Cursor) → Spells (skip_then (a kind) a_name) levels t.named c (expected (same kind) c >>= λ word. name)
  word_and_name kind w o c = token_then (mapped whole) o w (λ word mid l. all_read (name mid) (name_agrees levels mid) l (λ v. refl))

  parts_agree : (c : Cursor) → Spells index_parts levels (λ v. statement.Index (t.named v.1.0) (is_given v.0) (t.named v.1.1.0) v.1.1.1) c (index c)
  unfolding index
  parts_agree c = first_then (unique_word c) (unique_word_agrees c) _ whole refl refl
      (λ unique mid l. regrouped (expected (same k.Index) mid) (λ word. name) _ (first_then (expected (same k.Index) mid >>= λ word. name) (word_and_name k.Index refl refl mid) _ l refl refl
      (λ index after m. regrouped (expected (same k.On) after) (λ word. name) _ (first_then (expected (same k.On) after >>= λ word. name) (word_and_name k.On refl refl after) _ m refl refl
      (λ table end n. all_made (names end) (names_agrees levels some end) (λ columns. statement.Index (t.named index) (is_given unique) (t.named table) columns) n (λ v. refl))))))

  pub index_agrees : (c : Cursor) → Agrees g.index levels (λ read. read) (λ read. read) c c (index c)
  index_agrees c = ends_in (index c) (steps.mapped steps.whole) (λ v. refl) (parts_agree c)

-- ---- views

abbrev at_query : The (Built Query)
at_query = skip_then (a k.As) (ref query)

pub view_agrees : (c : Cursor) → Agrees g.view most_levels (λ read. read) (λ read. read) c c (view c)
unfolding view
view_agrees c =
    let start = steps.mapped (steps.mapped (steps.whole {N = g.view} {start = c})) in
    needs start refl (filled (seq (a k.View) (seq a_name at_query)) refl).filled (omega arith)
    (λ word mid i. let named = steps.behind start refl i in
    then_rest (name mid) (name_agrees most_levels mid)
    (λ view after u. let read = u.reads.answers in let alike = alike_passes i then alike_built read.builds in let as_ = steps.mapped (steps.second named refl u) in
    needs as_ refl (filled (seq (a k.As) (ref query)) refl).filled (omega (arith, alike.copies))
    (λ word here j. makes (read_query most_levels (at most_levels) here) (λ q. statement.View view q) (steps.behind as_ refl j) (λ v. omega (arith, alike.copies, (alike_passes j).copies))
    (λ v q end b. built_as (ap (λ z. statement.View z q) (value_built read.builds)) (built_map (λ q. statement.View (t.named read.read) q) (built_from (alike then alike_passes j) b))) (query_agrees most_levels here)))
    named refl (filled at_query refl).filled (λ v. omega (arith, (alike_passes i).copies)))
