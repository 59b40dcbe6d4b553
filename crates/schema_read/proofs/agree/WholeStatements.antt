-- What the function for statements reads is read of the published grammar.
use Rattle.std.proofs.Common.{◌≡◌, ◌≤◌, ◌<◌, ◌^◌, ◌+◌, ℕ, List, [], ◌∷◌, ◌++◌, length, length-append, Some, None, Result, Ok, Err, refl, sym, ap, subst, arith}
use Rattle.std.specs.Prelude.{IfErr, IfOk, OnOk}
use Rattle.data_model.specs.Lists.{Each}
use Rattle.grammar.specs.Form.{Room, IsRoomier, language}
use Rattle.grammar.specs.Language.{Includes, Language, map_language, upto_language}
use Rattle.grammar.specs.Reading.{Took}
use Rattle.grammar.proofs.languages.Forms.{form_grows, includes_through, map_in, repeated_grows, form_prefixes}
use Rattle.grammar.proofs.languages.Heights.{name_prefixes, name_grows}
use Rattle.grammar.proofs.languages.Limits.{IsPrefixClosed}
use Rattle.grammar.proofs.readers.Steps.{IsWithin, Same, took_in, map_within}
use Rattle.sql_lex.specs.Lexemes.{Lexeme}
use Rattle.sql_model.specs.declared.statement.Statement.{Statement}
use Rattle.sql_model.specs.declared.statement.Statement.TheVariants as statement
use Rattle.sql_cursor.specs.declared.fault.ReadFault.{ReadFault}
use Rattle.sql_cursor.specs.declared.fault.LimitKind.{LimitKind}
use Rattle.sql_cursor.specs.declared.fault.LimitKind.TheVariants as limit
use Rattle.sql_cursor.specs.Cursor.{Cursor, most_tokens}
use Rattle.sql_grammar.specs.Numbering.{Built, each}
use Rattle.sql_grammar.specs.Kinds.{kind_of}
use Rattle.sql_grammar.specs.Queries.{most_levels}
use Rattle.sql_grammar.specs.QueryCopies.{most_copies}
use Rattle.sql_grammar.specs.QueryEntries.{few_of_form, few_rules, most_further}
use Rattle.sql_grammar.specs.QueryGrammar.{Production, The}
use Rattle.sql_grammar.specs.FactoredQueries.{few_factored, in_factored}
use Rattle.sql_read.specs.Reads.{GivesWithin, few_form, relations_too}
use Rattle.sql_grammar.proofs.entries.FewFactored.{few_factored_includes, few_rules_include}
use Rattle.schema_read.specs.Declarations.{IsSmall}
use Rattle.schema_read.specs.Counting.{TakesCounted, few_factored_statements, narrowly}
use Rattle.schema_read.specs.ReadingStatements.{IsRead, IsRefused, texts}
use Rattle.schema_read.specs.StatementGrammar as g
use Rattle.schema_read.specs.StatementLimits.{column_count, most_further_columns, most_relations, rule_count, within, few_columns, most_columns}
use Rattle.schema_read.specs.Statements.{OfStatements}
use Rattle.schema_read.proofs.counts.CopiedParts.{keeps_copies}
use Rattle.schema_read.proofs.counts.StatementCopies.{statement_costs}
use Rattle.schema_read.proofs.counts.CountSteps.{below_within, same_read, took_free}
use Rattle.schema_read.proofs.agree.StatementsAgree.{AllAgree, few_within}
use Rattle.schema_read.proofs.spelled.Unlimited.{itself}
use Rattle.schema_read.proofs.spelled.StatementColumns.{narrow}
use Rattle.schema_read.proofs.counts.StatementCounts.{few, few_rules_spelled}
use Rattle.schema_read.proofs.spelled.StatementPrefixes.{narrow_below, few_statement_prefixes}
use Rattle.sql_grammar.proofs.queries.QueryForms.{form_has_prefixes, known_includes, left_factored_includes, roomier}
use Rattle.sql_read.proofs.whole.WholeTexts as whole

-- ---- few entries

few_names : (small large : Room) → IsRoomier small large → (p : Production) → Includes (language kind_of (few_rules most_further) large p) (language kind_of (few_factored most_further) small p)
few_names small large w p =
    includes_through _ _ _ (name_grows kind_of (few_factored most_further) small large w p) (few_rules_include most_further (omega arith) large p)

few_names_back : (small large : Room) → IsRoomier small large → (p : Production) → Includes (language kind_of (few_factored most_further) large p) (language kind_of (few_rules most_further) small p)
few_names_back small large w p =
    includes_through _ _ _ (name_grows kind_of (few_rules most_further) small large w p) (few_factored_includes most_further (omega arith) large p)

-- a form, where the names of queries have the languages with few entries
abbrev pub few_grammar : {A : Type 0} → The A → Language Lexeme A
few_grammar f = few_of_form most_further f

-- over the left-factored grammar it is the same
pub few_there : {A : Type 0} (f : The A) → Includes (few_grammar f) (few_form f)
unfolding few_form
few_there f = form_grows kind_of (language kind_of (few_factored most_further)) (language kind_of (few_rules most_further)) (name_prefixes kind_of (few_rules most_further)) few_names f None None tt

pub few_back : {A : Type 0} (f : The A) → Includes (few_form f) (few_grammar f)
unfolding few_form
few_back f = form_grows kind_of (language kind_of (few_rules most_further)) (language kind_of (few_factored most_further)) (name_prefixes kind_of (few_factored most_further)) few_names_back f None None tt

-- ---- all counts

-- the statements within the limit of a count, over the left-factored grammar
abbrev pub left_factored_within : LimitKind → OfStatements
left_factored_within limit.Columns = in_factored None (g.statements_with narrowly)
left_factored_within limit.Entries = few_form g.statements
left_factored_within limit.Relations = few_factored_statements
left_factored_within limit.Copies = in_factored None g.statements

pub few_included : {L M : Language Lexeme (Built Statement)} → Includes M L
    → Includes (map_language (λ read. each read) (upto_language most_relations M)) (map_language (λ read. each read) (upto_language most_relations L))
few_included {L = L} {M = M} m = map_in (upto_language most_relations L) (upto_language most_relations M) (repeated_grows L M m (Some most_relations) (Some 0) (Some 0) (omega arith)) (λ read. each read)

within_same : (what : LimitKind) → Same (left_factored_within what) (within what)
within_same limit.Columns = record { there = known_includes None (g.statements_with narrowly); back = left_factored_includes None (g.statements_with narrowly) }
within_same limit.Entries = record { there = few_there g.statements; back = few_back g.statements }
within_same limit.Relations = record { there = few_included (known_includes None (g.ended_with g.elements)); back = few_included (left_factored_includes None (g.ended_with g.elements)) }
within_same limit.Copies = whole.free_same texts

closed : (what : LimitKind) → IsPrefixClosed (within what)
closed limit.Columns = (form_has_prefixes None (g.statements_with (few_columns most_further_columns))).shorter
closed limit.Entries = (form_prefixes kind_of (language kind_of (few_rules most_further)) (name_prefixes kind_of (few_rules most_further)) g.statements None).shorter
closed limit.Relations = (few_statement_prefixes most_relations).shorter
closed limit.Copies = (form_has_prefixes None g.statements).shorter

-- ---- sizes

one_small : (n : ℕ) (s : Statement) → n < 2 ^ 31 → column_count s ≤ most_columns → rule_count s ≤ n → IsSmall s
one_small n (statement.Table name columns rules) i c r = (c, omega (arith, i, r))
one_small n (statement.View name query) i c r = tt
one_small n (statement.Index name unique on columns) i c r = tt

all_small : (n : ℕ) (list : List Statement) → n < 2 ^ 31 → Each (λ s. column_count s ≤ most_columns) list → Each (λ s. rule_count s ≤ n) list → Each IsSmall list
all_small n [] i c r = tt
all_small n (s ∷ list) i c r = (one_small n s i c.0 r.0, all_small n list i c.1 r.1)

fewer_taken : (ts taken rest : List Lexeme) → ts ≡ taken ++ rest → length ts < 2 ^ 31 → length taken < 2 ^ 31
fewer_taken ts taken rest e i = omega (arith, i, ap length e, length-append taken rest)

abbrev pub GivesAll : Cursor → List Statement → Cursor → Type 0
GivesAll before list after = GivesWithin relations_too g.statements (few_form g.statements) most_levels (λ read. read) before before list after

-- statements that were read fit the numbers of a schema
taken_small : {before after : Cursor} {list : List Statement} → GivesAll before list after → Each (λ s. column_count s ≤ most_columns) list
    → length before.tokens < 2 ^ 31 → Each IsSmall list
taken_small {before} {after} {list} s narrow i =
    let t = took_in _ _ _ _ (whole.free_same texts) (whole.shallow_same texts) before.tokens s.read after.tokens s.takes.took in
    let spelled = (roomier (Some most_levels) None tt g.statements).spells t.taken s.read t.spelled in
    all_small (length t.taken) list (fewer_taken before.tokens t.taken after.tokens t.whole i) narrow
    (few_rules_spelled before.numbers after.numbers t.taken list (s.read, spelled, s.builds.numbers))

-- ---- what is read

module _ {before after : Cursor} {list : List Statement} (t : AllAgree before (Ok list, after)) where
  abbrev s : GivesAll before list after
  s = t.agrees.reads.answers

  free_taken : Took (in_factored None g.statements) (in_factored None g.statements) before.tokens s.read after.tokens
  free_taken = took_free s.takes

  -- another reading of them reads the same
  counted_taken : (what : LimitKind) → IsWithin (in_factored None g.statements) (left_factored_within what) → TakesCounted g.statements (left_factored_within what) before after
      → Took (in_factored None g.statements) (left_factored_within what) before.tokens s.read after.tokens
  counted_taken what w t =
      subst (λ z. Took (in_factored None g.statements) (left_factored_within what) before.tokens z after.tokens)
      (same_read g.statements refl w (below_within (itself g.statements)) t.took free_taken) t.took

  taken_within : (what : LimitKind) → Took (in_factored None g.statements) (left_factored_within what) before.tokens s.read after.tokens
  taken_within limit.Columns = counted_taken limit.Columns (below_within (narrow_below most_further_columns)) t.agrees.columns.answers
  taken_within limit.Entries = s.takes.few tt
  taken_within limit.Relations = counted_taken limit.Relations (map_within kind_of (λ read. each read) _ _ (few_within most_relations)) t.relations.answers
  taken_within limit.Copies = free_taken

  pub few_read : length list ≤ most_relations
  few_read = let u = taken_within limit.Relations in few most_relations before.numbers after.numbers u.taken list (s.read, (within_same limit.Relations).there.spells u.taken s.read u.spelled, s.builds.numbers)

  pub small_read : length before.tokens < 2 ^ 31 → Each IsSmall list
  small_read = let u = taken_within limit.Columns in
      taken_small s (narrow most_further_columns before.numbers after.numbers u.taken list (s.read, (within_same limit.Columns).there.spells u.taken s.read u.spelled, s.builds.numbers))

  pub read_whole : after.copies ≤ most_copies → after.passed + length after.tokens ≤ most_tokens → IsRead before list after
  read_whole most counted = record {
    read = whole.read_whole texts (left_factored_within limit.Columns) (left_factored_within limit.Relations) (within_same limit.Columns) (within_same limit.Entries) (within_same limit.Relations) closed statement_costs s
        (taken_within limit.Columns) (taken_within limit.Entries) (taken_within limit.Relations) t.agrees.extends most;
    few_relations = few_read;
    small = small_read (omega (arith, t.agrees.extends.counted, counted));
  }

-- ---- what is refused

pub refused_whole : {before after : Cursor} → after.copies ≤ most_copies → (fault : ReadFault) → AllAgree before (Err fault, after) → IsRefused before fault
refused_whole {before} {after} most fault t =
    let columns = t.agrees.columns.answers in let relations = t.relations.answers in
    whole.refused texts (left_factored_within limit.Columns) (left_factored_within limit.Relations) (within_same limit.Columns) (within_same limit.Entries) (within_same limit.Relations) closed statement_costs
    relations_too tt before after t.agrees.extends fault t.agrees.reads.answers
    (record { columns_kept = λ placed shallow. columns.begun placed; relations_kept = λ placed shallow. relations.begun placed; columns_passed = columns.passed; relations_passed = relations.passed })
    (keeps_copies texts most fault t.agrees.copied.answers)

-- ---- what is handed on

module _ {before after : Cursor} where
  pub few_if_read : (result : Result (List Statement) ReadFault) → AllAgree before (result, after) → IfOk result (λ list. length list ≤ most_relations)
  few_if_read (Ok list) t = few_read t
  few_if_read (Err fault) t = tt

  pub small_if_read : (result : Result (List Statement) ReadFault) → AllAgree before (result, after) → IfOk result (λ list. length before.tokens < 2 ^ 31 → Each IsSmall list)
  small_if_read (Ok list) t = small_read t
  small_if_read (Err fault) t = tt

  -- what is handed on is what was read of statements, with all that was copied within the limit
  module _ {read handed : Result (List Statement) ReadFault} (same : handed ≡ read) (t : AllAgree before (read, after)) (most : after.copies ≤ most_copies) where
    pub statements_read : after.passed + length after.tokens ≤ most_tokens → (end : Cursor) → OnOk handed (end ≡ after) → IfOk handed (λ list. IsRead before list end)
    statements_read counted end still = rw same (by read t (subst (λ z. OnOk z (end ≡ after)) same still))
      where
        by : (result : Result (List Statement) ReadFault) → AllAgree before (result, after) → OnOk result (end ≡ after) → IfOk result (λ list. IsRead before list end)
        by (Ok list) t still = subst (λ z. IsRead before list z) (sym still) (read_whole t most counted)
        by (Err fault) t still = tt

    pub statements_refused : IfErr handed (λ fault. IsRefused before fault)
    statements_refused = rw same (by read t)
      where
        by : (result : Result (List Statement) ReadFault) → AllAgree before (result, after) → IfErr result (λ fault. IsRefused before fault)
        by (Ok list) t = tt
        by (Err fault) t = refused_whole most fault t
