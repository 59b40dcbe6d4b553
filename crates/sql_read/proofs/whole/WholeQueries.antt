-- What the function for queries reads is read of the grammar.
use Rattle.std.proofs.Common.{Some, None, Result, Ok, Err, sym, subst, arith, ◌≡◌, ◌≤◌}
use Rattle.std.specs.Prelude.{IfErr, IfOk, OnOk}
use Rattle.grammar.specs.Form.{ref}
use Rattle.grammar.specs.Language.{Includes}
use Rattle.grammar.specs.Reading.{Began, Took}
use Rattle.grammar.proofs.languages.Forms.{form_grows}
use Rattle.grammar.proofs.languages.Heights.{name_prefixes, name_grows}
use Rattle.grammar.proofs.languages.Limits.{IsPrefixClosed}
use Rattle.grammar.proofs.readers.Steps.{Same}
use Rattle.sql_model.specs.declared.tree.Query.{Query}
use Rattle.sql_cursor.specs.declared.fault.LimitKind.{LimitKind}
use Rattle.sql_cursor.specs.declared.fault.LimitKind.TheVariants as limit
use Rattle.sql_cursor.specs.declared.fault.ReadFault.{ReadFault}
use Rattle.sql_cursor.specs.declared.fault.ReadFault.TheVariants.{Limit, NoMemory}
use Rattle.sql_read.specs.Copied.{Copied, CopiedToFault, CopiesSoFar}
use Rattle.sql_cursor.specs.Cursor.{Cursor}
use Rattle.sql_cursor.specs.Eating.{Extends}
use Rattle.sql_read.specs.ReadingQueries.{IsRead, IsRefused, texts, within}
use Rattle.sql_read.specs.ReadingTexts.{count_limit}
use Rattle.sql_read.specs.Reads.{Gives, Reads, Refuses, entries_too, few_form}
use Rattle.sql_grammar.specs.Kinds.{kind_of}
use Rattle.sql_grammar.specs.Queries.{most_levels}
use Rattle.sql_grammar.specs.QueryCopies.{most_copies}
use Rattle.sql_grammar.specs.QueryEntries.{few_queries, few_rules, most_further}
use Rattle.sql_grammar.specs.QueryGrammar.{The, query}
use Rattle.sql_grammar.specs.FactoredQueries.{in_factored, of_factored, factored}
use Rattle.sql_grammar.proofs.copies.CopyLimits.{reached_copies}
use Rattle.sql_grammar.proofs.copies.CopyOnce.{query_costs}
use Rattle.sql_grammar.proofs.entries.FewFactored.{few_factored_includes, few_rules_include}
use Rattle.sql_grammar.proofs.queries.QueryForms.{form_has_prefixes}
use Rattle.sql_read.proofs.whole.WholeTexts as whole
use Rattle.sql_read.proofs.whole.WholeTexts.{CountsKept, KeepsCopies, KeptTo}

left_factored_grows : {A : Type 0} (f : The A) → Includes (in_factored None f) (in_factored (Some most_levels) f)
left_factored_grows f = form_grows kind_of of_factored of_factored (name_prefixes kind_of factored) (name_grows kind_of factored) f (Some most_levels) None tt

few_there : Includes few_queries (few_form (ref query))
unfolding few_form
few_there = few_rules_include most_further (omega arith) None query

few_back : Includes (few_form (ref query)) few_queries
unfolding few_form
few_back = few_factored_includes most_further (omega arith) None query

few_same : Same (few_form (ref query)) few_queries
few_same = record { there = few_there; back = few_back }

closed : (what : LimitKind) → IsPrefixClosed (within what)
closed limit.Entries = (name_prefixes kind_of (few_rules most_further) None query).shorter
closed other = (form_has_prefixes None (ref query)).shorter

-- A query has neither columns nor relations to count.
module _ (before after : Cursor) where
  began_free : Began (in_factored (Some most_levels) (ref query)) before.tokens after.tokens → Began (in_factored None (ref query)) before.tokens after.tokens
  began_free b = record { taken = b.taken; whole = b.whole; begun = (left_factored_grows (ref query)).prefix b.taken b.begun }

  none_counted : {fault : ReadFault} → Refuses (ref query) most_levels before fault after → CountsKept texts (in_factored None (ref query)) (in_factored None (ref query)) (whole.free_same texts) few_same (whole.free_same texts) closed query_costs before fault after
  none_counted {fault} r = record {
    columns_kept = λ placed b. began_free b;
    relations_kept = λ placed b. began_free b;
    columns_passed = λ e. absurd (subst (λ z. Refuses (ref query) most_levels before z after) e r).says.counts;
    relations_passed = λ e. absurd (subst (λ z. Refuses (ref query) most_levels before z after) e r).says.counts;
  }

  taken_free : {q : Query} (g : Gives (ref query) most_levels (λ read. read) before before q after) → Took (in_factored None (ref query)) (in_factored None (ref query)) before.tokens g.read after.tokens
  taken_free g = let t = g.takes.took in record { taken = t.taken; whole = t.whole; spelled = (left_factored_grows (ref query)).spells t.taken g.read t.spelled; stops = t.stops }

  kept_copies : CopiesSoFar (ref query) (λ read. read) before before after → after.copies ≤ most_copies → KeptTo texts (count_limit limit.Copies) before after.tokens
  kept_copies r most taken e = (r.value, reached_copies (ref query) before.tokens taken after.tokens r.value e r.up_to, omega (arith, r.count, most))

  keeps_copies : (fault : ReadFault) → CopiedToFault (ref query) (λ read. read) before before fault after → after.copies ≤ most_copies → KeepsCopies texts before fault after
  keeps_copies (Limit limit.Copies) c most = c.says
  keeps_copies (Limit limit.Columns) c most = absurd c.says
  keeps_copies (Limit limit.Relations) c most = absurd c.says
  keeps_copies NoMemory c most = tt
  keeps_copies other c most = kept_copies c.says most

-- ---- what is handed on

-- what is handed on is what was read of a query, with all that was copied within the limit
module _ {before after : Cursor} {read handed : Result Query ReadFault} (same : handed ≡ read) (r : Reads (ref query) most_levels (λ read. read) before before read after) (x : Extends before after)
    (most : after.copies ≤ most_copies) where
  pub query_read : (end : Cursor) → OnOk handed (end ≡ after) → IfOk handed (λ q. IsRead before q end)
  query_read end still = by handed (subst (λ z. Reads (ref query) most_levels (λ read. read) before before z after) (sym same) r) still
    where
      by : (result : Result Query ReadFault) → Reads (ref query) most_levels (λ read. read) before before result after → OnOk result (end ≡ after) → IfOk result (λ q. IsRead before q end)
      by (Ok q) r still =
          let free = taken_free before after r.answers in
          subst (λ z. IsRead before q z) (sym still)
          (whole.read_whole texts (in_factored None (ref query)) (in_factored None (ref query)) (whole.free_same texts) few_same (whole.free_same texts) closed query_costs r.answers free (r.answers.takes.few tt) free x most)
      by (Err fault) r still = tt

  pub query_refused : Copied (ref query) (λ read. read) before before read after → IfErr handed (λ fault. IsRefused before fault)
  query_refused c = subst (λ z. IfErr z (λ fault. IsRefused before fault)) (sym same) (by read r c)
    where
      by : (result : Result Query ReadFault) → Reads (ref query) most_levels (λ read. read) before before result after → Copied (ref query) (λ read. read) before before result after
          → IfErr result (λ fault. IsRefused before fault)
      by (Ok q) r c = tt
      by (Err fault) r c =
          whole.refused texts (in_factored None (ref query)) (in_factored None (ref query)) (whole.free_same texts) few_same (whole.free_same texts) closed query_costs entries_too tt before after x fault r.answers (none_counted before after r.answers)
          (keeps_copies before after fault c.answers most)
