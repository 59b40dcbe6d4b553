use Rattle.std.proofs.Common.{List, Bor, map, sym, ◌∙◌}
use Rattle.std.proofs.lemmas.Bool.{cond-true, cond-false}
use Rattle.sql_grammar.proofs.lists.KindRows.{Row}
use Rattle.sql_grammar.proofs.lists.KindTable.{word_kind-by_table}
use Rattle.sql_grammar.proofs.words.kind_by_table.Goals as goal

pub returns-in-Some : goal.returns-in-Some
returns-in-Some c = sym (word_kind-by_table (map (λ (rows : Bor (List Row)). rows.now) c.args.table.now) c.entries_for.result.now c.args.text.now c.entries_for.ensures c.requires ∙ c.in-Some.ensures.some _)

pub returns-in-None : goal.returns-in-None
returns-in-None c =
    sym (word_kind-by_table (map (λ (rows : Bor (List Row)). rows.now) c.args.table.now) c.entries_for.result.now c.args.text.now c.entries_for.ensures c.requires ∙ c.in-None.ensures.none _ ∙ cond-true _ _ _ (sym c.is_never_used.ensures ∙ c.if-is_never_used.true))

pub returns-in-None-2 : goal.returns-in-None-2
returns-in-None-2 c =
    sym (word_kind-by_table (map (λ (rows : Bor (List Row)). rows.now) c.args.table.now) c.entries_for.result.now c.args.text.now c.entries_for.ensures c.requires ∙ c.in-None.ensures.none _ ∙ cond-false _ _ _ (sym c.is_never_used.ensures ∙ c.if-is_never_used.false))
