use Rattle.std.proofs.Common.{sym, ◌∙◌, arith}
use Rattle.sql_grammar.proofs.lists.KindRows.{row_found, row_passed, no_row}
use Rattle.sql_grammar.proofs.words.find_kind.Goals as goal

pub returns-then-is_same_word-clause-some : goal.returns-then-is_same_word-clause-some
returns-then-is_same_word-clause-some c = λ other.
    sym (c.loop-word.invariant other) ∙ row_found c.args.rows.now c.loop-word.word-index _ c.args.text.now other (omega arith) (sym c.is_same_word.ensures ∙ c.if-is_same_word.true)

pub loop-word-preserved : goal.loop-word-preserved
loop-word-preserved c = λ other.
    sym (row_passed c.args.rows.now c.loop-word.word-index _ c.args.text.now other (omega arith) (sym c.is_same_word.ensures ∙ c.if-is_same_word.false)) ∙ c.loop-word.invariant other

pub returns-clause-none : goal.returns-clause-none
returns-clause-none c = λ other. sym (c.loop-word.invariant other) ∙ no_row c.args.rows.now c.loop-word.word-index c.args.text.now other (omega arith)
