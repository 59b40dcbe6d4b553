use Rattle.std.proofs.Common.{arith, ◌^◌}
use Rattle.sql_cursor.proofs.code.Cursors.{sound_of, to_come-next, below_in_text, no_more_tokens}
use Rattle.sql_cursor.proofs.tokens.Tokens.new.Goals as goal

pub invariant_of-result : goal.invariant_of-result
invariant_of-result c =
    let next = c.next-next.ensures in
    let held = to_come-next c.new-lexer.result c.next-next.new.self c.next-next.result next.token next.fault next.end in
    let few = no_more_tokens 0 c.args.text.now c.new-lexer.result.tokens c.new-lexer.result.fault c.new-lexer.ensures in
    sound_of c.kind_ahead-kind.ensures held (below_in_text c.args.text.now c.new-lexer.result.tokens c.new-lexer.result.fault (2 ^ 32) c.new-lexer.ensures (omega arith)) (omega arith) (omega arith)
