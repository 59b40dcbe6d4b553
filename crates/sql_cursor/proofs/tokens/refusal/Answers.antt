use Rattle.std.proofs.Common.{sym}
use Rattle.sql_lex.specs.Lexemes.{lexeme_of}
use Rattle.sql_cursor.proofs.code.Cursors.{left_out_there}
use Rattle.sql_cursor.proofs.tokens.refusal.Goals as goal

pub returns-in-Err-clause-memory : goal.returns-in-Err-clause-memory
returns-in-Err-clause-memory c = λ e. left_out_there (lexeme_of c.args.token.now) (sym c.if-not-is_left_out_word.ensures)
