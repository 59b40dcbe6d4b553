use Rattle.std.proofs.Common.{◌≡◌, ◌+◌, ◌<◌, ◌^◌, length}
use Rattle.sql_lex.specs.Lexing.{lexed}
use Rattle.sql_lex.proofs.lexer.Lexer.next.Given as goal

abbrev pub invariant-loop-self : goal.invariant-loop-self
invariant-loop-self l = record {
  held : lexed l.self-inside.start l.self-inside.rest.now ≡ l.fn.self;
  fits : l.self-inside.start + length l.self-inside.rest.now < 2 ^ 63;
}

abbrev pub decreases-loop-self : goal.decreases-loop-self
decreases-loop-self l = length l.self-inside.rest.now
