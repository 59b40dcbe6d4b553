use Rattle.std.proofs.Common.{◌≡◌, ◌^◌, Ok}
use Rattle.sql_cursor.proofs.code.Cursors.{below_given}
use Rattle.sql_cursor.proofs.tokens.Tokens.ahead.Goals as goal

pub returns-in-Some-Ok-clause-place : goal.returns-in-Some-Ok-clause-place
returns-in-Some-Ok-clause-place c =
    let given : c.in-Some-Ok.field-0 ≡ Ok c.in-Some-Ok.token = rw c.in-Some-Ok.is at c.in-Some-Ok.field-0-is in
    below_given (2 ^ 32) c.self.inside.next c.self.inside.lexer c.in-Some-Ok.field-0 c.in-Some-Ok.token c.in-Some-Ok.is given c.self.invariant.places
