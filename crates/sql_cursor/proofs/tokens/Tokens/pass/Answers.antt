use Rattle.std.proofs.Common.{sym, ap, arith, ◌+◌, ◌^◌, ◌∙◌}
use Rattle.sql_cursor.proofs.code.Cursors.{sound_of, to_come-next, below_held, passed}
use Rattle.sql_cursor.specs.Cursor.{Cursor, behind_next, numbers_of}
use Rattle.sql_cursor.proofs.tokens.Tokens.pass.Goals as goal

pub invariant_of-self : goal.invariant_of-self
invariant_of-self c =
    let next = c.next-self-inside.ensures in
    let held = to_come-next c.self.inside.lexer c.next-self-inside.new.self c.next-self-inside.result next.token next.fault next.end in
    let p = passed c.self.inside.next c.self.inside.lexer (λ none. c.requires (ap (λ v. v.tokens) (sym c.self.view_is) ∙ none)) in
    sound_of c.kind_ahead-self-inside.ensures held
    (below_held (2 ^ 32) c.self.inside.next c.self.inside.lexer (λ none. c.requires (ap (λ v. v.tokens) (sym c.self.view_is) ∙ none)) c.self.invariant.places)
    (omega (arith, p.fewer, c.self.invariant.counted)) c.self.invariant.copied

pub overflow_add-self : goal.overflow_add-self
overflow_add-self c =
    let p = passed c.self.inside.next c.self.inside.lexer (λ none. c.requires (ap (λ v. v.tokens) (sym c.self.view_is) ∙ none)) in
    omega (arith, p.fewer, c.self.invariant.counted)

pub returns : goal.returns
returns c =
    let next = c.next-self-inside.ensures in
    let held = to_come-next c.self.inside.lexer c.next-self-inside.new.self c.next-self-inside.result next.token next.fault next.end in
    let p = passed c.self.inside.next c.self.inside.lexer (λ none. c.requires (ap (λ v. v.tokens) (sym c.self.view_is) ∙ none)) in
    let tokens = ap (λ l. l.tokens) held ∙ p.tokens in
    let fault = ap (λ l. l.fault) held ∙ p.fault in
    (λ i. record { tokens = tokens i; fault = fault i; end = c.self.inside.end; numbers = numbers_of c.self.inside.symbols; copies = c.self.inside.copies; passed = c.self.inside.passed + 1 })
    ∙ ap {A = Cursor} {B = Cursor} behind_next c.self.view_is
