use Rattle.std.proofs.Common.{Ok, ap, subst, sym, ◌∙◌}
use Rattle.sql_cursor.specs.Cursor.{lent}
use Rattle.sql_cursor.specs.Refusals.{IsLeftOut, refusal_of}
use Rattle.sql_cursor.proofs.tokens.Tokens.fault.Goals as goal

pub returns-in-Ok-Some-clause-memory : goal.returns-in-Ok-Some-clause-memory
returns-in-Ok-Some-clause-memory c =
    let seen = ap (λ next. lent (Ok next)) (sym c.in-Ok-Some.field-0-is) ∙ c.in-Ok-Some.ensures.next in
    λ none. subst IsLeftOut (ap (refusal_of c.args.self.now.end) seen) (c.refusal.ensures.memory none)
