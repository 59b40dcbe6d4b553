use Rattle.std.proofs.Common.{rules, refl}
use Rattle.sql_cursor.proofs.code.Extending.{◌⨟◌, extends_within}
use Rattle.sql_read.proofs.code.Loops.{eaten_some, made_no_word, made_part_read, made_part_stops, made_word_stops, stops_first}
use Rattle.sql_read.proofs.reading.block.group_by.Goals as goal

pub returns-in_err-eat_within-clause-does : goal.returns-in_err-eat_within-clause-does
returns-in_err-eat_within-clause-does c =
    let e = made_word_stops _ _ _ _ _ _ _ c.more.invariant.same c.in_err-eat_within.field-0.0 c.eat_within.new.self c.in_err-eat_within.ensures.gives in search rules

pub returns-in_err-next-clause-does : goal.returns-in_err-next-clause-does
returns-in_err-next-clause-does c =
    let q = rw c.in-Some-2.is at c.in_ok-eat_within.ensures.eats in
    let s = stops_first c.in_err-next.field-0.0 c.reference-in-Some-2.new.tokens _ _ c.in_err-next.ensures.does in
    let e = made_part_stops _ _ _ _ _ _ _ c.more.invariant.same _ _ (eaten_some q) q.room_left c.in_err-next.field-0.0 c.reference-in-Some-2.new.tokens s in search rules

pub more-preserved : goal.more-preserved
more-preserved c =
    let q = rw c.in-Some-2.is at c.in_ok-eat_within.ensures.eats in
    record {
      same = rw c.in_ok-push-2.ensures.ok (made_part_read _ _ _ _ _ _ _ c.more.invariant.same _ _ (eaten_some q) q.room_left _ _ (rw c.in_ok-next.ensures.does refl));
      extends = c.more.invariant.extends ⨟ extends_within q ⨟ c.in_ok-next.ensures.extends;
    }

pub returns-clause-does : goal.returns-clause-does
returns-clause-does c =
    rw c.fitted.ensures (made_no_word _ _ _ _ _ _ _ c.more.invariant.same _ (rw c.in_default-2.is at c.in_ok-eat_within.ensures.gives))
