use Rattle.std.proofs.Common.{rules, refl}
use Rattle.sql_cursor.proofs.code.Extending.{◌⨟◌, extends_within}
use Rattle.sql_read.proofs.code.Loops.{no_word, part_read, part_stops, stops_first, word_stops}
use Rattle.schema_read.proofs.reading.names.listed_names.Goals as goal

pub returns-in_err-eat_within-clause-does : goal.returns-in_err-eat_within-clause-does
returns-in_err-eat_within-clause-does c =
    let e = word_stops _ _ _ _ _ _ c.more.invariant.same c.in_err-eat_within.field-0.0 c.eat_within.new.self c.in_err-eat_within.ensures.gives in search rules

pub returns-in_err-next-clause-does : goal.returns-in_err-next-clause-does
returns-in_err-next-clause-does c =
    let w = rw c.in-Some.is at c.in_ok-eat_within.ensures.gives in
    let q = rw c.in-Some.is at c.in_ok-eat_within.ensures.eats in
    let s = stops_first c.in_err-next.field-0.0 c.name-in-Some.new.tokens _ _ c.in_err-next.ensures.does in
    let e = part_stops _ _ _ _ _ _ c.more.invariant.same _ _ w q.room_left c.in_err-next.field-0.0 c.name-in-Some.new.tokens s in search rules

pub more-preserved : goal.more-preserved
more-preserved c =
    let w = rw c.in-Some.is at c.in_ok-eat_within.ensures.gives in
    let q = rw c.in-Some.is at c.in_ok-eat_within.ensures.eats in
    record {
      same = rw c.in_ok-push-2.ensures.ok (part_read _ _ _ _ _ _ c.more.invariant.same _ _ w q.room_left _ _ (rw c.in_ok-next.ensures.does refl));
      extends = c.more.invariant.extends ⨟ extends_within q ⨟ c.in_ok-next.ensures.extends;
    }

pub returns-clause-does : goal.returns-clause-does
returns-clause-does c = no_word _ _ _ _ _ _ c.more.invariant.same _ (rw c.in_default.is at c.in_ok-eat_within.ensures.gives)
