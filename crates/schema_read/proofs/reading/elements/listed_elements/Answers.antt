use Rattle.std.proofs.Common.{rules}
use Rattle.sql_cursor.proofs.code.Extending.{◌⨟◌, extends_within}
use Rattle.sql_read.proofs.code.Loops.{no_word, part_read, part_stops, word_stops}
use Rattle.schema_read.proofs.reading.elements.listed_elements.Goals as goal

pub returns-in_err-eat_within-clause-does : goal.returns-in_err-eat_within-clause-does
returns-in_err-eat_within-clause-does c =
    let e = word_stops _ _ _ _ _ _ c.more.invariant.same c.in_err-eat_within.field-0.0 c.eat_within.new.self c.in_err-eat_within.ensures.gives in search rules

pub returns-in_err-elements-2-clause-does : goal.returns-in_err-elements-2-clause-does
returns-in_err-elements-2-clause-does c =
    let w = rw c.in-Some.is at c.in_ok-eat_within.ensures.gives in
    let q = rw c.in-Some.is at c.in_ok-eat_within.ensures.eats in
    let e = part_stops _ _ _ _ _ _ c.more.invariant.same _ _ w q.room_left c.in_err-elements-2.field-0.0 c.element.new.tokens c.in_err-elements-2.ensures.does in search rules

pub more-preserved : goal.more-preserved
more-preserved c =
    let w = rw c.in-Some.is at c.in_ok-eat_within.ensures.gives in
    let q = rw c.in-Some.is at c.in_ok-eat_within.ensures.eats in
    record {
      same = part_read _ _ _ _ _ _ c.more.invariant.same _ _ w q.room_left _ _ c.in_ok-elements-2.ensures.does;
      extends = c.more.invariant.extends ⨟ extends_within q ⨟ c.in_ok-elements-2.ensures.extends;
    }

pub returns-clause-does : goal.returns-clause-does
returns-clause-does c = no_word _ _ _ _ _ _ c.more.invariant.same _ (rw c.in_default.is at c.in_ok-eat_within.ensures.gives)
