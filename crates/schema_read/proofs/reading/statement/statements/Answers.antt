use Rattle.std.proofs.Common.{rules, ◌<◌, [], ◌∷◌, length, length-append, refl, sym, ◌∙◌, arith}
use Rattle.sql_cursor.proofs.code.Extending.{◌⨟◌, extends_itself}
use Rattle.schema_read.specs.StatementReaders.{statements}
use Rattle.schema_read.proofs.agree.StatementLoops.{none_begins, statement_read, statement_stops, too_many}
use Rattle.schema_read.proofs.reading.statement.statements.Goals as goal
use Rattle.schema_read.specs.StatementLimits.{most_relations}

pub more-init : goal.more-init
unfolding statements
more-init c = record { same = rw c.new-statements.ensures refl; few = rw c.new-statements.ensures (omega arith); extends = extends_itself }

pub returns-then-len-eq-MOST_RELATIONS-clause-does : goal.returns-then-len-eq-MOST_RELATIONS-clause-does
returns-then-len-eq-MOST_RELATIONS-clause-does c =
    too_many _ _ _ c.more.invariant.same (sym c.sees.ensures ∙ c.more-test.true) (omega (arith, c.len.ensures, c.if-len-eq-MOST_RELATIONS.true))

pub returns-in_err-next-clause-does : goal.returns-in_err-next-clause-does
returns-in_err-next-clause-does c =
    let fits : length c.more.statements < most_relations = omega (arith, c.more.invariant.few, c.len.ensures, c.if-len-eq-MOST_RELATIONS.false) in
    let e = statement_stops _ _ _ c.more.invariant.same (sym c.sees.ensures ∙ c.more-test.true) fits c.in_err-next.field-0.0 c.ended_statement.new.tokens c.in_err-next.ensures.does in search rules

pub more-preserved : goal.more-preserved
more-preserved c =
    let fits : length c.more.statements < most_relations = omega (arith, c.more.invariant.few, c.len.ensures, c.if-len-eq-MOST_RELATIONS.false) in
    record {
      same = rw c.in_ok-push.ensures.ok (statement_read _ _ _ c.more.invariant.same (sym c.sees.ensures ∙ c.more-test.true) fits _ _ c.in_ok-next.ensures.does);
      few = rw c.in_ok-push.ensures.ok (omega (arith, length-append c.more.statements (c.in_ok-next.next ∷ []), fits));
      extends = c.more.invariant.extends ⨟ c.in_ok-next.ensures.extends;
    }

pub more-smaller : goal.more-smaller
more-smaller c =
    let fits : length c.more.statements < most_relations = omega (arith, c.more.invariant.few, c.len.ensures, c.if-len-eq-MOST_RELATIONS.false) in
    rw c.in_ok-push.ensures.ok (omega (arith, length-append c.more.statements (c.in_ok-next.next ∷ []), fits))

pub returns-clause-does : goal.returns-clause-does
returns-clause-does c = none_begins _ _ _ c.more.invariant.same (sym c.sees.ensures ∙ c.more-test.false)
