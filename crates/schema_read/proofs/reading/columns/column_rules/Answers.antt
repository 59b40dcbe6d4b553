use Rattle.std.proofs.Common.{rules, refl, sym, ◌∙◌}
use Rattle.std.proofs.lemmas.List.{append-nil}
use Rattle.sql_cursor.proofs.code.Extending.{◌⨟◌, extends_itself}
use Rattle.schema_read.specs.StatementReaders.{column_rules}
use Rattle.schema_read.proofs.agree.StatementLoops.{no_rule, rule_read, rule_shorter, rule_stops, ruling}
use Rattle.schema_read.proofs.reading.columns.column_rules.Goals as goal

pub more-init : goal.more-init
unfolding column_rules
more-init c = record { ruling = ruling refl; extends = extends_itself }

pub returns-in_err-rule-clause-does : goal.returns-in_err-rule-clause-does
returns-in_err-rule-clause-does c =
    let e = rule_stops c.more.invariant.ruling (sym c.sees_any.ensures ∙ c.more-test.true) c.in_err-rule.field-0.0 c.column_rule.new.tokens c.in_err-rule.ensures.does in search rules

pub more-preserved : goal.more-preserved
more-preserved c = record {
  ruling = rw (c.in_default.is, append-nil c.more.rules) at (rule_read c.more.invariant.ruling (sym c.sees_any.ensures ∙ c.more-test.true) _ _ c.in_ok-rule.ensures.does);
  extends = c.more.invariant.extends ⨟ c.in_ok-rule.ensures.extends;
}

pub more-preserved-in-Continue-branch-3 : goal.more-preserved-in-Continue-branch-3
more-preserved-in-Continue-branch-3 c = record {
  ruling = rw c.in_ok-push.ensures.ok (rw c.in-Some.is at (rule_read c.more.invariant.ruling (sym c.sees_any.ensures ∙ c.more-test.true) _ _ c.in_ok-rule.ensures.does));
  extends = c.more.invariant.extends ⨟ c.in_ok-rule.ensures.extends;
}

pub more-smaller : goal.more-smaller
more-smaller c = rule_shorter _ _ _ _ c.in_ok-rule.ensures.does

pub more-smaller-in-Continue-branch-3 : goal.more-smaller-in-Continue-branch-3
more-smaller-in-Continue-branch-3 c = rule_shorter _ _ _ _ c.in_ok-rule.ensures.does

pub returns-clause-does : goal.returns-clause-does
returns-clause-does c = no_rule c.more.invariant.ruling (sym c.sees_any.ensures ∙ c.more-test.false)
