use Rattle.std.proofs.Common.{refl, sym, subst}
use Rattle.std.proofs.lemmas.Result.{err_from_is_err_and}
use Rattle.schema_read.specs.Order.{Refuses}
use Rattle.schema_read.proofs.built.OrderLaws.{or_else-none}
use Rattle.schema_read.proofs.builder.Builder.add_table.Goals as goal

pub returns-in_err-add_rules : goal.returns-in_err-add_rules
returns-in_err-add_rules c =
    let p = err_from_is_err_and c.from_residual-in_err-add_rules.result c.from_residual-in_err-add_rules.ensures.1 in
    let differ = rw c.as_slice.ensures at c.in_ok-check_all_differ.ensures in
    let own = rw (c.as_slice-2.ensures, c.as_slice-3.ensures) at c.in_ok-table.ensures.table in
    let refuses = rw c.as_slice-4.ensures at c.in_err-add_rules.ensures in
    rw (p.1, p.2, c.in_ok-check_new.ensures.passes, differ, sym own)
    (subst (Refuses c.in_err-add_rules.field-0.0) (sym (or_else-none _)) refuses)

pub returns : goal.returns
returns c =
    let differ = rw c.as_slice.ensures at c.in_ok-check_all_differ.ensures in
    let own = rw (c.as_slice-2.ensures, c.as_slice-3.ensures) at c.in_ok-table.ensures.table in
    let rules = rw c.as_slice-4.ensures at c.in_ok-add_rules.ensures in
    (rw (c.in_ok-check_new.ensures.passes, differ, sym own, rules.0) refl, (rw (sym own, c.in_ok-declare.ensures, rules.1) refl))
