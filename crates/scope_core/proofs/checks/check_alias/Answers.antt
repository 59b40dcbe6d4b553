use Rattle.std.proofs.Common.{◌≡◌, List, map, true, arith}
use Rattle.std.specs.List.{list_any}
use Rattle.sql_model.specs.Columns.{same_name}
use Rattle.scope_core.specs.declared.heading.Heading.{Heading}
use Rattle.scope_core.proofs.basics.Lists.{at-head}
use Rattle.scope_core.proofs.resolving.Columns.{cause-alias_twice}
use Rattle.scope_core.proofs.checks.check_alias.Goals as goal

pub returns-then-is_alias-clause-err : goal.returns-then-is_alias-clause-err
returns-then-is_alias-clause-err c =
    let among = λ (hs : List Heading). list_any (same_name c.args.alias.now) (map (λ h. h.alias) hs) in
    let next = at-head among c.args.before.now c.loop-heading.heading-index c.heading-item.result c.loop-heading-test.true c.heading-item.is in
    let is : among c.args.before.now ≡ true = grind (arith, c.loop-heading.invariant, next, c.is_alias.ensures, c.if-is_alias.true) in
    cause-alias_twice c.args.alias.now (map (λ h. h.alias) c.args.before.now) c.args.at c.refused.result is c.refused.ensures
