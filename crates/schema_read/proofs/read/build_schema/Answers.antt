use Rattle.std.proofs.Common.{◌≡◌, ◌≤◌, ◌<◌, ◌+◌, ◌∷◌, drop, length, arith}
use Rattle.schema_read.specs.Building.{no_statements, fault_from, built_from}
use Rattle.schema_read.specs.Views.{seen}
use Rattle.schema_read.proofs.built.Steps.{split_at, fault_step, built_step, small_step, narrow_step, tables_step}
use Rattle.schema_read.proofs.read.build_schema.Goals as goal

pub loop-statement-preserved : goal.loop-statement-preserved
loop-statement-preserved c =
    let xs = c.args.statements.now in
    let i = c.loop-statement.statement-index in
    let s = c.statement-item.result in
    let within : i < length xs = c.loop-statement-test.true in
    let rest = drop (i + 1) xs in
    let split : drop i xs ≡ s ∷ rest = split_at xs i s within c.statement-item.is in
    let state = seen c.loop-statement.builder in
    let new = seen c.add.new.self in
    let given = c.in_ok-add.ensures in
    let before = c.loop-statement.invariant in
    let small = small_step state new s (drop i xs) rest split given.1 before.small in
    let tables : new.tables ≤ state.tables + 1 = tables_step state new s (drop i xs) rest split given.1 in
    record {
      fault = fault_step state new s (drop i xs) rest split given.1 (fault_from no_statements xs) given.0 before.fault;
      built = built_step state new s (drop i xs) rest split given.1 (built_from no_statements xs) before.built;
      narrow = narrow_step state new s (drop i xs) rest split given.1 small.0 before.narrow;
      few = omega (arith, tables, before.few);
      small = small.1;
    }
