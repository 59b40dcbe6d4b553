use Rattle.std.proofs.Common.{arith}
use Rattle.std.proofs.lemmas.List.{length-map}
use Rattle.u_equal.proofs.products.Listed.{table-all, table-only, table-once, table-few, within-all}
use Rattle.u_equal.proofs.table.table_of.Goals as goal

pub loop-value-preserved : goal.loop-value-preserved
loop-value-preserved c = record {
  all = table-all c.args.standing.now c.loop-value.value-index c.value-item.result (omega arith) c.value-item.is c.loop-value.table.keys c.insert.new.self.keys c.in_ok-insert.ensures.keys c.loop-value.invariant.all;
  only = table-only c.args.standing.now c.loop-value.value-index c.value-item.result (omega arith) c.value-item.is c.loop-value.table.keys c.insert.new.self.keys c.in_ok-insert.ensures.keys c.loop-value.invariant.only;
  once = table-once c.args.standing.now c.loop-value.value-index c.value-item.result (omega arith) c.value-item.is c.loop-value.table.keys c.insert.new.self.keys c.in_ok-insert.ensures.keys c.loop-value.invariant.once;
  few = table-few c.args.standing.now c.loop-value.value-index c.value-item.result (omega arith) c.value-item.is c.loop-value.table.keys c.insert.new.self.keys c.in_ok-insert.ensures.keys c.loop-value.invariant.few;
}

pub returns : goal.returns
returns c = record {
  all = λ a h. c.loop-value.invariant.all h.place a (within-all (λ r. r.now) c.args.standing.now h.place c.loop-value.value-index a (omega arith) h.here) h.here;
  only = c.loop-value.invariant.only;
  once = c.loop-value.invariant.once;
  few = omega (arith, c.loop-value.invariant.few, length-map c.args.standing.now (λ r. r.now));
}
