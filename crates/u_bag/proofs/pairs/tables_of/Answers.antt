use Rattle.std.proofs.Common.{◌≡◌, List, map, ap, ◌∙◌}
use Rattle.std.proofs.lemmas.List.{take_all}
use Rattle.shapes.specs.Shapes.{Entry}
use Rattle.u_bag.specs.Pairs.{table_of}
use Rattle.u_bag.proofs.pairs.tables_of.Goals as goal

pub returns : goal.returns
returns c =
    let e : c.loop-entry.tables.items ≡ map table_of c.args.entries.now = c.loop-entry.invariant ∙ ap (λ (xs : List Entry). map table_of xs) (take_all c.loop-entry.entry-index c.args.entries.now c.loop-entry-test.false) in
    record {
      are = rw e at c.in_ok-sort.ensures.permutation;
      ascend = c.in_ok-sort.ensures.sorted;
    }
