use Rattle.std.proofs.Common.{◌≡◌, drop}
use Rattle.bag_search.specs.Entries.{fits_with}
use Rattle.bag_search.specs.Known.{AreKnown}
use Rattle.bag_search.proofs.search.goes_with.Given as goal

abbrev pub invariant-loop-to : goal.invariant-loop-to
invariant-loop-to l = record {
  at : l.entry ≡ l.to-index;
  known : AreKnown l.sides l.known;
  rest : fits_with l.sides.left.shape.now l.sides.right.shape.now 0 l.list l.next.entry l.next.to
      ≡ fits_with l.sides.left.shape.now l.sides.right.shape.now l.entry (drop l.to-index l.list) l.next.entry l.next.to;
}
