use Rattle.std.proofs.Common.{◌≡◌, ◌-◌}
use Rattle.std.specs.List.{list_all}
use Rattle.shapes.specs.Tests.{columns_from}
use Rattle.bag_search.specs.Entries.{like, moved_to}
use Rattle.bag_search.proofs.sides.columns_fit.Given as goal

abbrev pub invariant-loop-column : goal.invariant-loop-column
invariant-loop-column l =
    list_all (λ p. list_all (λ q. like l.sides.left.shape.now l.sides.right.shape.now p (moved_to l.to p) q (moved_to l.other.to q)) (columns_from l.other.entry 0 l.others)) (columns_from l.entry 0 l.columns)
    ≡ list_all (λ p. list_all (λ q. like l.sides.left.shape.now l.sides.right.shape.now p (moved_to l.to p) q (moved_to l.other.to q)) (columns_from l.other.entry 0 l.others)) (columns_from l.entry l.column (l.columns - l.column))
