use Rattle.std.proofs.Common.{◌≡◌, ◌-◌}
use Rattle.std.specs.List.{list_all}
use Rattle.shapes.specs.Tests.{columns_from}
use Rattle.bag_search.specs.Entries.{like, moved_to}
use Rattle.bag_search.proofs.sides.point_fits.Given as goal

abbrev pub invariant-loop-column : goal.invariant-loop-column
invariant-loop-column l =
    list_all (λ q. like l.sides.left.shape.now l.sides.right.shape.now l.p l.p2 q (moved_to l.to q)) (columns_from l.entry 0 l.columns)
    ≡ list_all (λ q. like l.sides.left.shape.now l.sides.right.shape.now l.p l.p2 q (moved_to l.to q)) (columns_from l.entry l.column (l.columns - l.column))
