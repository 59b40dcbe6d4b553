use Rattle.std.proofs.Common.{◌≡◌, ◌-◌}
use Rattle.std.specs.List.{list_all}
use Rattle.shapes.specs.Tests.{columns_from}
use Rattle.bag_search.specs.Entries.{literals_fit, moved_to}
use Rattle.bag_search.proofs.sides.columns_with_literals.Given as goal

abbrev pub invariant-loop-column : goal.invariant-loop-column
invariant-loop-column l =
    list_all (λ p. literals_fit l.sides.left.shape.now l.sides.right.shape.now p (moved_to l.to p)) (columns_from l.entry 0 l.columns)
    ≡ list_all (λ p. literals_fit l.sides.left.shape.now l.sides.right.shape.now p (moved_to l.to p)) (columns_from l.entry l.column (l.columns - l.column))
