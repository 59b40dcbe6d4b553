use Rattle.std.proofs.Common.{◌≡◌, ◌++◌, drop}
use Rattle.std.specs.List.{filter}
use Rattle.shapes.specs.Shapes.{sides}
use Rattle.shapes.specs.Tests.{is_literal}
use Rattle.bag_search.proofs.sides.add_literals.Given as goal

abbrev pub invariant-loop-equality : goal.invariant-loop-equality
invariant-loop-equality l = l.found.items ++ filter is_literal (sides (drop l.equality-index l.equalities)) ≡ l.fn.found.items ++ filter is_literal (sides l.equalities)
