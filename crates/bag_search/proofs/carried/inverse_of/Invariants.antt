use Rattle.std.proofs.Common.{◌≡◌, ◌++◌, ◌-◌, length}
use Rattle.shapes.specs.Tests.{back_from}
use Rattle.bag_search.proofs.carried.inverse_of.Given as goal

abbrev pub invariant-loop-x : goal.invariant-loop-x
invariant-loop-x l = l.back.items ++ back_from l.x (length l.list - l.x) l.list ≡ back_from 0 (length l.list) l.list
