use Rattle.std.proofs.Common.{◌≡◌, drop}
use Rattle.bag_search.specs.Merges.{representative}
use Rattle.bag_search.proofs.points.representative.Given as goal

abbrev pub invariant-loop-merge : goal.invariant-loop-merge
invariant-loop-merge l = representative l.merges l.fn.p ≡ representative (drop l.merge-index l.merges) l.at
