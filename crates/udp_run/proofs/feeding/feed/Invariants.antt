use Rattle.std.proofs.Common.{◌≡◌, ◌≤◌, ◌-◌, List, ℕ}
use Rattle.udp_run.specs.Runs.{IsFedSoFar}
use Rattle.udp_run.proofs.feeding.feed.Given as goal

abbrev pub invariant-loop-taken : goal.invariant-loop-taken
invariant-loop-taken g l = record {
  usable : g.S.Store.usable l.store l.name;
  within : l.taken ≤ 1073741825;
  so_far : IsFedSoFar (g.S.Store.left l.fn.store) (g.S.Store.left l.store) l.fn.pieces l.pieces l.taken;
  same_texts : (other : List ℕ) → g.S.Store.text l.store other ≡ g.S.Store.text l.fn.store other;
  later : (other : List ℕ) → g.S.Store.faults l.fn.store other ≤ g.S.Store.faults l.store other;
}

abbrev pub decreases-loop-taken : goal.decreases-loop-taken
decreases-loop-taken g l = 1073741825 - l.taken
