use Rattle.std.proofs.Common.{◌≡◌, ◌≤◌, ◌+◌, ◌-◌, List, ℕ, length, vec_len}
use Rattle.std.specs.Io.KnownBytes.{Consumes}
use Rattle.udp_io.proofs.reading.read_all.Given as goal

abbrev pub invariant-loop-piece : goal.invariant-loop-piece
invariant-loop-piece g l = record {
  usable : g.S.Store.usable l.store l.name;
  within : length l.whole.items ≤ l.limit + 1;
  so_far : Consumes (g.S.Store.text l.fn.store l.name) (g.S.Store.left l.store) l.whole.items;
  same_texts : (other : List ℕ) → g.S.Store.text l.store other ≡ g.S.Store.text l.fn.store other;
  later : (other : List ℕ) → g.S.Store.faults l.fn.store other ≤ g.S.Store.faults l.store other;
}

abbrev pub decreases-loop-piece : goal.decreases-loop-piece
decreases-loop-piece g l = l.limit + 1 - vec_len l.whole
