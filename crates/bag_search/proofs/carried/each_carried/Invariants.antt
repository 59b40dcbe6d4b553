use Rattle.std.proofs.Common.{◌≡◌, drop, length}
use Rattle.shapes.specs.Tests.{both, carried, equal}
use Rattle.bag_search.proofs.carried.each_carried.Given as goal

abbrev pub invariant-loop-p : goal.invariant-loop-p
invariant-loop-p l = record {
  long : length l.ps ≡ length l.qs;
  rest : both (λ p q. equal l.t.shape.now (carried l.list p) q) l.ps l.qs
      ≡ both (λ p q. equal l.t.shape.now (carried l.list p) q) (drop (length l.yielded) l.ps) (drop (length l.yielded) l.qs);
}
