use Rattle.std.proofs.Common.{◌≡◌, map, take}
use Rattle.u_equal.specs.Joined.{label_at}
use Rattle.u_equal.proofs.calls.Call.signature_at.Given as goal

abbrev pub invariant-loop-place : goal.invariant-loop-place
invariant-loop-place l = l.classes.items ≡ map (label_at l.forest.edges.items l.upto) (take l.place-index l.self.arguments)
