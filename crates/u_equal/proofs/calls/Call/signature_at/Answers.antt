use Rattle.std.proofs.Common.{◌<◌, List, ℕ, length, get_or, sym, ap, subst, arith}
use Rattle.u_equal.proofs.products.Listed.{place-within}
use Rattle.u_equal.proofs.calls.Call.signature_at.Goals as goal

pub class_at-requires-clause-place : goal.class_at-requires-clause-place
class_at-requires-clause-place c =
    let is = c.as_slice-place-items.ensures in
    subst (λ (ps : List ℕ). get_or ps c.loop-place.place-index 0 < length c.args.forest.now.values.keys) (sym is)
    (place-within c.args.forest.now.values.keys c.args.self.now c.requires.call c.loop-place.place-index (omega (arith, c.loop-place-test.true, ap length is)))
