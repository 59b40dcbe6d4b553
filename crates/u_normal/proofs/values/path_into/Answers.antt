use Rattle.std.proofs.Common.{◌-◌, List, ap, sym, ◌∙◌, length}
use Rattle.std.specs.Prelude.{slice_get}
use Rattle.u_deriv.specs.declared.run.Run.{Run}
use Rattle.u_normal.proofs.derivations.IntoAggregates.{unlike-last, turns-into}
use Rattle.u_normal.proofs.values.path_into.Goals as goal

pub push-requires-2-clause-fits : goal.push-requires-2-clause-fits
push-requires-2-clause-fits c =
    λ x is like. absurd (unlike-last _ (length c.loop-index.path - 1) x (ap (λ (runs : List Run). slice_get runs (length c.loop-index.path - 1)) (sym c.loop-index.invariant) ∙ is) like)

pub returns : goal.returns
returns c = turns-into c.args.indices.now c.loop-index.index-index c.loop-index.path c.push-2.new.self c.loop-index.invariant c.loop-index-test.false (c.in_ok-push-2.ensures.turns)
