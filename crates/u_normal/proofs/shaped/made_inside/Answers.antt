use Rattle.std.proofs.Common.{[], ◌∷◌}
use Rattle.u_deriv.specs.declared.run.Run.TheVariants.{Inside}
use Rattle.u_moves.specs.Lifting.{IsMadeIn}
use Rattle.u_moves.proofs.derivations.Whole.{if-ok}
use Rattle.u_normal.specs.Shaped.{IsMadeAt}
use Rattle.u_normal.proofs.shaped.made_inside.Goals as goal

pub returns : goal.returns
returns c =
    if-ok (IsMadeIn (Inside 1 ∷ []) c.in_ok-whole.whole c.args.part) (IsMadeAt (Inside 1 ∷ []) c.args.moves c.args.u.now c.args.part)
    (λ x made. record { none = c.in_ok-whole.whole; still = c.in_ok-whole.ensures {u = tt}; made = made })
    c.made_in_turn.result c.made_in_turn.ensures
