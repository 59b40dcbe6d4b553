use Rattle.std.proofs.Common.{◌++◌, ap, ap₂, arith, ◌∙◌}
use Rattle.u_moves.specs.Derivations.{Derivation}
use Rattle.u_moves.proofs.derivations.Sound.{joined, joined-sound, sound-by}
use Rattle.u_moves.proofs.deriv.Deriv.then.Goals as goal

pub invariant_of-result : goal.invariant_of-result
invariant_of-result c =
    let first = c.into_start-from.ensures in
    let rest = c.into_last-to.ensures in
    sound-by (joined c.args.self c.args.other) (joined-sound c.args.self c.args.other first.sound rest.sound c.requires.joins c.requires.facts c.requires.outs)
    c.self.inside.facts.now c.self.inside.outs c.into_start-from.result.0 c.into_last-to.result.0 c.in_ok-steps.steps c.max-nodes.result c.max-depth.result
    (ap (λ (d : Derivation). d.facts) c.self.view_is) (ap (λ (d : Derivation). d.outs) c.self.view_is) first.from rest.to
    (c.in_ok-steps.ensures {u = tt} ∙ ap₂ (λ ss ts. ss ++ ts) first.steps rest.steps)
    (omega (arith, c.max-nodes.ensures, ap (λ (d : Derivation). d.nodes) c.self.view_is, ap (λ (d : Derivation). d.nodes) c.other.view_is))
    (omega (arith, c.max-depth.ensures, ap (λ (d : Derivation). d.depth) c.self.view_is, ap (λ (d : Derivation). d.depth) c.other.view_is))
