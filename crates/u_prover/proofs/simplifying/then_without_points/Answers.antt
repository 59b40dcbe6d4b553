use Rattle.std.proofs.Common.{ap, sym, subst, ◌∙◌}
use Rattle.u_terms.specs.Syntax.{U}
use Rattle.u_moves.specs.Derivations.{Derivation, IsKnown, IsSound}
use Rattle.u_normal.proofs.terms.KnownParts.{to-known}
use Rattle.u_prover.proofs.simplifying.then_without_points.Goals as goal

pub without_points-requires : goal.without_points-requires
without_points-requires c =
    subst (λ (u : U). IsKnown 0 c.args.moves.outs u) (sym (c.to.ensures.lent ∙ ap (λ (d : Derivation). d.to) c.get.ensures))
    (to-known c.args.moves.facts.now c.args.moves.outs c.args.d c.requires (subst (λ (d : Derivation). IsSound d) c.get.ensures c.to.ensures.sound))
