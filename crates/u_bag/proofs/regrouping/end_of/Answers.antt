use Rattle.std.proofs.Common.{ap, sym, subst, ◌∙◌}
use Rattle.u_terms.specs.Syntax.{U}
use Rattle.u_moves.specs.Derivations.{Derivation, IsKnown, IsSound, IsWithin}
use Rattle.u_moves.proofs.derivations.Sound.{last-known, last-within}
use Rattle.u_bag.proofs.regrouping.end_of.Goals as goal

pub returns-clause-known : goal.returns-clause-known
returns-clause-known c =
    subst (λ (u : U). IsKnown 0 c.args.d.now.outs u) (sym (c.to.ensures.lent ∙ ap (λ (d : Derivation). d.to) c.get.ensures))
    (last-known c.args.d.now (subst (λ (d : Derivation). IsSound d) c.get.ensures c.to.ensures.sound))

pub returns-clause-within : goal.returns-clause-within
returns-clause-within c =
    subst (λ (u : U). IsWithin c.args.d.now.nodes c.args.d.now.depth u) (sym (c.to.ensures.lent ∙ ap (λ (d : Derivation). d.to) c.get.ensures))
    (last-within c.args.d.now (subst (λ (d : Derivation). IsSound d) c.get.ensures c.to.ensures.sound))

pub returns-clause-sound : goal.returns-clause-sound
returns-clause-sound c = subst (λ (d : Derivation). IsSound d) c.get.ensures c.to.ensures.sound
