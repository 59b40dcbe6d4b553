use Rattle.std.proofs.Common.{ap, sym, subst, ◌∙◌}
use Rattle.u_terms.specs.Syntax.{U}
use Rattle.u_moves.specs.Derivations.{Derivation, IsKnown, IsSound, IsWithin}
use Rattle.u_moves.proofs.derivations.Sound.{first-within}
use Rattle.u_bag.proofs.regrouping.start_of.Goals as goal

pub returns-clause-known : goal.returns-clause-known
returns-clause-known c =
    let sound : IsSound c.args.d.now = subst (λ (d : Derivation). IsSound d) c.get.ensures c.from.ensures.sound in
    subst (λ (u : U). IsKnown 0 c.args.d.now.outs u) (sym (c.from.ensures.lent ∙ ap (λ (d : Derivation). d.from) c.get.ensures)) sound.known

pub returns-clause-within : goal.returns-clause-within
returns-clause-within c =
    subst (λ (u : U). IsWithin c.args.d.now.nodes c.args.d.now.depth u) (sym (c.from.ensures.lent ∙ ap (λ (d : Derivation). d.from) c.get.ensures))
    (first-within c.args.d.now (subst (λ (d : Derivation). IsSound d) c.get.ensures c.from.ensures.sound))

pub returns-clause-sound : goal.returns-clause-sound
returns-clause-sound c = subst (λ (d : Derivation). IsSound d) c.get.ensures c.from.ensures.sound
