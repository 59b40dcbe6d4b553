use Rattle.std.proofs.Common.{◌≡◌, ap, sym, subst, ◌∙◌, arith}
use Rattle.u_terms.specs.Syntax.{U}
use Rattle.u_moves.specs.Derivations.{Derivation, IsKnown, IsSound}
use Rattle.u_congruence.specs.Congruence.{IsBy}
use Rattle.u_normal.specs.Taking.{load}
use Rattle.u_normal.specs.Merging.{HasKinds}
use Rattle.u_normal.proofs.terms.KnownParts.{to-known}
use Rattle.u_normal.proofs.merging.+merged.Goals as goal

pub merged-requires : goal.merged-requires
merged-requires t c =
    let first = c.in_ok-first-in-Some.ensures {u = tt} in
    let by : IsBy c.args.moves.facts.now c.args.moves.outs c.in_ok-first-in-Some.first = record { facts = first.facts; outs = first.outs } in
    let e : c.to.result.now ≡ c.in_ok-first-in-Some.first.to = c.to.ensures.lent ∙ ap (λ (d : Derivation). d.to) c.get.ensures in (
      omega (arith, c.decreases, ap load e, first.reached.light),
      (
        subst (λ (u : U). IsKnown 0 c.args.moves.outs u) (sym e)
            (to-known c.args.moves.facts.now c.args.moves.outs c.in_ok-first-in-Some.first by (subst (λ (d : Derivation). IsSound d) c.get.ensures c.to.ensures.sound)),
        subst (λ u. HasKinds u) (sym e) (first.reached.kinds c.requires.kinds),
      ),
    )
