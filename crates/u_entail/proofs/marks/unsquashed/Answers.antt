use Rattle.std.proofs.Common.{◌≡◌, sym, ◌∙◌, subst}
use Rattle.u_rules.specs.Terms.{P, neg}
use Rattle.u_moves.specs.Derivations.{IsKnown}
use Rattle.u_entail.proofs.copies.Doubled.{inside-known, points-known}
use Rattle.u_entail.proofs.marks.unsquashed.Goals as goal

pub sq_pred-requires : goal.sq_pred-requires
sq_pred-requires c =
    let outs = c.args.moves.outs in
    let is : c.args.mark.now ≡ P c.in-Pred.symbol c.in-Pred.points = sym (c.in_ok-copy.ensures {u = tt}) ∙ c.in-Pred.is in
    points-known outs c.in-Pred.symbol c.in-Pred.points (subst (IsKnown 0 outs) is c.requires.known)

pub sq_not-requires : goal.sq_not-requires
sq_not-requires c =
    let outs = c.args.moves.outs in
    let is : c.args.mark.now ≡ neg c.in-Not.x = sym (c.in_ok-copy.ensures {u = tt}) ∙ c.in-Not.is in
    subst (IsKnown 0 outs) (sym c.into_inner.ensures) (inside-known outs c.in-Not.x (subst (IsKnown 0 outs) is c.requires.known))
