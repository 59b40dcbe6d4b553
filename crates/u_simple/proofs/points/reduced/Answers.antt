use Rattle.std.proofs.Common.{sym, subst}
use Rattle.u_terms.specs.Syntax.{U}
use Rattle.u_moves.specs.Derivations.{IsKnown}
use Rattle.u_normal.proofs.terms.KnownParts.{known-body}
use Rattle.u_simple.proofs.points.reduced.Goals as goal

pub reduced_sum-requires : goal.reduced_sum-requires
reduced_sum-requires c =
    subst (λ (u : U). IsKnown 1 c.args.moves.outs u) (sym c.get.ensures)
    (known-body c.args.moves.outs c.in-Sum.f (subst (λ (u : U). IsKnown 0 c.args.moves.outs u) c.in-Sum.is c.requires))
