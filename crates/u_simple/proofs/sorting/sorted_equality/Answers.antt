use Rattle.std.proofs.Common.{sym, subst}
use Rattle.u_terms.specs.Syntax.{U}
use Rattle.u_moves.specs.Derivations.{IsKnown}
use Rattle.u_simple.proofs.Known.{known-equality}
use Rattle.u_simple.proofs.sorting.sorted_equality.Goals as goal

pub still-requires : goal.still-requires
still-requires c =
    subst (λ (u : U). IsKnown 0 c.args.moves.outs u) (sym (c.in_ok-stays.ensures {u = tt}))
    (known-equality c.args.moves.outs c.args.a.now c.args.b.now c.requires.a c.requires.b)
