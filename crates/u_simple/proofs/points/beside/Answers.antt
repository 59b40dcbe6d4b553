use Rattle.std.proofs.Common.{sym, subst}
use Rattle.u_terms.specs.Syntax.{U}
use Rattle.u_rules.specs.Terms.{◌≐◌}
use Rattle.u_moves.specs.Derivations.{IsKnown}
use Rattle.u_normal.proofs.terms.KnownParts.{known-factor_left, known-factor_right}
use Rattle.u_simple.proofs.Known.{known-first, known-second}
use Rattle.u_simple.proofs.points.beside.Goals as goal

pub turned_round-requires-clause-a : goal.turned_round-requires-clause-a
turned_round-requires-clause-a c =
    known-first c.args.moves.outs c.args.a.now c.args.b.now (known-factor_left c.args.moves.outs 0 (c.args.a.now ≐ c.args.b.now) c.args.rest.now c.requires.known)

pub turned_round-requires-clause-b : goal.turned_round-requires-clause-b
turned_round-requires-clause-b c =
    known-second c.args.moves.outs c.args.a.now c.args.b.now (known-factor_left c.args.moves.outs 0 (c.args.a.now ≐ c.args.b.now) c.args.rest.now c.requires.known)

pub still-requires : goal.still-requires
still-requires c =
    subst (λ (u : U). IsKnown 0 c.args.moves.outs u) (sym (c.in_ok-copied.ensures {u = tt})) (known-factor_right c.args.moves.outs 0 (c.args.a.now ≐ c.args.b.now) c.args.rest.now c.requires.known)
