use Rattle.std.proofs.Common.{subst}
use Rattle.u_terms.specs.Syntax.{U}
use Rattle.u_moves.specs.Derivations.{IsKnown}
use Rattle.u_normal.proofs.terms.KnownParts.{known-unwrapped}
use Rattle.u_normal.proofs.merging.factors_merged.Goals as goal

pub squash_of_product-requires-clause-p : goal.squash_of_product-requires-clause-p
squash_of_product-requires-clause-p c =
    known-unwrapped c.args.moves.outs c.args.wrap c.body_of-p.result.now (subst (λ (u : U). IsKnown 0 c.args.moves.outs u) c.body_of-p.ensures c.requires.known_first)

pub squash_of_product-requires-clause-q : goal.squash_of_product-requires-clause-q
squash_of_product-requires-clause-q c =
    known-unwrapped c.args.moves.outs c.args.wrap c.body_of-q.result.now (subst (λ (u : U). IsKnown 0 c.args.moves.outs u) c.body_of-q.ensures c.requires.known_second)

pub negation_of_sum-requires-clause-p : goal.negation_of_sum-requires-clause-p
negation_of_sum-requires-clause-p c =
    known-unwrapped c.args.moves.outs c.args.wrap c.body_of-p.result.now (subst (λ (u : U). IsKnown 0 c.args.moves.outs u) c.body_of-p.ensures c.requires.known_first)

pub negation_of_sum-requires-clause-q : goal.negation_of_sum-requires-clause-q
negation_of_sum-requires-clause-q c =
    known-unwrapped c.args.moves.outs c.args.wrap c.body_of-q.result.now (subst (λ (u : U). IsKnown 0 c.args.moves.outs u) c.body_of-q.ensures c.requires.known_second)
