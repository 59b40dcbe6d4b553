use Rattle.std.proofs.Common.{◌∙◌}
use Rattle.std.proofs.lemmas.Option.{MatchOption-at_some}
use Rattle.u_bag.specs.Pairs.{lefts_of}
use Rattle.u_bag.specs.Shapes.{SomeHasTooManySums}
use Rattle.u_bag.specs.Sums.{IsFromPairs}
use Rattle.u_bag.proofs.pairing.Paired.{left-terms, pairs-known, right-terms}
use Rattle.std.proofs.Common.{subst}
use Rattle.std.specs.Prelude.{IfSome}
use Rattle.u_bag.specs.Costs.{KeepsAddedCosts}
use Rattle.u_bag.proofs.costs.SumCosts.{pairs-cost}
use Rattle.u_bag.proofs.sums.by_pairs.Goals as goal

pub added_pairs-requires-clause-known : goal.added_pairs-requires-clause-known
added_pairs-requires-clause-known c = pairs-known c.args.moves.outs c.args.left.now c.args.right.now c.args.pairs.now c.requires.left c.requires.right c.requires.pairs

pub sums_regrouped-requires-clause-leaves : goal.sums_regrouped-requires-clause-leaves
sums_regrouped-requires-clause-leaves c =
    let between = MatchOption-at_some (SomeHasTooManySums (lefts_of c.args.pairs.now)) (IsFromPairs c.args.moves.facts.now c.args.moves.outs c.args.pairs.now) c.in-Some.between c.in-Some.is c.in_ok-between.ensures.leads in
    left-terms c.args.left.now c.args.right.now c.args.pairs.now c.requires.pairs c.start_of.result.now (c.start_of.ensures.lent ∙ between.from)

pub sums_regrouped-requires-2-clause-leaves : goal.sums_regrouped-requires-2-clause-leaves
sums_regrouped-requires-2-clause-leaves c =
    let between = MatchOption-at_some (SomeHasTooManySums (lefts_of c.args.pairs.now)) (IsFromPairs c.args.moves.facts.now c.args.moves.outs c.args.pairs.now) c.in-Some.between c.in-Some.is c.in_ok-between.ensures.leads in
    right-terms c.args.left.now c.args.right.now c.args.pairs.now c.requires.pairs c.end_of.result.now (c.end_of.ensures.lent ∙ between.to)

pub returns-clause-costs : goal.returns-clause-costs
returns-clause-costs c =
    let between = MatchOption-at_some (SomeHasTooManySums (lefts_of c.args.pairs.now)) (IsFromPairs c.args.moves.facts.now c.args.moves.outs c.args.pairs.now) c.in-Some.between c.in-Some.is c.in_ok-between.ensures.leads in
    pairs-cost c.args.moves.outs c.args.left.now c.args.right.now c.args.pairs.now c.requires.pairs c.in-Some.between c.in_ok-first.first c.in_ok-last.last c.in_ok-joined_by.field-0 c.start_of.result.now c.end_of.result.now
    (subst (λ o. IfSome o (KeepsAddedCosts c.args.moves.outs c.args.pairs.now)) c.in-Some.is c.in_ok-between.ensures.costs) (c.start_of.ensures.lent ∙ between.from) (c.end_of.ensures.lent ∙ between.to)
    c.start_of.ensures.within c.end_of.ensures.within c.in_ok-first.ensures.costs c.in_ok-last.ensures.costs c.in_ok-joined_by.ensures.costs
