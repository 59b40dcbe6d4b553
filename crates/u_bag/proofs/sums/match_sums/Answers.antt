use Rattle.std.proofs.Common.{sym, subst}
use Rattle.std.proofs.lemmas.Result.{IfOk-weaker}
use Rattle.u_rules.specs.Terms.{add_leaves}
use Rattle.u_bag.specs.Pairs.{ArePairs, ArePartners}
use Rattle.u_bag.specs.Sums.{AreMade, IsSumsMatch}
use Rattle.u_bag.proofs.pairing.Paired.{made-sums}
use Rattle.u_bag.proofs.sums.match_sums.Goals as goal

pub made-requires-clause-pairs : goal.made-requires-clause-pairs
made-requires-clause-pairs c =
    let us = add_leaves c.args.left.now in
    let vs = add_leaves c.args.right.now in
    let found = subst (ArePartners c.args.outs (add_leaves c.args.left.now) (add_leaves c.args.right.now) c.args.budget) c.in-All.is (c.in_ok-pairs.ensures {u = tt}) in
    subst (ArePairs us vs) (sym c.as_slice.ensures.value) found.0

pub returns-in-All : goal.returns-in-All
returns-in-All c =
    let F = c.args.facts.now in
    let outs = c.args.outs in
    let left = c.args.left.now in
    let right = c.args.right.now in
    let found = subst (ArePartners c.args.outs (add_leaves c.args.left.now) (add_leaves c.args.right.now) c.args.budget) c.in-All.is (c.in_ok-pairs.ensures {u = tt}) in
    let pairs : ArePairs (add_leaves c.args.left.now) (add_leaves c.args.right.now) c.as_slice.result.now = subst (ArePairs (add_leaves c.args.left.now) (add_leaves c.args.right.now)) (sym c.as_slice.ensures.value) found.0 in
    IfOk-weaker c.made.result (AreMade F outs left right c.as_slice.result.now) (IsSumsMatch F outs left right c.args.budget) (made-sums F outs left right c.args.budget c.as_slice.result.now pairs found.1) c.made.ensures
