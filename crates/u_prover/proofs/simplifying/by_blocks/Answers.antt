use Rattle.u_prover.specs.Proving.{AreEnds, SomeHasNoNormal}
use Rattle.u_prover.proofs.Reach.{ending-from, ends-missed, ends-told, none-told}
use Rattle.u_prover.proofs.simplifying.by_blocks.Goals as goal

pub returns-in_default : goal.returns-in_default
returns-in_default c =
    let m = c.args.moves in
    ends-missed m.facts.now m.outs c.args.left.now c.args.right.now c.args.budget
    (none-told (SomeHasNoNormal m.facts.now m.outs c.args.left.now c.args.right.now) (AreEnds m.facts.now m.outs c.args.left.now c.args.right.now) c.in_ok-ends.field-0 c.in_default.not-Some (c.in_ok-ends.ensures {u = tt}))

-- both derivations begin with the terms
pub returns : goal.returns
returns c =
    let m = c.args.moves in
    let ends = ends-told m.facts.now m.outs c.args.left.now c.args.right.now c.in_ok-ends.field-0 c.in-Some.ends c.in-Some.is (c.in_ok-ends.ensures {u = tt}) in
    ending-from m.facts.now m.outs c.args.left.now c.args.right.now c.in-Some.ends ends c.args.budget c.from_normal_terms.result c.from_normal_terms.ensures
