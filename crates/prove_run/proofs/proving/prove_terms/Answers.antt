use Rattle.std.proofs.Common.{refl}
use Rattle.u_prover.specs.Proving.{IsFound, IsUnknown}
use Rattle.prove_run.proofs.Written.{found-searched}
use Rattle.prove_run.proofs.proving.prove_terms.Goals as goal

pub returns-in-Ok-Found : goal.returns-in-Ok-Found
returns-in-Ok-Found g c =
    let found : IsFound c.args.facts.now c.args.outs c.args.left.now c.args.right.now c.in-Ok-Found.deriv = rw c.in-Ok-Found.field-0-is at c.in-Ok-Found.ensures in
    found-searched c.args.facts.now c.args.outs c.args.left.now c.args.right.now c.in-Ok-Found.deriv found c.args.budget _ _ _ _ c.write_derivation.result (c.write_derivation.ensures c.args.budget)

pub returns-in-Ok-Unknown : goal.returns-in-Ok-Unknown
returns-in-Ok-Unknown g c =
    let unknown : IsUnknown c.args.facts.now c.args.outs c.args.left.now c.args.right.now c.args.budget c.in-Ok-Unknown.spent = rw c.in-Ok-Unknown.field-0-is at c.in-Ok-Unknown.ensures in
    (refl, refl, unknown)
