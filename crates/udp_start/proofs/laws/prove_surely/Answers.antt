use Rattle.std.proofs.Common.{arith}
use Rattle.udp_start.specs.Words.{default_budget}
use Rattle.udp_start.proofs.SmallCases.{no-read_fault, without-fault}
use Rattle.udp_start.proofs.laws.prove_surely.Goals as goal

pub returns-clause-promised : goal.returns-clause-promised
returns-clause-promised c case budget is promised =
    without-fault c.start.result (λ e. no-read_fault c.args.words.now case budget is _ _ (λ name rose. absurd (omega (arith, rose))) (c.start.ensures.read_fault e))
    (λ e. absurd (omega (arith, c.start.ensures.write_fault e))) (c.start.ensures.promised case budget is promised)

pub returns-clause-by_default : goal.returns-clause-by_default
returns-clause-by_default c case is small =
    without-fault c.start.result (λ e. no-read_fault c.args.words.now case default_budget is _ _ (λ name rose. absurd (omega (arith, rose))) (c.start.ensures.read_fault e))
    (λ e. absurd (omega (arith, c.start.ensures.write_fault e))) (c.start.ensures.by_default case is small)
