use Rattle.std.proofs.Common.{List, [], ◌++◌, ap, rules}
use Rattle.u_deriv.specs.declared.step.Step.{Step}
use Rattle.proof_text.specs.Written.{proof_text}
use Rattle.proof_text.proofs.writing.Sending.{sent-all, sent-some, writes-as, writes-then}
use Rattle.proof_text.proofs.proof_writer.write_proof.Goals as goal

pub returns-then-failed-clause-fault : goal.returns-then-failed-clause-fault
returns-then-failed-clause-fault g c =
    let same = ap (λ (steps : List Step). proof_text c.args.outs steps ++ []) c.as_slice.ensures in
    let m = writes-as same (writes-then (rw c.new-pending.ensures at c.put_proof.ensures.writes) c.flush.ensures.writes) in
    sent-some _ _ _ _ _ _ m (search rules)

pub returns-else-failed-clause-ok : goal.returns-else-failed-clause-ok
returns-else-failed-clause-ok g c =
    let same = ap (λ (steps : List Step). proof_text c.args.outs steps ++ []) c.as_slice.ensures in
    let m = writes-as same (writes-then (rw c.new-pending.ensures at c.put_proof.ensures.writes) c.flush.ensures.writes) in
    sent-all _ _ _ _ _ _ m (search rules) (c.flush.ensures.empty (search rules))
