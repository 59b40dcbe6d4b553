use Rattle.std.proofs.Common.{[], refl, subst}
use Rattle.std.proofs.lemmas.Result.{err_from_is_err_and}
use Rattle.u_terms.specs.Syntax.{U}
use Rattle.proof_check.specs.declared.answers.ProofFault.TheVariants as fault
use Rattle.proof_check.specs.declared.answers.Stop.TheVariants.{Fault}
use Rattle.proof_check.specs.Check.{Check, Reads}
use Rattle.proof_check.specs.Checking.{stopped, Stands, none, no_memory}
use Rattle.proof_check.proofs.state.KeptLines.{lines_of_text}
use Rattle.proof_check.proofs.whole.check_proof.Goals as goal

pub returns-in_err-checker : goal.returns-in_err-checker
returns-in_err-checker c =
    let p = err_from_is_err_and c.from_residual.result c.from_residual.ensures.1 in
    let all = lines_of_text c.args.bytes.now in
    rw (p.1, p.2) (record { lines = all.0; are_lines = all.1; state = stopped (Fault fault.NoMemory); stands = no_memory; finishes = refl })

pub returns : goal.returns
returns c =
    let after = c.feed_all.new.checker.state in
    let read = subst (λ (v : Check). (left : U) → Stands v.facts v.outs left [] v.state → Reads v.facts v.outs left c.args.bytes.now after) c.in_ok-checker.ensures c.feed_all.ensures.read in
    let r = read c.args.left.now none in
    record { lines = r.lines; are_lines = r.are_lines; state = after; stands = r.stands; finishes = c.finish.ensures }
