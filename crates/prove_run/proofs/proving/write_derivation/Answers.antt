use Rattle.std.proofs.Common.{rules}
use Rattle.udp_io.specs.Faults.{Rose}
use Rattle.proof_text.specs.Written.{proof_text}
use Rattle.prove_run.proofs.Written.{derivation-proof}
use Rattle.prove_run.proofs.proving.write_derivation.Goals as goal

pub returns-in-Ok : goal.returns-in-Ok
returns-in-Ok g c budget =
    let d = c.args.deriv.now in (
      proof_text d.outs d.steps,
      derivation-proof d c.requires (rw (c.outs.ensures, c.steps.ensures.lent) at c.write_proof.ensures.text),
      rw (c.outs.ensures, c.steps.ensures.lent) at c.in-Ok.ensures.ok,
    )

pub returns-in-Err : goal.returns-in-Err
returns-in-Err g c budget =
    let d = c.args.deriv.now in
    let rose : Rose (g.K.Sink.faults c.args.out.now) (g.K.Sink.faults c.write_proof.new.out) = search rules in (
      proof_text d.outs d.steps,
      derivation-proof d c.requires (rw (c.outs.ensures, c.steps.ensures.lent) at c.write_proof.ensures.text),
      rose,
      rw (c.outs.ensures, c.steps.ensures.lent) at c.in-Err.ensures.fault,
    )
