use Rattle.udp_run.specs.Answer.{both_told}
use Rattle.udp_run.proofs.Verdicts.{few_outs, proof-just, size_cause-just}
use Rattle.udp_run.proofs.top.check_texts.Goals as goal

pub check_proof-requires : goal.check_proof-requires
check_proof-requires g c = record {
  outs = few_outs _ c.in-Ok.case c.in-Ok.ensures.read c.outs.result c.outs.ensures.left;
  small = record { few = c.in-Ok-terms.ensures.value.left.within.few; flat = c.in-Ok-terms.ensures.value.left.within.shallow };
}

pub returns-in-Ok-terms : goal.returns-in-Ok-terms
returns-in-Ok-terms g c =
    proof-just _ c.in-Ok.case c.in-Ok.ensures.read c.in-Ok-terms.left c.in-Ok-terms.right c.in-Ok-terms.ensures.value c.outs.result c.outs.ensures.left c.facts.result.now c.facts.ensures _
    (c.in-Ok.ensures.later c.args.proof.now) c.check_proof.result (rw c.in-Ok.ensures.same_texts at c.check_proof.ensures.found)

pub returns : goal.returns
returns g c =
    size_cause-just (both_told (g.S.Store.text c.args.store.now) (g.S.Store.faults c.args.store.now) (g.S.Store.faults c.read_case.new.store) (g.S.Store.left c.read_case.new.store) c.args.case.now c.args.proof.now)
    c.in-Ok.case c.in-Ok.ensures.read c.in-Err-terms.fault c.in-Err-terms.ensures.err
