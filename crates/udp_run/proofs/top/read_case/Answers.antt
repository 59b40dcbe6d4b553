use Rattle.std.proofs.Common.{arith}
use Rattle.udp_run.specs.Answer.{IsRefusedFor}
use Rattle.udp_run.proofs.Verdicts.{told, first_told}
use Rattle.udp_run.proofs.top.read_case.Goals as goal

pub returns-in-Ok-read_case-clause-read : goal.returns-in-Ok-read_case-clause-read
returns-in-Ok-read_case-clause-read g c = record {
  text = c.in-Ok.text.items;
  told = first_told _ c.in-Ok.text.items _ c.in-Ok.ensures.whole;
  within = omega (arith, c.in-Ok.ensures.within, c.in-Ok.text.ok.0);
  is_case = rw c.as_slice.ensures.value at c.in-Ok-read_case.ensures.read;
}

pub returns-clause-fault : goal.returns-clause-fault
returns-clause-fault g c =
    told _ c.in-Ok.text.items (IsRefusedFor c.in-Err.fault) (first_told _ c.in-Ok.text.items _ c.in-Ok.ensures.whole)
    (omega (arith, c.in-Ok.ensures.within, c.in-Ok.text.ok.0), rw c.as_slice.ensures.value at c.in-Err.ensures.refused)
