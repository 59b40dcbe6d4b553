use Rattle.std.proofs.Common.{None}
use Rattle.udp_start.specs.Proving.{not_sought}
use Rattle.udp_run.specs.declared.answer.Verdict.TheVariants.{TermRefused}
use Rattle.udp_run.proofs.Verdicts.{size_cause-just}
use Rattle.udp_start.proofs.Searched.{beside, searched-proving, term-known}
use Rattle.udp_start.proofs.proving.search_case.Goals as goal

pub search-requires : goal.search-requires
search-requires g c = record {
  left = term-known c.args.case.now c.args.case.now.left c.in-Ok.left c.outs.result c.outs.ensures.left c.in-Ok.ensures.value.left;
  right = term-known c.args.case.now c.args.case.now.right c.in-Ok.right c.outs.result c.outs.ensures.right c.in-Ok.ensures.value.right;
}

pub returns-in-Ok : goal.returns-in-Ok
returns-in-Ok g c told read =
    searched-proving told c.args.case.now read c.in-Ok.left c.in-Ok.right c.in-Ok.ensures.value c.outs.result c.outs.ensures.left c.facts.result.now c.facts.ensures _ _ _ _ _ c.search.result
    c.search.ensures

pub returns-in-Err : goal.returns-in-Err
returns-in-Err g c told read =
    not_sought (TermRefused c.in-Err.fault) (size_cause-just (beside told None) c.args.case.now read c.in-Err.fault c.in-Err.ensures.err) c.say.ensures
