use Rattle.udp_start.specs.Proving.{not_sought, told_of}
use Rattle.udp_start.proofs.Searched.{case_cause-no_terms}
use Rattle.udp_start.proofs.proving.prove_case.Goals as goal

pub returns-in-Ok : goal.returns-in-Ok
returns-in-Ok g c =
    c.search_case.ensures (told_of (g.S.Store.text c.args.store.now) (g.S.Store.faults c.args.store.now) (g.S.Store.faults c.read_case.new.store) c.args.name.now) c.in-Ok.ensures.read

pub returns-in-Err : goal.returns-in-Err
returns-in-Err g c =
    let told = told_of (g.S.Store.text c.args.store.now) (g.S.Store.faults c.args.store.now) (g.S.Store.faults c.read_case.new.store) c.args.name.now in
    not_sought c.in-Err.verdict (case_cause-no_terms told c.in-Err.verdict c.in-Err.ensures.fault) c.say.ensures
