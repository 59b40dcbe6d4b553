use Rattle.udp_run.specs.declared.answer.Verdict.TheVariants.{Proved}
use Rattle.udp_run.proofs.TopAnswers.{run-done}
use Rattle.udp_run.proofs.Exact.{run-exact, run-limits, run-no_form, run-read_fault, run-usage, run-write_fault}
use Rattle.udp_run.proofs.top.run.Goals as goal

pub returns-clause-done : goal.returns-clause-done
returns-clause-done g c = run-done c.args.words.now _ c.find_verdict-verdict.result _ _ _ _ c.say.result c.find_verdict-verdict.ensures c.say.ensures

pub returns-clause-complete : goal.returns-clause-complete
returns-clause-complete g c = run-exact c.args.words.now _ c.find_verdict-verdict.result c.find_verdict-verdict.ensures _ _ _ _ c.say.result c.say.ensures Proved

pub returns-clause-exact : goal.returns-clause-exact
returns-clause-exact g c = run-exact c.args.words.now _ c.find_verdict-verdict.result c.find_verdict-verdict.ensures _ _ _ _ c.say.result c.say.ensures

pub returns-clause-usage : goal.returns-clause-usage
returns-clause-usage g c = run-usage c.args.words.now _ c.find_verdict-verdict.result c.find_verdict-verdict.ensures _ _ _ _ c.say.result c.say.ensures

pub returns-clause-no_form : goal.returns-clause-no_form
returns-clause-no_form g c = run-no_form c.args.words.now _ c.find_verdict-verdict.result c.find_verdict-verdict.ensures _ _ _ _ c.say.result c.say.ensures

pub returns-clause-read_fault : goal.returns-clause-read_fault
returns-clause-read_fault g c = run-read_fault c.args.words.now _ c.find_verdict-verdict.result c.find_verdict-verdict.ensures _ _ _ _ c.say.result c.say.ensures

pub returns-clause-write_fault : goal.returns-clause-write_fault
returns-clause-write_fault g c = run-write_fault c.args.words.now _ c.find_verdict-verdict.result c.find_verdict-verdict.ensures _ _ _ _ c.say.result c.say.ensures

pub returns-clause-limits : goal.returns-clause-limits
returns-clause-limits g c = run-limits c.args.words.now _ c.find_verdict-verdict.result c.find_verdict-verdict.ensures _ _ _ _ c.say.result c.say.ensures
