use Rattle.std.proofs.Common.{◌++◌, ◌+◌, drop, ap, ◌∙◌}
use Rattle.sql_to_u.specs.TermLists.{firsts_listed}
use Rattle.sql_to_u.proofs.terms.FactorLaws.{firsts-step, firsts-end}
use Rattle.sql_to_u.proofs.naming.firsts.Goals as goal

pub loop-entry-preserved : goal.loop-entry-preserved
loop-entry-preserved c =
    let es = c.args.entries.now in
    let i = c.loop-entry.entry-index in
    ap (λ n. c.push.new.self.items ++ firsts_listed (drop (i + 1) es) n) c.in_ok-name.ensures
    ∙ firsts-step es i c.entry-item.result c.loop-entry.name c.loop-entry.names.items _ _ c.loop-entry-test.true c.entry-item.is c.in_ok-push.ensures.items c.loop-entry.invariant

pub returns : goal.returns
returns c = firsts-end c.args.entries.now c.loop-entry.entry-index c.loop-entry.name _ _ c.loop-entry-test.false c.loop-entry.invariant
