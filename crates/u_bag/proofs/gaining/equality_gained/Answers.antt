use Rattle.std.proofs.Common.{Some, ap, sym, ◌∙◌}
use Rattle.u_entail.proofs.products.Parts.{left-known}
use Rattle.u_rules.specs.Terms.{terms}
use Rattle.u_bag.proofs.products.Marked.{not-appended}
use Rattle.u_bag.proofs.costs.GainedCosts.{equality-costs}
use Rattle.u_bag.proofs.gaining.equality_gained.Goals as goal

pub append-requires-clause-a : goal.append-requires-clause-a
append-requires-clause-a c = left-known c.args.moves.outs c.args.a.now c.args.b.now c.requires.wanted

pub returns-in-None-clause-leads : goal.returns-in-None-clause-leads
returns-in-None-clause-leads c =
    not-appended c.args.moves.facts.now c.args.moves.outs c.args.classes.now (terms c.args.factors.now) c.args.a.now c.args.b.now c.in_ok-deriv.field-0 (c.in_ok-deriv.ensures {u = tt}) c.in-None.is

pub returns-in_ok-new-in-Some-clause-costs : goal.returns-in_ok-new-in-Some-clause-costs
returns-in_ok-new-in-Some-clause-costs c basic =
    equality-costs c.args.moves.facts.now c.args.moves.outs c.args.classes.now (terms c.args.factors.now) c.args.a.now c.args.b.now c.in_ok-deriv.field-0 c.in_ok-new-in-Some.field-0
    c.requires.begins (c.in_ok-deriv.ensures {u = tt}) (c.in-Some.is ∙ ap Some (sym (c.in_ok-new-in-Some.ensures {u = tt}))) basic
