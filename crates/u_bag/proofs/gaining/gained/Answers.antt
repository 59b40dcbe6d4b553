use Rattle.std.proofs.Common.{List, ◌++◌, Option, Some, ap, subst, ◌∙◌}
use Rattle.std.proofs.lemmas.List.{append-nil}
use Rattle.u_bag.specs.declared.gaining.Row.{Row}
use Rattle.u_terms.specs.Syntax.{U}
use Rattle.u_rules.specs.Terms.{mul_leaves, terms}
use Rattle.u_bag.specs.Rows.{GoesOn, IsRowWith}
use Rattle.u_bag.proofs.products.Gained.{gains-on}
use Rattle.u_bag.proofs.costs.GainedCosts.{KeepsRowCosts, row-gains-costs}
use Rattle.u_bag.proofs.gaining.gained.Goals as goal

pub returns-in-Some-clause-leads : goal.returns-in-Some-clause-leads
returns-in-Some-clause-leads c =
    let F = c.args.moves.facts.now in
    let names = c.args.moves.outs in
    let first = c.in_ok-row.row in
    let made : GoesOn F names c.in_ok-classes.classes (terms first.factors.items) (terms c.args.wanted.now) c.in-Some.row =
    subst (λ (o : Option Row). IsRowWith F names c.in_ok-classes.classes (terms first.factors.items) (terms c.args.wanted.now) o) c.in-Some.is c.in_ok-row-2.ensures.leads in
    gains-on F names c.args.u.now (terms c.args.wanted.now) first c.in_ok-row.ensures.leads
    c.in-Some.row (subst (λ (u : U). GoesOn F names u (terms first.factors.items) (terms c.args.wanted.now) c.in-Some.row) (c.in_ok-classes.ensures {u = tt}) made) c.requires.leaves

pub returns-in-Some-clause-costs : goal.returns-in-Some-clause-costs
returns-in-Some-clause-costs c =
    let F = c.args.moves.facts.now in
    let names = c.args.moves.outs in
    let first = c.in_ok-row.row in
    let wanted = terms c.args.wanted.now in
    let made : GoesOn F names c.in_ok-classes.classes (terms first.factors.items) (terms c.args.wanted.now) c.in-Some.row =
    subst (λ (o : Option Row). IsRowWith F names c.in_ok-classes.classes (terms first.factors.items) (terms c.args.wanted.now) o) c.in-Some.is c.in_ok-row-2.ensures.leads in
    row-gains-costs c.args.u.now first c.in-Some.row wanted c.in_ok-row.ensures.costs
    (made.are ∙ ap (λ (us : List U). us ++ terms c.args.wanted.now) (c.in_ok-row.ensures.leads.are ∙ append-nil (mul_leaves c.args.u.now)))
    (subst (λ (u : U). KeepsRowCosts u first wanted (Some c.in-Some.row)) (c.in_ok-classes.ensures {u = tt}) (subst (KeepsRowCosts c.in_ok-classes.classes first wanted) c.in-Some.is c.in_ok-row-2.ensures.costs))
