use Rattle.u_deriv.proofs.steps.Spent.{sizes-seen, names-seen}
use Rattle.u_deriv.proofs.spending.measure_terms.Goals as goal

pub returns-in-Some-clause-sizes : goal.returns-in-Some-clause-sizes
returns-in-Some-clause-sizes c =
    sizes-seen c.args.args.now c.in-Some.left.now c.in-Some.right.now c.outline_term.result c.outline_term-in-Some.result c.in-Some.ensures
    c.outline_term.ensures c.outline_term-in-Some.ensures c.of_terms.result.sizes c.of_terms.ensures.sizes

pub returns-in-Some-clause-names : goal.returns-in-Some-clause-names
returns-in-Some-clause-names c =
    names-seen c.args.args.now c.in-Some.left.now c.in-Some.right.now c.outline_term.result c.outline_term-in-Some.result c.in-Some.ensures
    c.outline_term.ensures c.outline_term-in-Some.ensures c.of_terms.result.names c.of_terms.ensures.names
