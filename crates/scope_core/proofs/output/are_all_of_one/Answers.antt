use Rattle.scope_core.proofs.resolving.Outputs.{all-of-one}
use Rattle.scope_core.proofs.output.are_all_of_one.Goals as goal

pub returns-then-headings-eq1-clause-all : goal.returns-then-headings-eq1-clause-all
returns-then-headings-eq1-clause-all c =
    λ all. all-of-one c.args.items.now c.args.headings.now c.index-items-0.result c.index-headings-0.result c.if-items-ne1.false c.if-headings-eq1.true c.index-items-0.is c.index-headings-0.is
    (c.is_all.ensures all)
