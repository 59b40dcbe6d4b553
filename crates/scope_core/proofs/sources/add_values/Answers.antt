use Rattle.std.proofs.Common.{◌++◌, ap, ◌∙◌}
use Rattle.scope_core.specs.Names.{is_one_of, names_of}
use Rattle.scope_core.specs.Ropes.{columns_listed}
use Rattle.scope_core.proofs.basics.Directed.{parts-grow, stays}
use Rattle.scope_core.proofs.sources.add_values.Goals as goal

pub returns-clause-columns : goal.returns-clause-columns
returns-clause-columns c =
    let parts = c.args.parts.now in
    c.in_ok-push.ensures.columns
    ∙ ap (λ cs. columns_listed parts ++ cs) (c.in_ok-columns_of_values.ensures.columns ∙ ap (λ ns. names_of ns) c.as_slice.ensures.value)

pub returns-clause-directed : goal.returns-clause-directed
returns-clause-directed c = λ declared are.
    c.in_ok-push.ensures.directed declared (is_one_of c.columns_of_values.new.outside.items)
    (parts-grow declared declared (is_one_of c.args.outside.now.items) (is_one_of c.columns_of_values.new.outside.items) (stays declared)
    c.in_ok-columns_of_values.ensures.kept c.args.parts.now are)
    (c.in_ok-columns_of_values.ensures.directed declared)
