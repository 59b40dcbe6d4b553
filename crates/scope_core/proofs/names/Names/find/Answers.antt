use Rattle.std.proofs.Common.{ap, ◌∙◌}
use Rattle.scope_core.specs.Names.{occurrences}
use Rattle.scope_core.proofs.names.Names.find.Goals as goal

pub returns : goal.returns
returns c =
    let name = c.args.name.now in
    c.copied.ensures ∙ (c.get.ensures.value ∙ (c.self.invariant.0 name ∙ ap (λ columns. occurrences name columns) c.self.view_is))
