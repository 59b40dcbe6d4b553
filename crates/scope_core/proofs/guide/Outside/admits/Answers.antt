use Rattle.std.proofs.Common.{ap, is_some, sym, ◌∙◌}
use Rattle.scope_core.specs.Directed.{admits}
use Rattle.scope_core.specs.Names.{occurrences}
use Rattle.scope_core.proofs.basics.Occurring.{occurrences-some}
use Rattle.scope_core.proofs.guide.Outside.admits.Goals as goal

pub returns-in-Among : goal.returns-in-Among
returns-in-Among c =
    let name = c.args.name.now in
    c.is_some.ensures
    ∙ (ap (λ o. is_some o) (c.find.ensures ∙ ap (λ names. occurrences name names) c.get.ensures)
    ∙ (occurrences-some name c.in-Among.names ∙ ap (λ outside. admits outside name) (sym c.in-Among.is)))
