use Rattle.std.proofs.Common.{[], ◌∷◌, ◌++◌, ◌∙◌}
use Rattle.std.proofs.lemmas.Result.{IfOk-weaker}
use Rattle.scope_core.specs.declared.tree.RSource.TheVariants as s
use Rattle.scope_core.specs.Lent.{relations_of}
use Rattle.scope_core.proofs.catalog.Catalog.add_view.Goals as goal

pub returns : goal.returns
returns c =
    IfOk-weaker c.add.result _ _
    (λ _ grown. λ at.
    grown ∙ λ i. relations_of c.args.self.now ++ record { name = c.args.name.now; columns = c.requires.columns i; source = s.View c.args.place } ∷ [])
    c.add.ensures
