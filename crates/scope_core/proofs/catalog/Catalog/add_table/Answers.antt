use Rattle.std.proofs.Common.{[], ◌∷◌, ◌++◌, ◌∙◌}
use Rattle.std.proofs.lemmas.Result.{IfOk-weaker}
use Rattle.scope_core.specs.declared.tree.RSource.TheVariants as s
use Rattle.scope_core.specs.Catalogs.{declared_by}
use Rattle.scope_core.specs.Lent.{relations_of}
use Rattle.scope_core.proofs.catalog.Catalog.add_table.Goals as goal

pub add-requires : goal.add-requires
add-requires c = c.in_ok-of_table.ensures.directed (declared_by c.args.self.now)

pub returns : goal.returns
returns c =
    IfOk-weaker c.add.result _ _
    (λ _ grown. λ views.
    grown ∙ λ i. relations_of c.args.self.now ++ record { name = c.args.name.now; columns = c.in_ok-of_table.ensures.columns i; source = s.Table c.args.table.now.number } ∷ [])
    c.add.ensures
