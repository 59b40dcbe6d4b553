use Rattle.std.proofs.Common.{is_some, ap, ◌∙◌}
use Rattle.std.specs.List.{list_any}
use Rattle.sql_model.specs.Columns.{is_called}
use Rattle.scope_core.specs.Ropes.{stands_within}
use Rattle.scope_core.proofs.basics.Occurring.{occurrences-some}
use Rattle.scope_core.proofs.guide.Guide.has.Goals as goal

-- a name stands only where relations declare it, or where it may stand outside of them
pub has_among-requires : goal.has_among-requires
has_among-requires c =
    let name = c.args.name.now in
    (λ i. stands_within (c.declared.ensures i) (c.admits.ensures i) name c.self.inside.columns) ∙ c.self.invariant name

pub returns : goal.returns
returns c = c.has_among.ensures ∙ ap (λ columns. list_any (is_called c.args.name.now) columns) c.self.view_is

pub returns-in-Some : goal.returns-in-Some
returns-in-Some c =
    let name = c.args.name.now in
    c.is_some.ensures
    ∙ (ap (λ found. is_some found) c.in-Some.ensures
    ∙ (occurrences-some name _ ∙ ap (λ columns. list_any (is_called name) columns) c.self.view_is))
