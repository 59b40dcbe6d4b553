use Rattle.std.proofs.Common.{◌≡◌, None, refl, sym, subst, ◌∙◌}
use Rattle.std.specs.Map.{lookup}
use Rattle.sql_model.specs.Columns.{same_name}
use Rattle.indexmap.proofs.CallerLemmas.{insert_entry-new}
use Rattle.schema_read.proofs.relations.declare.Goals as goal

pub returns : goal.returns
returns c =
    let relations = c.args.relations.now in
    let new : lookup (same_name c.in_ok-copy.field-0) relations.entries ≡ None =
    subst (λ k. lookup (same_name k) relations.entries ≡ None) (sym c.in_ok-copy.ensures) c.requires in
    c.in_ok-insert.ensures.entries ∙ insert_entry-new same_name relations c.in_ok-copy.field-0 c.args.relation new ∙ (rw c.in_ok-copy.ensures refl)
