use Rattle.std.proofs.Common.{◌≡◌, None, sym, subst, ap, ◌∙◌, ◌++◌, ◌∷◌, []}
use Rattle.std.specs.Map.{lookup}
use Rattle.sql_model.specs.Columns.{same_name}
use Rattle.indexmap.proofs.CallerLemmas.{insert_entry-new}
use Rattle.schema_read.specs.Known.{AreSetsOf, Learns}
use Rattle.schema_read.proofs.built.KnownLaws.{known_key, learns_push}
use Rattle.schema_read.proofs.sets.learn.Goals as goal

pub returns-clause-value : goal.returns-clause-value
returns-clause-value c =
    let are : AreSetsOf c.args.table.now.keys c.in_ok-keys.keys.sets.keys = subst (λ ks. AreSetsOf ks c.in_ok-keys.keys.sets.keys) c.as_slice.ensures c.in_ok-keys.ensures in
    c.has_set-found.ensures ∙ known_key c.args.table.now.keys c.in_ok-keys.keys.sets.keys c.args.columns.now are

pub returns-clause-known : goal.returns-clause-known
returns-clause-known c =
    let known = c.args.known.now in
    let keys = c.in_ok-keys.keys in
    let name = c.in_ok-copy.field-0 in
    let are : AreSetsOf c.args.table.now.keys keys.sets.keys = subst (λ ks. AreSetsOf ks keys.sets.keys) c.as_slice.ensures c.in_ok-keys.ensures in
    let new : lookup (same_name name) known.entries ≡ None = subst (λ k. lookup (same_name k) known.entries ≡ None) (sym c.in_ok-copy.ensures) c.requires.new in
    let pushed = c.in_ok-insert.ensures.entries ∙ insert_entry-new same_name known name keys new in
    subst (λ es. Learns known.entries es c.args.to.now c.args.table.now) (sym (pushed ∙ ap (λ n. known.entries ++ (n, keys) ∷ []) c.in_ok-copy.ensures))
    (learns_push known.entries c.args.to.now keys c.args.table.now are)
