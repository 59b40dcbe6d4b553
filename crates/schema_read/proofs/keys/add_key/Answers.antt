use Rattle.std.proofs.Common.{sym, ap, ◌∙◌, ◌++◌, ◌∷◌, [], map}
use Rattle.schema_read.specs.Sets.{column_set}
use Rattle.schema_read.proofs.built.SetLaws.{told, key_added, key_kept, numbers-after}
use Rattle.schema_read.proofs.keys.add_key.Goals as goal

pub returns-in_ok-push-clause-added : goal.returns-in_ok-push-clause-added
returns-in_ok-push-clause-added c =
    let keys = c.args.keys.now in
    let key = c.args.key in
    let number = c.column_set.ensures ∙ ap column_set c.as_slice.ensures in
    let new = told c.args.sets.now.keys keys key c.column_set.result c.in_ok-insert.field-0 c.requires.sets number c.in_ok-insert.ensures.added ∙ c.if-branch.true in
    c.in_ok-push.ensures.ok ∙ ap (λ k. keys ++ k ∷ []) c.in_ok-standing_for.ensures ∙ sym (key_added c.args.primary.now keys key new)

pub returns-in_ok-push-clause-sets : goal.returns-in_ok-push-clause-sets
returns-in_ok-push-clause-sets c =
    let number = c.column_set.ensures ∙ ap column_set c.as_slice.ensures in
    numbers-after c.args.primary.now c.args.keys.now c.args.key c.args.sets.now.keys c.insert.new.self.keys c.column_set.result c.requires.sets number c.in_ok-insert.ensures.keys
    ∙ ap (map column_set) (sym (returns-in_ok-push-clause-added c))

pub returns-else-branch-clause-added : goal.returns-else-branch-clause-added
returns-else-branch-clause-added c =
    let keys = c.args.keys.now in
    let key = c.args.key in
    let number = c.column_set.ensures ∙ ap column_set c.as_slice.ensures in
    let old = told c.args.sets.now.keys keys key c.column_set.result c.in_ok-insert.field-0 c.requires.sets number c.in_ok-insert.ensures.added ∙ c.if-branch.false in
    sym (key_kept c.args.primary.now keys key old)
