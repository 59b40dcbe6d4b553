use Rattle.std.proofs.Common.{◌++◌, [], map, sym, ap, ◌∙◌, unwrap_or}
use Rattle.std.proofs.lemmas.List.{map-append, append-nil}
use Rattle.schema_read.specs.Indexes.{column_item, added_columns}
use Rattle.schema_read.proofs.built.IndexLaws.{items_with_key-added}
use Rattle.schema_read.proofs.indexes.shown_items.Goals as goal

pub returns-in_ok-add_key_items-in-Some : goal.returns-in_ok-add_key_items-in-Some
returns-in_ok-add_key_items-in-Some c =
    let columns = c.args.columns.now in
    let key = c.in-Some.key.now in
    c.in_ok-add_key_items-in-Some.ensures
    ∙ (rw c.in_ok-items.ensures (items_with_key-added columns c.args.at c.args.table.now (map column_item columns) key))
    ∙ sym (map-append column_item columns (added_columns columns c.args.at c.args.table.now key))
    ∙ ap (λ o. map column_item (columns ++ added_columns columns c.args.at c.args.table.now (unwrap_or o []))) c.in-Some.ensures

pub returns-in-None : goal.returns-in-None
returns-in-None c = rw (c.in_ok-items.ensures, sym c.in-None.ensures) (ap (map column_item) (sym (append-nil c.args.columns.now)))
