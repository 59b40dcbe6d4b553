-- The columns of a key that are not shown yet, added one by one.
use Rattle.std.proofs.Common.{◌≡◌, ℕ, Bool, true, false, List, [], ◌∷◌, ◌++◌, map, slice_get, Option, Some, None, refl, sym, ◌∙◌, append_assoc}
use Rattle.std.proofs.lemmas.List.{append-nil}
use Rattle.sql_model.specs.declared.tree.Item.{Item}
use Rattle.sql_model.specs.declared.statement.NameAt.{NameAt}
use Rattle.sql_model.specs.declared.schema.Table.{Table}
use Rattle.sql_model.specs.Syntax.{Name}
use Rattle.schema_read.specs.Keys.{is_named}
use Rattle.schema_read.specs.Indexes.{bare_column, column_item, added_columns}
use Rattle.schema_read.specs.Building.{items_with_key}

module _ (shown : List NameAt) (at : ℕ) (table : Table) where
  abbrev Added : List Item → List ℕ → Type 0
  Added items key = items_with_key shown at table items key ≡ items ++ map column_item (added_columns shown at table key)

  pub items_with_key-added : (items : List Item) (key : List ℕ) → Added items key
  items_with_key-added items [] = sym (append-nil items)
  items_with_key-added items (place ∷ key) = by (slice_get table.columns place) refl (λ others. items_with_key-added others key)
    where
      by : (o : Option Name) → slice_get table.columns place ≡ o → ((others : List Item) → Added others key) → Added items (place ∷ key)
      by None e rest = rw e (rest items)
      by (Some name) e rest = named (is_named name shown) refl
        where
          named : (b : Bool) → is_named name shown ≡ b → Added items (place ∷ key)
          named true h = rw (e, h) (rest items)
          named false h = rw (e, h) (rest (items ++ bare_column name at ∷ []) ∙ append_assoc items (bare_column name at ∷ []) _)
