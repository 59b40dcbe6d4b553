-- The query `SELECT * FROM name`, under any alias and at any places, as code builds it.
use Rattle.std.specs.Prelude.{ℕ, false, [], ◌∷◌, None}
use Rattle.sql_model.specs.declared.tree.Source.TheVariants as source
use Rattle.sql_model.specs.declared.tree.Query.TheVariants as query
use Rattle.sql_model.specs.declared.tree.Block.{roll-Block}
use Rattle.sql_model.specs.declared.tree.Entry.{Entry, roll-Entry}
use Rattle.sql_model.specs.Syntax.{Name, Query, Star}

abbrev pub entry_of : Name → Name → ℕ → ℕ → Entry
entry_of name alias name_at at =
    roll-Entry (record { source = source.Named name name_at; alias = alias; at = at; joined = false; on = None })

abbrev pub select_star : Name → Name → ℕ → ℕ → ℕ → Query
select_star name alias star_at name_at at = query.Block (roll-Block (record {
  distinct = false;
  items = Star star_at ∷ [];
  entries = entry_of name alias name_at at ∷ [];
  cond = None;
  groups = None;
  having = None;
}))
