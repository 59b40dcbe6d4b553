-- Places among few columns.
use Rattle.std.proofs.Common.{ℕ, ◌<◌, ◌≤◌, List, [], ◌∷◌, length, Some, None, arith, unwrap_or}
use Rattle.std.specs.Prelude.{nat_lt}
use Rattle.std.specs.List.{position_or_len}
use Rattle.std.proofs.lemmas.Bool.{cond_both, ltb-true}
use Rattle.data_model.specs.Lists.{Each}
use Rattle.sql_model.specs.declared.statement.NameAt.{NameAt}
use Rattle.sql_model.specs.Columns.{same_name}
use Rattle.sql_model.specs.Syntax.{Name}
use Rattle.schema_read.specs.Keys.{place_in, places_in}
use Rattle.schema_read.specs.StatementLimits.{most_columns}

place_low : (columns : List Name) (name : Name) → place_in columns name ≤ length columns
place_low columns name =
    let found : ℕ = position_or_len (λ other. same_name other name) columns in
    cond_both (nat_lt found (length columns)) (Some found) None (λ o. unwrap_or o (length columns) ≤ length columns)
    (λ e. let below : found < length columns = ltb-true found (length columns) e in omega (arith, below)) (λ e. omega arith)

pub places_low : (columns : List Name) (names : List NameAt) → length columns ≤ most_columns → Each (λ place. place < 64) (places_in columns names)
places_low columns [] narrow = tt
places_low columns (n ∷ names) narrow =
    let low : place_in columns n.name ≤ length columns = place_low columns n.name in
    (omega (arith, low, narrow), places_low columns names narrow)
