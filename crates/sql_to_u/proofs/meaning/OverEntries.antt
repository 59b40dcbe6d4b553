-- What the sum over all values of some names means.
use Rattle.std.proofs.Common.{◌≡◌, ℕ, ◌+◌, List, [], refl, ap, sym, ◌∙◌}
use Rattle.data_model.specs.Reading.{Reading}
use Rattle.data_model.specs.Database.{Database}
use Rattle.data_model.proofs.Sums.{sum_rows, sum_row_lists}
use Rattle.u_terms.specs.Syntax.{U}
use Rattle.u_terms.specs.Places.{IsClosed}
use Rattle.u_terms.specs.Meaning.{meaning}
use Rattle.u_terms.specs.Binding.{sums_over_names}
use Rattle.u_terms.proofs.Binding.{sums_over_names-path}
use Rattle.u_terms.proofs.OverNames.{put_row, put_rows, total_width, sums_over_names-closed, sums_over_names-mean, sums_over_rows-mean}
use Rattle.scope_core.specs.Syntax.{Entries, NoEntries, EntryThen}
use Rattle.scope_core.specs.Sound.{widths}
use Rattle.sql_to_u.specs.Factors.{over_names}
use Rattle.sql_to_u.specs.Scopes.{count_columns}

pub over_names-closed : (d count : ℕ) (a : U) → IsClosed 0 a → IsClosed 0 (over_names d count a)
over_names-closed d count a c = rw (sym (sums_over_names-path a d count)) (sums_over_names-closed d count a c)

columns-total : {m : _} (es : Entries m) → count_columns es ≡ total_width (widths es)
columns-total NoEntries = refl
columns-total (EntryThen source wide rest) = ap (λ n. wide + n) (columns-total rest)

module _ (n : ℕ) (reading : Reading) (db : Database) where
  pub over_names-means : (d count : ℕ) (names : List ℕ) (a : U) → IsClosed 0 a
      → meaning n reading db names [] (over_names d count a) ≡ sum_rows n count (λ w. meaning n reading db (put_row names d w) [] a)
  over_names-means d count names a c = ap (meaning n reading db names []) (sym (sums_over_names-path a d count)) ∙ sums_over_names-mean n reading db d count names a c

  -- over the names of all columns of the entries
  pub over_entries-means : {m : _} (es : Entries m) (d : ℕ) (names : List ℕ) (a : U) → IsClosed 0 a
      → meaning n reading db names [] (over_names d (count_columns es) a) ≡ sum_row_lists n (widths es) (λ c. meaning n reading db (put_rows names d c) [] a)
  over_entries-means es d names a c =
      ap (meaning n reading db names []) (sym (sums_over_names-path a d (count_columns es)) ∙ ap (λ k. sums_over_names d k a) (columns-total es))
      ∙ sums_over_rows-mean n reading db (widths es) d names a c
