-- EXISTS is a squashed sum: whether an answer has a row is whether any row of its width occurs in it.
use Rattle.std.proofs.Common.{◌≡◌, ℕ, suc, ◌+◌, List, [], ◌∷◌, refl, ap, sym, ◌∙◌, arith}
use Rattle.std.specs.Prelude.{not}
use Rattle.data_model.specs.Lists.{Each}
use Rattle.data_model.specs.Numbers.{one_if, squash}
use Rattle.data_model.specs.Rows.{Row, IsRow, occurrences}
use Rattle.data_model.proofs.Sums.{sum_over, sum_rows, sum_rows-same, sum_rows-rows}
use Rattle.sql_model.specs.Answers.{is_empty}

counted : (rows : List Row) → one_if (not (is_empty rows)) ≡ squash (sum_over (λ w. 1) rows)
counted [] = refl
counted (r ∷ rows) = let e : 1 + sum_over (λ w. 1) rows ≡ suc (sum_over (λ w. 1) rows) = omega arith in rw e refl

pub some_row : (n k : ℕ) (rows : List Row) → Each (IsRow n k) rows → one_if (not (is_empty rows)) ≡ squash (sum_rows n k (λ w. occurrences w rows))
some_row n k rows h =
    counted rows ∙ ap squash (sym (sum_rows-rows n k rows (λ w. 1) h) ∙ sum_rows-same n k _ (λ w. occurrences w rows) (λ w i. omega arith))
