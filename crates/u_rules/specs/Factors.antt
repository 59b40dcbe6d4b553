-- Rows and factors as code holds them: contracts of private functions alone cite this.
use Rattle.std.specs.Prelude.{List}
use Rattle.u_terms.specs.Syntax.{U, Val}
use Rattle.u_rules.specs.declared.table_same.Cells.{Cells}
use Rattle.u_rules.specs.declared.table_same.Cells.TheVariants as cells
use Rattle.u_rules.specs.declared.table_same.Factor.{Factor}
use Rattle.u_rules.specs.declared.table_same.Factor.TheVariants as factor
use Rattle.u_rules.specs.Terms.{◌≐◌, R, places, column}

abbrev pub cells_of : Cells → List Val
cells_of (cells.Values values) = values.now
cells_of (cells.Places width) = places width

abbrev pub factor_of : Factor → U
factor_of (factor.Row table row) = R table (cells_of row)
factor_of (factor.Columns one c other d) = column (cells_of one) c ≐ column (cells_of other) d
factor_of (factor.Values a b) = a.now ≐ b.now
