use Rattle.std.proofs.Common.{[], refl}
use Rattle.sql_lex.proofs.WholeTexts.{slices, in_order}
use Rattle.sql_lex.proofs.laws.slices_in_order.Goals as goal

pub returns : goal.returns
returns c = record {
  slices = λ text tokens fault. slices text [] text tokens fault refl;
  in_order = λ text tokens fault. in_order 0 text tokens fault;
}
