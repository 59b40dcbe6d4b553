use Rattle.std.proofs.Common.{sym, ◌∙◌}
use Rattle.schema_read.proofs.laws.one_schema.Goals as goal

pub returns : goal.returns
returns c = record {
  relations = λ statements one other builds also. builds.relations ∙ sym also.relations;
  fkeys = λ statements one other builds also. builds.fkeys ∙ sym also.fkeys;
}
