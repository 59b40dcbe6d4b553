use Rattle.schema_read.proofs.agree.StatementsAgree.{all_given}
use Rattle.schema_read.proofs.agree.WholeStatements.{few_if_read, small_if_read}
use Rattle.schema_read.proofs.reading.read_inner_statements.Goals as goal

pub returns : goal.returns
returns c = let t = all_given c.statements.result c.statements.ensures.extends c.statements.ensures.does in record {
  reads = t.agrees.reads;
  columns = t.agrees.columns;
  relations = t.relations;
  copied = t.agrees.copied;
  few = few_if_read c.statements.result t;
  small = small_if_read c.statements.result t;
  extends = c.statements.ensures.extends;
}
