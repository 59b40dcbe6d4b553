use Rattle.schema_read.proofs.agree.StatementsAgree.{all_given}
use Rattle.schema_read.proofs.agree.WholeStatements.{statements_read, statements_refused}
use Rattle.schema_read.proofs.reading.read_statements.Goals as goal

pub returns-clause-read : goal.returns-clause-read
returns-clause-read c =
    let read = c.statements-read.ensures in let handed = c.stop_on_fault.ensures in
    statements_read handed.same (all_given c.statements-read.result read.extends read.does) handed.within handed.counted _ handed.still

pub returns-clause-refused : goal.returns-clause-refused
returns-clause-refused c =
    let read = c.statements-read.ensures in let handed = c.stop_on_fault.ensures in
    statements_refused handed.same (all_given c.statements-read.result read.extends read.does) handed.within
