use Rattle.sql_read.proofs.agree.AgreeAll.{copied_of, query_agrees, read_of}
use Rattle.sql_read.proofs.reading.read_inner_query.Goals as goal

pub returns-clause-reads : goal.returns-clause-reads
returns-clause-reads c = read_of (query_agrees c.args.levels c.args.tokens.now) c.query.result c.query.new.tokens c.query.ensures.does

pub returns-clause-copied : goal.returns-clause-copied
returns-clause-copied c = copied_of (query_agrees c.args.levels c.args.tokens.now) c.query.result c.query.new.tokens c.query.ensures.does
