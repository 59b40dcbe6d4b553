use Rattle.sql_grammar.specs.Queries.{most_levels}
use Rattle.sql_read.proofs.agree.AgreeAll.{copied_of, query_agrees, read_of}
use Rattle.sql_read.proofs.whole.WholeQueries.{query_read, query_refused}
use Rattle.sql_read.proofs.reading.read_query.Goals as goal

pub returns-clause-read : goal.returns-clause-read
returns-clause-read c =
    let read = c.query-read.ensures in
    let handed = c.stop_on_fault.ensures in
    query_read handed.same (read_of (query_agrees most_levels c.args.tokens.now) c.query-read.result c.query-read.new.tokens read.does) read.extends handed.within _ handed.still

pub returns-clause-refused : goal.returns-clause-refused
returns-clause-refused c =
    let read = c.query-read.ensures in
    let handed = c.stop_on_fault.ensures in
    let agrees = query_agrees most_levels c.args.tokens.now in
    query_refused handed.same (read_of agrees c.query-read.result c.query-read.new.tokens read.does) read.extends handed.within (copied_of agrees c.query-read.result c.query-read.new.tokens read.does)
