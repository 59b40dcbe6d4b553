use Rattle.case_core.proofs.CaseCopies.{statements_copied}
use Rattle.case_core.proofs.CaseCounts.{statements_counted, statements_read}
use Rattle.case_core.proofs.CaseSteps.{all_read, first_refused, no_end, no_query, no_second, second_refused, statements_refused}
use Rattle.case_core.proofs.Texts.{refused_as, refused_exit}
use Rattle.case_core.proofs.text.case_text.Goals as goal

pub returns-in_err-statements-clause-refused : goal.returns-in_err-statements-clause-refused
returns-in_err-statements-clause-refused c =
    let s = c.in_err-statements.ensures in
    refused_exit c.from_residual.result c.from_residual.ensures.1 (statements_refused s.reads.answers (statements_counted s.columns.answers s.relations.answers) (statements_copied _ s.copied.answers) s.extends)

pub returns-in_err-expect_more-clause-refused : goal.returns-in_err-expect_more-clause-refused
returns-in_err-expect_more-clause-refused c =
    let s = c.in_ok-statements.ensures in let r = statements_read s.reads.answers s.columns.answers s.relations.answers in
    let ended = c.in_err-expect_more.ensures.ended in
    refused_exit c.from_residual-in_err-expect_more.result (c.from_residual-in_err-expect_more.ensures.1)
    (refused_as ended.1 (no_query r s.extends ended.0 c.requires))

pub returns-in_err-left-clause-refused : goal.returns-in_err-left-clause-refused
returns-in_err-left-clause-refused c =
    let s = c.in_ok-statements.ensures in let r = statements_read s.reads.answers s.columns.answers s.relations.answers in
    refused_exit c.from_residual-in_err-left.result c.from_residual-in_err-left.ensures.1
    (first_refused r s.extends c.in_ok-expect_more.ensures.more c.in_err-left.ensures.reads.answers c.in_err-left.ensures.copied.answers c.in_err-left.ensures.extends)

pub returns-in_err-expect_more-2-clause-refused : goal.returns-in_err-expect_more-2-clause-refused
returns-in_err-expect_more-2-clause-refused c =
    let s = c.in_ok-statements.ensures in let r = statements_read s.reads.answers s.columns.answers s.relations.answers in let p = c.in_ok-left.ensures in
    let ended = c.in_err-expect_more-2.ensures.ended in
    refused_exit c.from_residual-in_err-expect_more-2.result c.from_residual-in_err-expect_more-2.ensures.1
    (refused_as ended.1 (no_second r p.reads.answers s.extends p.extends ended.0 c.requires))

pub returns-in_err-right-clause-refused : goal.returns-in_err-right-clause-refused
returns-in_err-right-clause-refused c =
    let s = c.in_ok-statements.ensures in let r = statements_read s.reads.answers s.columns.answers s.relations.answers in let p = c.in_ok-left.ensures in
    refused_exit c.from_residual-in_err-right.result c.from_residual-in_err-right.ensures.1
    (second_refused r p.reads.answers s.extends p.extends c.in_ok-expect_more.ensures.more c.in_ok-expect_more-2.ensures.more c.in_err-right.ensures.reads.answers
    c.in_err-right.ensures.copied.answers c.in_err-right.ensures.extends)

pub returns-in_err-expect_end-clause-refused : goal.returns-in_err-expect_end-clause-refused
returns-in_err-expect_end-clause-refused c =
    let s = c.in_ok-statements.ensures in let r = statements_read s.reads.answers s.columns.answers s.relations.answers in let p = c.in_ok-left.ensures in let q = c.in_ok-right.ensures in
    refused_exit c.from_residual-in_err-expect_end.result c.from_residual-in_err-expect_end.ensures.1
    (no_end r p.reads.answers q.reads.answers s.extends p.extends q.extends c.in_ok-expect_more.ensures.more c.in_ok-expect_more-2.ensures.more _
    c.in_err-expect_end.ensures.refused)

pub returns-clause-taken : goal.returns-clause-taken
returns-clause-taken c =
    let s = c.in_ok-statements.ensures in let r = statements_read s.reads.answers s.columns.answers s.relations.answers in let p = c.in_ok-left.ensures in let q = c.in_ok-right.ensures in
    all_read r p.reads.answers q.reads.answers s.extends p.extends q.extends c.in_ok-expect_end.ensures.ends
