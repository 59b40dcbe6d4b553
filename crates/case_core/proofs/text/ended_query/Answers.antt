use Rattle.std.proofs.Common.{refl}
use Rattle.sql_grammar.specs.Queries.{most_levels}
use Rattle.sql_cursor.proofs.code.Extending.{◌⨟◌, extends_misses, extends_passes}
use Rattle.sql_read.proofs.steps.ReadSteps.{before, blocks, exits, first_part, gives, mapped, missed, refuses, second, took_token, whole}
use Rattle.schema_read.proofs.counts.CopiedParts.{copied_exit, copied_to, missed_other, query_copied, told_if}
use Rattle.case_core.proofs.CaseCopies.{at_semicolon, to_query}
use Rattle.case_core.proofs.text.ended_query.Goals as goal

pub returns-in_err-query-clause-reads : goal.returns-in_err-query-clause-reads
returns-in_err-query-clause-reads c = exits c.from_residual.ensures.1 (refuses (first_part (mapped whole) refl) c.in_err-query.ensures.reads.answers)

pub returns-in_err-expect-clause-reads : goal.returns-in_err-expect-clause-reads
returns-in_err-expect-clause-reads c =
    exits c.from_residual-in_err-expect.ensures.1 (refuses (blocks (second (mapped whole) refl c.in_ok-query.ensures.reads.answers.takes)) (missed c.in_err-expect.ensures.eats))

pub returns-in_err-expect-clause-extends : goal.returns-in_err-expect-clause-extends
returns-in_err-expect-clause-extends c = c.in_ok-query.ensures.extends ⨟ extends_misses c.in_err-expect.ensures.eats

pub returns-clause-reads : goal.returns-clause-reads
returns-clause-reads c =
    let query = c.in_ok-query.ensures.reads.answers in let end = c.in_ok-expect.ensures.eats in
    record { answers = gives (second (mapped whole) refl query.takes) _ (took_token most_levels end) (before query.builds end) }

pub returns-clause-extends : goal.returns-clause-extends
returns-clause-extends c = c.in_ok-query.ensures.extends ⨟ extends_passes c.in_ok-expect.ensures.eats

-- ---- what was copied

pub returns-in_err-query-clause-copied : goal.returns-in_err-query-clause-copied
returns-in_err-query-clause-copied c = copied_exit c.from_residual.ensures.1 (copied_to _ (to_query c.args.tokens.now) (λ v. refl) (query_copied _ c.in_err-query.ensures.copied.answers))

pub returns-in_err-expect-clause-copied : goal.returns-in_err-expect-clause-copied
returns-in_err-expect-clause-copied c =
    copied_exit c.from_residual-in_err-expect.ensures.1
    (told_if _ (missed_other c.in_err-expect.ensures.eats) (λ p. at_semicolon c.in_ok-query.ensures.reads.answers c.in_err-expect.ensures.eats.stays.still))
