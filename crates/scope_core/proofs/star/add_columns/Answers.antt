use Rattle.std.proofs.Common.{◌≡◌, ◌++◌, ◌+◌, length, ap, sym, ◌∙◌, arith, append_assoc}
use Rattle.scope_core.specs.Resolving.{entry_columns}
use Rattle.scope_core.specs.Runs.{columns_from}
use Rattle.scope_core.proofs.basics.Written.{columns_from-more, entry_columns-are}
use Rattle.scope_core.proofs.star.add_columns.Goals as goal

pub loop-first-preserved : goal.loop-first-preserved
loop-first-preserved c =
    let entry = c.in_ok-entry.entry in
    let first = c.loop-first.first in
    let count = c.piece-count.result in
    let before = c.args.items.now in
    let more : columns_from entry 0 (first + count) ≡ columns_from entry 0 first ++ columns_from entry first count =
    let e : 0 + first ≡ first = omega arith in
    columns_from-more entry 0 first count ∙ ap (λ n. columns_from entry 0 first ++ columns_from entry n count) e in (
      c.in_ok-append_shared.ensures
          ∙ (ap (λ xs. c.loop-first.items ++ xs) c.in_ok-columns.ensures
          ∙ (ap (λ xs. xs ++ columns_from entry first count) c.loop-first.invariant.0
          ∙ (append_assoc before (columns_from entry 0 first) (columns_from entry first count)
          ∙ ap (λ xs. before ++ xs) (sym more)))),
      grind (arith, c.piece-count.ensures.within, c.loop-first-test.true),
    )

pub returns-clause-value : goal.returns-clause-value
returns-clause-value c =
    let before = c.args.items.now in
    let columns = c.args.heading.now.columns in
    let whole : c.loop-first.first ≡ length columns =
    grind (arith, c.loop-first.invariant.1, c.loop-first-test.false, c.in_ok-end.ensures.fits, c.len.ensures) in
    c.loop-first.invariant.0
    ∙ ap (λ xs. before ++ xs) (ap (λ n. columns_from c.in_ok-entry.entry 0 n) whole ∙ (entry_columns-are c.in_ok-entry.entry 0 columns ∙ ap (λ n. entry_columns n 0 columns) c.in_ok-entry.ensures.fits))
