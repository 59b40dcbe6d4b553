use Rattle.std.proofs.Common.{◌≡◌, ◌++◌, ◌+◌, drop, suc, ap, sym, ◌∙◌, arith, append_assoc}
use Rattle.scope_core.specs.Resolving.{entry_columns, star}
use Rattle.scope_core.specs.Runs.{columns_from}
use Rattle.scope_core.proofs.basics.Lists.{at-head}
use Rattle.scope_core.proofs.basics.Written.{entry_columns-are}
use Rattle.scope_core.proofs.star.written_columns.Goals as goal

pub loop-entry-preserved : goal.loop-entry-preserved
loop-entry-preserved c =
    let xs = c.args.headings.now in
    let i = c.loop-entry.entry in
    let h = c.index-headings-entry.result in
    let before = c.loop-entry.columns.items in
    let own = entry_columns i 0 h.columns in
    let rest = star (i + 1) (drop (i + 1) xs) in
    let next : suc i ≡ i + 1 = omega arith in
    let here : star i (drop i xs) ≡ own ++ rest =
    at-head (star i) xs i h c.loop-entry-test.true c.index-headings-entry.is ∙ ap (λ n. own ++ star n (drop (i + 1) xs)) next in
    let wrote : c.write_columns.new.columns.items ≡ before ++ own =
    c.in_ok-write_columns.ensures
    ∙ ap (λ columns. before ++ columns) ((λ j. columns_from (c.in_ok-number.ensures.fits j) 0 ((c.in_ok-number-2.ensures.fits ∙ c.len.ensures) j)) ∙ entry_columns-are i 0 h.columns) in
    ap (λ columns. columns ++ rest) wrote
    ∙ (append_assoc before own rest ∙ (ap (λ columns. before ++ columns) (sym here) ∙ c.loop-entry.invariant))
