use Rattle.std.proofs.Common.{◌≡◌, ◌+◌, ◌||◌, suc, None, Some, drop, ap, sym, ◌∙◌, arith}
use Rattle.std.specs.Prelude.{nat_lt}
use Rattle.std.specs.List.{flat_map, list_any}
use Rattle.std.proofs.lemmas.List.{take_rest}
use Rattle.sql_model.specs.Columns.{is_called}
use Rattle.scope_core.specs.Faults.{count_called}
use Rattle.scope_core.specs.Names.{occurrences}
use Rattle.scope_core.specs.Scope.{bare_place}
use Rattle.scope_core.proofs.basics.Lists.{at-head}
use Rattle.scope_core.proofs.basics.Occurring.{bare-past, counts-here, counts-past, offered-by}
use Rattle.scope_core.proofs.level.find_bare.Goals as goal

pub returns-else-seen-clause-twice : goal.returns-else-seen-clause-twice
returns-else-seen-clause-twice c =
    let name = c.args.name.now in
    let xs = c.args.headings.now in
    let i = c.loop-index.index in
    let h = c.index-headings-index.result in
    let here : occurrences name h.columns ≡ Some c.in-Some.seen = sym c.find.ensures ∙ c.in-Some.is in
    let later = ap (λ hs. list_any (λ h. list_any (is_called name) h.columns) hs) (take_rest xs (i + 1)) ∙ offered-by name (drop (i + 1) xs) in
    c.is_offered.ensures ∙ (later
    ∙ (sym (counts-here name h (drop (i + 1) xs) c.in-Some.seen here ∙ ap (λ b. b || list_any (is_called name) (flat_map (λ h. h.columns) (drop (i + 1) xs))) c.if-seen.false)
    ∙ ap (λ n. nat_lt 1 n)
    (sym (c.loop-index.invariant.1 ∙ at-head (λ hs. count_called name (flat_map (λ h. h.columns) hs)) xs i h c.loop-index-test.true c.index-headings-index.is))))

pub loop-index-preserved : goal.loop-index-preserved
loop-index-preserved c =
    let name = c.args.name.now in
    let first = c.args.first in
    let xs = c.args.headings.now in
    let i = c.loop-index.index in
    let h = c.index-headings-index.result in
    let rest = drop (i + 1) xs in
    let none : occurrences name h.columns ≡ None = sym c.find.ensures ∙ c.in_default.is in
    let next : suc (first + i) ≡ first + (i + 1) = omega arith in (
      c.loop-index.invariant.0
          ∙ (at-head (λ hs. bare_place name (first + i) hs) xs i h c.loop-index-test.true c.index-headings-index.is
          ∙ (bare-past name h rest (first + i) none ∙ ap (λ entry. bare_place name entry rest) next)),
      c.loop-index.invariant.1
          ∙ (at-head (λ hs. count_called name (flat_map (λ h. h.columns) hs)) xs i h c.loop-index-test.true c.index-headings-index.is
          ∙ counts-past name h rest none),
    )
