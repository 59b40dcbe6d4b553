use Rattle.std.proofs.Common.{◌≡◌, ◌+◌, drop, length, ap, sym, ◌∙◌, arith}
use Rattle.std.proofs.lemmas.List.{length-append}
use Rattle.scope_core.specs.RelationSets.{union_of}
use Rattle.scope_core.specs.Ropes.{columns_in, columns_listed, is_sound, shown_in, shown_listed}
use Rattle.scope_core.proofs.basics.Lists.{at-end, at-head}
use Rattle.scope_core.proofs.basics.RelationSets.{union-assoc, union-empty}
use Rattle.scope_core.proofs.basics.Ropes.{columns-at, columns_listed-nil, shown_listed-cons, shown_listed-nil, sound-at}
use Rattle.scope_core.proofs.directed.extent_of.Goals as goal

pub width_in-requires : goal.width_in-requires
width_in-requires c =
    ap is_sound c.get.ensures ∙ sound-at c.args.parts.now c.loop-part.part-index c.part-item.result c.loop-part-test.true c.part-item.is c.requires

pub loop-part-preserved : goal.loop-part-preserved
loop-part-preserved c =
    let parts = c.args.parts.now in
    let i = c.loop-part.part-index in
    let part = c.part-item.result in
    let shown = c.loop-part.shown in
    let rest = drop (i + 1) parts in
    let wide : c.width_in.result ≡ length (columns_in part.rope) = c.width_in.ensures ∙ ap (λ r. length (columns_in r)) c.get.ensures in
    let here : length (columns_listed (drop i parts)) ≡ length (columns_in part.rope) + length (columns_listed rest) =
    ap (λ cs. length cs) (columns-at parts i part c.loop-part-test.true c.part-item.is) ∙ length-append (columns_in part.rope) (columns_listed rest) in (
      omega (arith, c.in-Some.ensures.1, wide, here, c.loop-part.invariant.0),
      ap (λ set. union_of set (shown_listed rest))
          (c.union-shown.ensures.exact ∙ ap (λ set. union_of shown set) (c.shown_in.ensures ∙ ap shown_in c.get-in-loop-part.ensures))
          ∙ (union-assoc shown (shown_in part.rope) (shown_listed rest)
          ∙ (ap (λ set. union_of shown set)
          (sym (at-head shown_listed parts i part c.loop-part-test.true c.part-item.is ∙ shown_listed-cons part rest))
          ∙ c.loop-part.invariant.1)),
    )

pub returns-clause-width : goal.returns-clause-width
returns-clause-width c =
    let parts = c.args.parts.now in
    let i = c.loop-part.part-index in
    let none : length (columns_listed (drop i parts)) ≡ 0 =
    ap (λ cs. length cs) (at-end columns_listed parts i c.loop-part-test.false ∙ columns_listed-nil) in
    omega (arith, none, c.loop-part.invariant.0)

pub returns-clause-shown : goal.returns-clause-shown
returns-clause-shown c =
    let parts = c.args.parts.now in
    let i = c.loop-part.part-index in
    sym (union-empty c.loop-part.shown)
    ∙ (ap (λ set. union_of c.loop-part.shown set) (sym (at-end shown_listed parts i c.loop-part-test.false ∙ shown_listed-nil)) ∙ c.loop-part.invariant.1)
