use Rattle.std.proofs.Common.{◌++◌, ◌∷◌, [], ap, sym, ◌∙◌}
use Rattle.scope_core.specs.Lent.{levels_of}
use Rattle.scope_core.specs.Answer.{IsCause}
use Rattle.scope_core.specs.Parts.{columns_fault, places_listed}
use Rattle.scope_core.specs.Scope.{rows_level, group_place}
use Rattle.scope_core.proofs.basics.Lists.{walk-step, walk-end}
use Rattle.scope_core.proofs.resolving.Walks.{fault-step, fault-here, handed_on}
use Rattle.scope_core.proofs.resolving.Groups.{columns-drop, columns-past, places-cons, places-nil}
use Rattle.scope_core.proofs.grouping.resolve_columns.Goals as goal

pub returns-in_err-place-clause-err : goal.returns-in_err-place-clause-err
returns-in_err-place-clause-err c =
    let levels = rows_level c.args.headings.now ∷ levels_of c.args.levels.now in
    let next = columns-drop levels c.args.columns.now c.loop-column.column-index c.column-item.result c.loop-column-test.true c.column-item.is in
    handed_on c.from_residual-in_err-place.result c.in_err-place.field-0.0 (λ f. IsCause f (columns_fault levels c.args.columns.now))
    c.from_residual-in_err-place.ensures.1
    (fault-here (columns_fault levels) c.args.columns.now c.loop-column.column-index _ c.in_err-place.field-0.0 _ next c.in_err-place.ensures.err c.loop-column.invariant.0)

pub loop-column-preserved : goal.loop-column-preserved
loop-column-preserved c =
    let levels = rows_level c.args.headings.now ∷ levels_of c.args.levels.now in
    let next = columns-drop levels c.args.columns.now c.loop-column.column-index c.column-item.result c.loop-column-test.true c.column-item.is in (
      fault-step (columns_fault levels) c.args.columns.now c.loop-column.column-index _ c.column-item.result _ next c.in_ok-place.ensures.fine c.loop-column.invariant.0,
      walk-step (places_listed c.args.headings.now) c.args.columns.now c.loop-column.column-index c.column-item.result _ _
          (group_place c.column-item.result c.args.headings.now ∷ []) _ c.loop-column-test.true c.column-item.is (places-cons _ c.column-item.result _)
          (c.in_ok-push.ensures.items ∙ ap (λ p. c.loop-column.places.items ++ p ∷ []) c.in_ok-place.ensures.value) c.loop-column.invariant.1,
    )

pub returns-clause-fine : goal.returns-clause-fine
returns-clause-fine c =
    let levels = rows_level c.args.headings.now ∷ levels_of c.args.levels.now in
    sym c.loop-column.invariant.0 ∙ columns-past levels c.args.columns.now c.loop-column.column-index c.loop-column-test.false

pub returns-clause-value : goal.returns-clause-value
returns-clause-value c =
    c.from_vec.ensures
    ∙ walk-end (places_listed c.args.headings.now) c.args.columns.now c.loop-column.column-index _ _ c.loop-column-test.false (places-nil _) c.loop-column.invariant.1
