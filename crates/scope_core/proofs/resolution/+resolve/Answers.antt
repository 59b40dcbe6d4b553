use Rattle.std.proofs.Common.{rules, ◌≡◌, ◌++◌, ◌∷◌, ◌+◌, ◌≤◌, ℕ, suc, List, [], None, map, drop, take, length, vec_capacity, vec_len, refl, ap, sym, subst, arith, ◌∙◌}
use Rattle.std.specs.Option.{option_or}
use Rattle.std.proofs.lemmas.List.{append_assoc, map-append, length-append}
use Rattle.sql_model.specs.Headings.{item_columns, source_columns}
use Rattle.sql_model.specs.declared.tree.Block.{out-Block}
use Rattle.sql_model.specs.Headings.{Heading as TheHeading}
use Rattle.scope_core.specs.FirstFault.{fault_at}
use Rattle.scope_core.specs.Sites.{AnAlias, Outputs}
use Rattle.scope_core.proofs.resolving.Fronts.{entries_fault-cons, entries_fault-nil, entries_listed-cons, entries_listed-nil, items_fault-cons, items_fault-nil, items_listed-cons, items_listed-nil, length-items_listed, length-resolved_item, on_fault-cons, on_fault-nil, on_listed-cons, on_listed-nil, seen-apart, seen-joined, seen_by}
use Rattle.scope_core.specs.Scope.{AsRows, Level, headings_here, no_entry}
use Rattle.scope_core.proofs.resolving.Outputs.{block_columns-fields, entries_headings-cons, entries_headings-nil, length-entries_headings}
use Rattle.scope_core.specs.Answer.{IsCause}
use Rattle.scope_core.specs.Lent.{entries_headings, headings_of, levels_of, list_columns, relations_of}
use Rattle.scope_core.specs.Parts.{conditions_listed, conjuncts_listed, entries_fault, entries_listed, items_fault, items_listed, on_fault, on_listed, truths_fault, values_fault, values_listed, written_fault, written_listed}
use Rattle.scope_core.specs.Resolving.{conjunction, conjuncts, entry_of, resolved_item, resolved_source, resolved_value}
use Rattle.scope_core.specs.declared.tree.RCond.TheVariants as condition
use Rattle.scope_core.proofs.resolving.Bounds.{cause-behind, cause-low, cause-high, conjuncts-bounds, fine-behind, fine-bounds, tree-behind}
use Rattle.scope_core.proofs.basics.Lists.{at-head, at-end, between, walk-step, walk-end}
use Rattle.scope_core.proofs.resolving.Walks.{cause-first, cause-same, cause-second, fault-step, fault-here, handed_on, no_value}
use Rattle.scope_core.proofs.resolving.Values.{values-drop, values-past, trees-cons, trees-nil, operator-cause, operator-fine, operator-tree}
use Rattle.scope_core.proofs.resolving.Conditions.{truths-drop, truths-past, conditions-cons, conditions-nil, conjuncts-cons, conjuncts-nil, conjuncts-single}
use Rattle.scope_core.proofs.resolution.+resolve.Goals as goal
use Rattle.scope_core.proofs.resolution.+resolve.Goals.{blocks::add_on_conditions-then-not-entry, blocks::add_on_conditions-else-not-entry, values::resolve_values-in-Fun+in_ok-args-in-Fun, values::resolve_values-in_default+in_ok-value-in_default}

pub values::resolve_values-returns-in_err-args-in-Fun-clause-err : goal.values::resolve_values-returns-in_err-args-in-Fun-clause-err
values::resolve_values-returns-in_err-args-in-Fun-clause-err t c =
    let K = relations_of c.args.known.now in
    let L = levels_of c.args.levels.now in
    let xs = c.args.exprs.now in
    let i = c.loop-expr.expr-index in
    let next = values-drop K L xs i c.expr-item.result c.loop-expr-test.true c.expr-item.is in
    handed_on c.from_residual-in_err-args-in-Fun.result c.in_err-args-in-Fun.field-0.0 (λ f. IsCause f (values_fault K L xs)) c.from_residual-in_err-args-in-Fun.ensures.1
    (fault-here (values_fault K L) xs i _ c.in_err-args-in-Fun.field-0.0 _ next (operator-cause K L c.in-Fun.is c.as_slice.ensures _ c.in_err-args-in-Fun.ensures.err) c.loop-expr.invariant.0)

pub values::resolve_values-returns-in_err-value-in_default : goal.values::resolve_values-returns-in_err-value-in_default
values::resolve_values-returns-in_err-value-in_default t c =
    let K = relations_of c.args.known.now in
    let L = levels_of c.args.levels.now in
    let xs = c.args.exprs.now in
    let i = c.loop-expr.expr-index in
    let next = values-drop K L xs i c.expr-item.result c.loop-expr-test.true c.expr-item.is in
    let refused = c.from_residual-in_err-value-in_default.ensures in
    let cause = c.in_err-value-in_default.ensures.err in record {
      fine = no_value _ _ refused.0;
      value = no_value _ _ refused.0;
      err = handed_on c.from_residual-in_err-value-in_default.result c.in_err-value-in_default.field-0.0 (λ f. IsCause f (values_fault K L xs)) refused.1
          (fault-here (values_fault K L) xs i _ c.in_err-value-in_default.field-0.0 _ next cause c.loop-expr.invariant.0);
    }

pub values::resolve_values-loop-expr-preserved : goal.values::resolve_values-loop-expr-preserved
values::resolve_values-loop-expr-preserved t c =
    let K = relations_of c.args.known.now in
    let L = levels_of c.args.levels.now in
    let xs = c.args.exprs.now in
    let i = c.loop-expr.expr-index in
    let x = c.expr-item.result in
    let before = c.loop-expr.values.items in
    let next = values-drop K L xs i x c.loop-expr-test.true c.expr-item.is in
    elim c.match-expr.branch [
      | values::resolve_values-in-Fun+in_ok-args-in-Fun w ↦
          let args = w.in_ok-args-in-Fun.ensures {u = tt} in (
            fault-step (values_fault K L) xs i _ x _ next (operator-fine K L w.in-Fun.is w.as_slice.ensures args.fine) c.loop-expr.invariant.0,
            walk-step (values_listed K L) xs i x _ _ (resolved_value x K L ∷ []) _ c.loop-expr-test.true c.expr-item.is (trees-cons K L x _)
                (ap (λ v. v.items) w.values-is ∙ (w.push_reserved.ensures.items ∙ ap (λ p. before ++ p ∷ []) (operator-tree K L w.in-Fun.is w.as_slice.ensures args.value)))
                c.loop-expr.invariant.1,
            ap (λ v. vec_len v) w.values-is ∙ (w.push_reserved.ensures.len ∙ ap (λ n. n + 1) c.loop-expr.invariant.2),
            subst (λ room. length xs ≤ room) (sym (ap (λ v. vec_capacity v) w.values-is ∙ w.push_reserved.ensures.capacity)) c.loop-expr.invariant.3,
          )
      | values::resolve_values-in_default+in_ok-value-in_default w ↦
          let value = w.in_ok-value-in_default.ensures {u = tt} in (
            fault-step (values_fault K L) xs i _ x _ next value.fine c.loop-expr.invariant.0,
            walk-step (values_listed K L) xs i x _ _ (resolved_value x K L ∷ []) _ c.loop-expr-test.true c.expr-item.is (trees-cons K L x _)
                (ap (λ v. v.items) w.values-is ∙ (w.push_reserved-in_default.ensures.items ∙ ap (λ p. before ++ p ∷ []) value.value))
                c.loop-expr.invariant.1,
            ap (λ v. vec_len v) w.values-is ∙ (w.push_reserved-in_default.ensures.len ∙ ap (λ n. n + 1) c.loop-expr.invariant.2),
            subst (λ room. length xs ≤ room) (sym (ap (λ v. vec_capacity v) w.values-is ∙ w.push_reserved-in_default.ensures.capacity)) c.loop-expr.invariant.3,
          )
    ]

pub values::resolve_values-returns-clause-fine : goal.values::resolve_values-returns-clause-fine
values::resolve_values-returns-clause-fine t c =
    let K = relations_of c.args.known.now in
    let L = levels_of c.args.levels.now in
    let xs = c.args.exprs.now in
    let i = c.loop-expr.expr-index in
    sym c.loop-expr.invariant.0 ∙ values-past K L xs i c.loop-expr-test.false

pub values::resolve_values-returns-clause-value : goal.values::resolve_values-returns-clause-value
values::resolve_values-returns-clause-value t c =
    let K = relations_of c.args.known.now in
    let L = levels_of c.args.levels.now in
    let xs = c.args.exprs.now in
    let i = c.loop-expr.expr-index in
    c.from_vec.ensures ∙ walk-end (values_listed K L) xs i _ _ c.loop-expr-test.false (trees-nil K L tt) c.loop-expr.invariant.1

pub conditions::resolve_conditions-returns-in_err-condition-clause-err : goal.conditions::resolve_conditions-returns-in_err-condition-clause-err
conditions::resolve_conditions-returns-in_err-condition-clause-err t c =
    let K = relations_of c.args.known.now in
    let L = levels_of c.args.levels.now in
    let xs = c.args.parts.now in
    let i = c.loop-part.part-index in
    let next = truths-drop K L xs i c.part-item.result c.loop-part-test.true c.part-item.is in
    handed_on c.from_residual-in_err-condition.result c.in_err-condition.field-0.0 (λ f. IsCause f (truths_fault K L xs)) c.from_residual-in_err-condition.ensures.1
    (fault-here (truths_fault K L) xs i _ c.in_err-condition.field-0.0 _ next c.in_err-condition.ensures.err c.loop-part.invariant.0)

pub conditions::resolve_conditions-loop-part-preserved : goal.conditions::resolve_conditions-loop-part-preserved
conditions::resolve_conditions-loop-part-preserved t c =
    let K = relations_of c.args.known.now in
    let L = levels_of c.args.levels.now in
    let xs = c.args.parts.now in
    let i = c.loop-part.part-index in
    let next = truths-drop K L xs i c.part-item.result c.loop-part-test.true c.part-item.is in (
      fault-step (truths_fault K L) xs i _ c.part-item.result _ next c.in_ok-condition.ensures.fine c.loop-part.invariant.0,
      walk-step (conditions_listed K L) xs i c.part-item.result _ _ (conjunction (conjuncts c.part-item.result K L) ∷ []) _ c.loop-part-test.true c.part-item.is (conditions-cons K L c.part-item.result _)
          (c.push_reserved.ensures.items ∙ ap (λ p. c.loop-part.conditions.items ++ p ∷ []) c.in_ok-condition.ensures.value) c.loop-part.invariant.1,
      c.in_ok-condition.ensures.before_fine,
      c.in_ok-condition.ensures.before_value,
      c.push_reserved.ensures.len ∙ ap (λ n. n + 1) c.loop-part.invariant.4,
      subst (λ room. length xs ≤ room) (sym c.push_reserved.ensures.capacity) c.loop-part.invariant.5,
    )

pub conditions::resolve_conditions-returns-clause-fine : goal.conditions::resolve_conditions-returns-clause-fine
conditions::resolve_conditions-returns-clause-fine t c =
    let K = relations_of c.args.known.now in
    let L = levels_of c.args.levels.now in
    let xs = c.args.parts.now in
    let i = c.loop-part.part-index in
    sym c.loop-part.invariant.0 ∙ truths-past K L xs i c.loop-part-test.false

pub conditions::resolve_conditions-returns-clause-value : goal.conditions::resolve_conditions-returns-clause-value
conditions::resolve_conditions-returns-clause-value t c =
    let K = relations_of c.args.known.now in
    let L = levels_of c.args.levels.now in
    let xs = c.args.parts.now in
    let i = c.loop-part.part-index in
    c.from_vec.ensures ∙ walk-end (conditions_listed K L) xs i _ _ c.loop-part-test.false (conditions-nil K L tt) c.loop-part.invariant.1

pub conditions::add_conjuncts_of_each-returns-in_err-add_conjuncts-clause-err : goal.conditions::add_conjuncts_of_each-returns-in_err-add_conjuncts-clause-err
conditions::add_conjuncts_of_each-returns-in_err-add_conjuncts-clause-err t c =
    let K = relations_of c.args.known.now in
    let L = levels_of c.args.levels.now in
    let xs = c.args.parts.now in
    let i = c.loop-part.part-index in
    let next = truths-drop K L xs i c.part-item.result c.loop-part-test.true c.part-item.is in
    handed_on c.from_residual.result c.in_err-add_conjuncts.field-0.0 (λ f. IsCause f (truths_fault K L xs)) c.from_residual.ensures.1
    (fault-here (truths_fault K L) xs i _ c.in_err-add_conjuncts.field-0.0 _ next c.in_err-add_conjuncts.ensures.err c.loop-part.invariant.0)

pub conditions::add_conjuncts_of_each-loop-part-preserved : goal.conditions::add_conjuncts_of_each-loop-part-preserved
conditions::add_conjuncts_of_each-loop-part-preserved t c =
    let K = relations_of c.args.known.now in
    let L = levels_of c.args.levels.now in
    let xs = c.args.parts.now in
    let i = c.loop-part.part-index in
    let next = truths-drop K L xs i c.part-item.result c.loop-part-test.true c.part-item.is in (
      fault-step (truths_fault K L) xs i _ c.part-item.result _ next c.in_ok-add_conjuncts.ensures.fine c.loop-part.invariant.0,
      walk-step (conjuncts_listed K L) xs i c.part-item.result _ _ (conjuncts c.part-item.result K L) _ c.loop-part-test.true c.part-item.is (conjuncts-cons K L c.part-item.result _)
          (c.in_ok-add_conjuncts.ensures.value) c.loop-part.invariant.1,
    )

pub conditions::add_conjuncts_of_each-returns-clause-fine : goal.conditions::add_conjuncts_of_each-returns-clause-fine
conditions::add_conjuncts_of_each-returns-clause-fine t c =
    let K = relations_of c.args.known.now in
    let L = levels_of c.args.levels.now in
    let xs = c.args.parts.now in
    let i = c.loop-part.part-index in
    sym c.loop-part.invariant.0 ∙ truths-past K L xs i c.loop-part-test.false

pub conditions::add_conjuncts_of_each-returns-clause-value : goal.conditions::add_conjuncts_of_each-returns-clause-value
conditions::add_conjuncts_of_each-returns-clause-value t c =
    let K = relations_of c.args.known.now in
    let L = levels_of c.args.levels.now in
    let xs = c.args.parts.now in
    let i = c.loop-part.part-index in
    walk-end (conjuncts_listed K L) xs i _ _ c.loop-part-test.false (conjuncts-nil K L tt) c.loop-part.invariant.1

pub conditions::add_parts-returns-in_err-low-clause-err : goal.conditions::add_parts-returns-in_err-low-clause-err
conditions::add_parts-returns-in_err-low-clause-err t c =
    let K = relations_of c.args.known.now in
    let L = levels_of c.args.levels.now in
    let b = c.in-Some.bounds in
    let refused = c.in_err-low.field-0.0 in
    handed_on c.from_residual.result refused (λ f. IsCause f (truths_fault K L c.args.parts.now)) c.from_residual.ensures.1
    (cause-low K L b.above b.low.now b.below b.high.now c.args.parts.now c.in-Some.ensures refused c.in_err-low.ensures.err)

pub conditions::add_parts-returns-in_err-high-clause-err : goal.conditions::add_parts-returns-in_err-high-clause-err
conditions::add_parts-returns-in_err-high-clause-err t c =
    let K = relations_of c.args.known.now in
    let L = levels_of c.args.levels.now in
    let b = c.in-Some.bounds in
    let refused = c.in_err-high.field-0.0 in
    handed_on c.from_residual-in_err-high.result refused (λ f. IsCause f (truths_fault K L c.args.parts.now)) c.from_residual-in_err-high.ensures.1
    (cause-high K L b.above b.low.now b.below b.high.now c.args.parts.now c.in-Some.ensures refused c.in_ok-low.ensures.fine c.in_err-high.ensures.err)

pub conditions::add_parts-returns-clause-fine : goal.conditions::add_parts-returns-clause-fine
conditions::add_parts-returns-clause-fine t c =
    let b = c.in-Some.bounds in
    fine-bounds (relations_of c.args.known.now) (levels_of c.args.levels.now) b.above b.low.now b.below b.high.now c.args.parts.now c.in-Some.ensures c.in_ok-low.ensures.fine c.in_ok-high.ensures.fine

pub conditions::add_parts-returns-clause-value : goal.conditions::add_parts-returns-clause-value
conditions::add_parts-returns-clause-value t c =
    let K = relations_of c.args.known.now in
    let L = levels_of c.args.levels.now in
    let b = c.in-Some.bounds in
    let low = c.in_ok-low.ensures.value in
    let high = c.in_ok-high.ensures.value in
    c.in_ok-push_predicates.ensures
    ∙ ap (λ cs. c.args.conditions.now.items ++ cs) ((λ i. condition.Pred b.above (low i) ∷ condition.Pred b.below (high i) ∷ [])
    ∙ sym (conjuncts-bounds K L b.above b.low.now b.below b.high.now c.args.parts.now c.in-Some.ensures))

pub conditions::resolve_behind-returns-in_err-high-clause-err : goal.conditions::resolve_behind-returns-in_err-high-clause-err
conditions::resolve_behind-returns-in_err-high-clause-err t c =
    let K = relations_of c.args.known.now in
    let L = levels_of c.args.levels.now in
    let refused = c.in_err-high.field-0.0 in
    handed_on c.from_residual.result refused (λ f. IsCause f (values_fault K L c.args.args.now)) c.from_residual.ensures.1
    (cause-behind K L c.args.before.now c.args.args.now c.in-Some.high.now c.in-Some.ensures refused c.requires.fine c.in_err-high.ensures.err)

pub conditions::resolve_behind-returns-clause-fine : goal.conditions::resolve_behind-returns-clause-fine
conditions::resolve_behind-returns-clause-fine t c =
    fine-behind (relations_of c.args.known.now) (levels_of c.args.levels.now) c.args.before.now c.args.args.now c.in-Some.high.now c.in-Some.ensures c.requires.fine c.in_ok-high.ensures.fine

pub conditions::resolve_behind-returns-clause-value : goal.conditions::resolve_behind-returns-clause-value
conditions::resolve_behind-returns-clause-value t c =
    c.in_ok-copied_before.ensures
    ∙ tree-behind (relations_of c.args.known.now) (levels_of c.args.levels.now) c.args.before.now c.args.args.now c.in-Some.high.now c.in-Some.ensures c.args.resolved.now c.value-item.result _ c.requires.value
    c.value-item.is c.in_ok-high.ensures.value

pub conditions::add_conjuncts-returns-in_ok-push-in-None-clause-value : goal.conditions::add_conjuncts-returns-in_ok-push-in-None-clause-value
conditions::add_conjuncts-returns-in_ok-push-in-None-clause-value t c =
    let K = relations_of c.args.known.now in
    let L = levels_of c.args.levels.now in
    c.in_ok-push-in-None.ensures.items
    ∙ ap (λ x. c.args.conditions.now.items ++ x)
    (ap (λ y. y ∷ []) c.in_ok-condition-in-None.ensures.value ∙ sym (conjuncts-single K L c.args.expr.now c.in-None.ensures.single))

pub blocks::resolve_entries-returns-in_err-source-clause-err : goal.blocks::resolve_entries-returns-in_err-source-clause-err
blocks::resolve_entries-returns-in_err-source-clause-err t c =
    let K = relations_of c.args.known.now in
    let L = levels_of c.args.levels.now in
    let xs = c.args.entries.now in
    let i = c.loop-entry.entry-index in
    let e = c.entry-item.result in
    let before = map (λ h. h.alias) c.loop-entry.headings.items in
    let eq = at-head (entries_fault K L before) xs i e c.loop-entry-test.true c.entry-item.is ∙ entries_fault-cons K L before e (drop (i + 1) xs) in
    handed_on c.from_residual-in_err-source.result c.in_err-source.field-0.0 (λ f. IsCause f (entries_fault K L [] xs)) c.from_residual-in_err-source.ensures.1
    (cause-first c.in_err-source.field-0.0 (entries_fault K L [] xs) _ _ (sym c.loop-entry.invariant.0 ∙ eq) c.in_err-source.ensures.err)

pub blocks::resolve_entries-returns-in_err-width-clause-err : goal.blocks::resolve_entries-returns-in_err-width-clause-err
blocks::resolve_entries-returns-in_err-width-clause-err t c =
    let K = relations_of c.args.known.now in
    let L = levels_of c.args.levels.now in
    let xs = c.args.entries.now in
    let i = c.loop-entry.entry-index in
    let e = c.entry-item.result in
    let before = map (λ h. h.alias) c.loop-entry.headings.items in
    let eq = at-head (entries_fault K L before) xs i e c.loop-entry-test.true c.entry-item.is ∙ entries_fault-cons K L before e (drop (i + 1) xs) in
    let f = c.in_err-width.field-0.0 in
    let P : List TheHeading → Type 0 = λ hs. IsCause f (fault_at (AnAlias e.alias (map (λ h. h.alias) hs) e.at)) in
    handed_on c.from_residual-in_err-width.result f (λ g. IsCause g (entries_fault K L [] xs)) c.from_residual-in_err-width.ensures.1
    (cause-second f (entries_fault K L [] xs) _ _ (sym c.loop-entry.invariant.0 ∙ eq) c.in_ok-source.ensures.fine
    (cause-first f _ _ _ refl (subst P c.as_slice.ensures.value c.in_err-width.ensures.err)))

pub blocks::resolve_entries-loop-entry-preserved : goal.blocks::resolve_entries-loop-entry-preserved
blocks::resolve_entries-loop-entry-preserved t c =
    let K = relations_of c.args.known.now in
    let L = levels_of c.args.levels.now in
    let xs = c.args.entries.now in
    let i = c.loop-entry.entry-index in
    let e = c.entry-item.result in
    let before = map (λ h. h.alias) c.loop-entry.headings.items in
    let eq = at-head (entries_fault K L before) xs i e c.loop-entry-test.true c.entry-item.is ∙ entries_fault-cons K L before e (drop (i + 1) xs) in
    let hs = c.loop-entry.headings.items in
    let made = c.loop-entry.resolved.items in
    let relations = headings_of c.args.known.now in
    let rest = entries_fault K L (before ++ e.alias ∷ []) (drop (i + 1) xs) in
    let P : List TheHeading → Type 0 = λ hs. fault_at (AnAlias e.alias (map (λ h. h.alias) hs) e.at) ≡ None in
    let alias_is_new = subst P c.as_slice.ensures.value c.in_ok-width.ensures.fine in
    let aliases = ap (λ hs. map (λ h. h.alias) hs) (c.push_reserved-in-loop-entry.ensures.items ∙ ap (λ h. hs ++ h ∷ []) c.new.ensures) ∙ map-append (λ h. h.alias) hs _ in
    let wide : c.in_ok-width.width ≡ length (source_columns e.source relations) =
    c.in_ok-width.ensures.value ∙ ap (λ cs. length cs) (c.get.ensures ∙ c.in_ok-source.ensures.columns) in (
      ap (λ names. entries_fault K L names (drop (i + 1) xs)) aliases
          ∙ (sym (eq ∙ (ap (λ o. option_or o (option_or (fault_at (AnAlias e.alias before e.at)) rest)) c.in_ok-source.ensures.fine ∙ ap (λ o. option_or o rest) alias_is_new))
          ∙ c.loop-entry.invariant.0),
      walk-step (entries_listed K L) xs i e _ _ (entry_of (resolved_source e.source K L, length (source_columns e.source relations)) ∷ []) _
          c.loop-entry-test.true c.entry-item.is (entries_listed-cons K L e _)
          (c.push_reserved.ensures.items
          ∙ (ap (λ s. made ++ entry_of (s, c.in_ok-width.width) ∷ []) (c.into_inner.ensures ∙ c.in_ok-source.ensures.value)
          ∙ ap (λ w. made ++ entry_of (resolved_source e.source K L, w) ∷ []) wide)) c.loop-entry.invariant.1,
      walk-step (λ es. entries_headings es relations) xs i e _ _ (record { alias = e.alias; columns = source_columns e.source relations } ∷ []) _
          c.loop-entry-test.true c.entry-item.is (entries_headings-cons e _ relations)
          (c.push_reserved-in-loop-entry.ensures.items
          ∙ ap (λ h. hs ++ h ∷ []) (c.new.ensures ∙ ap (λ cs. record { alias = e.alias; columns = cs }) (c.into_inner-columns.ensures ∙ c.in_ok-source.ensures.columns))) c.loop-entry.invariant.2,
      c.push_reserved.ensures.len ∙ ap (λ n. n + 1) c.loop-entry.invariant.3,
      c.push_reserved-in-loop-entry.ensures.len ∙ ap (λ n. n + 1) c.loop-entry.invariant.4,
      subst (λ room. length xs ≤ room) (sym c.push_reserved.ensures.capacity) c.loop-entry.invariant.5,
      subst (λ room. length xs ≤ room) (sym c.push_reserved-in-loop-entry.ensures.capacity) c.loop-entry.invariant.6,
    )

pub blocks::resolve_entries-returns-clause-fine : goal.blocks::resolve_entries-returns-clause-fine
blocks::resolve_entries-returns-clause-fine t c =
    let K = relations_of c.args.known.now in
    let L = levels_of c.args.levels.now in
    let before = map (λ h. h.alias) c.loop-entry.headings.items in
    sym c.loop-entry.invariant.0
    ∙ (at-end (entries_fault K L before) c.args.entries.now c.loop-entry.entry-index c.loop-entry-test.false ∙ entries_fault-nil K L before)

pub blocks::resolve_entries-returns-clause-value : goal.blocks::resolve_entries-returns-clause-value
blocks::resolve_entries-returns-clause-value t c =
    let K = relations_of c.args.known.now in
    let L = levels_of c.args.levels.now in
    c.from_vec.ensures
    ∙ walk-end (entries_listed K L) c.args.entries.now c.loop-entry.entry-index _ _ c.loop-entry-test.false (entries_listed-nil K L tt) c.loop-entry.invariant.1

pub blocks::resolve_entries-returns-clause-headings : goal.blocks::resolve_entries-returns-clause-headings
blocks::resolve_entries-returns-clause-headings t c =
    walk-end (λ es. entries_headings es (headings_of c.args.known.now)) c.args.entries.now c.loop-entry.entry-index _ _ c.loop-entry-test.false
    (entries_headings-nil _) c.loop-entry.invariant.2

pub blocks::resolve_items-returns-in_err-add_item-clause-err : goal.blocks::resolve_items-returns-in_err-add_item-clause-err
blocks::resolve_items-returns-in_err-add_item-clause-err t c =
    let K = relations_of c.args.known.now in
    let L = levels_of c.args.levels.now in
    let xs = c.args.items.now in
    let i = c.loop-item.item-index in
    let item = c.item-item.result in
    let count = length c.loop-item.values in
    let eq = at-head (items_fault K L count) xs i item c.loop-item-test.true c.item-item.is ∙ items_fault-cons K L count item (drop (i + 1) xs) in
    handed_on c.from_residual-in_err-add_item.result c.in_err-add_item.field-0.0 (λ f. IsCause f (items_fault K L 0 xs)) c.from_residual-in_err-add_item.ensures.1
    (cause-first c.in_err-add_item.field-0.0 (items_fault K L 0 xs) _ _ (sym c.loop-item.invariant.0 ∙ eq) c.in_err-add_item.ensures.err)

pub blocks::resolve_items-returns-in_err-check_outputs-clause-err : goal.blocks::resolve_items-returns-in_err-check_outputs-clause-err
blocks::resolve_items-returns-in_err-check_outputs-clause-err t c =
    let K = relations_of c.args.known.now in
    let L = levels_of c.args.levels.now in
    let xs = c.args.items.now in
    let i = c.loop-item.item-index in
    let item = c.item-item.result in
    let count = length c.loop-item.values in
    let eq = at-head (items_fault K L count) xs i item c.loop-item-test.true c.item-item.is ∙ items_fault-cons K L count item (drop (i + 1) xs) in
    let values = c.loop-item.values in
    let longer : length c.add_item.new.values ≡ count + length (item_columns item (headings_here L)) =
    ap (λ vs. length vs) c.in_ok-add_item.ensures.value
    ∙ (length-append values (resolved_item item K L) ∙ ap (λ m. count + m) (length-resolved_item item K L)) in
    let f = c.in_err-check_outputs.field-0.0 in
    let P : ℕ → Type 0 = λ m. IsCause f (fault_at (Outputs m)) in
    handed_on c.from_residual-in_err-check_outputs.result f (λ g. IsCause g (items_fault K L 0 xs)) c.from_residual-in_err-check_outputs.ensures.1
    (cause-second f (items_fault K L 0 xs) _ _ (sym c.loop-item.invariant.0 ∙ eq) c.in_ok-add_item.ensures.fine
    (cause-first f _ _ _ refl (subst P (c.len.ensures ∙ longer) c.in_err-check_outputs.ensures.err)))

pub blocks::resolve_items-loop-item-preserved : goal.blocks::resolve_items-loop-item-preserved
blocks::resolve_items-loop-item-preserved t c =
    let K = relations_of c.args.known.now in
    let L = levels_of c.args.levels.now in
    let xs = c.args.items.now in
    let i = c.loop-item.item-index in
    let item = c.item-item.result in
    let count = length c.loop-item.values in
    let eq = at-head (items_fault K L count) xs i item c.loop-item-test.true c.item-item.is ∙ items_fault-cons K L count item (drop (i + 1) xs) in
    let values = c.loop-item.values in
    let longer : length c.add_item.new.values ≡ count + length (item_columns item (headings_here L)) =
    ap (λ vs. length vs) c.in_ok-add_item.ensures.value
    ∙ (length-append values (resolved_item item K L) ∙ ap (λ m. count + m) (length-resolved_item item K L)) in
    let with = count + length (item_columns item (headings_here L)) in
    let rest = items_fault K L with (drop (i + 1) xs) in
    let P : ℕ → Type 0 = λ m. fault_at (Outputs m) ≡ None in
    let within = subst P (c.len.ensures ∙ longer) c.in_ok-check_outputs.ensures.fine in (
      ap (λ m. items_fault K L m (drop (i + 1) xs)) longer
          ∙ (sym (eq ∙ (ap (λ o. option_or o (option_or (fault_at (Outputs with)) rest)) c.in_ok-add_item.ensures.fine ∙ ap (λ o. option_or o rest) within))
          ∙ c.loop-item.invariant.0),
      walk-step (items_listed K L) xs i item _ _ (resolved_item item K L) _ c.loop-item-test.true c.item-item.is (items_listed-cons K L item _)
          c.in_ok-add_item.ensures.value c.loop-item.invariant.1,
    )

pub blocks::resolve_items-returns-clause-fine : goal.blocks::resolve_items-returns-clause-fine
blocks::resolve_items-returns-clause-fine t c =
    let K = relations_of c.args.known.now in
    let L = levels_of c.args.levels.now in
    let count = length c.loop-item.values in
    sym c.loop-item.invariant.0
    ∙ (at-end (items_fault K L count) c.args.items.now c.loop-item.item-index c.loop-item-test.false ∙ items_fault-nil K L count)

pub blocks::resolve_items-returns-clause-value : goal.blocks::resolve_items-returns-clause-value
blocks::resolve_items-returns-clause-value t c =
    let K = relations_of c.args.known.now in
    let L = levels_of c.args.levels.now in
    walk-end (items_listed K L) c.args.items.now c.loop-item.item-index _ _ c.loop-item-test.false (items_listed-nil K L tt) c.loop-item.invariant.1

pub blocks::add_on_conditions-returns-clause-fine : goal.blocks::add_on_conditions-returns-clause-fine
blocks::add_on_conditions-returns-clause-fine t c =
    let K = relations_of c.args.known.now in
    let L = levels_of c.args.levels.now in
    let i = c.loop-index.index in
    let before : Level = record { first = c.loop-index.first; headings = drop c.loop-index.first (take i c.args.headings.now); sight = AsRows } in
    sym c.loop-index.invariant.0 ∙ (at-end (on_fault K L i before) c.args.entries.now i c.loop-index-test.false ∙ on_fault-nil K L i before)

pub blocks::add_on_conditions-returns-clause-value : goal.blocks::add_on_conditions-returns-clause-value
blocks::add_on_conditions-returns-clause-value t c =
    let K = relations_of c.args.known.now in
    let L = levels_of c.args.levels.now in
    let i = c.loop-index.index in
    let before : Level = record { first = c.loop-index.first; headings = drop c.loop-index.first (take i c.args.headings.now); sight = AsRows } in
    walk-end (on_listed K L i before) c.args.entries.now i _ _ c.loop-index-test.false (on_listed-nil K L i before) c.loop-index.invariant.1

pub blocks::add_on_conditions-slice_bounds-seen-end : goal.blocks::add_on_conditions-slice_bounds-seen-end
blocks::add_on_conditions-slice_bounds-seen-end t c =
    let long : length c.args.headings.now ≡ length c.args.entries.now =
    ap (λ hs. length hs) c.requires ∙ length-entries_headings c.args.entries.now (headings_of c.args.known.now) in
    let low : c.if-not-entry.first ≤ c.loop-index.index =
    elim c.if-not-entry.branch [ blocks::add_on_conditions-then-not-entry w ↦ omega arith | blocks::add_on_conditions-else-not-entry w ↦ omega (arith, c.loop-index.invariant.2) ] in
    search rules

pub blocks::add_on_conditions-returns-in_err-add_written-clause-err : goal.blocks::add_on_conditions-returns-in_err-add_written-clause-err
blocks::add_on_conditions-returns-in_err-add_written-clause-err t c =
    let K = relations_of c.args.known.now in
    let L = levels_of c.args.levels.now in
    let xs = c.args.entries.now in
    let H = c.args.headings.now in
    let i = c.loop-index.index in
    let first = c.loop-index.first in
    let first' = c.if-not-entry.first in
    let e = c.index-entries-index.result in
    let test = c.loop-index-test.true in
    let is = c.index-entries-index.is in
    let before : Level = record { first = first; headings = drop first (take i H); sight = AsRows } in
    let seen : (n : ℕ) → n ≡ first' → seen_by K i before e ≡ record { first = n; headings = drop first' (take (i + 1) H); sight = AsRows } =
    λ n same. elim c.if-not-entry.branch [
      | blocks::add_on_conditions-then-not-entry w ↦ seen-apart K xs H i first first' n e c.requires test is same (grind (arith, w.if-not-entry)) w.first-is
      | blocks::add_on_conditions-else-not-entry w ↦ seen-joined K xs H i first first' n e c.requires test is same (grind (arith, w.if-not-entry)) w.first-is c.loop-index.invariant.2
    ] in
    let low : first' ≤ i + 1 =
    elim c.if-not-entry.branch [ blocks::add_on_conditions-then-not-entry w ↦ omega arith | blocks::add_on_conditions-else-not-entry w ↦ omega (arith, c.loop-index.invariant.2) ] in
    let n = c.in_ok-number.field-0 in
    let here = seen n c.in_ok-number.ensures.fits ∙ ap (λ hs. record { first = n; headings = hs; sight = AsRows }) (sym (between first' (i + 1) H low)) in
    let eq = at-head (on_fault K L i before) xs i e test is ∙ on_fault-cons K L i before e (drop (i + 1) xs) in
    let f = c.in_err-add_written.field-0.0 in
    handed_on c.from_residual-in_err-add_written.result f (λ g. IsCause g (on_fault K L 0 no_entry xs)) c.from_residual-in_err-add_written.ensures.1
    (cause-first f (on_fault K L 0 no_entry xs) _ _ (sym c.loop-index.invariant.0 ∙ eq)
    (cause-same f _ _ (ap (λ s. written_fault K (s ∷ L) e.on) here) c.in_err-add_written.ensures.err))

pub blocks::add_on_conditions-loop-index-preserved : goal.blocks::add_on_conditions-loop-index-preserved
blocks::add_on_conditions-loop-index-preserved t c =
    let K = relations_of c.args.known.now in
    let L = levels_of c.args.levels.now in
    let xs = c.args.entries.now in
    let H = c.args.headings.now in
    let i = c.loop-index.index in
    let first = c.loop-index.first in
    let first' = c.if-not-entry.first in
    let e = c.index-entries-index.result in
    let test = c.loop-index-test.true in
    let is = c.index-entries-index.is in
    let before : Level = record { first = first; headings = drop first (take i H); sight = AsRows } in
    let seen : (n : ℕ) → n ≡ first' → seen_by K i before e ≡ record { first = n; headings = drop first' (take (i + 1) H); sight = AsRows } =
    λ n same. elim c.if-not-entry.branch [
      | blocks::add_on_conditions-then-not-entry w ↦ seen-apart K xs H i first first' n e c.requires test is same (grind (arith, w.if-not-entry)) w.first-is
      | blocks::add_on_conditions-else-not-entry w ↦ seen-joined K xs H i first first' n e c.requires test is same (grind (arith, w.if-not-entry)) w.first-is c.loop-index.invariant.2
    ] in
    let low : first' ≤ i + 1 =
    elim c.if-not-entry.branch [ blocks::add_on_conditions-then-not-entry w ↦ omega arith | blocks::add_on_conditions-else-not-entry w ↦ omega (arith, c.loop-index.invariant.2) ] in
    let n = c.in_ok-number.field-0 in
    let here = seen n c.in_ok-number.ensures.fits ∙ ap (λ hs. record { first = n; headings = hs; sight = AsRows }) (sym (between first' (i + 1) H low)) in
    let eq = at-head (on_fault K L i before) xs i e test is ∙ on_fault-cons K L i before e (drop (i + 1) xs) in
    let next = seen first' refl in
    let more : suc i ≡ i + 1 = omega arith in
    let rest = drop (i + 1) xs in
    let made = c.loop-index.conditions.items in
    let none = ap (λ s. written_fault K (s ∷ L) e.on) here ∙ c.in_ok-add_written.ensures.fine in
    let listed = at-head (on_listed K L i before) xs i e test is ∙ on_listed-cons K L i before e rest in (
      sym (λ j. on_fault K L (more j) (next j) rest)
          ∙ (sym (eq ∙ ap (λ o. option_or o (on_fault K L (suc i) (seen_by K i before e) rest)) none) ∙ c.loop-index.invariant.0),
      ap (λ cs. cs ++ on_listed K L (i + 1) (record { first = first'; headings = drop first' (take (i + 1) H); sight = AsRows }) rest) c.in_ok-add_written.ensures.value
          ∙ (append_assoc made _ _ ∙ (ap (λ r. made ++ r) (sym (listed ∙ (λ j. written_listed K (here j ∷ L) e.on ++ on_listed K L (more j) (next j) rest))) ∙ c.loop-index.invariant.1)),
      low,
    )

pub blocks::resolve_block-new-requires : goal.blocks::resolve_block-new-requires
blocks::resolve_block-new-requires t c =
    let items = c.as_slice-2.ensures in
    c.len-width.ensures
    ∙ (ap (λ vs. length vs) c.in_ok-output.ensures.items
    ∙ (length-items_listed (out-Block c.args.block.now).items (relations_of c.args.known.now) _
    ∙ (λ i. length (list_columns (sym items i) (c.as_slice-headings.ensures.value i)))))

pub blocks::resolve_block-returns-clause-columns : goal.blocks::resolve_block-returns-clause-columns
blocks::resolve_block-returns-clause-columns t c =
    c.new.ensures
    ∙ (rw (c.as_slice-2.ensures, c.in_ok-from.ensures.headings, c.as_slice.ensures)
    (sym (block_columns-fields c.args.block.now (headings_of c.args.known.now))))
