use Rattle.std.proofs.Common.{◌++◌, ◌∙◌, ap, sym, subst, refl}
use Rattle.std.specs.List.{flat_map}
use Rattle.std.proofs.lemmas.Result.{IfOk-weaker}
use Rattle.scope_core.specs.Directed.{headings_in}
use Rattle.scope_core.specs.Ropes.{AreDirectedParts, IsDirected, columns_listed, columns_within}
use Rattle.scope_core.proofs.basics.Directed.{directed-no-parts}
use Rattle.scope_core.proofs.basics.Each.{Each-at}
use Rattle.scope_core.proofs.basics.Lists.{walk-step}
use Rattle.scope_core.proofs.basics.Ropes.{columns_listed-nil}
use Rattle.scope_core.proofs.sources.all_columns.Goals as goal

pub loop-entry-init : goal.loop-entry-init
loop-entry-init c = (
  ap (λ cs. cs ++ flat_map (λ h. h.columns) (headings_in c.args.entries.now)) (ap columns_listed c.in_ok-all.ensures ∙ columns_listed-nil),
  λ declared outside are. subst (AreDirectedParts declared outside) (sym c.in_ok-all.ensures) (directed-no-parts declared outside),
)

pub loop-entry-preserved : goal.loop-entry-preserved
loop-entry-preserved c =
    let all = c.loop-entry.all in
    let entry = c.entry-item.result in (
      walk-step (λ es. flat_map (λ h. h.columns) (headings_in es)) _ _ _ (columns_listed all) _ (columns_within entry.columns) _
          c.loop-entry-test.true c.entry-item.is refl
          (c.in_ok-push.ensures.columns ∙ ap (λ r. columns_listed all ++ columns_within r) c.in_ok-share.ensures)
          c.loop-entry.invariant.0,
      λ declared outside are.
          c.in_ok-push.ensures.directed declared outside (c.loop-entry.invariant.1 declared outside are)
          (subst (IsDirected declared outside) (sym c.in_ok-share.ensures)
          (Each-at (λ e. IsDirected declared outside e.columns) c.args.entries.now c.loop-entry.entry-index entry are c.loop-entry-test.true c.entry-item.is)),
    )

pub returns-clause-made : goal.returns-clause-made
returns-clause-made c =
    IfOk-weaker c.joined.result _ _ (λ d directs. λ declared outside are. directs declared outside (c.loop-entry.invariant.1 declared outside are))
    c.joined.ensures.directed
