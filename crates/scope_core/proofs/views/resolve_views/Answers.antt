use Rattle.std.proofs.Common.{◌≡◌, ◌+◌, ◌∷◌, [], None, length, ap, sym, subst, ◌∙◌}
use Rattle.std.specs.Option.{option_or}
use Rattle.data_model.specs.Lists.{Each}
use Rattle.scope_core.specs.Answer.{IsCause}
use Rattle.scope_core.specs.FirstFault.{relations_fault, schema_fault}
use Rattle.scope_core.specs.Fitting.{AreSoundViews, DoViewsFit}
use Rattle.scope_core.specs.Lent.{relations_of}
use Rattle.scope_core.specs.Literals.{TreeFits}
use Rattle.scope_core.specs.Relations.{count_views, known_with}
use Rattle.scope_core.specs.ViewTrees.{trees_with, view_trees, views_of}
use Rattle.scope_core.proofs.schema.FittingTrees as fitting
use Rattle.scope_core.proofs.well_formed.NoFault.{schema_fault-none}
use Rattle.scope_core.proofs.schema.SoundTrees.{views-sound}
use Rattle.scope_core.proofs.schema.ViewTrees.{trees-counted}
use Rattle.scope_core.proofs.trees.SymbolLaws.{views-fit}
use Rattle.scope_core.proofs.resolving.Walks.{cause-first, handed_on}
use Rattle.scope_core.proofs.views.resolve_views.Goals as goal

pub loop-name-preserved : goal.loop-name-preserved
loop-name-preserved c =
    let K = relations_of c.loop-name.known in
    let trees = c.loop-name.trees.items in
    let name = c.in-Some.name.now in
    let r = c.in-Some.relation.now in
    let rest = c.next.new.self in
    let more = known_with K (length trees) name r in
    let step : c.loop-name.name-iterator ≡ (name, r) ∷ rest = c.in-Some.ensures.steps in
    let known : relations_of c.add_relation.new.known ≡ more = c.in_ok-add_relation.ensures.known in
    let grown : c.add_relation.new.trees.items ≡ trees_with K trees r = c.in_ok-add_relation.ensures.trees in
    let counted : length c.add_relation.new.trees.items ≡ length trees + count_views r = ap length grown ∙ trees-counted K trees r in (
      tt,
      tt,
      ap (λ ks. relations_fault ks (length c.add_relation.new.trees.items) rest) known
          ∙ (ap (λ n. relations_fault more n rest) counted
          ∙ (sym (ap (λ o. option_or o (relations_fault more (length trees + count_views r) rest)) c.in_ok-add_relation.ensures.fine)
          ∙ (sym (ap (λ rs. relations_fault K (length trees) rs) step) ∙ c.loop-name.invariant.2))),
      ap (λ ks. view_trees ks c.add_relation.new.trees.items rest) known
          ∙ (ap (λ ts. view_trees more ts rest) grown ∙ (sym (ap (λ rs. view_trees K trees rs) step) ∙ c.loop-name.invariant.3)),
    )

pub returns-in_err-add_relation-clause-err : goal.returns-in_err-add_relation-clause-err
returns-in_err-add_relation-clause-err c =
    let K = relations_of c.loop-name.known in
    let trees = c.loop-name.trees.items in
    let step : c.loop-name.name-iterator ≡ (c.in-Some.name.now, c.in-Some.relation.now) ∷ c.next.new.self = c.in-Some.ensures.steps in
    let f = c.in_err-add_relation.field-0.0 in
    handed_on c.from_residual.result f (λ g. IsCause g (schema_fault c.args.schema.now)) c.from_residual.ensures.1
    (cause-first f (schema_fault c.args.schema.now) _ _ (sym c.loop-name.invariant.2 ∙ ap (λ rs. relations_fault K (length trees) rs) step)
    c.in_err-add_relation.ensures.err)

pub returns-clause-well_formed : goal.returns-clause-well_formed
returns-clause-well_formed c =
    let K = relations_of c.loop-name.known in
    let trees = c.loop-name.trees.items in
    let none : schema_fault c.args.schema.now ≡ None = sym c.loop-name.invariant.2 ∙ ap (λ rs. relations_fault K (length trees) rs) c.in-None.ensures.steps.0 in
    (schema_fault-none c.args.schema.now).0 none

pub returns-clause-sound : goal.returns-clause-sound
returns-clause-sound c =
    let K = relations_of c.loop-name.known in
    let trees = c.loop-name.trees.items in
    let none : schema_fault c.args.schema.now ≡ None = sym c.loop-name.invariant.2 ∙ ap (λ rs. relations_fault K (length trees) rs) c.in-None.ensures.steps.0 in
    let well = (schema_fault-none c.args.schema.now).0 none in
    let all : trees ≡ views_of c.args.schema.now = sym (ap (λ rs. view_trees K trees rs) c.in-None.ensures.steps.0) ∙ c.loop-name.invariant.3 in
    subst (λ vs. AreSoundViews c.args.schema.now.relations.entries [] vs) (sym (c.new.ensures ∙ (c.from_vec.ensures ∙ all))) (views-sound c.args.schema.now well.0)

pub returns-clause-symbols : goal.returns-clause-symbols
returns-clause-symbols c =
    let K = relations_of c.loop-name.known in
    let trees = c.loop-name.trees.items in
    let all : trees ≡ views_of c.args.schema.now = sym (ap (λ rs. view_trees K trees rs) c.in-None.ensures.steps.0) ∙ c.loop-name.invariant.3 in
    λ count fits. subst (λ vs. Each (TreeFits count) vs) (sym (c.new.ensures ∙ (c.from_vec.ensures ∙ all))) (views-fit count c.args.schema.now fits)

pub new-requires : goal.new-requires
new-requires c =
    let K = relations_of c.loop-name.known in
    let trees = c.loop-name.trees.items in
    let none : schema_fault c.args.schema.now ≡ None = sym c.loop-name.invariant.2 ∙ ap (λ rs. relations_fault K (length trees) rs) c.in-None.ensures.steps.0 in
    let well = (schema_fault-none c.args.schema.now).0 none in
    let all : trees ≡ views_of c.args.schema.now = sym (ap (λ rs. view_trees K trees rs) c.in-None.ensures.steps.0) ∙ c.loop-name.invariant.3 in
    subst (λ vs. DoViewsFit [] vs) (sym (c.from_vec.ensures ∙ all))
    (fitting.views-fit c.args.schema.now.relations.entries [] (views_of c.args.schema.now) (views-sound c.args.schema.now well.0))
