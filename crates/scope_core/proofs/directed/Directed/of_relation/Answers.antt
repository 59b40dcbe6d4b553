use Rattle.std.proofs.Common.{length, Some, ap, sym, ◌∙◌}
use Rattle.scope_core.specs.declared.rope.Rope.TheVariants as rope
use Rattle.scope_core.specs.RelationSets.{with_number}
use Rattle.scope_core.specs.Ropes.{columns_in, is_sound_within, relation_within, shown_in}
use Rattle.scope_core.proofs.basics.Ropes.{made-Relation}
use Rattle.scope_core.proofs.directed.Directed.of_relation.Goals as goal

pub invariant_of-result-2 : goal.invariant_of-result-2
invariant_of-result-2 c =
    made-Relation _ _ c.args.number _ (c.in_ok-new-2.ensures {u = tt})
    (ap (λ e. e.width) (c.in_ok-new.ensures {u = tt}) ∙ (c.width_in.ensures ∙ ap (λ r. length (columns_in r)) c.get.ensures))
    (ap (λ e. e.shown) (c.in_ok-new.ensures {u = tt})
    ∙ (c.with.ensures.exact ∙ ap (λ set. with_number set c.args.number) (c.shown_in.ensures ∙ ap shown_in c.get-2.ensures)))
    (sym (ap is_sound_within c.in-Some.is) ∙ c.self.invariant)

pub returns : goal.returns
returns c =
    ap Some (c.in_ok-new-2.ensures {u = tt})
    ∙ (ap (λ e. Some (rope.Relation c.in-Some.inside c.args.number e))
    ((c.in_ok-new.ensures {u = tt})
    ∙ λ i. record {
      width = (c.width_in.ensures ∙ ap (λ r. length (columns_in r)) c.get.ensures) i;
      shown = (c.with.ensures.exact ∙ ap (λ set. with_number set c.args.number) (c.shown_in.ensures ∙ ap shown_in c.get-2.ensures)) i;
    })
    ∙ sym (ap (λ r. relation_within c.args.number r) (sym c.self.view_is ∙ c.in-Some.is)))
