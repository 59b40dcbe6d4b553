use Rattle.std.proofs.Common.{List, ap, sym, ◌∙◌, subst, arith}
use Rattle.std.specs.Prelude.{Some}
use Rattle.std.proofs.lemmas.List.{length-map}
use Rattle.std.proofs.lemmas.Option.{same_Some}
use Rattle.u_terms.specs.Syntax.{Val}
use Rattle.u_rules.specs.Terms.{terms}
use Rattle.u_equal.specs.Standing.{IsIn}
use Rattle.u_equal.specs.Joined.{seen}
use Rattle.u_equal.proofs.products.Listed.{item-here}
use Rattle.u_equal.proofs.products.Sides.{factors-none, factors-other, factors-more}
use Rattle.u_equal.proofs.forest.Forest.join_factors.Goals as goal
use Rattle.u_equal.proofs.forest.Forest.join_factors.Goals.{in-Eq+in_ok-join, in_default}

pub loop-factor-init : goal.loop-factor-init
loop-factor-init c = record { tree = c.requires.tree; joined = factors-none (terms c.args.factors.now) (seen c.args.self.now) c.requires.state }

pub place_of-left-requires : goal.place_of-left-requires
place_of-left-requires c =
    let at = item-here (λ r. r.now) c.args.factors.now c.loop-factor.factor c.index-factors-factor.result (omega arith) c.index-factors-factor.is in
    subst (λ (vs : List Val). IsIn c.in-Eq.a vs) (sym c.loop-factor.invariant.joined.values)
    (c.requires.sides c.loop-factor.factor c.in-Eq.a c.in-Eq.b (at ∙ ap (λ x. Some x) c.in-Eq.is)).0

pub place_of-right-requires : goal.place_of-right-requires
place_of-right-requires c =
    let at = item-here (λ r. r.now) c.args.factors.now c.loop-factor.factor c.index-factors-factor.result (omega arith) c.index-factors-factor.is in
    subst (λ (vs : List Val). IsIn c.in-Eq.b vs) (sym c.loop-factor.invariant.joined.values)
    (c.requires.sides c.loop-factor.factor c.in-Eq.a c.in-Eq.b (at ∙ ap (λ x. Some x) c.in-Eq.is)).1

pub loop-factor-preserved : goal.loop-factor-preserved
loop-factor-preserved c =
    let factors = terms c.args.factors.now in
    let i = c.loop-factor.factor in
    let at = item-here (λ r. r.now) c.args.factors.now i c.index-factors-factor.result (omega arith) c.index-factors-factor.is in
    elim c.match-term.branch [
      | in-Eq+in_ok-join w ↦
          rw w.self-is (record {
            tree = w.in_ok-join.ensures.tree;
            joined = factors-more factors i (omega (arith, length-map c.args.factors.now (λ r. r.now))) (seen c.args.self.now) (seen c.loop-factor.self) c.loop-factor.invariant.joined
                (seen w.join.new.self) w.in-Eq.a w.in-Eq.b w.place_of-left.result w.place_of-right.result w.in_ok-join.field-0 (at ∙ ap (λ x. Some x) w.in-Eq.is)
                w.place_of-left.ensures.first w.place_of-right.ensures.first w.in_ok-join.ensures.moved;
          })
      | in_default w ↦
          rw w.self-is (record {
            tree = c.loop-factor.invariant.tree;
            joined = factors-other factors i (omega (arith, length-map c.args.factors.now (λ r. r.now))) (seen c.args.self.now) (seen c.loop-factor.self) c.loop-factor.invariant.joined
                (λ a b here. w.in_default.not-Eq a b (same_Some _ _ (sym at ∙ here)));
          })
    ]
