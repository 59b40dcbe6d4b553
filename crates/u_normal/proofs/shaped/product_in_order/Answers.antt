use Rattle.std.proofs.Common.{◌≡◌, sym, subst, ◌∙◌}
use Rattle.std.specs.Prelude.{IsPermutation}
use Rattle.u_terms.specs.Syntax.{U}
use Rattle.u_terms.specs.Products.{product_of}
use Rattle.u_rules.specs.declared.rule.Rule.TheVariants as rule
use Rattle.u_rules.specs.Terms.{mul_leaves}
use Rattle.u_moves.specs.Derivations.{Derivation, IsKnown, IsStill}
use Rattle.u_moves.proofs.derivations.Whole.{if-ok}
use Rattle.normal_form.specs.Kinds.{ordered}
use Rattle.u_normal.specs.Shaped.{IsBrief}
use Rattle.u_normal.proofs.terms.KnownParts.{in_order-known}
use Rattle.u_normal.proofs.products.Finishes.{in_order-leaves}
use Rattle.u_normal.proofs.products.Blocks.{product-kinds}
use Rattle.u_normal.proofs.costs.ShortSteps.{still-brief, step-brief-by}
use Rattle.u_normal.proofs.costs.Levels.{ordered-small}
use Rattle.u_normal.proofs.shaped.product_in_order.Goals as goal
use Rattle.u_normal.proofs.shaped.product_in_order.Goals.{In_ok-row}

row-is : (c : In_ok-row) → c.in_ok-row.row ≡ product_of (ordered (mul_leaves c.args.u.now))
row-is c = c.in_ok-row.ensures {u = tt} ∙ c.in_ok-in_order.ensures {u = tt}

pub returns-then-same : goal.returns-then-same
returns-then-same c =
    if-ok (IsStill c.args.moves.facts.now c.args.moves.outs c.args.u.now)
    (IsBrief c.args.moves.facts.now c.args.moves.outs c.args.u.now (product_of (ordered (mul_leaves c.args.u.now))) 1)
    (λ d still. still-brief c.args.moves.facts.now c.args.moves.outs c.args.u.now (product_of (ordered (mul_leaves c.args.u.now))) 1 d
    (sym (row-is (goal.at.returns-then-same c).In_ok-row) ∙ sym c.get.ensures ∙ sym (c.same.ensures.0 c.if-same.true)) still)
    c.unmoved.result c.unmoved.ensures

pub mul_ac-requires-clause-x : goal.mul_ac-requires-clause-x
mul_ac-requires-clause-x c = subst (λ (t : U). IsKnown 0 c.args.moves.outs t) (sym (c.into_inner.ensures ∙ c.in_ok-from.ensures {u = tt})) c.requires.known

pub mul_ac-requires-clause-y : goal.mul_ac-requires-clause-y
mul_ac-requires-clause-y c =
    subst (λ (t : U). IsKnown 0 c.args.moves.outs t) (sym (c.into_inner-2.ensures ∙ row-is (goal.at.mul_ac-requires-clause-y c).In_ok-row)) (in_order-known c.args.moves.outs c.args.u.now c.requires.known)

pub mul_ac-requires-clause-leaves : goal.mul_ac-requires-clause-leaves
mul_ac-requires-clause-leaves c =
    subst (λ (t : U). IsPermutation (mul_leaves t) (mul_leaves c.into_inner-2.result)) (sym (c.into_inner.ensures ∙ c.in_ok-from.ensures {u = tt}))
    (subst (λ (t : U). IsPermutation (mul_leaves c.args.u.now) (mul_leaves t)) (sym (c.into_inner-2.ensures ∙ row-is (goal.at.mul_ac-requires-clause-leaves c).In_ok-row))
    (in_order-leaves c.args.u.now (product-kinds c.args.u.now c.requires.product)))

pub returns : goal.returns
returns c =
    let row = row-is (goal.at.returns c).In_ok-row in
    if-ok (λ (x : Derivation). x ≡ c.in_ok-step.step)
    (IsBrief c.args.moves.facts.now c.args.moves.outs c.args.u.now (product_of (ordered (mul_leaves c.args.u.now))) 1)
    (step-brief-by c.args.moves.facts.now c.args.moves.outs c.args.u.now (product_of (ordered (mul_leaves c.args.u.now))) c.into_inner.result c.into_inner-2.result rule.MulAc _ c.in_ok-step.step (λ e. cc) (λ e. cc)
    (c.into_inner.ensures ∙ c.in_ok-from.ensures {u = tt}) (c.into_inner-2.ensures ∙ row) (ordered-small c.args.u.now (product-kinds c.args.u.now c.requires.product)) (c.in_ok-step.ensures {u = tt}))
    c.new-2.result c.new-2.ensures
