use Rattle.std.proofs.Common.{◌≡◌, ap, sym, subst, ◌∙◌}
use Rattle.std.specs.Prelude.{IsPermutation}
use Rattle.u_terms.specs.Syntax.{U}
use Rattle.u_terms.specs.Products.{product_of}
use Rattle.u_rules.specs.Terms.{mul_leaves}
use Rattle.u_moves.specs.Derivations.{Derivation, IsKnown, IsSound}
use Rattle.normal_form.specs.Kinds.{ordered}
use Rattle.u_normal.proofs.terms.KnownParts.{to-known, in_order-known}
use Rattle.u_normal.proofs.products.Finishes.{in_order-leaves}
use Rattle.u_normal.proofs.steps.then_in_order.Goals as goal

pub regrouped-requires-clause-known : goal.regrouped-requires-clause-known
regrouped-requires-clause-known c =
    let e : c.to-2.result.now ≡ c.args.d.to = c.to-2.ensures.lent ∙ ap (λ (d : Derivation). d.to) c.get-2.ensures in
    subst (λ (u : U). IsKnown 0 c.args.moves.outs u) (sym e)
    (to-known c.args.moves.facts.now c.args.moves.outs c.args.d c.requires.by (subst (λ (d : Derivation). IsSound d) c.get-2.ensures c.to-2.ensures.sound))

pub regrouped-requires-clause-known_to : goal.regrouped-requires-clause-known_to
regrouped-requires-clause-known_to c =
    let e : c.in_ok-row.row ≡ product_of (ordered (mul_leaves c.args.d.to)) =
    c.in_ok-row.ensures {u = tt} ∙ c.in_ok-in_order.ensures {u = tt} ∙ ap (λ (u : U). product_of (ordered (mul_leaves u))) (c.to.ensures.lent ∙ ap (λ (d : Derivation). d.to) c.get.ensures) in
    subst (λ (u : U). IsKnown 0 c.args.moves.outs u) (sym e)
    (in_order-known c.args.moves.outs c.args.d.to
    (to-known c.args.moves.facts.now c.args.moves.outs c.args.d c.requires.by (subst (λ (d : Derivation). IsSound d) c.get-2.ensures c.to-2.ensures.sound)))

pub regrouped-requires-clause-leaves : goal.regrouped-requires-clause-leaves
regrouped-requires-clause-leaves c =
    let e : c.to-2.result.now ≡ c.args.d.to = c.to-2.ensures.lent ∙ ap (λ (d : Derivation). d.to) c.get-2.ensures in
    let f : c.in_ok-row.row ≡ product_of (ordered (mul_leaves c.args.d.to)) =
    c.in_ok-row.ensures {u = tt} ∙ c.in_ok-in_order.ensures {u = tt} ∙ ap (λ (u : U). product_of (ordered (mul_leaves u))) (c.to.ensures.lent ∙ ap (λ (d : Derivation). d.to) c.get.ensures) in
    subst (λ (u : U). IsPermutation (mul_leaves u) (mul_leaves c.in_ok-row.row)) (sym e)
    (subst (λ (u : U). IsPermutation (mul_leaves c.args.d.to) (mul_leaves u)) (sym f) (in_order-leaves c.args.d.to c.requires.kinds))
