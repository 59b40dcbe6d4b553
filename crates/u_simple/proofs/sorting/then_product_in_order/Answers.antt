use Rattle.std.proofs.Common.{◌≡◌, ap, sym, subst, ◌∙◌}
use Rattle.std.specs.Prelude.{IsPermutation}
use Rattle.u_terms.specs.Syntax.{U}
use Rattle.u_rules.specs.Terms.{mul_leaves}
use Rattle.u_moves.specs.Derivations.{Derivation, IsKnown, IsSound}
use Rattle.u_normal.proofs.terms.KnownParts.{to-known}
use Rattle.u_simple.proofs.Rows.{product-known}
use Rattle.u_simple.proofs.sorting.then_product_in_order.Goals as goal

pub products_rearranged-requires-clause-left : goal.products_rearranged-requires-clause-left
products_rearranged-requires-clause-left c =
    subst (λ (u : U). IsKnown 0 c.args.moves.outs u) (sym (c.to-3.ensures.lent ∙ ap (λ (d : Derivation). d.to) c.get-4.ensures))
    (to-known c.args.moves.facts.now c.args.moves.outs c.args.d c.requires (subst (λ (d : Derivation). IsSound d) c.get-4.ensures c.to-3.ensures.sound))

pub products_rearranged-requires-clause-right : goal.products_rearranged-requires-clause-right
products_rearranged-requires-clause-right c =
    let known = to-known c.args.moves.facts.now c.args.moves.outs c.args.d c.requires (subst (λ (d : Derivation). IsSound d) c.get-4.ensures c.to-3.ensures.sound) in
    let from : c.to.result.now ≡ c.args.d.to = c.to.ensures.lent ∙ ap (λ (d : Derivation). d.to) c.get.ensures in
    let row : c.get-5.result.now ≡ c.in_ok-product_in_order.field-0 = c.get-5.ensures ∙ c.in_ok-row.ensures {u = tt} in
    subst (λ (u : U). IsKnown 0 c.args.moves.outs u) (sym row)
    (product-known c.args.moves.outs c.args.d.to c.in_ok-product_in_order.field-0
    (subst (λ (u : U). IsPermutation (mul_leaves u) (mul_leaves c.in_ok-product_in_order.field-0)) from (c.in_ok-product_in_order.ensures {u = tt})) known)
