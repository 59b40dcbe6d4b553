use Rattle.std.proofs.Common.{◌≡◌, ap, sym, subst, ◌∙◌}
use Rattle.std.specs.Prelude.{IsPermutation}
use Rattle.u_terms.specs.Syntax.{U}
use Rattle.u_terms.specs.Products.{product_of}
use Rattle.u_rules.specs.Terms.{mul_leaves, terms}
use Rattle.u_moves.specs.Derivations.{IsKnown}
use Rattle.u_bag.proofs.products.Factors.{row-known, row-leaves}
use Rattle.u_bag.proofs.gaining.in_row.Goals as goal

row-is : (c : goal.After-get) → c.get.result.now ≡ product_of (mul_leaves c.args.u.now)
row-is c =
    c.get.ensures ∙ c.in_ok-row.ensures {u = tt} ∙ c.in_ok-product_of.ensures {u = tt}
    ∙ ap (λ fs. product_of (terms fs)) (c.as_slice.ensures.value ∙ c.into_vec-factors.ensures) ∙ ap product_of (c.in_ok-leaves.ensures {u = tt})

pub rearranged-requires-clause-row : goal.rearranged-requires-clause-row
rearranged-requires-clause-row c = subst (λ (u : U). IsKnown 0 c.args.moves.outs u) (sym (row-is c)) (row-known c.args.moves.outs c.args.u.now c.requires)

pub rearranged-requires-clause-leaves : goal.rearranged-requires-clause-leaves
rearranged-requires-clause-leaves c = subst (λ (u : U). IsPermutation (mul_leaves c.args.u.now) (mul_leaves u)) (sym (row-is c)) (row-leaves c.args.u.now)
