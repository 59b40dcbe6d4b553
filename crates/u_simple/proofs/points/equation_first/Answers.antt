use Rattle.std.proofs.Common.{◌≡◌, ap, sym, subst, ◌∙◌}
use Rattle.std.specs.Prelude.{IsPermutation}
use Rattle.u_terms.specs.Syntax.{U}
use Rattle.u_rules.specs.Terms.{◌⊗◌, ◌≐◌, mul_leaves}
use Rattle.u_moves.specs.Derivations.{IsKnown}
use Rattle.u_congruence.proofs.Turned.{known-Mul}
use Rattle.u_normal.proofs.terms.KnownParts.{part-known, rest-known}
use Rattle.u_simple.proofs.Known.{front-leaves}
use Rattle.u_simple.proofs.points.equation_first.Goals as goal

pub products_rearranged-requires-clause-right : goal.products_rearranged-requires-clause-right
products_rearranged-requires-clause-right c =
    let e : c.get.result.now ≡ (c.args.a.now ≐ c.args.b.now) ⊗ c.args.rest.now =
    c.get.ensures ∙ c.in_ok-to.ensures {u = tt} ∙ ap (λ (u : U). u ⊗ c.in_ok-rest.rest) (c.in_ok-equality.ensures {u = tt}) ∙ ap (λ (u : U). (c.args.a.now ≐ c.args.b.now) ⊗ u) (c.in_ok-rest.ensures {u = tt}) in
    subst (λ (u : U). IsKnown 0 c.args.moves.outs u) (sym e)
    (known-Mul 0 c.args.moves.outs (c.args.a.now ≐ c.args.b.now) c.args.rest.now (part-known c.args.moves.outs c.requires.takes c.requires.known) (rest-known c.args.moves.outs c.requires.takes c.requires.known))

pub products_rearranged-requires-clause-leaves : goal.products_rearranged-requires-clause-leaves
products_rearranged-requires-clause-leaves c =
    let e : c.get.result.now ≡ (c.args.a.now ≐ c.args.b.now) ⊗ c.args.rest.now =
    c.get.ensures ∙ c.in_ok-to.ensures {u = tt} ∙ ap (λ (u : U). u ⊗ c.in_ok-rest.rest) (c.in_ok-equality.ensures {u = tt}) ∙ ap (λ (u : U). (c.args.a.now ≐ c.args.b.now) ⊗ u) (c.in_ok-rest.ensures {u = tt}) in
    subst (λ (u : U). IsPermutation (mul_leaves c.args.u.now) (mul_leaves u)) (sym e)
    (front-leaves c.args.u.now c.args.rest.now (c.args.a.now ≐ c.args.b.now) c.requires.takes)
