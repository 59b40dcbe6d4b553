use Rattle.std.proofs.Common.{◌≡◌, ap, sym, ◌∙◌, subst}
use Rattle.u_terms.specs.Syntax.{U}
use Rattle.u_rules.specs.Terms.{◌⊗◌, ◌≐◌, terms}
use Rattle.u_moves.specs.Derivations.{IsKnown}
use Rattle.u_entail.specs.Spines.{spine}
use Rattle.u_entail.proofs.products.Parts.{eq-known, mul-known, spine-known}
use Rattle.u_entail.proofs.chains.Gained.{gathered-leaves}
use Rattle.u_entail.proofs.following.Front.gathered.Goals as goal

pub mul_ac-requires-clause-x : goal.mul_ac-requires-clause-x
mul_ac-requires-clause-x c =
    let outs = c.args.self.now.moves.outs in
    let factors = terms c.args.self.now.factors.now in
    let ready = c.requires.factors in
    let is : c.in_ok-spread.spread ≡ spine factors (c.args.a.now ≐ c.args.b.now) = c.in_ok-spread.ensures {u = tt} ∙ ap (λ (t : U). spine factors t) (c.in_ok-equality.ensures {u = tt}) in
    subst (IsKnown 0 outs) (sym is) (spine-known outs 0 factors (c.args.a.now ≐ c.args.b.now) ready.known (eq-known outs c.args.a.now c.args.b.now c.requires.a c.requires.b))

pub mul_ac-requires-clause-y : goal.mul_ac-requires-clause-y
mul_ac-requires-clause-y c =
    let outs = c.args.self.now.moves.outs in
    let product : c.in_ok-product.product ≡ c.args.product.now = c.in_ok-product.ensures {u = tt} ∙ c.in_ok-copy.ensures {u = tt} in
    let equality : c.in_ok-equality-3.equality ≡ (c.args.a.now ≐ c.args.b.now) = c.in_ok-equality-3.ensures {u = tt} ∙ c.in_ok-equality-2.ensures {u = tt} in
    mul-known outs 0 c.in_ok-product.product c.in_ok-equality-3.equality (subst (IsKnown 0 outs) (sym product) c.requires.product)
    (subst (IsKnown 0 outs) (sym equality) (eq-known outs c.args.a.now c.args.b.now c.requires.a c.requires.b))

pub mul_ac-requires-clause-leaves : goal.mul_ac-requires-clause-leaves
mul_ac-requires-clause-leaves c =
    let factors = terms c.args.self.now.factors.now in
    let product : c.in_ok-product.product ≡ c.args.product.now = c.in_ok-product.ensures {u = tt} ∙ c.in_ok-copy.ensures {u = tt} in
    let equality : c.in_ok-equality-3.equality ≡ (c.args.a.now ≐ c.args.b.now) = c.in_ok-equality-3.ensures {u = tt} ∙ c.in_ok-equality-2.ensures {u = tt} in
    gathered-leaves c.args.product.now factors c.requires.leaves c.args.a.now c.args.b.now c.in_ok-spread.spread (c.in_ok-product.product ⊗ c.in_ok-equality-3.equality)
    (c.in_ok-spread.ensures {u = tt} ∙ ap (λ (t : U). spine factors t) (c.in_ok-equality.ensures {u = tt}))
    (ap (λ (t : U). t ⊗ c.in_ok-equality-3.equality) product ∙ ap (λ (t : U). c.args.product.now ⊗ t) equality)
