use Rattle.std.proofs.Common.{sym, subst}
use Rattle.std.specs.Prelude.{IsPermutation}
use Rattle.u_terms.specs.Syntax.{U}
use Rattle.u_rules.specs.Terms.{I, mul_leaves, terms}
use Rattle.u_moves.specs.Derivations.{IsKnown}
use Rattle.u_entail.proofs.products.Parts.{one-known, spine-known}
use Rattle.u_entail.proofs.chains.Gained.{spread-leaves}
use Rattle.u_entail.proofs.following.Front.spread.Goals as goal

pub mul_ac-requires-clause-y : goal.mul_ac-requires-clause-y
mul_ac-requires-clause-y c =
    let outs = c.args.self.now.moves.outs in
    let factors = terms c.args.self.now.factors.now in
    let ready = c.requires.factors in
    subst (IsKnown 0 outs) (sym (c.in_ok-spread.ensures {u = tt})) (spine-known outs 0 factors I ready.known (one-known outs))

pub mul_ac-requires-clause-leaves : goal.mul_ac-requires-clause-leaves
mul_ac-requires-clause-leaves c =
    let factors = terms c.args.self.now.factors.now in
    subst (λ (x : U). IsPermutation (mul_leaves x) (mul_leaves c.in_ok-spread.spread)) (sym (c.in_ok-copy.ensures {u = tt}))
    (spread-leaves c.args.product.now factors c.requires.leaves c.in_ok-spread.spread (c.in_ok-spread.ensures {u = tt}))
