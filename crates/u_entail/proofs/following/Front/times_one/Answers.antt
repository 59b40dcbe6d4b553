use Rattle.std.proofs.Common.{◌≡◌, ap, sym, ◌∙◌, subst}
use Rattle.u_terms.specs.Syntax.{U}
use Rattle.u_rules.specs.Terms.{◌⊗◌}
use Rattle.u_moves.specs.Derivations.{IsKnown}
use Rattle.u_entail.proofs.products.Parts.{mul-known, one-known}
use Rattle.u_entail.proofs.chains.Gained.{widened-leaves}
use Rattle.u_entail.proofs.following.Front.times_one.Goals as goal

pub mul_ac-requires-clause-y : goal.mul_ac-requires-clause-y
mul_ac-requires-clause-y c =
    let outs = c.args.self.now.moves.outs in
    let is : c.in_ok-new.field-0 ≡ c.args.factor.now = c.in_ok-new.ensures {u = tt} ∙ c.in_ok-copy.ensures {u = tt} in
    mul-known outs 0 c.in_ok-new.field-0 c.in_ok-one.one (subst (IsKnown 0 outs) (sym is) c.requires) (subst (IsKnown 0 outs) (sym (c.in_ok-one.ensures {u = tt})) (one-known outs))

pub mul_ac-requires-clause-leaves : goal.mul_ac-requires-clause-leaves
mul_ac-requires-clause-leaves c =
    let is : c.in_ok-new.field-0 ≡ c.in_ok-copy-2.field-0 = c.in_ok-new.ensures {u = tt} ∙ c.in_ok-copy.ensures {u = tt} ∙ sym (c.in_ok-copy-2.ensures {u = tt}) in
    widened-leaves c.in_ok-copy-2.field-0 (c.in_ok-new.field-0 ⊗ c.in_ok-one.one)
    (ap (λ (t : U). t ⊗ c.in_ok-one.one) is ∙ ap (λ (t : U). c.in_ok-copy-2.field-0 ⊗ t) (c.in_ok-one.ensures {u = tt}))
