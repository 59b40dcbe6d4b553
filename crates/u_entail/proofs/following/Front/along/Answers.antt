use Rattle.std.proofs.Common.{subst, arith}
use Rattle.std.proofs.lemmas.List.{length-map, length-take}
use Rattle.u_terms.specs.Syntax.{U}
use Rattle.u_rules.specs.Terms.{terms}
use Rattle.u_entail.specs.Following.{Crosses, LandsAt}
use Rattle.u_entail.proofs.products.Parts.{terms-front}
use Rattle.u_entail.proofs.chains.Followed.{hop-within, part-facts, part-stands, hop-stands, hop-followed}
use Rattle.u_entail.proofs.following.Front.along.Goals as goal

pub slice_bounds-front-end : goal.slice_bounds-front-end
slice_bounds-front-end c =
    let refs = c.args.self.now.factors.now in
    let within = hop-within (terms refs) c.args.at.last c.args.hop.now c.requires.leads in
    omega (arith, within, length-map refs (λ r. r.now), length-take c.args.hop.now.factor refs)

pub then_behind-requires-clause-facts : goal.then_behind-requires-clause-facts
then_behind-requires-clause-facts c =
    let m = c.args.self.now.moves in
    let refs = c.args.self.now.factors.now in
    part-facts m.facts.now m.outs (terms refs) c.requires.factors c.args.hop.now c.args.at c.requires.stands c.requires.leads c.in_ok-part.field-0.part (subst (λ (x : U). Crosses m.facts.now m.outs (terms refs) x c.args.hop.now c.in_ok-part.field-0.part) c.get.ensures (c.in_ok-part.ensures {u = tt}).crosses) _ (terms-front refs c.args.hop.now.factor)

pub then_behind-requires-clause-stands : goal.then_behind-requires-clause-stands
then_behind-requires-clause-stands c =
    let m = c.args.self.now.moves in
    let refs = c.args.self.now.factors.now in
    part-stands m.facts.now m.outs (terms refs) c.requires.factors c.args.hop.now c.args.at c.requires.stands c.requires.leads c.in_ok-part.field-0.part (subst (λ (x : U). Crosses m.facts.now m.outs (terms refs) x c.args.hop.now c.in_ok-part.field-0.part) c.get.ensures (c.in_ok-part.ensures {u = tt}).crosses) _ (terms-front refs c.args.hop.now.factor)

pub returns-clause-stands : goal.returns-clause-stands
returns-clause-stands c =
    let m = c.args.self.now.moves in
    let refs = c.args.self.now.factors.now in
    hop-stands m.facts.now m.outs (terms refs) c.requires.factors c.args.hop.now c.args.at c.requires.stands c.requires.leads c.in_ok-part.field-0.part (subst (λ (x : U). Crosses m.facts.now m.outs (terms refs) x c.args.hop.now c.in_ok-part.field-0.part) c.get.ensures (c.in_ok-part.ensures {u = tt}).crosses) _ (terms-front refs c.args.hop.now.factor)
    c.in_ok-deriv.deriv (c.in_ok-deriv.ensures {u = tt}) c.in_ok-part.field-0.landed (subst (λ (x : U). LandsAt (terms refs) x c.args.hop.now c.in_ok-part.field-0.landed) c.get.ensures (c.in_ok-part.ensures {u = tt}).lands)

pub returns-clause-followed : goal.returns-clause-followed
returns-clause-followed c =
    let m = c.args.self.now.moves in
    let refs = c.args.self.now.factors.now in
    hop-followed m.facts.now m.outs (terms refs) c.requires.factors c.args.hop.now c.args.at c.requires.stands c.requires.leads c.in_ok-part.field-0.part (subst (λ (x : U). Crosses m.facts.now m.outs (terms refs) x c.args.hop.now c.in_ok-part.field-0.part) c.get.ensures (c.in_ok-part.ensures {u = tt}).crosses) _ (terms-front refs c.args.hop.now.factor)
    c.in_ok-deriv.deriv (c.in_ok-deriv.ensures {u = tt}) c.in_ok-part.field-0.landed (subst (λ (x : U). LandsAt (terms refs) x c.args.hop.now c.in_ok-part.field-0.landed) c.get.ensures (c.in_ok-part.ensures {u = tt}).lands)
