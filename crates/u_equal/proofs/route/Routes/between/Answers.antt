use Rattle.std.proofs.Common.{sym, subst, ◌∙◌}
use Rattle.std.proofs.lemmas.Bool.{true≢false}
use Rattle.u_terms.specs.Syntax.{U}
use Rattle.u_equal.specs.Entails.{Entails}
use Rattle.u_equal.specs.Routes.{IsFrom}
use Rattle.u_equal.proofs.entailment.Answered.{classes-complete}
use Rattle.u_equal.proofs.route.Routes.between.Goals as goal

pub returns-then-not-are_same : goal.returns-then-not-are_same
returns-then-not-are_same c =
    let forest = c.self.inside.forest.now in
    subst (λ (product : U). Entails product c.args.from.now c.args.to.now → ⊥) c.self.view_is
    (λ e. true≢false (sym (c.are_same.ensures.1 (classes-complete c.self.inside.product.now forest c.self.invariant.classes c.args.from.now c.args.to.now e)) ∙ c.if-not-are_same.true))

pub returns : goal.returns
returns c = subst (λ (product : U). IsFrom c.counted-route.result product c.args.from.now c.args.to.now) c.self.view_is c.counted-route.ensures
