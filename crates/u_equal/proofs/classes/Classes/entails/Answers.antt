use Rattle.std.proofs.Common.{subst}
use Rattle.std.specs.Prelude.{◌↔◌, IsTrue}
use Rattle.u_terms.specs.Syntax.{U}
use Rattle.u_equal.specs.Entails.{Entails}
use Rattle.u_equal.proofs.entailment.Answered.{classes-sound, classes-complete}
use Rattle.u_equal.proofs.classes.Classes.entails.Goals as goal

pub returns : goal.returns
returns c =
    let p = c.self.inside.product.now in
    let f = c.self.inside.forest in
    subst (λ (product : U). IsTrue c.are_same.result ↔ Entails product c.args.a.now c.args.b.now) c.self.view_is (
      λ t. classes-sound p f c.self.invariant c.args.a.now c.args.b.now (c.are_same.ensures.0 t),
      λ e. c.are_same.ensures.1 (classes-complete p f c.self.invariant c.args.a.now c.args.b.now e),
    )
