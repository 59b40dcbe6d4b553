use Rattle.std.proofs.Common.{sym, subst, ◌∙◌}
use Rattle.std.specs.Prelude.{Some, None}
use Rattle.std.proofs.lemmas.Bool.{true≢false}
use Rattle.u_terms.specs.Syntax.{U}
use Rattle.u_equal.specs.Routes.{IsChain}
use Rattle.u_equal.proofs.entailment.Answered.{classes-complete}
use Rattle.u_equal.proofs.links.Routed.{chain-of}
use Rattle.u_equal.proofs.classes.Classes.chain.Goals as goal

pub returns-then-not-are_same : goal.returns-then-not-are_same
returns-then-not-are_same c =
    subst (λ (product : U). IsChain product c.args.a.now c.args.b.now None) c.self.view_is
    (λ e. true≢false (sym (c.are_same.ensures.1 (classes-complete c.self.inside.product.now c.self.inside.forest c.self.invariant c.args.a.now c.args.b.now e)) ∙ c.if-not-are_same.true))

pub returns : goal.returns
returns c =
    subst (λ (product : U). IsChain product c.args.a.now c.args.b.now (Some c.in_ok-links.field-0)) c.self.view_is
    (chain-of c.self.inside.product.now c.self.inside.forest c.self.invariant c.args.a.now c.args.b.now (c.are_same.ensures.0 c.if-not-are_same.false) c.in_ok-links.field-0 c.in_ok-links.ensures.leads c.in_ok-links.ensures.counted c.in_ok-links.ensures.nested)
