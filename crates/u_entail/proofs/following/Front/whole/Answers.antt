use Rattle.std.proofs.Common.{◌-◌, length, take, ap, sym, ◌∙◌, arith}
use Rattle.std.proofs.lemmas.Result.{IfOk-weaker}
use denote.Ref.{Bor}
use Rattle.u_terms.specs.Syntax.{U}
use Rattle.u_terms.specs.Products.{product_of}
use Rattle.u_rules.specs.Terms.{terms}
use Rattle.u_entail.specs.Spines.{spine}
use Rattle.u_entail.proofs.products.Parts.{terms-last}
use Rattle.u_entail.proofs.products.Spines.{product-spine}
use Rattle.u_entail.proofs.following.Front.whole.Goals as goal

pub returns : goal.returns
returns c =
    let refs = c.args.self.now.factors.now in
    let last = c.index-self-count.result in
    let parts = terms-last refs (length refs - 1) last (omega arith) c.index-self-count.is in
    IfOk-weaker c.new-2.result _ _
    (λ u e. e ∙ c.in_ok-spine.ensures {u = tt} ∙ ap (λ (t : U). spine (terms (take (length refs - 1) refs)) t) (c.in_ok-last.ensures {u = tt} ∙ ap (λ (r : Bor U). r.now) (sym c.index-self-count.is))
    ∙ sym (ap product_of parts ∙ product-spine (terms (take (length refs - 1) refs)) last.now))
    c.new-2.ensures
