use Rattle.std.proofs.Common.{Some, refl, ap, sym, ◌∙◌}
use Rattle.std.proofs.lemmas.Result.{on_ok_weaker}
use Rattle.u_entail.proofs.chains.Chained.{the-chain}
use Rattle.u_entail.proofs.hops.push_chain.Goals as goal

pub returns : goal.returns
returns c =
    let p = c.args.classes.now in
    let links = c.as_slice.result.now in
    let chain = the-chain p p refl c.args.from.now c.args.to.now c.in_ok-links.field-0 (c.in_ok-links.ensures {u = tt}) links (c.in-Some.is ∙ ap Some (sym c.as_slice.ensures)) in
    on_ok_weaker c.push_hops.result (λ pushed. record { hops = pushed.hops; is = pushed.is; links = links; chain = chain; are = pushed.are }) c.push_hops.ensures
