use Rattle.std.proofs.Common.{Some, refl, ap, sym, ◌∙◌}
use Rattle.u_entail.proofs.chains.Chained.{no-chain, the-chain}
use Rattle.u_entail.proofs.entailed.append.Goals as goal

pub returns-in-None : goal.returns-in-None
returns-in-None c =
    let p = c.args.classes.now in
    no-chain p p refl c.args.a.now c.args.b.now c.in_ok-chain.field-0 (c.in_ok-chain.ensures {u = tt}) c.in-None.is

pub append_by-requires-clause-chain : goal.append_by-requires-clause-chain
append_by-requires-clause-chain c =
    let p = c.args.classes.now in
    the-chain p p refl c.args.a.now c.args.b.now c.in_ok-chain.field-0 (c.in_ok-chain.ensures {u = tt}) c.as_slice.result.now (c.in-Some.is ∙ ap Some (sym c.as_slice.ensures))
