use Rattle.std.proofs.Common.{Some, ap, sym, ◌∙◌}
use Rattle.u_entail.proofs.chains.Chained.{no-chain, the-chain}
use Rattle.u_entail.proofs.entailed.derive.Goals as goal

pub returns-in-None : goal.returns-in-None
returns-in-None c =
    no-chain c.args.product.now c.in_ok-classes.classes (c.in_ok-classes.ensures {u = tt}) c.args.a.now c.args.b.now c.in_ok-chain.field-0 (c.in_ok-chain.ensures {u = tt}) c.in-None.is

pub derive_by-requires-clause-chain : goal.derive_by-requires-clause-chain
derive_by-requires-clause-chain c =
    the-chain c.args.product.now c.in_ok-classes.classes (c.in_ok-classes.ensures {u = tt}) c.args.a.now c.args.b.now c.in_ok-chain.field-0 (c.in_ok-chain.ensures {u = tt}) c.as_slice.result.now
    (c.in-Some.is ∙ ap Some (sym c.as_slice.ensures))
