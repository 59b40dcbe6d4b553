use Rattle.u_normal.proofs.derivations.IntoAggregates.{part-moved, led-in_aggregate}
use Rattle.u_normal.proofs.values.then_in_aggregate.Goals as goal

pub then_under-requires-clause-part : goal.then_under-requires-clause-part
then_under-requires-clause-part c =
    part-moved c.args.path.now c.in_ok-path.path (c.in_ok-path.ensures {u = tt}) c.args.whole c.args.part c.into_inner-whole.result c.into_inner.result c.into_inner-whole.ensures c.into_inner.ensures
    c.requires.outs c.requires.closed c.requires.stands

pub returns : goal.returns
returns c =
    led-in_aggregate c.args.path.now c.in_ok-path.path (c.in_ok-path.ensures {u = tt}) c.args.whole c.args.part c.into_inner-whole.result c.into_inner.result c.into_inner-whole.ensures c.into_inner.ensures
    c.in_ok-then_under.field-0 (c.in_ok-then_under.ensures {u = tt}) c.new.result c.new.ensures
