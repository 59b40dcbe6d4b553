use Rattle.std.proofs.Common.{ap, ◌∙◌}
use Rattle.sql_to_u.specs.Sizes.{both, with_factor}
use Rattle.sql_to_u.proofs.sizes.SizeLaws.{keys-step, keys-end}
use Rattle.sql_to_u.proofs.sizing.block.add_keys.Goals as goal

pub loop-column-preserved : goal.loop-column-preserved
loop-column-preserved c =
    keys-step c.args.key.now c.loop-column._column-index c.loop-column.factors _ _ c.loop-column-test.true
    (c.with-factors.ensures ∙ ap (with_factor c.loop-column.factors) (c.both.ensures ∙ (λ j. both (c.leaf.ensures j) (c.leaf-in-loop-column.ensures j)))) c.loop-column.invariant

pub returns : goal.returns
returns c = keys-end c.args.key.now c.loop-column._column-index _ _ c.loop-column-test.false c.loop-column.invariant
