use Rattle.block_shapes.proofs.PlainTrees.{plain-unmarked}
use Rattle.block_shapes.proofs.laws.unmarked_blocks_are_plain.Goals as goal

pub returns-clause-plain : goal.returns-clause-plain
returns-clause-plain c tree is_plain sound = plain-unmarked tree is_plain sound
