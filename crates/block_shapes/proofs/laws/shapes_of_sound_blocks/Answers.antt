use Rattle.block_shapes.proofs.DrawnShapes.{drawn-whole}
use Rattle.block_shapes.proofs.laws.shapes_of_sound_blocks.Goals as goal

pub returns-clause-whole : goal.returns-clause-whole
returns-clause-whole c s drawn = drawn-whole s drawn
