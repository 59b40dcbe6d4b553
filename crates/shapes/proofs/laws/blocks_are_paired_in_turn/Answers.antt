use Rattle.shapes.proofs.Greedy.{any-alike}
use Rattle.shapes.proofs.laws.blocks_are_paired_in_turn.Goals as goal

pub returns : goal.returns
returns c s t ss ts rest is_s are_ss are_ts out alike all = any-alike s t ss ts rest is_s are_ss are_ts out alike all
