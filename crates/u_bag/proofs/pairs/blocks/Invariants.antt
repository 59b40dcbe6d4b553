use Rattle.std.proofs.Common.{take}
use Rattle.u_rules.specs.Terms.{terms}
use Rattle.u_bag.specs.Pairs.{AreBlocks}
use Rattle.u_bag.proofs.pairs.blocks.Given as goal

abbrev pub invariant-loop-term : goal.invariant-loop-term
invariant-loop-term l = AreBlocks l.outs (terms (take l.term-index l.terms)) l.blocks.items
