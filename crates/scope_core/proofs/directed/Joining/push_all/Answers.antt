use Rattle.std.proofs.Common.{ap, ◌∙◌}
use Rattle.scope_core.specs.Ropes.{is_sound}
use Rattle.scope_core.proofs.basics.Ropes.{sound-at}
use Rattle.scope_core.proofs.directed.Joining.push_all.Goals as goal

pub push_part-requires : goal.push_part-requires
push_part-requires c =
    ap is_sound c.in_ok-share.ensures ∙ sound-at c.args.parts.now c.loop-part.part-index c.part-item.result c.loop-part-test.true c.part-item.is c.requires
