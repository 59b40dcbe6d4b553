use Rattle.std.proofs.Common.{◌&&◌, [], ◌∷◌, ap, ◌∙◌}
use Rattle.scope_core.specs.Ropes.{are_listed_sound, part_of}
use Rattle.scope_core.proofs.basics.Ropes.{are_listed_sound-append, sound-one}
use Rattle.scope_core.proofs.directed.Joining.push_part.Goals as goal

pub invariant_of-self-2 : goal.invariant_of-self-2
invariant_of-self-2 c =
    ap are_listed_sound c.in_ok-push.ensures.items
    ∙ (are_listed_sound-append c.self.inside.parts.items (part_of c.args.rope ∷ [])
    ∙ λ i. c.self.invariant i && sound-one (part_of c.args.rope) c.requires i)
