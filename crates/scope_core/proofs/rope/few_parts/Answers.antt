use Rattle.std.proofs.Common.{ap, sym, ◌∙◌}
use Rattle.scope_core.specs.Ropes.{are_listed_sound, columns_listed, stand_listed, stands_among}
use Rattle.scope_core.proofs.basics.Ropes.{joined-columns, joined-sound, stands-Joined-is}
use Rattle.scope_core.proofs.rope.few_parts.Goals as goal

pub returns-in-Joined-clause-columns : goal.returns-in-Joined-clause-columns
returns-in-Joined-clause-columns c =
    joined-columns c.args.rope.now c.in-Joined.parts c.in-Joined.extent c.in-Joined.is ∙ ap columns_listed (sym c.as_slice.ensures)

pub returns-in-Joined-clause-sound : goal.returns-in-Joined-clause-sound
returns-in-Joined-clause-sound c = λ sound.
    ap are_listed_sound c.as_slice.ensures ∙ joined-sound c.args.rope.now c.in-Joined.parts c.in-Joined.extent c.in-Joined.is sound

pub returns-in-Joined-clause-stand : goal.returns-in-Joined-clause-stand
returns-in-Joined-clause-stand c = λ declared outside name.
    ap (λ r. stands_among declared outside name r) c.in-Joined.is
    ∙ (stands-Joined-is declared outside name c.in-Joined.parts c.in-Joined.extent
    ∙ ap (λ ps. stand_listed declared outside name ps) (sym c.as_slice.ensures))
