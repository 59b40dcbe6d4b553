use Rattle.std.proofs.Common.{ap, is_some, refl, sym, ◌∙◌}
use Rattle.scope_core.proofs.basics.Occurring.{noted-again, noted-once, not-absent}
use Rattle.scope_core.proofs.names.note.Goals as goal

-- a name that was there before
pub returns-in_ok-insert-in-Some-clause-seen : goal.returns-in_ok-insert-in-Some-clause-seen
returns-in_ok-insert-in-Some-clause-seen c = ap (λ o. is_some o) (sym c.in-Some.is ∙ c.in_ok-before.ensures.old)

pub returns-in_ok-insert-in-Some-clause-noted : goal.returns-in_ok-insert-in-Some-clause-noted
returns-in_ok-insert-in-Some-clause-noted c =
    noted-again c.args.name.now c.args.index.now.entries _ _ _ c.in-Some.before c.args.place (sym c.in_ok-before.ensures.old ∙ c.in-Some.is)
    (λ other. c.in_ok-before.ensures.updates.0 (record { ref_ptr = (0, 0); now = other }))
    (λ other. c.in_ok-insert-in-Some.ensures.updates.0 (record { ref_ptr = (0, 0); now = other }))

-- there is room for it, since it has its place
pub returns-in_err-insert-in-Some-clause-err : goal.returns-in_err-insert-in-Some-clause-err
returns-in_err-insert-in-Some-clause-err c =
    absurd (not-absent c.args.name.now c.args.index.now.entries _ _ (c.in_ok-before.ensures.updates.0 c.args.name) c.in_err-insert-in-Some.ensures.absent)

-- a new one
pub returns-in-None-clause-seen : goal.returns-in-None-clause-seen
returns-in-None-clause-seen c = ap (λ o. is_some o) (sym c.in-None.is ∙ c.in_ok-before.ensures.old)

pub returns-in-None-clause-noted : goal.returns-in-None-clause-noted
returns-in-None-clause-noted c =
    noted-once c.args.name.now c.args.index.now.entries _ _ c.args.place refl (sym c.in_ok-before.ensures.old ∙ c.in-None.is)
    (λ other. c.in_ok-before.ensures.updates.0 (record { ref_ptr = (0, 0); now = other }))
