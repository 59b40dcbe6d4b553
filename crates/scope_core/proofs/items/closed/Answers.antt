use Rattle.scope_core.proofs.basics.Written.{written-closed}
use Rattle.scope_core.proofs.items.closed.Goals as goal

pub returns : goal.returns
returns g c =
    rw (c.in_ok-push.ensures.items, c.in_ok-new.ensures, c.from_vec.ensures, c.shrink_to_fit.ensures.items, c.into_vec-values.ensures)
    (written-closed c.args.parts.items c.args.last)
