use Rattle.scope_core.proofs.basics.Catalogs.{Grows-one}
use Rattle.scope_core.proofs.catalog.declare_one.Goals as goal

pub returns-clause-grows : goal.returns-clause-grows
returns-clause-grows c =
    Grows-one c.args.declared.now.entries _ c.args.name.now c.declared_in-before.result c.with.result c.declared_in-before.ensures c.with.ensures.grows
    (λ other. c.in_ok-insert.ensures.updates.0 (record { ref_ptr = (0, 0); now = other }))
