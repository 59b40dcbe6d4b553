use Rattle.scope_core.proofs.schema.FittingTrees.{call-fits}
use Rattle.scope_core.proofs.schema.Schemas.{call-plain, call-sound, call-symbols, call-value, call-well, call-wide, handed-cause}
use Rattle.scope_core.proofs.views.resolve.Goals as goal

pub returns-clause-well_formed : goal.returns-clause-well_formed
returns-clause-well_formed c =
    call-well c.args.schema.now c.args.query.now _ c.resolve_over.result c.in_ok-known.ensures.value
    c.resolve_over.ensures.fine c.resolve_over.ensures.value

pub returns-clause-value : goal.returns-clause-value
returns-clause-value c =
    call-value c.args.schema.now c.args.query.now _ c.resolve_over.result c.in_ok-known.ensures.value
    c.resolve_over.ensures.fine c.resolve_over.ensures.value

pub returns-clause-sound : goal.returns-clause-sound
returns-clause-sound c =
    call-sound c.args.schema.now c.args.query.now _ c.resolve_over.result c.in_ok-known.ensures.value
    c.resolve_over.ensures.fine c.resolve_over.ensures.value c.requires.well_formed c.args.views.now c.requires.views

pub returns-clause-fits : goal.returns-clause-fits
returns-clause-fits c =
    call-fits c.args.schema.now.relations.entries c.args.views.now c.resolve_over.result
    (call-sound c.args.schema.now c.args.query.now _ c.resolve_over.result c.in_ok-known.ensures.value
    c.resolve_over.ensures.fine c.resolve_over.ensures.value c.requires.well_formed c.args.views.now c.requires.views)

pub returns-clause-wide : goal.returns-clause-wide
returns-clause-wide c =
    call-wide c.args.schema.now c.args.query.now _ c.resolve_over.result c.in_ok-known.ensures.value
    c.resolve_over.ensures.fine c.resolve_over.ensures.value

pub returns-clause-plain : goal.returns-clause-plain
returns-clause-plain c =
    call-plain c.args.schema.now c.args.query.now _ c.resolve_over.result c.in_ok-known.ensures.value
    c.resolve_over.ensures.fine c.resolve_over.ensures.value

pub returns-clause-err : goal.returns-clause-err
returns-clause-err c =
    handed-cause c.resolve_over.result c.args.schema.now c.args.query.now _ c.in_ok-known.ensures.value
    c.resolve_over.ensures.err

pub returns-clause-symbols : goal.returns-clause-symbols
returns-clause-symbols c =
    call-symbols c.args.schema.now c.args.query.now _ c.resolve_over.result c.in_ok-known.ensures.value
    c.resolve_over.ensures.fine c.resolve_over.ensures.value
