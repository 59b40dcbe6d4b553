use Rattle.std.proofs.Common.{sym, ◌∙◌}
use Rattle.schema_read.proofs.built.KnownLaws.{known_key}
use Rattle.schema_read.proofs.sets.is_key.Goals as goal

pub returns-in-Some-clause-value : goal.returns-in-Some-clause-value
returns-in-Some-clause-value c =
    c.has_set.ensures
    ∙ known_key c.args.table.now.keys c.in-Some.keys.now.sets.keys c.args.columns.now (c.requires.known c.in-Some.keys.now (sym c.in-Some.ensures.value))
