use Rattle.std.proofs.Common.{sym, ◌∙◌}
use Rattle.schema_read.specs.StatementReaders.{no_column}
use Rattle.schema_read.proofs.agree.StatementLoops.{refused_given}
use Rattle.schema_read.proofs.reading.elements.no_column.Goals as goal

pub returns : goal.returns
unfolding no_column
returns c = record { does = rw (sym c.sees_any.ensures ∙ c.if-sees_any.false) (refused_given _ c.fault.result c.args.tokens.now c.fault.ensures.fault) }
