use Rattle.schema_read.proofs.built.TableNumbers.{numbered}
use Rattle.schema_read.proofs.laws.tables_are_numbered_in_order.Goals as goal

pub returns : goal.returns
returns c statements schema builds = numbered statements schema builds
