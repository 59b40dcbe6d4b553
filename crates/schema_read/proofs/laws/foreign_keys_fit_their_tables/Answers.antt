use Rattle.schema_read.proofs.built.FkeysFit.{fkeys_fit}
use Rattle.schema_read.proofs.laws.foreign_keys_fit_their_tables.Goals as goal

pub returns : goal.returns
returns c statements schema builds = fkeys_fit statements schema builds
