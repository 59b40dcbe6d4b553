use Rattle.schema_read.proofs.built.FkeysFit.{keys_fit, primary_keys_fit}
use Rattle.schema_read.proofs.laws.keys_fit_their_tables.Goals as goal

pub returns : goal.returns
returns c = record { columns = keys_fit; primary = primary_keys_fit }
