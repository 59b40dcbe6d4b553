use Rattle.std.proofs.Common.{◌<◌, sym, subst}
use Rattle.data_model.specs.Lists.{Each}
use Rattle.schema_read.proofs.built.Places.{places_low}
use Rattle.schema_read.proofs.keys.add_rule_key.Goals as goal

pub add_key-requires-clause-columns : goal.add_key-requires-clause-columns
add_key-requires-clause-columns c =
    subst (Each (λ column. column < 64)) (sym c.in_ok-key-in-Key.ensures) (places_low c.args.columns.now c.as_slice.result.now c.requires.narrow)
