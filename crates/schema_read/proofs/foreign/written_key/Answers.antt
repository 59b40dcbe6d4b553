use Rattle.std.proofs.Common.{◌<◌, sym, ap, subst, ◌∙◌}
use Rattle.data_model.specs.Lists.{Each}
use Rattle.schema_read.specs.Keys.{places_in}
use Rattle.schema_read.proofs.built.Places.{places_low}
use Rattle.schema_read.proofs.foreign.written_key.Goals as goal

pub is_key-requires-clause-columns : goal.is_key-requires-clause-columns
is_key-requires-clause-columns c =
    let names = c.args.names.now in
    subst (Each (λ column. column < 64)) (sym (c.as_slice-3.ensures ∙ c.in_ok-key.ensures ∙ ap (λ columns. places_in columns names) c.as_slice-2.ensures))
    (places_low c.args.table.now.columns names c.requires.narrow.0)
