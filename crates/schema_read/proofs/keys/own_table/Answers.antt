use Rattle.std.proofs.Common.{◌∙◌, ap, sym, subst}
use Rattle.schema_read.specs.Tables.{table_of, written_keys}
use Rattle.schema_read.proofs.built.KeyLaws.{built_table-is}
use Rattle.schema_read.specs.Building.{IsNarrow}
use Rattle.schema_read.proofs.built.Steps.{own_narrow}
use Rattle.schema_read.proofs.keys.own_table.Goals as goal

pub returns-clause-table : goal.returns-clause-table
returns-clause-table c =
    let number = c.args.number in
    let rules = c.args.rules.now in
    c.in_ok-table.ensures ∙ built_table-is number c.in_ok-names.names rules
    ∙ ap (λ names. table_of number names (written_keys names rules)) c.in_ok-names.ensures

pub returns-clause-narrow : goal.returns-clause-narrow
returns-clause-narrow c =
    subst IsNarrow (sym (returns-clause-table c)) (own_narrow c.args.number c.args.columns.now c.args.rules.now c.requires.narrow)
