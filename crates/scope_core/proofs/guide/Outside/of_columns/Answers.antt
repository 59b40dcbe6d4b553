use Rattle.std.proofs.Common.{ap, sym, ◌∙◌}
use Rattle.std.specs.List.{list_any}
use Rattle.sql_model.specs.Columns.{is_called}
use Rattle.scope_core.specs.Names.{is_one_of}
use Rattle.scope_core.proofs.basics.NamedColumns.{any-lent, none-lent}
use Rattle.scope_core.proofs.guide.Outside.of_columns.Goals as goal

-- columns that all stand in relations
pub returns-then-names-eq0 : goal.returns-then-names-eq0
returns-then-names-eq0 c = λ name own. ap (λ names. is_one_of names name) (sym (none-lent c.args.names.now c.if-names-eq0.true)) ∙ own

pub returns : goal.returns
returns c = λ name own.
    ap (λ names. list_any (is_called name) names) (c.in_ok-new.ensures ∙ c.in_ok-of_lent.ensures) ∙ (any-lent name c.args.names.now ∙ own)
