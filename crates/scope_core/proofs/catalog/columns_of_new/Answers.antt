use Rattle.std.proofs.Common.{false, ap, sym, subst, ◌∙◌}
use Rattle.std.proofs.lemmas.Result.{IfOk-weaker}
use Rattle.scope_core.specs.Names.{is_one_of}
use Rattle.scope_core.specs.Ropes.{IsDirected, columns_within}
use Rattle.scope_core.proofs.basics.Directed.{columns-relation, directed-relation}
use Rattle.scope_core.proofs.basics.NamedColumns.{none-lent}
use Rattle.scope_core.proofs.catalog.columns_of_new.Goals as goal

-- columns of others alone
pub returns-then-declared-eq0-clause-directed : goal.returns-then-declared-eq0-clause-directed
returns-then-declared-eq0-clause-directed c = λ by directed declares.
    subst (λ names. IsDirected by (is_one_of names) c.args.columns) (none-lent c.args.declared.now c.if-declared-eq0.true) directed

pub returns-clause-columns : goal.returns-clause-columns
returns-clause-columns c =
    IfOk-weaker c.of_relation.result _ _ (λ d is. ap columns_within is ∙ columns-relation c.args.number c.args.columns) c.of_relation.ensures

pub returns-clause-directed : goal.returns-clause-directed
returns-clause-directed c =
    IfOk-weaker c.of_relation.result _ _ (λ d is. λ by directed declares.
    subst (λ d. IsDirected by (λ name. false) d) (sym is)
    (directed-relation by (is_one_of c.args.declared.now) c.args.number c.args.columns directed c.args.declared.now (λ name e. e) declares (λ name. false)))
    c.of_relation.ensures
