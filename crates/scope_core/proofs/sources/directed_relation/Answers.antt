use Rattle.std.proofs.Common.{false, refl, ap, sym, subst, ◌∙◌}
use Rattle.std.proofs.lemmas.Result.{IfOk-weaker}
use Rattle.scope_core.specs.Catalogs.{declared_by}
use Rattle.scope_core.specs.Lent.{relation_of, relations_of}
use Rattle.scope_core.specs.Ropes.{IsDirected, columns_within}
use Rattle.scope_core.proofs.basics.Booleans.{no}
use Rattle.scope_core.proofs.basics.Catalogs.{columns_of-found, columns_of-missing}
use Rattle.scope_core.proofs.basics.Directed.{directed-grows, stays}
use Rattle.scope_core.proofs.sources.directed_relation.Goals as goal

pub returns-in-Some-clause-columns : goal.returns-in-Some-clause-columns
returns-in-Some-clause-columns c =
    IfOk-weaker c.share.result _ _
    (λ d is. ap columns_within is ∙ sym (columns_of-found c.args.name.now (relations_of c.args.known.now) (relation_of c.in-Some.relation.now) c.in-Some.ensures.value))
    c.share.ensures

pub returns-in-Some-clause-directed : goal.returns-in-Some-clause-directed
returns-in-Some-clause-directed c =
    let declared = declared_by c.args.known.now in
    IfOk-weaker c.share.result _ _
    (λ d is. λ outside. subst (IsDirected declared outside) (sym is)
    (directed-grows declared declared (λ name. false) outside (stays declared) (λ name e. absurd (no (sym e))) c.in-Some.relation.now.columns
    c.in-Some.ensures.directed))
    c.share.ensures

pub returns-in-None-clause-columns : goal.returns-in-None-clause-columns
returns-in-None-clause-columns c =
    ap columns_within c.new.ensures ∙ sym (columns_of-missing c.args.name.now (relations_of c.args.known.now) c.in-None.ensures.value)

pub returns-in-None-clause-directed : goal.returns-in-None-clause-directed
returns-in-None-clause-directed c = λ outside. subst (IsDirected (declared_by c.args.known.now) outside) (sym c.new.ensures) (λ name. refl)
