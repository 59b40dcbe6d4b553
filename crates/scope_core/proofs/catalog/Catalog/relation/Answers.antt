use Rattle.std.proofs.Common.{◌≡◌, find, false, None, Some, ap, sym, subst, ◌∙◌}
use Rattle.sql_model.specs.Columns.{same_name}
use Rattle.scope_core.specs.Catalogs.{declared_by, declared_in}
use Rattle.scope_core.specs.Lent.{relation_of, relations_of}
use Rattle.scope_core.specs.Names.{occurrences}
use Rattle.scope_core.specs.Ropes.{IsDirected}
use Rattle.scope_core.proofs.basics.Catalogs.{found-none, found-seen, names_in}
use Rattle.scope_core.proofs.basics.Each.{Each-at}
use Rattle.scope_core.proofs.catalog.Catalog.relation.Goals as goal

pub returns-in-Some-clause-value : goal.returns-in-Some-clause-value
returns-in-Some-clause-value c =
    let name = c.args.name.now in
    let relations = c.self.inside.relations.items in
    let seen : occurrences name (names_in relations) ≡ Some c.in-Some.seen = sym (sym c.in-Some.is ∙ (c.find.ensures ∙ ap (λ names. occurrences name names) c.self.invariant.1)) in
    ap (λ known. Some (relation_of known)) c.index.ensures
    ∙ sym (ap (λ catalog. find (λ k. same_name name k.name) (relations_of catalog)) (sym c.self.view_is)
    ∙ (found-seen name relations c.in-Some.seen seen).1 c.index.result.now)

pub returns-in-Some-clause-directed : goal.returns-in-Some-clause-directed
returns-in-Some-clause-directed c =
    let name = c.args.name.now in
    let declared = declared_in c.self.inside.declared.entries in
    let relations = c.self.inside.relations.items in
    let seen : occurrences name (names_in relations) ≡ Some c.in-Some.seen = sym (sym c.in-Some.is ∙ (c.find.ensures ∙ ap (λ names. occurrences name names) c.self.invariant.1)) in
    subst (λ catalog. IsDirected (declared_by catalog) (λ n. false) c.index.result.now.columns) c.self.view_is
    (Each-at (λ k. IsDirected declared (λ n. false) k.columns) relations c.in-Some.seen.first c.index.result.now c.self.invariant.0 (found-seen name relations c.in-Some.seen seen).0 c.index.ensures)

pub returns-in-None-clause-value : goal.returns-in-None-clause-value
returns-in-None-clause-value c =
    let name = c.args.name.now in
    let none : occurrences name (names_in c.self.inside.relations.items) ≡ None = sym (sym c.in-None.is ∙ (c.find.ensures ∙ ap (λ names. occurrences name names) c.self.invariant.1)) in
    sym (ap (λ catalog. find (λ k. same_name name k.name) (relations_of catalog)) (sym c.self.view_is) ∙ found-none name c.self.inside.relations.items none)
