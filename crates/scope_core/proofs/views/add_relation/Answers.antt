use Rattle.std.proofs.Common.{◌≡◌, length, ap, sym, ◌∙◌, arith}
use Rattle.sql_model.specs.declared.schema.Relation.TheVariants as relation
use Rattle.scope_core.specs.Lent.{relations_of}
use Rattle.scope_core.specs.Relations.{known_with}
use Rattle.scope_core.proofs.views.add_relation.Goals as goal

pub returns-in_ok-add_table-in-Table-clause-known : goal.returns-in_ok-add_table-in-Table-clause-known
returns-in_ok-add_table-in-Table-clause-known c =
    let K = relations_of c.args.known.now in
    let views = length c.args.trees.now.items in
    c.in_ok-add_table-in-Table.ensures views ∙ ap (λ r. known_with K views c.args.name.now r) (sym c.in-Table.is)

pub returns-in_ok-add_view-in-View-clause-known : goal.returns-in_ok-add_view-in-View-clause-known
returns-in_ok-add_view-in-View-clause-known c =
    let K = relations_of c.args.known.now in
    let views = length c.args.trees.now.items in
    let place : c.in_ok-place-in-View.place ≡ views = c.in_ok-place-in-View.ensures.fits ∙ (c.len.ensures ∙ grind (arith, c.args.trees.now.ok)) in
    c.in_ok-add_view-in-View.ensures c.in-View.at
    ∙ (ap (λ n. known_with K n c.args.name.now (relation.View c.in-View.query c.in-View.at)) place
    ∙ ap (λ r. known_with K views c.args.name.now r) (sym c.in-View.is))
