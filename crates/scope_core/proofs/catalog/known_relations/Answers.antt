use Rattle.std.proofs.Common.{◌≡◌, ◌∷◌, ◌+◌, ap, sym, ◌∙◌, arith}
use Rattle.sql_model.specs.declared.schema.Relation.TheVariants as relation
use Rattle.scope_core.specs.Lent.{relations_of}
use Rattle.scope_core.specs.Relations.{known_relations, known_with}
use Rattle.scope_core.proofs.catalog.known_relations.Goals as goal

pub loop-name-preserved-in_ok-add_table-in-Table : goal.loop-name-preserved-in_ok-add_table-in-Table
loop-name-preserved-in_ok-add_table-in-Table c =
    let K = relations_of c.loop-name.known in
    let views = c.loop-name.views in
    let name = c.in-Some.name.now in
    let rest = c.next.new.self in
    let r = relation.Table c.in-Table.table in
    let step : c.loop-name.name-iterator ≡ (name, r) ∷ rest = c.in-Some.ensures.steps ∙ ap (λ r. (name, r) ∷ rest) c.in-Table.is in
    let counted : views ≡ views + 0 = omega arith in (
      tt,
      tt,
      ap (λ ks. known_relations ks views rest) (c.in_ok-add_table-in-Table.ensures views)
          ∙ (ap (λ n. known_relations (known_with K views name r) n rest) counted ∙ (sym (ap (λ rs. known_relations K views rs) step) ∙ c.loop-name.invariant.2)),
    )

pub loop-name-preserved : goal.loop-name-preserved
loop-name-preserved c =
    let K = relations_of c.loop-name.known in
    let views = c.loop-name.views in
    let name = c.in-Some.name.now in
    let rest = c.next.new.self in
    let at = c.in-View.at in
    let r = relation.View c.in-View.query at in
    let step : c.loop-name.name-iterator ≡ (name, r) ∷ rest = c.in-Some.ensures.steps ∙ ap (λ r. (name, r) ∷ rest) c.in-View.is in (
      tt,
      tt,
      ap (λ ks. known_relations ks (views + 1) rest) (c.in_ok-add_view-in-View.ensures at ∙ ap (λ n. known_with K n name r) c.in_ok-number-in-View.ensures.fits)
          ∙ (sym (ap (λ rs. known_relations K views rs) step) ∙ c.loop-name.invariant.2),
    )
