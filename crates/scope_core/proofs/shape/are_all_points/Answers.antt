use Rattle.std.proofs.Common.{ap, sym, ◌∙◌}
use Rattle.std.specs.Prelude.{◌&&◌}
use Rattle.std.specs.List.{list_all}
use Rattle.scope_core.specs.Plain.{is_tree_point}
use Rattle.scope_core.proofs.basics.Written.{all-written}
use Rattle.scope_core.proofs.shape.are_all_points.Goals as goal

pub returns-then-are_parts_points : goal.returns-then-are_parts_points
returns-then-are_parts_points c =
    let parts = c.parts-parts.result.before.now in
    let last = c.parts-parts.result.last.now in
    let first = sym c.are_parts_points.ensures ∙ c.if-are_parts_points.true in
    c.are_points.ensures
    ∙ (ap (λ b. b && list_all (λ value. is_tree_point value) last) (sym first)
    ∙ (all-written (λ value. is_tree_point value) parts last ∙ ap (λ xs. list_all (λ value. is_tree_point value) xs) c.parts-parts.ensures))

pub returns-else-are_parts_points : goal.returns-else-are_parts_points
returns-else-are_parts_points c =
    let parts = c.parts-parts.result.before.now in
    let last = c.parts-parts.result.last.now in
    let first = sym c.are_parts_points.ensures ∙ c.if-are_parts_points.false in
    c.if-are_parts_points.false
    ∙ (ap (λ b. b && list_all (λ value. is_tree_point value) last) (sym first)
    ∙ (all-written (λ value. is_tree_point value) parts last ∙ ap (λ xs. list_all (λ value. is_tree_point value) xs) c.parts-parts.ensures))
