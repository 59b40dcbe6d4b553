use Rattle.std.proofs.Common.{◌≡◌, ◌∙◌}
use Rattle.std.proofs.lemmas.Result.{IfOk-weaker}
use Rattle.u_terms.specs.Syntax.{U}
use Rattle.u_rules.specs.Answers.{left_found, right_found, side_found}
use Rattle.u_rules.specs.Rows.{row}
use Rattle.u_rules.proofs.arguments.TemplatesAt.{row-sides, side-chosen}
use Rattle.u_rules.proofs.instances.side.Goals as goal

pub returns-in-Ok : goal.returns-in-Ok
returns-in-Ok c =
    let sides = c.in-Ok.found in
    IfOk-weaker c.build.result (λ (u : U). u ≡ side_found c.args.turned sides) _
    (λ u is l r i. is ∙ side-chosen c.args.turned (left_found sides) (right_found sides) l r (row-sides (row c.args.facts.now c.args.rule c.args.args.now) (left_found sides) (right_found sides) l r c.in-Ok.ensures i.row))
    c.build.ensures
