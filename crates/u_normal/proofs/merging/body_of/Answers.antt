use Rattle.std.proofs.Common.{sym, ◌∙◌, ap}
use Rattle.u_terms.specs.Syntax.{U}
use Rattle.u_normal.specs.Merging.{wrapped}
use Rattle.u_normal.proofs.products.Merges.{wrapped-squash, wrapped-not, nothing-else}
use Rattle.u_normal.proofs.merging.body_of.Goals as goal

pub unreachable-requires : goal.unreachable-requires
unreachable-requires c = nothing-else c.args.wrap c.args.u.now c.requires c.in_default.not-Squash c.in_default.not-Not

pub returns-in-Squash : goal.returns-in-Squash
returns-in-Squash c = wrapped-squash c.args.wrap c.args.u.now c.in-Squash.p c.in-Squash.is c.requires ∙ ap (λ (p : U). wrapped c.args.wrap p) (sym c.get.ensures)

pub returns-in-Not : goal.returns-in-Not
returns-in-Not c = wrapped-not c.args.wrap c.args.u.now c.in-Not.p c.in-Not.is c.requires ∙ ap (λ (p : U). wrapped c.args.wrap p) (sym c.get-in-Not.ensures)
