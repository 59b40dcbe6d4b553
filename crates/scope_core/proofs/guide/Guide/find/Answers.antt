use Rattle.std.proofs.Common.{ap, ◌∙◌}
use Rattle.scope_core.specs.Names.{occurrences}
use Rattle.scope_core.specs.Ropes.{stands_within}
use Rattle.scope_core.proofs.guide.Guide.find.Goals as goal

-- a name stands only where relations declare it, or where it may stand outside of them
pub find_among-requires : goal.find_among-requires
find_among-requires c =
    let name = c.args.name.now in
    (λ i. stands_within (c.declared.ensures i) (c.admits.ensures i) name c.self.inside.columns) ∙ c.self.invariant name

pub returns : goal.returns
returns c = c.find_among.ensures ∙ ap (λ columns. occurrences c.args.name.now columns) c.self.view_is

pub returns-in-Some : goal.returns-in-Some
returns-in-Some c = c.in-Some.ensures ∙ ap (λ columns. occurrences c.args.name.now columns) c.self.view_is
