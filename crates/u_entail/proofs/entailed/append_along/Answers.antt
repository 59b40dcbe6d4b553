use Rattle.std.proofs.Common.{List, Some, length, sym, subst}
use Rattle.std.proofs.lemmas.Result.{IfOk-weaker}
use Rattle.u_rules.specs.Terms.{terms}
use Rattle.u_equal.specs.declared.link.Link.{Link}
use Rattle.u_equal.specs.Routes.{AreCounted, IsChain}
use Rattle.u_equal.specs.Standing.{standing}
use Rattle.u_entail.proofs.chains.Along.{along, course-by}
use Rattle.u_entail.proofs.entailed.append_along.Goals as goal

pub appended-requires-clause-leads : goal.appended-requires-clause-leads
appended-requires-clause-leads c =
    let course = c.args.route.now in
    let chain = subst (λ (ls : List Link). IsChain course.product course.from course.to (Some ls)) (sym c.as_slice.ensures) c.in_ok-links.ensures.leads in
    (length (standing course.product), c.args.b.now, course-by course (terms c.args.factors.now) c.requires.begins c.args.a.now c.args.b.now c.requires.from c.requires.to c.as_slice.result.now chain)

pub returns : goal.returns
returns c =
    let course = c.args.route.now in
    let chain = subst (λ (ls : List Link). IsChain course.product course.from course.to (Some ls)) (sym c.as_slice.ensures) c.in_ok-links.ensures.leads in
    let counted = subst (λ (ls : List Link). AreCounted ls course.links) (sym c.as_slice.ensures) c.in_ok-links.ensures.counted in
    IfOk-weaker c.appended.result _ _
    (λ d h. along c.args.moves.facts.now c.args.moves.outs course (terms c.args.factors.now) c.requires.begins c.args.a.now c.args.b.now c.requires.a c.requires.from c.requires.to c.as_slice.result.now chain counted d h)
    c.appended.ensures
