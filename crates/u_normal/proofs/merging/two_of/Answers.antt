use Rattle.std.proofs.Common.{Some, subst, ap, ◌∙◌}
use Rattle.u_terms.specs.Syntax.{U}
use Rattle.normal_form.specs.declared.kind.Kind.{Kind}
use Rattle.u_normal.specs.Taking.{HasNone}
use Rattle.u_normal.specs.Merging.{wrap_kind}
use Rattle.u_normal.proofs.products.Takings.{found-some, found-none}
use Rattle.u_normal.proofs.products.Merges.{few-none, few-one}
use Rattle.u_normal.proofs.merging.two_of.Goals as goal

pub returns-in-None : goal.returns-in-None
returns-in-None c =
    few-none c.args.wrap c.args.u.now
    (subst (λ (k : Kind). HasNone (Some k) c.args.u.now) c.kind.ensures (found-none (Some c.kind.result) c.args.u.now c.in_ok-first.field-0 c.in-None.is (c.in_ok-first.ensures {u = tt})))

pub returns-in-None-2 : goal.returns-in-None-2
returns-in-None-2 c =
    let first = found-some (Some c.kind.result) c.args.u.now c.in_ok-first.field-0 c.in-Some.first c.in-Some.is (c.in_ok-first.ensures {u = tt}) in
    few-one c.args.wrap c.args.u.now c.in-Some.first.rest c.in-Some.first.part first.takes
    (first.kind_is ∙ ap (λ (k : Kind). Some k) c.kind.ensures)
    (subst (λ (t : U). HasNone (Some (wrap_kind c.args.wrap)) t) c.get.ensures
    (subst (λ (k : Kind). HasNone (Some k) c.get.result.now) c.kind-2.ensures (found-none (Some c.kind-2.result) c.get.result.now c.in_ok-second.field-0 c.in-None-2.is (c.in_ok-second.ensures {u = tt}))))
