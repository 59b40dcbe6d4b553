use Rattle.std.proofs.Common.{◌≡◌, List, Bool, Some, sym, subst}
use Rattle.std.specs.Prelude.{slice_get}
use Rattle.std.proofs.lemmas.Result.{IfOk-weaker}
use Rattle.u_rules.specs.Terms.{terms}
use Rattle.u_equal.specs.Routes.{Course}
use Rattle.u_entail.specs.declared.hops.Hop.{Hop}
use Rattle.u_entail.specs.Carrying.{AlongCourses, LeadsEither, MarkCourse}
use Rattle.u_entail.specs.Copies.{CopiesAlong}
use Rattle.u_entail.specs.Gaining.{Begins}
use Rattle.u_entail.proofs.copies.Copied.{exchanged-copied, exchanged-lead, straight-copied, straight-lead}
use Rattle.u_entail.proofs.copying.copy_mark_along.Goals as goal

pub copied_difference-requires-clause-lead : goal.copied_difference-requires-clause-lead
copied_difference-requires-clause-lead c =
    let m = c.args.moves in
    let p = c.route.inside in
    let v = c.route.invariant in
    let factors = terms c.args.factors.now in
    let begins = subst (λ (r : MarkCourse). Begins r.product factors) (sym c.route.view_is) c.requires.begins in
    let at = subst (λ (r : MarkCourse). slice_get factors c.args.place ≡ Some r.mark) (sym c.route.view_is) c.requires.at in
    let along = subst (λ (hs : List Hop). AlongCourses 0 p.points.items hs) (sym c.as_slice-then-route.ensures.value) (subst (λ (cs : List Course). AlongCourses 0 cs c.in_ok-hops.hops.items) c.as_slice.ensures.value (c.in_ok-hops.ensures {u = tt})) in
    let leads = subst (λ (b : Bool). LeadsEither p.classes.now p.mark.now p.wanted.now b p.points.items) c.if-route.true v.leads in
    exchanged-lead m.facts.now m.outs p.classes.now factors begins c.args.place p.mark.now p.wanted.now at p.points.items p.links v.is c.as_slice-then-route.result.now along leads

pub returns-then-route : goal.returns-then-route
returns-then-route c =
    let m = c.args.moves in
    let p = c.route.inside in
    let v = c.route.invariant in
    let factors = terms c.args.factors.now in
    let begins = subst (λ (r : MarkCourse). Begins r.product factors) (sym c.route.view_is) c.requires.begins in
    let at = subst (λ (r : MarkCourse). slice_get factors c.args.place ≡ Some r.mark) (sym c.route.view_is) c.requires.at in
    let along = subst (λ (hs : List Hop). AlongCourses 0 p.points.items hs) (sym c.as_slice-then-route.ensures.value) (subst (λ (cs : List Course). AlongCourses 0 cs c.in_ok-hops.hops.items) c.as_slice.ensures.value (c.in_ok-hops.ensures {u = tt})) in
    let leads = subst (λ (b : Bool). LeadsEither p.classes.now p.mark.now p.wanted.now b p.points.items) c.if-route.true v.leads in
    IfOk-weaker c.copied_difference.result _ _
    (λ d h. subst (λ (r : MarkCourse). CopiesAlong m.facts.now m.outs r factors d) c.route.view_is (exchanged-copied m.facts.now m.outs p.classes.now factors begins c.args.place p.mark.now p.wanted.now at p.points.items p.links v.is c.as_slice-then-route.result.now along leads d h)) c.copied_difference.ensures

pub copied-requires-clause-lead : goal.copied-requires-clause-lead
copied-requires-clause-lead c =
    let m = c.args.moves in
    let p = c.route.inside in
    let v = c.route.invariant in
    let factors = terms c.args.factors.now in
    let begins = subst (λ (r : MarkCourse). Begins r.product factors) (sym c.route.view_is) c.requires.begins in
    let at = subst (λ (r : MarkCourse). slice_get factors c.args.place ≡ Some r.mark) (sym c.route.view_is) c.requires.at in
    let along = subst (λ (hs : List Hop). AlongCourses 0 p.points.items hs) (sym c.as_slice-else-route.ensures.value) (subst (λ (cs : List Course). AlongCourses 0 cs c.in_ok-hops.hops.items) c.as_slice.ensures.value (c.in_ok-hops.ensures {u = tt})) in
    let leads = subst (λ (b : Bool). LeadsEither p.classes.now p.mark.now p.wanted.now b p.points.items) c.if-route.false v.leads in
    straight-lead m.facts.now m.outs p.classes.now factors begins c.args.place p.mark.now p.wanted.now at p.points.items p.links v.is c.as_slice-else-route.result.now along leads

pub returns : goal.returns
returns c =
    let m = c.args.moves in
    let p = c.route.inside in
    let v = c.route.invariant in
    let factors = terms c.args.factors.now in
    let begins = subst (λ (r : MarkCourse). Begins r.product factors) (sym c.route.view_is) c.requires.begins in
    let at = subst (λ (r : MarkCourse). slice_get factors c.args.place ≡ Some r.mark) (sym c.route.view_is) c.requires.at in
    let along = subst (λ (hs : List Hop). AlongCourses 0 p.points.items hs) (sym c.as_slice-else-route.ensures.value) (subst (λ (cs : List Course). AlongCourses 0 cs c.in_ok-hops.hops.items) c.as_slice.ensures.value (c.in_ok-hops.ensures {u = tt})) in
    let leads = subst (λ (b : Bool). LeadsEither p.classes.now p.mark.now p.wanted.now b p.points.items) c.if-route.false v.leads in
    IfOk-weaker c.copied.result _ _
    (λ d h. subst (λ (r : MarkCourse). CopiesAlong m.facts.now m.outs r factors d) c.route.view_is (straight-copied m.facts.now m.outs p.classes.now factors begins c.args.place p.mark.now p.wanted.now at p.points.items p.links v.is c.as_slice-else-route.result.now along leads d h)) c.copied.ensures
