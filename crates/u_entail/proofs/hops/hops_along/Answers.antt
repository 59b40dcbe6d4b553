use Rattle.std.proofs.Common.{◌≡◌, ◌+◌, List, [], ◌∷◌, ◌++◌, append_assoc, drop, ap, sym, ◌∙◌, subst, arith}
use Rattle.std.proofs.lemmas.List.{append-nil, drop_all}
use Rattle.u_equal.specs.Routes.{Course}
use Rattle.u_entail.specs.declared.hops.Hop.{Hop}
use Rattle.u_entail.specs.Carrying.{AlongCourses}
use Rattle.u_entail.proofs.copies.Carried.{along-none, along-more}
use Rattle.u_entail.proofs.products.Lists.{drop-item}
use Rattle.u_entail.proofs.hops.hops_along.Goals as goal

pub loop-k-preserved : goal.loop-k-preserved
loop-k-preserved c = λ made rest.
    let k = c.loop-k.k in
    let route = c.index-routes-k.result in
    let left : List Course = drop (k + 1) c.args.routes.now in
    let next : drop k c.args.routes.now ≡ route ∷ left = drop-item c.args.routes.now k route (omega arith) c.index-routes-k.is in
    let h = c.in_ok-push_route.ensures in
    subst (λ (hs : List Hop). AlongCourses 0 c.args.routes.now hs) (sym (append_assoc c.loop-k.hops.items h.hops made) ∙ ap (λ (hs : List Hop). hs ++ made) (sym h.is))
    (c.loop-k.invariant (h.hops ++ made) (subst (λ (cs : List Course). AlongCourses k cs (h.hops ++ made)) (sym next) (along-more k route left c.loop-k.hops.items c.push_route.new.hops.items h made rest)))

pub returns : goal.returns
returns c =
    let k = c.loop-k.k in
    subst (λ (hs : List Hop). AlongCourses 0 c.args.routes.now hs) (append-nil c.loop-k.hops.items)
    (c.loop-k.invariant [] (subst (λ (cs : List Course). AlongCourses k cs []) (sym (drop_all k c.args.routes.now (omega arith))) (along-none k)))
