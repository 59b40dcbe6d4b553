use Rattle.std.proofs.Common.{◌≡◌, ◌+◌, List, [], ◌∷◌, ◌++◌, append_assoc, drop, ap, sym, ◌∙◌, subst, arith}
use Rattle.std.proofs.lemmas.List.{append-nil, drop_all}
use Rattle.u_terms.specs.Syntax.{U}
use Rattle.u_equal.specs.Routes.{Course, IsFrom}
use Rattle.u_entail.specs.declared.carrying.Pair.{Pair}
use Rattle.u_entail.specs.Carrying.{LeadAlong}
use Rattle.u_entail.proofs.copies.Carried.{lead-none, lead-more, point-from}
use Rattle.u_entail.proofs.products.Lists.{drop-item}
use Rattle.u_entail.proofs.carrying.routes_of.Goals as goal

pub loop-pair-preserved : goal.loop-pair-preserved
loop-pair-preserved c = λ made rest.
    let product = c.args.classes.now in
    let k = c.loop-pair.pair-index in
    let one = c.pair-item.result in
    let route = c.in-Some.route in
    let left : List Pair = drop (k + 1) c.args.pairs.now in
    let next : drop k c.args.pairs.now ≡ one ∷ left = drop-item c.args.pairs.now k one (omega arith) c.pair-item.is in
    let from = subst (λ (p : U). IsFrom route p one.from.now one.to.now) (c.in_ok-counted.ensures {u = tt})
    (point-from c.in_ok-counted.counted one.from.now one.to.now c.in_ok-route.field-0 (c.in_ok-route.ensures {u = tt}) route c.in-Some.is) in
    subst (λ (cs : List Course). LeadAlong product c.args.pairs.now cs) (sym (append_assoc c.loop-pair.routes.items (route ∷ []) made) ∙ ap (λ (cs : List Course). cs ++ made) (sym c.in_ok-push.ensures.items))
    (c.loop-pair.invariant (route ∷ made) (subst (λ (ps : List Pair). LeadAlong product ps (route ∷ made)) (sym next) (lead-more product one route from left made rest)))

pub returns : goal.returns
returns c =
    let k = c.loop-pair.pair-index in
    subst (λ (cs : List Course). LeadAlong c.args.classes.now c.args.pairs.now cs) (append-nil c.loop-pair.routes.items)
    (c.loop-pair.invariant [] (subst (λ (ps : List Pair). LeadAlong c.args.classes.now ps []) (sym (drop_all k c.args.pairs.now (omega arith))) (lead-none c.args.classes.now)))
