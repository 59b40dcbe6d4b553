use Rattle.std.proofs.Common.{◌≡◌, ◌+◌, List, [], ◌∷◌, ◌++◌, drop, ap, sym, ◌∙◌, subst, arith}
use Rattle.std.proofs.lemmas.List.{drop_all}
use Rattle.std.proofs.lemmas.Result.{on_ok_weaker}
use Rattle.u_equal.specs.declared.link.Link.{Link}
use Rattle.u_equal.specs.declared.link.Link.TheVariants as link
use Rattle.u_entail.specs.declared.hops.Hop.{Hop}
use Rattle.u_entail.specs.Hops.{AreHops, ArePairHops, PushesHops, PushesPairHops}
use Rattle.u_entail.proofs.chains.Flat.{hops-none, hops-more, given-hops, call-hops, pairs-none, pairs-more, pushed-as, pairs-pushed-as, regrouped-hops}
use Rattle.u_entail.proofs.products.Lists.{drop-item}
use Rattle.u_entail.proofs.hops.+flatten.Goals as goal

pub push_hops-loop-link-preserved : goal.push_hops-loop-link-preserved
push_hops-loop-link-preserved t c = λ made rest.
    let place = c.args.place.now in
    let l = c.link-item.result in
    let left : List Link = drop (c.loop-link.link-index + 1) c.args.links.now in
    let next : drop c.loop-link.link-index c.args.links.now ≡ l ∷ left = drop-item c.args.links.now c.loop-link.link-index l (omega arith) c.link-item.is in
    let one = c.in_ok-push_link.ensures {u = tt} in
    subst (λ (hs : List Hop). PushesHops place c.args.links.now c.args.hops.now.items hs) (regrouped-hops c.loop-link.hops.items c.push_link.new.hops.items one.hops made one.is)
    (c.loop-link.invariant (one.hops ++ made) (subst (λ (ls : List Link). AreHops place ls (one.hops ++ made)) (sym next) (hops-more place l left one.hops made one.are rest)))

pub push_hops-returns : goal.push_hops-returns
push_hops-returns t c =
    let place = c.args.place.now in
    pushed-as place c.args.links.now c.args.hops.now.items c.loop-link.hops.items
    (c.loop-link.invariant [] (subst (λ (ls : List Link). AreHops place ls []) (sym (drop_all c.loop-link.link-index c.args.links.now (omega arith))) (hops-none place)))

pub push_link-returns-in-Given : goal.push_link-returns-in-Given
push_link-returns-in-Given t c =
    let place = c.args.place.now in
    on_ok_weaker c.push_given.result
    (λ pushed. record { hops = record { place = place; factor = c.in-Given.factor; turned = c.in-Given.turned } ∷ []; are = given-hops place c.args.link.now c.in-Given.factor c.in-Given.turned c.in-Given.is; is = pushed })
    c.push_given.ensures

pub push_link-returns-in-Call : goal.push_link-returns-in-Call
push_link-returns-in-Call t c =
    let place = c.args.place.now in
    let is : c.args.link.now ≡ link.Call c.as_slice.result.now = c.in-Call.is ∙ ap (λ ps. link.Call ps) (sym c.as_slice.ensures) in
    on_ok_weaker c.push_pairs.result (λ pushed. record { hops = pushed.hops; are = call-hops place c.args.link.now c.as_slice.result.now is pushed.hops pushed.are; is = pushed.is }) c.push_pairs.ensures

pub push_pairs-loop-k-preserved : goal.push_pairs-loop-k-preserved
push_pairs-loop-k-preserved t c = λ made rest.
    let place = c.args.place.now in
    let k = c.loop-k.k in
    let links = c.index-pairs-k.result in
    let left : List (List Link) = drop (k + 1) c.args.pairs.now in
    let next : drop k c.args.pairs.now ≡ links ∷ left = drop-item c.args.pairs.now k links (omega arith) c.index-pairs-k.is in
    let inner = c.as_slice-in-loop-k.ensures.value ∙ c.in_ok-inner.ensures {u = tt} in
    let one = c.in_ok-push_hops.ensures {u = tt} in
    let are = subst (λ (ls : List Link). AreHops c.as_slice-in-loop-k.result.now ls one.hops) c.as_slice.ensures one.are in
    subst (λ (hs : List Hop). PushesPairHops place c.args.pairs.now c.args.hops.now.items hs) (regrouped-hops c.loop-k.hops.items c.push_hops.new.hops.items one.hops made one.is)
    (c.loop-k.invariant (one.hops ++ made) (subst (λ ps. ArePairHops place k ps (one.hops ++ made)) (sym next) (pairs-more place k links left c.as_slice-in-loop-k.result.now inner one.hops made are rest)))

pub push_pairs-returns : goal.push_pairs-returns
push_pairs-returns t c =
    let place = c.args.place.now in
    pairs-pushed-as place c.args.pairs.now c.args.hops.now.items c.loop-k.hops.items
    (c.loop-k.invariant [] (subst (λ ps. ArePairHops place c.loop-k.k ps []) (sym (drop_all c.loop-k.k c.args.pairs.now (omega arith))) (pairs-none place c.loop-k.k)))
