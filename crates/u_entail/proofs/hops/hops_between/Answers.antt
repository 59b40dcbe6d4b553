use Rattle.std.proofs.Common.{◌≡◌, ◌+◌, List, [], ◌∷◌, ◌++◌, append_assoc, drop, ap, sym, ◌∙◌, subst, arith}
use Rattle.std.proofs.lemmas.List.{append-nil, drop_all}
use Rattle.u_entail.specs.declared.carrying.Pair.{Pair}
use Rattle.u_entail.specs.declared.hops.Hop.{Hop}
use Rattle.u_entail.specs.Carrying.{AlongPairs}
use Rattle.u_entail.proofs.copies.Carried.{pairs-along-none, pairs-along-more}
use Rattle.u_entail.proofs.products.Lists.{drop-item}
use Rattle.u_entail.proofs.hops.hops_between.Goals as goal

pub loop-k-preserved : goal.loop-k-preserved
loop-k-preserved c = λ made rest.
    let product = c.args.classes.now in
    let k = c.loop-k.k in
    let pair = c.index-pairs-k.result in
    let left : List Pair = drop (k + 1) c.args.pairs.now in
    let next : drop k c.args.pairs.now ≡ pair ∷ left = drop-item c.args.pairs.now k pair (omega arith) c.index-pairs-k.is in
    let h = c.in_ok-push_chain.ensures in
    subst (λ (hs : List Hop). AlongPairs product 0 c.args.pairs.now hs) (sym (append_assoc c.loop-k.hops.items h.hops made) ∙ ap (λ (hs : List Hop). hs ++ made) (sym h.is))
    (c.loop-k.invariant (h.hops ++ made)
    (subst (λ (ps : List Pair). AlongPairs product k ps (h.hops ++ made)) (sym next) (pairs-along-more product k pair left c.loop-k.hops.items c.push_chain.new.hops.items h made rest)))

pub returns : goal.returns
returns c =
    let product = c.args.classes.now in
    let k = c.loop-k.k in
    subst (λ (hs : List Hop). AlongPairs product 0 c.args.pairs.now hs) (append-nil c.loop-k.hops.items)
    (c.loop-k.invariant [] (subst (λ (ps : List Pair). AlongPairs product k ps []) (sym (drop_all k c.args.pairs.now (omega arith))) (pairs-along-none product k)))
