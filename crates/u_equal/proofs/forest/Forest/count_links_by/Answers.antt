use Rattle.std.proofs.Common.{◌≡◌, List, length, take, get_or, ap, sym, ◌∙◌, subst, arith}
use Rattle.std.specs.Prelude.{false, Some, slice_get}
use Rattle.std.proofs.lemmas.List.{take_all}
use Rattle.std.proofs.lemmas.List.Sums.{sum_by_more}
use Rattle.std.proofs.lemmas.Option.{slice_get-get_or}
use Rattle.u_equal.specs.declared.chains.Hop.{Hop}
use Rattle.u_equal.specs.Joined.{seen}
use Rattle.u_equal.specs.Links.{told}
use Rattle.u_equal.specs.LinkCounts.{links_of_edge, links_of_hops}
use Rattle.u_equal.proofs.links.Linked.{way-each}
use Rattle.u_equal.proofs.links.LinkNumbers.{links-same, links-at, told-sum, told-zero}
use Rattle.u_equal.proofs.forest.Forest.count_links_by.Goals as goal

pub returns-then-same_value : goal.returns-then-same_value
returns-then-same_value c =
    sym (ap told (links-same (seen c.args.self.now) (length c.args.numbers.now) c.args.a.now c.args.b.now (c.same_value.ensures.0 c.if-same_value.true)) ∙ told-zero)

pub bounds-numbers-hop : goal.bounds-numbers-hop
bounds-numbers-hop c =
    let s = seen c.args.self.now in
    let i = c.loop-hop.hop-index in
    let hops = c.as_slice-hop-items.result.now in
    let hop : Hop = get_or hops i (record { time = 0; turned = false }) in
    let at = subst (λ (hs : List Hop). slice_get hs i ≡ Some hop) c.as_slice-hop-items.ensures.value (slice_get-get_or hops i (record { time = 0; turned = false }) (omega arith)) in
    way-each s.edges (length c.args.numbers.now) c.place_of-from.result c.place_of-to.result c.in_ok-hops.hops.items c.in_ok-hops.ensures.way i hop at

pub offset_bounds-numbers-hop : goal.offset_bounds-numbers-hop
offset_bounds-numbers-hop c =
    let s = seen c.args.self.now in
    let i = c.loop-hop.hop-index in
    let hops = c.as_slice-hop-items.result.now in
    let hop : Hop = get_or hops i (record { time = 0; turned = false }) in
    let at = subst (λ (hs : List Hop). slice_get hs i ≡ Some hop) c.as_slice-hop-items.ensures.value (slice_get-get_or hops i (record { time = 0; turned = false }) (omega arith)) in
    let early = way-each s.edges (length c.args.numbers.now) c.place_of-from.result c.place_of-to.result c.in_ok-hops.hops.items c.in_ok-hops.ensures.way i hop at in
    omega (arith, early)

pub loop-hop-preserved : goal.loop-hop-preserved
loop-hop-preserved c =
    let s = seen c.args.self.now in
    let i = c.loop-hop.hop-index in
    let hops = c.as_slice-hop-items.result.now in
    let hop : Hop = get_or hops i (record { time = 0; turned = false }) in
    let at = subst (λ (hs : List Hop). slice_get hs i ≡ Some hop) c.as_slice-hop-items.ensures.value (slice_get-get_or hops i (record { time = 0; turned = false }) (omega arith)) in
    let early = way-each s.edges (length c.args.numbers.now) c.place_of-from.result c.place_of-to.result c.in_ok-hops.hops.items c.in_ok-hops.ensures.way i hop at in
    let number = c.requires.numbers.each hop.time (get_or c.args.numbers.now hop.time 0) (slice_get-get_or c.args.numbers.now hop.time 0 early) in
    c.saturating_add-total.ensures
    ∙ told-sum (links_of_hops s (take i hops)) (links_of_edge s hop.time) c.loop-hop.total (get_or c.args.numbers.now hop.time 0) c.loop-hop.invariant number
    ∙ ap told (sym (sum_by_more (λ (h : Hop). links_of_edge s h.time) hops i (record { time = 0; turned = false }) (omega arith)))

pub returns : goal.returns
returns c =
    let s = seen c.args.self.now in
    let hops = c.as_slice-hop-items.result.now in
    let all : take c.loop-hop.hop-index hops ≡ c.in_ok-hops.hops.items = take_all c.loop-hop.hop-index hops (omega arith) ∙ c.as_slice-hop-items.ensures.value in
    let at = links-at s (length c.args.numbers.now) c.args.a.now c.args.b.now c.place_of-from.result c.place_of-to.result c.place_of-from.ensures.first c.place_of-to.ensures.first in
    c.loop-hop.invariant ∙ ap told (ap (links_of_hops s) all ∙ c.in_ok-hops.ensures.counted ∙ sym at)
