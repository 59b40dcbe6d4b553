use Rattle.std.proofs.Common.{◌≡◌, ℕ, ◌+◌, ◌*◌, ◌<◌, false, List, [], ◌∷◌, ◌++◌, take, length, get_or, refl, ap, sym, ◌∙◌, subst, arith}
use Rattle.std.specs.Prelude.{Some, slice_get}
use Rattle.std.proofs.lemmas.List.{take_more, take_all}
use Rattle.std.proofs.lemmas.Option.{slice_get-get_or, slice_get_read}
use Rattle.u_equal.specs.declared.forest.Edge.{Edge}
use Rattle.u_equal.specs.declared.chains.Hop.{Hop}
use Rattle.u_equal.specs.declared.link.Link.{Link}
use Rattle.u_equal.specs.Links.{LeadsEach, no_pair, HasCount, HasCountEach, nothing, no_list, Nests, NestsEach, no_depth, no_lists}
use Rattle.u_terms.specs.Syntax.{Val}
use Rattle.u_terms.specs.declared.term.Val.TheVariants as v
use Rattle.std.proofs.lemmas.Result.{IfOk-weaker}
use Rattle.u_equal.specs.LinkCounts.{links_of_hops, links_of_values, sum_of_pairs}
use Rattle.u_equal.specs.Joined.{seen}
use Rattle.u_equal.specs.Chains.{LinksHops}
use Rattle.u_equal.proofs.links.Ways.{edge-read}
use Rattle.u_equal.proofs.links.Linked.{way-each, links-of, leads-same, hops-none, hops-more, given-hop, called-hop, calls-hop, given-count, called-count, count-found, each-more}
use Rattle.u_equal.proofs.links.LinkNumbers.{links-same, links-at, same-taken, pairs-counted, hops-counted}
use Rattle.u_equal.proofs.links.Nested.{given-nests, call-nests, links-nest, pairs-nest}
use Rattle.u_equal.proofs.forest.Forest.+links.Goals as goal

-- ---- link
pub link-call_links-requires : goal.link-call_links-requires
link-call_links-requires t c =
    let h : 4 * c.args.hop.time + 3 ≡ t = c.decreases in
    let s = seen c.args.self.now in
    let hop = c.args.hop in
    let is = edge-read s.edges hop.time c.index.result.now c.requires.within c.index.ensures in
    let at_near = subst (λ (i : ℕ). slice_get s.values i ≡ Some c.value_at-near.result.now) c.near.ensures.is c.value_at-near.ensures in
    let at_far = subst (λ (i : ℕ). slice_get s.values i ≡ Some c.value_at-far.result.now) c.far.ensures.is c.value_at-far.ensures in (
      omega arith,
      (
        c.requires.tree,
        (
          c.requires.state,
          (
            omega arith,
            calls-hop s hop c.requires.within c.requires.state (ap (λ (e : Edge). e.reason) is ∙ c.in-Called.is) c.value_at-near.result.now c.value_at-far.result.now at_near at_far,
          ),
        ),
      ),
    )

pub link-returns-in-Given-clause-leads : goal.link-returns-in-Given-clause-leads
link-returns-in-Given-clause-leads t c =
    let s = seen c.args.self.now in
    let is = edge-read s.edges c.args.hop.time c.index.result.now c.requires.within c.index.ensures in
    given-hop s c.args.hop c.requires.within c.in-Given.factor c.in-Given.turned _ (ap (λ (e : Edge). e.reason) is ∙ c.in-Given.is) refl

pub link-returns-in-Given-clause-counted : goal.link-returns-in-Given-clause-counted
link-returns-in-Given-clause-counted t c =
    let s = seen c.args.self.now in
    let is = edge-read s.edges c.args.hop.time c.index.result.now c.requires.within c.index.ensures in
    given-count s c.args.hop c.requires.within c.in-Given.factor c.in-Given.turned _ (ap (λ (e : Edge). e.reason) is ∙ c.in-Given.is)

pub link-returns-in_ok-pairs-in-Called-clause-counted : goal.link-returns-in_ok-pairs-in-Called-clause-counted
link-returns-in_ok-pairs-in-Called-clause-counted t c =
    let s = seen c.args.self.now in
    let is = edge-read s.edges c.args.hop.time c.index.result.now c.requires.within c.index.ensures in
    let at_near = subst (λ (i : ℕ). slice_get s.values i ≡ Some c.value_at-near.result.now) c.near.ensures.is c.value_at-near.ensures in
    let at_far = subst (λ (i : ℕ). slice_get s.values i ≡ Some c.value_at-far.result.now) c.far.ensures.is c.value_at-far.ensures in
    called-count s c.args.hop c.requires.within c.requires.state (ap (λ (e : Edge). e.reason) is ∙ c.in-Called.is) c.value_at-near.result.now c.value_at-far.result.now c.in_ok-pairs-in-Called.pairs
    at_near at_far c.in_ok-pairs-in-Called.ensures.counted

pub link-returns-in_ok-pairs-in-Called-clause-leads : goal.link-returns-in_ok-pairs-in-Called-clause-leads
link-returns-in_ok-pairs-in-Called-clause-leads t c =
    let s = seen c.args.self.now in
    let is = edge-read s.edges c.args.hop.time c.index.result.now c.requires.within c.index.ensures in
    let at_near = subst (λ (i : ℕ). slice_get s.values i ≡ Some c.value_at-near.result.now) c.near.ensures.is c.value_at-near.ensures in
    let at_far = subst (λ (i : ℕ). slice_get s.values i ≡ Some c.value_at-far.result.now) c.far.ensures.is c.value_at-far.ensures in
    called-hop s c.args.hop c.requires.within c.value_at-near.result.now c.value_at-far.result.now c.in_ok-pairs-in-Called.pairs (ap (λ (e : Edge). e.reason) is ∙ c.in-Called.is) at_near at_far
    c.in_ok-pairs-in-Called.ensures.leads

pub link-returns-in-Given-clause-nested : goal.link-returns-in-Given-clause-nested
link-returns-in-Given-clause-nested t c = given-nests c.args.hop.time c.in-Given.factor _

pub link-returns-in_ok-pairs-in-Called-clause-nested : goal.link-returns-in_ok-pairs-in-Called-clause-nested
link-returns-in_ok-pairs-in-Called-clause-nested t c = call-nests c.args.hop.time c.in_ok-pairs-in-Called.pairs c.in_ok-pairs-in-Called.ensures.nested

-- ---- call_links
pub call_links-returns-in-Fun-Fun-clause-counted : goal.call_links-returns-in-Fun-Fun-clause-counted
call_links-returns-in-Fun-Fun-clause-counted t c =
    let s = seen c.args.self.now in
    IfOk-weaker c.pair_links.result _ _
    (λ pairs h. count-found s c.args.upto c.args.a.now c.args.b.now c.in-Fun-Fun.field-0-0 c.in-Fun-Fun.field-0-1 c.as_slice.result.now c.as_slice-in-Fun-Fun.result.now pairs
    (c.in-Fun-Fun.is-0 ∙ ap (λ (xs : List Val). v.Fun c.in-Fun-Fun.field-0-0 xs) (sym c.as_slice.ensures))
    (c.in-Fun-Fun.is-1 ∙ ap (λ (ys : List Val). v.Fun c.in-Fun-Fun.field-0-1 ys) (sym c.as_slice-in-Fun-Fun.ensures)) h)
    c.pair_links.ensures.counted

-- ---- pair_links
pub pair_links-loop-i-init : goal.pair_links-loop-i-init
pair_links-loop-i-init t c = record {
  long = c.requires.same.long;
  each = λ product hold. subst (λ ps. LeadsEach product [] ps []) (sym c.in_ok-pairs.ensures.items) no_pair;
  counted = subst (λ ps. HasCountEach ps 0) (sym c.in_ok-pairs.ensures.items) no_list;
  nested = subst (λ ps. NestsEach c.args.upto ps) (sym c.in_ok-pairs.ensures.items) (no_lists c.args.upto);
}

pub pair_links-value_links-requires : goal.pair_links-value_links-requires
pair_links-value_links-requires t c =
    let h : 4 * c.args.upto + 1 ≡ t = c.decreases in (
      omega arith,
      (
        c.requires.tree,
        (
          c.requires.state,
          (
            omega arith,
            c.requires.same.each c.loop-i.i c.index-xs-i.result c.index-ys-i.result
                (slice_get_read c.args.xs.now (length c.args.xs.now) c.loop-i.i c.index-xs-i.result refl (omega arith) c.index-xs-i.is)
                (slice_get_read c.args.ys.now (length c.args.ys.now) c.loop-i.i c.index-ys-i.result refl (omega (arith, c.loop-i.invariant.long)) c.index-ys-i.is),
          ),
        ),
      ),
    )

pub pair_links-loop-i-preserved : goal.pair_links-loop-i-preserved
pair_links-loop-i-preserved t c =
    let x = c.index-xs-i.result in
    let y = c.index-ys-i.result in
    let more_x : take (c.loop-i.i + 1) c.args.xs.now ≡ take c.loop-i.i c.args.xs.now ++ x ∷ [] =
    take_more c.args.xs.now c.loop-i.i x (omega arith) ∙ ap (λ a. take c.loop-i.i c.args.xs.now ++ a ∷ []) (sym c.index-xs-i.is) in
    let more_y : take (c.loop-i.i + 1) c.args.ys.now ≡ take c.loop-i.i c.args.ys.now ++ y ∷ [] =
    take_more c.args.ys.now c.loop-i.i y (omega (arith, c.loop-i.invariant.long)) ∙ ap (λ a. take c.loop-i.i c.args.ys.now ++ a ∷ []) (sym c.index-ys-i.is) in
    record {
      long = c.loop-i.invariant.long;
      each = λ product hold.
          subst (λ as'. LeadsEach product as' c.push.new.self.items (take (c.loop-i.i + 1) c.args.ys.now)) (sym more_x)
          (subst (λ bs. LeadsEach product (take c.loop-i.i c.args.xs.now ++ x ∷ []) c.push.new.self.items bs) (sym more_y)
          (subst (λ ps. LeadsEach product (take c.loop-i.i c.args.xs.now ++ x ∷ []) ps (take c.loop-i.i c.args.ys.now ++ y ∷ [])) (sym c.in_ok-push.ensures.items)
          (each-more product (take c.loop-i.i c.args.xs.now) c.loop-i.pairs.items (take c.loop-i.i c.args.ys.now) x y c.in_ok-value_links.field-0 (c.loop-i.invariant.each product hold)
          (c.in_ok-value_links.ensures.leads.leads product hold))));
      counted = pairs-counted (links_of_values (seen c.args.self.now) c.args.upto) (take c.loop-i.i c.args.xs.now) (take c.loop-i.i c.args.ys.now) (take (c.loop-i.i + 1) c.args.xs.now) (take (c.loop-i.i + 1) c.args.ys.now) x y
          c.loop-i.pairs.items c.push.new.self.items c.in_ok-value_links.field-0 more_x more_y (same-taken c.loop-i.i c.args.xs.now c.args.ys.now c.loop-i.invariant.long) c.in_ok-push.ensures.items
          c.loop-i.invariant.counted c.in_ok-value_links.ensures.counted;
      nested = pairs-nest c.args.upto c.loop-i.pairs.items c.push.new.self.items c.in_ok-value_links.field-0 c.in_ok-push.ensures.items c.loop-i.invariant.nested c.in_ok-value_links.ensures.nested;
    }

pub pair_links-returns-clause-counted : goal.pair_links-returns-clause-counted
pair_links-returns-clause-counted t c =
    let f : Val → Val → ℕ = links_of_values (seen c.args.self.now) c.args.upto in
    subst (λ as'. HasCountEach c.from_vec.result (sum_of_pairs f as' c.args.ys.now)) (take_all c.loop-i.i c.args.xs.now (omega arith))
    (subst (λ bs. HasCountEach c.from_vec.result (sum_of_pairs f (take c.loop-i.i c.args.xs.now) bs)) (take_all c.loop-i.i c.args.ys.now (omega (arith, c.loop-i.invariant.long)))
    (subst (λ ps. HasCountEach ps (sum_of_pairs f (take c.loop-i.i c.args.xs.now) (take c.loop-i.i c.args.ys.now))) (sym c.from_vec.ensures) c.loop-i.invariant.counted))

pub pair_links-returns-clause-nested : goal.pair_links-returns-clause-nested
pair_links-returns-clause-nested t c = subst (λ ps. NestsEach c.args.upto ps) (sym c.from_vec.ensures) c.loop-i.invariant.nested

pub pair_links-returns-clause-leads : goal.pair_links-returns-clause-leads
pair_links-returns-clause-leads t c = λ product hold.
    subst (λ as'. LeadsEach product as' c.from_vec.result c.args.ys.now) (take_all c.loop-i.i c.args.xs.now (omega arith))
    (subst (λ bs. LeadsEach product (take c.loop-i.i c.args.xs.now) c.from_vec.result bs) (take_all c.loop-i.i c.args.ys.now (omega (arith, c.loop-i.invariant.long)))
    (subst (λ ps. LeadsEach product (take c.loop-i.i c.args.xs.now) ps (take c.loop-i.i c.args.ys.now)) (sym c.from_vec.ensures) (c.loop-i.invariant.each product hold)))

-- ---- value_links
pub value_links-returns-then-same_value-clause-counted : goal.value_links-returns-then-same_value-clause-counted
value_links-returns-then-same_value-clause-counted t c =
    let none = links-same (seen c.args.self.now) c.args.upto c.args.a.now c.args.b.now (c.same_value.ensures.0 c.if-same_value.true) in
    subst (λ (ls : List Link). HasCount ls (links_of_values (seen c.args.self.now) c.args.upto c.args.a.now c.args.b.now)) (sym c.new.ensures) (subst (λ n. HasCount [] n) (sym none) nothing)

pub value_links-returns-then-same_value-clause-leads : goal.value_links-returns-then-same_value-clause-leads
value_links-returns-then-same_value-clause-leads t c =
    leads-same (seen c.args.self.now) c.args.upto c.args.a.now c.args.b.now c.new.result (c.same_value.ensures.0 c.if-same_value.true) c.new.ensures

pub value_links-returns-then-same_value-clause-nested : goal.value_links-returns-then-same_value-clause-nested
value_links-returns-then-same_value-clause-nested t c = subst (λ (ls : List Link). Nests c.args.upto ls) (sym c.new.ensures) (no_depth c.args.upto)

pub value_links-link-requires : goal.value_links-link-requires
value_links-link-requires t c =
    let h : 4 * c.args.upto ≡ t = c.decreases in
    let s = seen c.args.self.now in
    let hops = c.in_ok-hops.hops.items in
    let i = c.loop-hop.hop-index in
    let read = c.as_slice-hop-items.ensures.value in
    let hop : Hop = get_or c.as_slice-hop-items.result.now i (record { time = 0; turned = false }) in
    let within : i < length c.as_slice-hop-items.result.now = omega arith in
    let at = subst (λ (hs : List Hop). slice_get hs i ≡ Some hop) read (slice_get-get_or c.as_slice-hop-items.result.now i (record { time = 0; turned = false }) within) in
    let early = way-each s.edges c.args.upto c.place_of-from.result c.place_of-to.result hops c.in_ok-hops.ensures.way i hop at in (
      omega (arith, early, h),
      (c.requires.tree, (c.requires.state, omega (arith, early, c.requires.within))),
    )

pub value_links-loop-hop-init : goal.value_links-loop-hop-init
value_links-loop-hop-init t c = record {
  links = hops-none (seen c.args.self.now) c.in_ok-links.links.items c.in_ok-links.ensures.items;
  counted = subst (λ (ls : List Link). HasCount ls 0) (sym c.in_ok-links.ensures.items) nothing;
  nested = subst (λ (ls : List Link). Nests c.args.upto ls) (sym c.in_ok-links.ensures.items) (no_depth c.args.upto);
}

pub value_links-loop-hop-preserved : goal.value_links-loop-hop-preserved
value_links-loop-hop-preserved t c =
    let s = seen c.args.self.now in
    let hops = c.as_slice-hop-items.result.now in
    let i = c.loop-hop.hop-index in
    let hop : Hop = get_or hops i (record { time = 0; turned = false }) in
    let more : take (i + 1) hops ≡ take i hops ++ hop ∷ [] = take_more hops i (record { time = 0; turned = false }) (omega arith) in
    record {
      links = subst (λ (hs : List Hop). LinksHops s hs c.push.new.self.items) (sym more)
          (hops-more s (take i hops) c.loop-hop.links.items c.push.new.self.items hop c.in_ok-link.field-0 c.loop-hop.invariant.links c.in_ok-link.ensures.leads c.in_ok-push.ensures.items);
      counted = hops-counted s (take i hops) (take (i + 1) hops) hop c.loop-hop.links.items c.push.new.self.items c.in_ok-link.field-0 more c.in_ok-push.ensures.items c.loop-hop.invariant.counted c.in_ok-link.ensures.counted;
      nested =
          let read = c.as_slice-hop-items.ensures.value in
          let within : i < length hops = omega arith in
          let at = subst (λ (hs : List Hop). slice_get hs i ≡ Some hop) read (slice_get-get_or hops i (record { time = 0; turned = false }) within) in
          let early = way-each s.edges c.args.upto c.place_of-from.result c.place_of-to.result c.in_ok-hops.hops.items c.in_ok-hops.ensures.way i hop at in
          links-nest c.args.upto c.loop-hop.links.items c.push.new.self.items c.in_ok-link.field-0 c.in_ok-push.ensures.items c.loop-hop.invariant.nested (c.in_ok-link.ensures.nested c.args.upto early);
    }

pub value_links-returns-clause-counted : goal.value_links-returns-clause-counted
value_links-returns-clause-counted t c =
    let s = seen c.args.self.now in
    let hops = c.as_slice-hop-items.result.now in
    let all : take c.loop-hop.hop-index hops ≡ c.in_ok-hops.hops.items = take_all c.loop-hop.hop-index hops (omega arith) ∙ c.as_slice-hop-items.ensures.value in
    let is = ap (links_of_hops s) all ∙ c.in_ok-hops.ensures.counted ∙ sym (links-at s c.args.upto c.args.a.now c.args.b.now c.place_of-from.result c.place_of-to.result c.place_of-from.ensures.first c.place_of-to.ensures.first) in
    subst (λ (ls : List Link). HasCount ls (links_of_values s c.args.upto c.args.a.now c.args.b.now)) (sym c.from_vec.ensures)
    (subst (λ n. HasCount c.loop-hop.links.items n) is c.loop-hop.invariant.counted)

pub value_links-returns-clause-nested : goal.value_links-returns-clause-nested
value_links-returns-clause-nested t c = subst (λ (ls : List Link). Nests c.args.upto ls) (sym c.from_vec.ensures) c.loop-hop.invariant.nested

pub value_links-returns-clause-leads : goal.value_links-returns-clause-leads
value_links-returns-clause-leads t c =
    let s = seen c.args.self.now in
    let hops = c.as_slice-hop-items.result.now in
    let all = subst (λ (hs : List Hop). LinksHops s hs c.loop-hop.links.items) (take_all c.loop-hop.hop-index hops (omega arith) ∙ c.as_slice-hop-items.ensures.value) c.loop-hop.invariant.links in
    links-of s c.args.upto c.place_of-from.result c.place_of-to.result c.in_ok-hops.hops.items c.from_vec.result c.args.a.now c.args.b.now c.requires.state c.requires.within c.in_ok-hops.ensures
    (subst (λ (ls : List Link). LinksHops s c.in_ok-hops.hops.items ls) (sym c.from_vec.ensures) all) c.place_of-from.ensures.first.here c.place_of-to.ensures.first.here
