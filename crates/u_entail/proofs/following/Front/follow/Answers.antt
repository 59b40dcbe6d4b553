use Rattle.std.proofs.Common.{◌≡◌, ◌+◌, List, ◌∷◌, drop, sym, subst, arith}
use Rattle.std.proofs.lemmas.List.{drop_all}
use Rattle.u_rules.specs.Terms.{terms}
use Rattle.u_entail.specs.declared.hops.Hop.{Hop}
use Rattle.u_entail.specs.Hops.{Lead}
use Rattle.u_entail.specs.Following.{IsFollowed}
use Rattle.u_entail.proofs.products.Lists.{drop-item}
use Rattle.u_entail.proofs.chains.Followed.{lead-first, lead-rest, followed-none, followed-more}
use Rattle.u_entail.proofs.following.Front.follow.Goals as goal

pub along-requires-clause-leads : goal.along-requires-clause-leads
along-requires-clause-leads c =
    let factors = terms c.args.self.now.factors.now in
    let hop = c.hop-item.result in
    let left : List Hop = drop (c.loop-hop.hop-index + 1) c.args.hops.now in
    let next : drop c.loop-hop.hop-index c.args.hops.now ≡ hop ∷ left = drop-item c.args.hops.now c.loop-hop.hop-index hop (omega arith) c.hop-item.is in
    lead-first factors c.loop-hop.at.last hop left (subst (λ (hs : List Hop). Lead factors c.loop-hop.at.last hs) next c.loop-hop.invariant.lead)

pub loop-hop-preserved : goal.loop-hop-preserved
loop-hop-preserved c =
    let factors = terms c.args.self.now.factors.now in
    let at = c.loop-hop.at in
    let mid = c.in_ok-at.at in
    let hop = c.hop-item.result in
    let left : List Hop = drop (c.loop-hop.hop-index + 1) c.args.hops.now in
    let next : drop c.loop-hop.hop-index c.args.hops.now ≡ hop ∷ left = drop-item c.args.hops.now c.loop-hop.hop-index hop (omega arith) c.hop-item.is in
    let lead = subst (λ (hs : List Hop). Lead factors at.last hs) next c.loop-hop.invariant.lead in
    record {
      stands = c.in_ok-at.ensures.stands;
      lead = lead-rest factors hop left at mid c.in_ok-at.ensures.followed lead;
      rest = λ end f.
          c.loop-hop.invariant.rest end
          (subst (λ (hs : List Hop). IsFollowed factors hs at end) (sym next) (followed-more factors hop left at mid end (lead-first factors at.last hop left lead) c.in_ok-at.ensures.followed f));
    }

pub returns-clause-followed : goal.returns-clause-followed
returns-clause-followed c =
    let factors = terms c.args.self.now.factors.now in
    let at = c.loop-hop.at in
    c.loop-hop.invariant.rest at (subst (λ (hs : List Hop). IsFollowed factors hs at at) (sym (drop_all c.loop-hop.hop-index c.args.hops.now (omega arith))) (followed-none factors at))
