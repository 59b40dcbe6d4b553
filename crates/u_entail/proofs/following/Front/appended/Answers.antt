use Rattle.std.proofs.Common.{List, sym, subst}
use Rattle.std.proofs.lemmas.Result.{IfOk-weaker}
use Rattle.u_rules.specs.Terms.{terms}
use Rattle.u_entail.specs.declared.hops.Hop.{Hop}
use Rattle.u_entail.specs.Gaining.{right_side}
use Rattle.u_entail.specs.Hops.{AreHops}
use Rattle.u_entail.proofs.chains.Along.{lead-of}
use Rattle.u_entail.proofs.following.Front.appended.Goals as goal

pub gained-requires-clause-first : goal.gained-requires-clause-first
gained-requires-clause-first c = let w = c.in_ok-first.ensures {u = tt} in let l = w.leads in record { facts = l.facts; outs = l.outs; to = l.to }

pub gained-requires-clause-lead : goal.gained-requires-clause-lead
gained-requires-clause-lead c =
    let are = subst (λ (hs : List Hop). AreHops right_side c.args.links.now hs) (sym c.as_slice.ensures.value) (c.in_ok-hops.ensures {u = tt}) in
    lead-of (terms c.args.self.now.factors.now) c.args.a.now c.args.links.now c.requires.leads c.as_slice.result.now are

pub returns : goal.returns
returns c =
    let are = subst (λ (hs : List Hop). AreHops right_side c.args.links.now hs) (sym c.as_slice.ensures.value) (c.in_ok-hops.ensures {u = tt}) in
    IfOk-weaker c.gained.result _ _ (λ d g. record { hops = c.as_slice.result.now; are = are; first = c.in_ok-first.first; widened = c.in_ok-first.ensures {u = tt}; gained = g }) c.gained.ensures
