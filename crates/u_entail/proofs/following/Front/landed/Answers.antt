use Rattle.std.proofs.Common.{sym, subst}
use Rattle.std.proofs.lemmas.Result.{IfOk-weaker}
use Rattle.u_terms.specs.Syntax.{U}
use Rattle.u_entail.specs.Following.{LandsAt}
use Rattle.u_rules.specs.Terms.{terms}
use Rattle.u_entail.proofs.chains.Followed.{hop-spot, hop-side, lands}
use Rattle.u_entail.proofs.following.Front.landed.Goals as goal

pub other_side-side-requires : goal.other_side-side-requires
other_side-side-requires c = hop-side (terms c.args.self.now.factors.now) c.args.last.now c.args.hop.now c.requires

pub put_at-requires : goal.put_at-requires
put_at-requires c = hop-spot (terms c.args.self.now.factors.now) c.args.last.now c.args.hop.now c.as_slice.result.now (sym c.as_slice.ensures) c.requires

pub returns : goal.returns
returns c =
    let factors = terms c.args.self.now.factors.now in
    IfOk-weaker c.new.result _ _
    (λ new is. subst (λ (x : U). LandsAt factors c.args.last.now c.args.hop.now x) (sym is)
    (lands factors c.args.last.now c.args.hop.now c.as_slice.result.now (sym c.as_slice.ensures) c.other_side-side.result.now c.other_side-side.ensures c.in_ok-landed.landed (c.in_ok-landed.ensures {u = tt})))
    c.new.ensures
