use Rattle.std.proofs.Common.{sym, subst}
use Rattle.std.proofs.lemmas.Result.{on_ok_weaker}
use Rattle.u_equal.specs.declared.chains.Part.{Part}
use Rattle.u_equal.specs.Joined.{seen}
use Rattle.u_equal.specs.Chains.{IsSound, Walks}
use Rattle.u_equal.proofs.links.Ways.{walks-found, walks-same, walks-parted}
use Rattle.u_equal.proofs.forest.Forest.walk.Goals as goal

pub returns-then-from-to : goal.returns-then-from-to
returns-then-from-to c =
    subst (λ (p : Part). Walks (seen c.args.self.now) p c.args.hops.now.items c.args.hops.now.items c.args.parts.now.items c.args.parts.now.items) (sym c.in-Open.is)
    (walks-same (seen c.args.self.now) c.in-Open.upto c.in-Open.from c.in-Open.to c.args.hops.now.items c.args.parts.now.items c.if-from-to.true)

pub returns-in_ok-push-in-Found : goal.returns-in_ok-push-in-Found
returns-in_ok-push-in-Found c =
    subst (λ (p : Part). Walks (seen c.args.self.now) p c.args.hops.now.items c.push.new.self.items c.args.parts.now.items c.args.parts.now.items) (sym c.in-Found.is)
    (walks-found (seen c.args.self.now) c.in-Found.hop c.args.hops.now.items c.push.new.self.items c.args.parts.now.items c.in_ok-push-in-Found.ensures.items)

pub returns-else-from-to : goal.returns-else-from-to
returns-else-from-to c =
    let s = seen c.args.self.now in
    on_ok_weaker c.part.result
    (λ p. subst (λ (x : Part). Walks s x c.args.hops.now.items c.args.hops.now.items c.args.parts.now.items c.part.new.parts.items) (sym c.in-Open.is)
    (walks-parted s c.in-Open.upto c.in-Open.from c.in-Open.to p.hop p.meets c.requires.state (subst (IsSound s) c.in-Open.is c.requires.sound)
    c.args.hops.now.items c.args.parts.now.items c.part.new.parts.items p.is))
    c.part.ensures
