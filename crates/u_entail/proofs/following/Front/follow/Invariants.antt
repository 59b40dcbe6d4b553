use Rattle.std.proofs.Common.{drop}
use Rattle.u_rules.specs.Terms.{terms}
use Rattle.u_entail.specs.declared.following.Followed.{Followed}
use Rattle.u_entail.specs.Hops.{Lead}
use Rattle.u_entail.specs.Following.{IsFollowed, Stands}
use Rattle.u_entail.proofs.following.Front.follow.Given as goal

-- whatever follows the rest from here follows all of it
abbrev pub invariant-loop-hop : goal.invariant-loop-hop
invariant-loop-hop l = record {
  stands : Stands l.self.moves.facts.now l.self.moves.outs (terms l.self.factors.now) l.at;
  lead : Lead (terms l.self.factors.now) l.at.last (drop l.hop-index l.hops);
  rest : (end : Followed) → IsFollowed (terms l.self.factors.now) (drop l.hop-index l.hops) l.at end → IsFollowed (terms l.self.factors.now) l.hops l.initial.at end;
}
