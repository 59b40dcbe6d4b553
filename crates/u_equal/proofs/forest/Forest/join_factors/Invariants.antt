use Rattle.u_rules.specs.Terms.{terms}
use Rattle.u_equal.specs.Joined.{IsTree, JoinsFactors, seen}
use Rattle.u_equal.proofs.forest.Forest.join_factors.Given as goal

abbrev pub invariant-loop-factor : goal.invariant-loop-factor
invariant-loop-factor l = record {
  tree : IsTree l.self;
  joined : JoinsFactors (terms l.factors) l.factor (seen l.initial.self) (seen l.self);
}
