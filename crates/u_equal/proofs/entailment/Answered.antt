-- The labels decide what the equalities entail.
use Rattle.std.proofs.Common.{length, arith}
use Rattle.u_terms.specs.Syntax.{U, Val}
use Rattle.u_equal.specs.declared.forest.Forest.{Forest}
use Rattle.u_equal.specs.Entails.{Entails}
use Rattle.u_equal.specs.Joined.{label_now, seen, AreSame, AreClasses}
use Rattle.u_equal.proofs.entailment.Sound.{sound, same-entailed}
use Rattle.u_equal.proofs.entailment.Complete.{complete}

module _ (product : U) (forest : Forest) (classes : AreClasses product forest) where
  pub classes-sound : (a b : Val) → AreSame (seen forest) a b → Entails product a b
  classes-sound a b same =
      same-entailed product forest.values.keys (label_now (seen forest))
      (sound product forest.values.keys forest.edges.items classes.edges_hold (length forest.edges.items) (omega arith)) a b same

  pub classes-complete : (a b : Val) → Entails product a b → AreSame (seen forest) a b
  classes-complete = complete product forest.values.keys (label_now (seen forest)) classes.given classes.calls
