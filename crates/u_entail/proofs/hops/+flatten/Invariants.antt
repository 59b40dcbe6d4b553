use Rattle.std.proofs.Common.{◌+◌, ◌*◌, ◌++◌, List, drop}
use Rattle.u_entail.specs.declared.hops.Hop.{Hop}
use Rattle.u_entail.specs.Hops.{AreHops, ArePairHops, PushesHops, PushesPairHops}
use Rattle.u_entail.proofs.hops.+flatten.Given as goal

-- whatever pushes the hops of the rest pushes all of them
abbrev pub invariant-push_hops-loop-link : goal.invariant-push_hops-loop-link
invariant-push_hops-loop-link l = (made : List Hop) → AreHops l.place (drop l.link-index l.links) made → PushesHops l.place l.links l.initial.hops.items (l.hops.items ++ made)

abbrev pub invariant-push_pairs-loop-k : goal.invariant-push_pairs-loop-k
invariant-push_pairs-loop-k l = (made : List Hop) → ArePairHops l.place l.k (drop l.k l.pairs) made → PushesPairHops l.place l.pairs l.initial.hops.items (l.hops.items ++ made)

abbrev pub decreases-push_link : goal.decreases-push_link
decreases-push_link l = 3 * goal.size-push_link l

abbrev pub decreases-push_hops : goal.decreases-push_hops
decreases-push_hops l = 3 * goal.size-push_hops l + 1

abbrev pub decreases-push_pairs : goal.decreases-push_pairs
decreases-push_pairs l = 3 * goal.size-push_pairs l + 2
