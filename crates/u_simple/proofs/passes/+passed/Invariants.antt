use Rattle.std.proofs.Common.{◌+◌, ◌*◌}
use Rattle.u_terms.specs.Size.{nodes, value_nodes, list_nodes}
use Rattle.u_simple.specs.Passes.{IsFrom}
use Rattle.u_simple.proofs.passes.+passed.Given as goal

abbrev pub decreases-passed : goal.decreases-passed
decreases-passed l = 3 * nodes l.u.now

abbrev pub decreases-passed_sum : goal.decreases-passed_sum
decreases-passed_sum l = 3 * (nodes l.a.now + nodes l.b.now) + 2

abbrev pub decreases-passed_parts : goal.decreases-passed_parts
decreases-passed_parts l = 3 * nodes l.u.now + 1

abbrev pub decreases-passed_product : goal.decreases-passed_product
decreases-passed_product l = 3 * (nodes l.a.now + nodes l.b.now) + 2

abbrev pub decreases-passed_factors : goal.decreases-passed_factors
decreases-passed_factors l = 3 * nodes l.u.now + 1

abbrev pub decreases-passed_squash : goal.decreases-passed_squash
decreases-passed_squash l = 3 * nodes l.p.now + 1

abbrev pub decreases-passed_negation : goal.decreases-passed_negation
decreases-passed_negation l = 3 * nodes l.p.now + 1

abbrev pub decreases-passed_body : goal.decreases-passed_body
decreases-passed_body l = 3 * nodes l.f.now + 2

abbrev pub decreases-passed_opened : goal.decreases-passed_opened
decreases-passed_opened l = 3 * nodes l.f.now + 1

abbrev pub decreases-passed_row : goal.decreases-passed_row
decreases-passed_row l = 3 * list_nodes l.values.now + 2

abbrev pub decreases-passed_equality : goal.decreases-passed_equality
decreases-passed_equality l = 3 * (value_nodes l.a.now + value_nodes l.b.now) + 2

abbrev pub decreases-passed_values : goal.decreases-passed_values
decreases-passed_values l = 3 * list_nodes l.values.now + 1

abbrev pub decreases-passed_value : goal.decreases-passed_value
decreases-passed_value l = 3 * value_nodes l.value.now

abbrev pub invariant-passed_values-loop-index : goal.invariant-passed_values-loop-index
invariant-passed_values-loop-index l = IsFrom l.moves.facts.now l.moves.outs l.fn.whole.from l.done
