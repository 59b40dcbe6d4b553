use Rattle.std.proofs.Common.{◌+◌, ◌*◌, max}
use Rattle.u_normal.specs.Taking.{load}
use Rattle.u_terms.specs.Size.{list_nodes, value_nodes}
use Rattle.u_normal.specs.Heads.{head_load}
use Rattle.u_normal.specs.Rooms.{BecomesInRoom}
use Rattle.u_normal.specs.Values.{AreNormalUpTo, LeadsOn}
use Rattle.u_normal.proofs.whole.+normal.Given as goal

abbrev pub decreases-normal_within : goal.decreases-normal_within
decreases-normal_within l = 8 * load l.u.now + 8

abbrev pub decreases-block_sum : goal.decreases-block_sum
decreases-block_sum l = 8 * load l.u.now + 7

abbrev pub decreases-sum_of_parts : goal.decreases-sum_of_parts
decreases-sum_of_parts l = 8 * max (load l.a.now) (load l.b.now) + 8

abbrev pub decreases-sum_of_body : goal.decreases-sum_of_body
decreases-sum_of_body l = 8 * load l.f.now + 9

abbrev pub decreases-sum_opened : goal.decreases-sum_opened
decreases-sum_opened l = 8 * load l.f.now + 8

abbrev pub decreases-sum_of_product : goal.decreases-sum_of_product
decreases-sum_of_product l = 8 * load l.u.now + 6

abbrev pub decreases-sum_of_head : goal.decreases-sum_of_head
decreases-sum_of_head l = 8 * head_load l.u.now + 5

abbrev pub decreases-normal_row : goal.decreases-normal_row
decreases-normal_row l = 8 * load l.u.now + 4

abbrev pub decreases-normal_factor : goal.decreases-normal_factor
decreases-normal_factor l = 8 * load l.u.now + 3

abbrev pub decreases-normal_plain : goal.decreases-normal_plain
decreases-normal_plain l = 8 * load l.u.now + 2

abbrev pub decreases-normal_values : goal.decreases-normal_values
decreases-normal_values l = 8 * list_nodes l.values.now + 11

abbrev pub decreases-normal_value : goal.decreases-normal_value
decreases-normal_value l = 8 * value_nodes l.value.now + 10

abbrev pub decreases-normal_opened : goal.decreases-normal_opened
decreases-normal_opened l = 8 * load l.f.now + 9

abbrev pub invariant-normal_values-loop-index : goal.invariant-normal_values-loop-index
invariant-normal_values-loop-index l = LeadsOn (BecomesInRoom l.room (AreNormalUpTo l.index l.path l.values)) l.fn.whole l.done
