use Rattle.std.proofs.Common.{◌≡◌, ◌+◌, ◌*◌, map, take, length}
use Rattle.u_terms.specs.Size.{depth, value_depth, list_depth}
use Rattle.u_terms.specs.Binding.{mapped_value, place_for_names, same_place}
use Rattle.u_rules.proofs.closed_same.+same_closed.Given as goal

abbrev pub decreases-same_inside : goal.decreases-same_inside
decreases-same_inside l = 2 * depth l.a.now

abbrev pub decreases-same_values : goal.decreases-same_values
decreases-same_values l = 2 * value_depth l.a.now

abbrev pub decreases-same_lists : goal.decreases-same_lists
decreases-same_lists l = 2 * list_depth l.a.now + 1

abbrev pub invariant-same_lists-loop-i : goal.invariant-same_lists-loop-i
invariant-same_lists-loop-i l =
    (length l.a ≡ length l.b) × (take l.i l.a ≡ map (mapped_value same_place (place_for_names l.first l.count) l.binders) (take l.i l.b))
