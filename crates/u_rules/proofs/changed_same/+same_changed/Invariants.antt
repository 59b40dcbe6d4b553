use Rattle.std.proofs.Common.{◌≡◌, ◌+◌, ◌*◌, map, take, length}
use Rattle.u_terms.specs.Size.{depth, value_depth, list_depth}
use Rattle.u_terms.specs.Binding.{mapped_value, place_for_names, same_name, same_place}
use Rattle.u_rules.specs.Answers.{place_for}
use Rattle.u_rules.proofs.changed_same.+same_changed.Given as goal

abbrev pub decreases-same_changed : goal.decreases-same_changed
decreases-same_changed l = 2 * depth l.u.now

abbrev pub decreases-same_changed_value : goal.decreases-same_changed_value
decreases-same_changed_value l = 2 * value_depth l.v.now

abbrev pub decreases-same_changed_list : goal.decreases-same_changed_list
decreases-same_changed_list l = 2 * list_depth l.b.now + 1

abbrev pub invariant-same_changed_list-loop-i : goal.invariant-same_changed_list-loop-i
invariant-same_changed_list-loop-i l =
    (length l.a ≡ length l.b) × (take l.i l.b ≡ map (mapped_value same_place (place_for_names l.first l.count) l.binders) (map (mapped_value (place_for l.change) same_name l.inside) (take l.i l.a)))
