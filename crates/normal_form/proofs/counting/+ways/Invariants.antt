use Rattle.std.proofs.Common.{◌≡◌, ◌-◌, ◌^◌, min, take}
use Rattle.normal_form.specs.Ways.{list_ways}
use Rattle.normal_form.proofs.counting.+ways.Given as goal

abbrev pub invariant-list_ways-loop-value : goal.invariant-list_ways-loop-value
invariant-list_ways-loop-value l = l.product ≡ min (list_ways (take l.value-index l.values)) (2 ^ 64 - 1)
