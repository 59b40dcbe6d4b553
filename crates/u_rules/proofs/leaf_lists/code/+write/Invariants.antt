use Rattle.std.proofs.Common.{◌≡◌, ◌++◌, drop}
use Rattle.u_rules.specs.Codes.{list_code}
use Rattle.u_rules.proofs.leaf_lists.code.+write.Given as goal

abbrev pub invariant-write_list-loop-value : goal.invariant-write_list-loop-value
invariant-write_list-loop-value l = l.numbers.items ++ list_code (drop l.value-index l.values) ≡ l.initial.numbers.items ++ list_code l.values
