use Rattle.std.proofs.Common.{◌≡◌, map, take}
use Rattle.std.specs.Prelude.{vec_items}
use Rattle.u_rules.specs.Codes.{code}
use Rattle.u_rules.specs.Terms.{terms}
use Rattle.u_rules.proofs.leaf_lists.sorted_codes.Given as goal

abbrev pub invariant-loop-term : goal.invariant-loop-term
invariant-loop-term l = map vec_items l.codes.items ≡ map code (terms (take l.term-index l.all))
