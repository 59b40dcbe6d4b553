use Rattle.std.proofs.Common.{◌≡◌, List, map, vec_items, ap, ◌∙◌}
use Rattle.std.specs.Ordering.{nat_cmp}
use Rattle.std.specs.Cmp.Lexicographic.{slice_cmp}
use Rattle.std.proofs.lemmas.List.{take_all}
use Rattle.std.proofs.lemmas.List.Sorted.{IsPermutation-map}
use Rattle.u_rules.specs.Codes.{code}
use Rattle.u_rules.specs.Terms.{terms}
use Rattle.u_rules.proofs.multisets.OneOrder.{ascends}
use Rattle.u_rules.proofs.leaf_lists.sorted_codes.Goals as goal

pub returns : goal.returns
returns c =
    let e : map vec_items c.loop-term.codes.items ≡ map code (terms c.args.all.now)
    = c.loop-term.invariant ∙ ap (λ (xs : List _). map code (terms xs)) (take_all _ _ c.loop-term-test.false) in record {
      of = rw e at (IsPermutation-map vec_items c.loop-term.codes.items c.sort.new.self.items c.in_ok-sort.ensures.permutation);
      ascend = ascends vec_items (slice_cmp nat_cmp) c.sort.new.self.items c.in_ok-sort.ensures.sorted;
    }
