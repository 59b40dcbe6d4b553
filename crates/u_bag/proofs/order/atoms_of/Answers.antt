use Rattle.std.proofs.Common.{ap, ◌∙◌}
use Rattle.u_rules.specs.Terms.{mul_leaves, terms}
use Rattle.u_bag.specs.Order.{rows_among}
use Rattle.u_bag.proofs.pairing.Ordered.{all-sums, too-many}
use Rattle.u_bag.proofs.order.atoms_of.Goals as goal

pub returns-in_ok-rows-in-Some : goal.returns-in_ok-rows-in-Some
returns-in_ok-rows-in-Some c =
    let h = c.in-Some.ensures {u = tt} in
    let are = all-sums c.in-Some.sums c.args.u.now c.inside_sums.result.now h.0 c.inside_sums.ensures in
    record {
      sums_are = are.0;
      few = h.1;
      rows_are = c.in_ok-rows-in-Some.ensures {u = tt} ∙ ap (λ fs. rows_among (terms fs)) c.as_slice.ensures ∙ ap rows_among (c.in_ok-factors-in-Some.ensures {u = tt}) ∙ ap (λ u. rows_among (mul_leaves u)) are.1;
    }

pub returns-in-None : goal.returns-in-None
returns-in-None c = too-many c.args.u.now (c.in-None.ensures {u = tt})
