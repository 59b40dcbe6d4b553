use Rattle.std.proofs.Common.{◌≡◌, length, arith}
use Rattle.std.proofs.lemmas.List.{length-map}
use Rattle.u_rules.specs.Terms.{terms}
use Rattle.u_simple.proofs.Chosen.{all-chosen}
use Rattle.u_simple.proofs.order.sorted_places.Goals as goal

pub returns-clause-order : goal.returns-clause-order
returns-clause-order c =
    let n : length (terms c.args.all.now) ≡ length c.args.all.now = length-map c.args.all.now (λ x. x.now) in
    let all : c.loop-index.index ≡ length (terms c.args.all.now) = omega (arith, n, c.loop-index-test.false, c.loop-index.auto.index-end) in
    all-chosen (terms c.args.all.now) c.loop-index.places.items c.sort.new.self.items c.loop-index.index c.loop-index.invariant.order all c.sort.ensures.permutation
