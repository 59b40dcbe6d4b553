use Rattle.std.proofs.Common.{◌≡◌, length, sym, ◌∙◌}
use Rattle.std.proofs.lemmas.List.{length-map}
use Rattle.std.proofs.lemmas.List.Sorted.{length_permutation}
use Rattle.u_rules.specs.Terms.{terms}
use Rattle.u_rules.proofs.leaf_lists.same_terms.Goals as goal

pub returns-then-left-right : goal.returns-then-left-right
returns-then-left-right c = λ p.
    let left : length (terms c.args.left.now) ≡ length c.args.left.now = length-map _ _ in
    let right : length (terms c.args.right.now) ≡ length c.args.right.now = length-map _ _ in
    c.if-left-right.true (sym left ∙ sym (length_permutation _ _ p) ∙ right)
