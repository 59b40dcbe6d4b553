use Rattle.std.proofs.Common.{arith, ◌≡◌, ◌+◌, ◌*◌, get_or, ap, ◌∙◌}
use Rattle.std.proofs.lemmas.Grind.{common_steps}
use Rattle.u_terms.specs.Size.{depth, value_depth, list_depth}
use Rattle.u_terms.proofs.Sizes.{depth-positive, depth-Sum, depth-Agg, value_depth-get_or}
use Rattle.u_terms.proofs.Mapped.{mapped-Add, mapped-Mul, mapped-Squash, mapped-Not, mapped-Sum, mapped-Rel, mapped-Pred, mapped-Fun, mapped-Agg}
use Rattle.u_terms.proofs.Parts.{parts-Add, parts-Mul, parts-Squash, parts-Not, parts-Sum, parts-Rel, parts-Pred, parts-Fun, parts-Agg}
use Rattle.u_rules.proofs.closed_same.+same_closed.Goals as goal

pub same_inside-overflow_add-binders : goal.same_inside-overflow_add-binders
same_inside-overflow_add-binders t c =
    let e = ap depth c.in-Sum-a.is ∙ depth-Sum c.in-Sum-a.p in
    let p = depth-positive c.in-Sum-a.p in
    omega (arith, c.requires.shallow)

pub same_values-overflow_add-binders : goal.same_values-overflow_add-binders
same_values-overflow_add-binders t c =
    let e = ap value_depth c.in-Agg-a.is ∙ depth-Agg c.in-Agg-a.i c.in-Agg-a.p in
    let p = depth-positive c.in-Agg-a.p in
    omega (arith, c.requires.shallow)

pub same_inside-returns-then-same_inside : goal.same_inside-returns-then-same_inside
same_inside-returns-then-same_inside t c = rw (c.in-Add.is, c.in-Add-a.is, mapped-Add) (λ yes. grind (arith, common_steps), λ e. let h = parts-Add _ _ _ _ e in grind (arith, common_steps))

pub same_inside-returns-else-same_inside : goal.same_inside-returns-else-same_inside
same_inside-returns-else-same_inside t c = rw (c.in-Add.is, c.in-Add-a.is, mapped-Add) (λ yes. grind (arith, common_steps), λ e. let h = parts-Add _ _ _ _ e in grind (arith, common_steps))

pub same_inside-returns-then-same_inside-2 : goal.same_inside-returns-then-same_inside-2
same_inside-returns-then-same_inside-2 t c = rw (c.in-Mul.is, c.in-Mul-a.is, mapped-Mul) (λ yes. grind (arith, common_steps), λ e. let h = parts-Mul _ _ _ _ e in grind (arith, common_steps))

pub same_inside-returns-else-same_inside-2 : goal.same_inside-returns-else-same_inside-2
same_inside-returns-else-same_inside-2 t c = rw (c.in-Mul.is, c.in-Mul-a.is, mapped-Mul) (λ yes. grind (arith, common_steps), λ e. let h = parts-Mul _ _ _ _ e in grind (arith, common_steps))

pub same_inside-returns-in-Squash-a : goal.same_inside-returns-in-Squash-a
same_inside-returns-in-Squash-a t c = rw (c.in-Squash.is, c.in-Squash-a.is, mapped-Squash) (λ yes. grind (arith, common_steps), λ e. let h = parts-Squash _ _ e in grind (arith, common_steps))

pub same_inside-returns-in-Not-a : goal.same_inside-returns-in-Not-a
same_inside-returns-in-Not-a t c = rw (c.in-Not.is, c.in-Not-a.is, mapped-Not) (λ yes. grind (arith, common_steps), λ e. let h = parts-Not _ _ e in grind (arith, common_steps))

pub same_inside-returns-in-Sum-a : goal.same_inside-returns-in-Sum-a
same_inside-returns-in-Sum-a t c = rw (c.in-Sum.is, c.in-Sum-a.is, mapped-Sum) (λ yes. grind (arith, common_steps), λ e. let h = parts-Sum _ _ e in grind (arith, common_steps))

pub same_inside-returns-then-i-j : goal.same_inside-returns-then-i-j
same_inside-returns-then-i-j t c = rw (c.in-Rel.is, c.in-Rel-a.is, mapped-Rel) (λ yes. grind (arith, common_steps), λ e. let h = parts-Rel _ _ _ _ e in grind (arith, common_steps))

pub same_inside-returns-then-i-j-2 : goal.same_inside-returns-then-i-j-2
same_inside-returns-then-i-j-2 t c = rw (c.in-Pred.is, c.in-Pred-a.is, mapped-Pred) (λ yes. grind (arith, common_steps), λ e. let h = parts-Pred _ _ _ _ e in grind (arith, common_steps))

pub same_values-returns-then-i-j : goal.same_values-returns-then-i-j
same_values-returns-then-i-j t c = rw (c.in-Fun.is, c.in-Fun-a.is, mapped-Fun) (λ yes. grind (arith, common_steps), λ e. let h = parts-Fun _ _ _ _ e in grind (arith, common_steps))

pub same_values-returns-then-i-j-2 : goal.same_values-returns-then-i-j-2
same_values-returns-then-i-j-2 t c = rw (c.in-Agg.is, c.in-Agg-a.is, mapped-Agg) (λ yes. grind (arith, common_steps), λ e. let h = parts-Agg _ _ _ _ e in grind (arith, common_steps))

pub same_lists-same_values-requires : goal.same_lists-same_values-requires
same_lists-same_values-requires t c =
    let is : c.index-a-i.result ≡ get_or c.args.a.now c.loop-i.i c.index-a-i.result = c.index-a-i.is in
    let d = value_depth-get_or c.args.a.now c.loop-i.i c.index-a-i.result (omega arith) in
    let h : 2 * list_depth c.args.a.now + 1 ≡ t = c.decreases in
    rw is (omega arith, (omega arith, omega arith))
