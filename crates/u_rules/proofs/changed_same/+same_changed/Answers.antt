use Rattle.std.proofs.Common.{arith, ◌≡◌, ℕ, ◌+◌, ◌*◌, ◌<◌, List, length, map, get_or, ap, sym, ◌∙◌}
use Rattle.std.proofs.lemmas.List.{get_or-map, length-map}
use Rattle.u_terms.specs.Syntax.{Val}
use Rattle.std.proofs.lemmas.Grind.{common_steps}
use Rattle.u_terms.specs.Size.{depth, value_depth, list_depth}
use Rattle.u_terms.proofs.Sizes.{depth-positive, depth-Sum, depth-Agg, value_depth-get_or}
use Rattle.u_terms.proofs.Mapped.{mapped-Zero, mapped-One, mapped-Add, mapped-Mul, mapped-Squash, mapped-Not, mapped-Sum, mapped-Rel, mapped-Eq, mapped-Pred, mapped-Fun, mapped-Agg}
use Rattle.u_terms.proofs.Parts.{parts-Add, parts-Mul, parts-Squash, parts-Not, parts-Sum, parts-Rel, parts-Pred, parts-Fun, parts-Agg}
use Rattle.u_rules.proofs.changed_same.+same_changed.Goals as goal

-- members at one place, where the one list is the other with two functions applied
at_both : (f g : Val → Val) (xs ys : List Val) (i : ℕ) (x y : Val) → i < length ys → x ≡ get_or xs i x → y ≡ get_or ys i y → xs ≡ map f (map g ys) → x ≡ f (g y)
at_both f g xs ys i x y h is_x is_y e =
    is_x ∙ ap (λ (zs : List Val). get_or zs i x) e ∙ get_or-map f (map g ys) i (g y) x (rw length-map h)
    ∙ ap f (get_or-map g ys i y (g y) h ∙ ap g (sym is_y))

pub same_changed-overflow_add-inside : goal.same_changed-overflow_add-inside
same_changed-overflow_add-inside t c =
    let e = ap depth c.in-Sum-u.is ∙ depth-Sum c.in-Sum-u.x in
    let p = depth-positive c.in-Sum-u.x in
    omega (arith, c.requires.shallow, c.requires.within)

pub same_changed_value-overflow_add-inside : goal.same_changed_value-overflow_add-inside
same_changed_value-overflow_add-inside t c =
    let e = ap value_depth c.in-Agg-v.is ∙ depth-Agg c.in-Agg-v.j c.in-Agg-v.x in
    let p = depth-positive c.in-Agg-v.x in
    omega (arith, c.requires.shallow, c.requires.within)

pub same_changed-overflow_add-binders : goal.same_changed-overflow_add-binders
same_changed-overflow_add-binders t c =
    let e = ap depth c.in-Sum-u.is ∙ depth-Sum c.in-Sum-u.x in
    let p = depth-positive c.in-Sum-u.x in
    omega (arith, c.requires.shallow)

pub same_changed_value-overflow_add-binders : goal.same_changed_value-overflow_add-binders
same_changed_value-overflow_add-binders t c =
    let e = ap value_depth c.in-Agg-v.is ∙ depth-Agg c.in-Agg-v.j c.in-Agg-v.x in
    let p = depth-positive c.in-Agg-v.x in
    omega (arith, c.requires.shallow)

pub same_changed-returns-in_default : goal.same_changed-returns-in_default
same_changed-returns-in_default t c = rw (c.in-Zero.is, mapped-Zero, mapped-Zero) (λ never. absurd (cc), λ e. absurd (c.in_default.not-Zero e))

pub same_changed-returns-in_default-matches : goal.same_changed-returns-in_default-matches
same_changed-returns-in_default-matches t c = rw (c.in-One.is, mapped-One, mapped-One) (λ never. absurd (cc), λ e. absurd (c.in_default-matches.not-One e))

pub same_changed-returns-in_default-u : goal.same_changed-returns-in_default-u
same_changed-returns-in_default-u t c = rw (c.in-Add.is, mapped-Add, mapped-Add) (λ never. absurd (cc), λ e. absurd (c.in_default-u.not-Add _ _ e))

pub same_changed-returns-in_default-u-2 : goal.same_changed-returns-in_default-u-2
same_changed-returns-in_default-u-2 t c = rw (c.in-Mul.is, mapped-Mul, mapped-Mul) (λ never. absurd (cc), λ e. absurd (c.in_default-u-2.not-Mul _ _ e))

pub same_changed-returns-in_default-u-3 : goal.same_changed-returns-in_default-u-3
same_changed-returns-in_default-u-3 t c = rw (c.in-Squash.is, mapped-Squash, mapped-Squash) (λ never. absurd (cc), λ e. absurd (c.in_default-u-3.not-Squash _ e))

pub same_changed-returns-in_default-u-4 : goal.same_changed-returns-in_default-u-4
same_changed-returns-in_default-u-4 t c = rw (c.in-Not.is, mapped-Not, mapped-Not) (λ never. absurd (cc), λ e. absurd (c.in_default-u-4.not-Not _ e))

pub same_changed-returns-in_default-u-5 : goal.same_changed-returns-in_default-u-5
same_changed-returns-in_default-u-5 t c = rw (c.in-Sum.is, mapped-Sum, mapped-Sum) (λ never. absurd (cc), λ e. absurd (c.in_default-u-5.not-Sum _ e))

pub same_changed-returns-in_default-u-6 : goal.same_changed-returns-in_default-u-6
same_changed-returns-in_default-u-6 t c = rw (c.in-Rel.is, mapped-Rel, mapped-Rel) (λ never. absurd (cc), λ e. absurd (c.in_default-u-6.not-Rel _ _ e))

pub same_changed-returns-in_default-u-7 : goal.same_changed-returns-in_default-u-7
same_changed-returns-in_default-u-7 t c = rw (c.in-Eq.is, mapped-Eq, mapped-Eq) (λ never. absurd (cc), λ e. absurd (c.in_default-u-7.not-Eq _ _ e))

pub same_changed-returns-in_default-u-8 : goal.same_changed-returns-in_default-u-8
same_changed-returns-in_default-u-8 t c = rw (c.in-Pred.is, mapped-Pred, mapped-Pred) (λ never. absurd (cc), λ e. absurd (c.in_default-u-8.not-Pred _ _ e))

pub same_changed-returns-then-same_changed : goal.same_changed-returns-then-same_changed
same_changed-returns-then-same_changed t c = rw (c.in-Add.is, c.in-Add-u.is, mapped-Add, mapped-Add) (λ yes. grind (arith, common_steps), λ e. let h = parts-Add _ _ _ _ e in grind (arith, common_steps))

pub same_changed-returns-else-same_changed : goal.same_changed-returns-else-same_changed
same_changed-returns-else-same_changed t c = rw (c.in-Add.is, c.in-Add-u.is, mapped-Add, mapped-Add) (λ yes. grind (arith, common_steps), λ e. let h = parts-Add _ _ _ _ e in grind (arith, common_steps))

pub same_changed-returns-then-same_changed-2 : goal.same_changed-returns-then-same_changed-2
same_changed-returns-then-same_changed-2 t c = rw (c.in-Mul.is, c.in-Mul-u.is, mapped-Mul, mapped-Mul) (λ yes. grind (arith, common_steps), λ e. let h = parts-Mul _ _ _ _ e in grind (arith, common_steps))

pub same_changed-returns-else-same_changed-2 : goal.same_changed-returns-else-same_changed-2
same_changed-returns-else-same_changed-2 t c = rw (c.in-Mul.is, c.in-Mul-u.is, mapped-Mul, mapped-Mul) (λ yes. grind (arith, common_steps), λ e. let h = parts-Mul _ _ _ _ e in grind (arith, common_steps))

pub same_changed-returns-in-Squash-u : goal.same_changed-returns-in-Squash-u
same_changed-returns-in-Squash-u t c = rw (c.in-Squash.is, c.in-Squash-u.is, mapped-Squash, mapped-Squash) (λ yes. grind (arith, common_steps), λ e. let h = parts-Squash _ _ e in grind (arith, common_steps))

pub same_changed-returns-in-Not-u : goal.same_changed-returns-in-Not-u
same_changed-returns-in-Not-u t c = rw (c.in-Not.is, c.in-Not-u.is, mapped-Not, mapped-Not) (λ yes. grind (arith, common_steps), λ e. let h = parts-Not _ _ e in grind (arith, common_steps))

pub same_changed-returns-in-Sum-u : goal.same_changed-returns-in-Sum-u
same_changed-returns-in-Sum-u t c = rw (c.in-Sum.is, c.in-Sum-u.is, mapped-Sum, mapped-Sum) (λ yes. grind (arith, common_steps), λ e. let h = parts-Sum _ _ e in grind (arith, common_steps))

pub same_changed-returns-then-i-j : goal.same_changed-returns-then-i-j
same_changed-returns-then-i-j t c = rw (c.in-Rel.is, c.in-Rel-u.is, mapped-Rel, mapped-Rel) (λ yes. grind (arith, common_steps), λ e. let h = parts-Rel _ _ _ _ e in grind (arith, common_steps))

pub same_changed-returns-then-i-j-2 : goal.same_changed-returns-then-i-j-2
same_changed-returns-then-i-j-2 t c = rw (c.in-Pred.is, c.in-Pred-u.is, mapped-Pred, mapped-Pred) (λ yes. grind (arith, common_steps), λ e. let h = parts-Pred _ _ _ _ e in grind (arith, common_steps))

pub same_changed_value-returns-then-i-j : goal.same_changed_value-returns-then-i-j
same_changed_value-returns-then-i-j t c = rw (c.in-Fun.is, c.in-Fun-v.is, mapped-Fun, mapped-Fun) (λ yes. grind (arith, common_steps), λ e. let h = parts-Fun _ _ _ _ e in grind (arith, common_steps))

pub same_changed_value-returns-then-i-j-2 : goal.same_changed_value-returns-then-i-j-2
same_changed_value-returns-then-i-j-2 t c = rw (c.in-Agg.is, c.in-Agg-v.is, mapped-Agg, mapped-Agg) (λ yes. grind (arith, common_steps), λ e. let h = parts-Agg _ _ _ _ e in grind (arith, common_steps))

pub same_changed_value-returns-in_default : goal.same_changed_value-returns-in_default
same_changed_value-returns-in_default t c = rw (c.in-Fun.is, mapped-Fun, mapped-Fun) (λ never. absurd (cc), λ e. absurd (c.in_default.not-Fun _ _ e))

pub same_changed_value-returns-in_default-v : goal.same_changed_value-returns-in_default-v
same_changed_value-returns-in_default-v t c = rw (c.in-Agg.is, mapped-Agg, mapped-Agg) (λ never. absurd (cc), λ e. absurd (c.in_default-v.not-Agg _ _ e))

pub same_changed_list-same_changed_value-requires : goal.same_changed_list-same_changed_value-requires
same_changed_list-same_changed_value-requires t c =
    let is : c.index-b-i.result ≡ get_or c.args.b.now c.loop-i.i c.index-b-i.result = c.index-b-i.is in
    let d = value_depth-get_or c.args.b.now c.loop-i.i c.index-b-i.result (omega arith) in
    let h : 2 * list_depth c.args.b.now + 1 ≡ t = c.decreases in
    rw is (omega arith, (omega arith, (omega arith, omega arith)))

pub same_changed_list-returns-then-not-same_changed_value : goal.same_changed_list-returns-then-not-same_changed_value
same_changed_list-returns-then-not-same_changed_value t c =
    (λ never. absurd (cc), λ e. let h = c.same_changed_value.ensures.1 (at_both _ _ c.args.b.now c.args.a.now c.loop-i.i c.index-b-i.result c.index-a-i.result (omega arith) c.index-b-i.is c.index-a-i.is e) in grind (arith, common_steps))
