use Rattle.std.proofs.Common.{◌≡◌, ◌+◌, ◌∷◌, ◌++◌, [], take, Some, None, ap, sym, subst, ◌∙◌}
use Rattle.std.specs.Prelude.{remove}
use Rattle.std.proofs.lemmas.List.{take_all, take_more}
use denote.Ref.{Bor}
use Rattle.u_terms.specs.Syntax.{U}
use Rattle.u_rules.specs.Terms.{terms}
use Rattle.u_bag.specs.Rows.{IsPlaceOf}
use Rattle.u_bag.proofs.products.Splits.{split-left, split-right, disjoint-new, disjoint-same, split-at, split-new}
use Rattle.u_bag.proofs.differences.differences_of.Goals as goal
use Rattle.u_bag.proofs.differences.differences_of.Goals.{in-Some, in-None+in_ok-push-in-None}

pub loop-factor-preserved : goal.loop-factor-preserved
loop-factor-preserved c =
    let next : take (c.loop-factor.factor-index + 1) c.args.right.now ≡ take c.loop-factor.factor-index c.args.right.now ++ c.factor-item.result ∷ [] =
    take_more c.args.right.now c.loop-factor.factor-index c.factor-item.result c.loop-factor-test.true
    ∙ ap (λ (r : Bor U). take c.loop-factor.factor-index c.args.right.now ++ r ∷ []) (sym c.factor-item.is) in
    elim c.match-place_of.branch [
      | in-Some w ↦
          let lefts : c.match-place_of.only_left.items ≡ remove c.loop-factor.only_left.items w.in-Some.place = ap (λ v. v.items) w.only_left-is ∙ w.remove.ensures.items in
          let rights : c.match-place_of.only_right.items ≡ c.loop-factor.only_right.items = ap (λ v. v.items) w.only_right-is in
          let at = subst (λ fs. IsPlaceOf c.factor-item.result.now (terms fs) (Some w.in-Some.place)) c.as_slice.ensures.value (w.in-Some.ensures {u = tt}) in
          rw (lefts, rights, next) (record {
            split = split-at (λ r. r.now) c.args.left.now (take c.loop-factor.factor-index c.args.right.now) c.loop-factor.only_left.items c.loop-factor.only_right.items w.in-Some.place c.factor-item.result at c.loop-factor.invariant.split;
            disjoint = disjoint-same (λ r. r.now) c.loop-factor.only_left.items c.loop-factor.only_right.items w.in-Some.place c.loop-factor.invariant.disjoint;
          })
      | in-None+in_ok-push-in-None w ↦
          let lefts : c.match-place_of.only_left.items ≡ c.loop-factor.only_left.items = ap (λ v. v.items) w.only_left-is in
          let rights : c.match-place_of.only_right.items ≡ c.loop-factor.only_right.items ++ c.factor-item.result ∷ [] = ap (λ v. v.items) w.only_right-is ∙ (w.in_ok-push-in-None.ensures {u = tt}).items in
          let none = subst (λ fs. IsPlaceOf c.factor-item.result.now (terms fs) None) c.as_slice.ensures.value (w.in-None.ensures {u = tt}) in
          rw (lefts, rights, next) (record {
            split = split-new (λ r. r.now) c.args.left.now (take c.loop-factor.factor-index c.args.right.now) c.loop-factor.only_left.items c.loop-factor.only_right.items c.factor-item.result c.loop-factor.invariant.split;
            disjoint = disjoint-new (λ r. r.now) c.loop-factor.only_left.items c.loop-factor.only_right.items c.factor-item.result c.loop-factor.invariant.disjoint none;
          })
    ]

pub returns : goal.returns
returns c =
    let s = c.loop-factor.invariant.split in
    let whole : take c.loop-factor.factor-index c.args.right.now ≡ c.args.right.now = take_all c.loop-factor.factor-index c.args.right.now c.loop-factor-test.false in
    record {
      common = terms s.of_left;
      left_is = split-left (λ r. r.now) c.args.left.now (take c.loop-factor.factor-index c.args.right.now) c.loop-factor.only_left.items c.loop-factor.only_right.items s;
      right_is = rw whole at (split-right (λ r. r.now) c.args.left.now (take c.loop-factor.factor-index c.args.right.now) c.loop-factor.only_left.items c.loop-factor.only_right.items s);
      disjoint = c.loop-factor.invariant.disjoint;
    }
