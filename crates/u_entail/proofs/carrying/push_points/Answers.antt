use Rattle.std.proofs.Common.{◌≡◌, ◌+◌, List, [], ◌∷◌, Bool, true, false, drop, sym, subst, arith}
use Rattle.std.proofs.lemmas.List.{drop_all}
use Rattle.u_terms.specs.Syntax.{Val}
use Rattle.u_entail.specs.Carrying.{ArePaired, IsPaired}
use Rattle.u_entail.proofs.copies.Carried.{each-long, pairs-none, pairs-more, pairs-stopped}
use Rattle.u_entail.proofs.products.Lists.{drop-item}
use Rattle.u_entail.proofs.carrying.push_points.Goals as goal

pub returns-then-xs-ys : goal.returns-then-xs-ys
returns-then-xs-ys c = λ each. c.if-xs-ys.true (each-long c.args.classes.now c.args.xs.now c.args.ys.now each)

pub returns-then-not-branch : goal.returns-then-not-branch
returns-then-not-branch c =
    let product = c.args.classes.now in
    let k = c.loop-k.k in
    let x = c.index-xs-k.result in
    let y = c.index-ys-k.result in
    let xs : List Val = drop (k + 1) c.args.xs.now in
    let ys : List Val = drop (k + 1) c.args.ys.now in
    let next_x : drop k c.args.xs.now ≡ x ∷ xs = drop-item c.args.xs.now k x (omega arith) c.index-xs-k.is in
    let next_y : drop k c.args.ys.now ≡ y ∷ ys = drop-item c.args.ys.now k y (omega (arith, c.loop-k.invariant.long)) c.index-ys-k.is in
    let stopped = subst (λ (b : Bool). IsPaired product x y c.loop-k.pairs.items c.push_point.new.pairs.items b) c.if-not-branch.true (c.in_ok-push_point.ensures {u = tt}) in
    c.loop-k.invariant.rest c.push_point.new.pairs.items false
    (subst (λ (vs : List Val). ArePaired product vs (drop k c.args.ys.now) c.loop-k.pairs.items c.push_point.new.pairs.items false) (sym next_x)
    (subst (λ (vs : List Val). ArePaired product (x ∷ xs) vs c.loop-k.pairs.items c.push_point.new.pairs.items false) (sym next_y)
    (pairs-stopped product x y xs ys c.loop-k.pairs.items c.push_point.new.pairs.items c.push_point.new.pairs.items stopped)))

pub loop-k-preserved : goal.loop-k-preserved
loop-k-preserved c =
    let product = c.args.classes.now in
    let k = c.loop-k.k in
    let x = c.index-xs-k.result in
    let y = c.index-ys-k.result in
    let xs : List Val = drop (k + 1) c.args.xs.now in
    let ys : List Val = drop (k + 1) c.args.ys.now in
    let next_x : drop k c.args.xs.now ≡ x ∷ xs = drop-item c.args.xs.now k x (omega arith) c.index-xs-k.is in
    let next_y : drop k c.args.ys.now ≡ y ∷ ys = drop-item c.args.ys.now k y (omega (arith, c.loop-k.invariant.long)) c.index-ys-k.is in
    let one = subst (λ (b : Bool). IsPaired product x y c.loop-k.pairs.items c.push_point.new.pairs.items b) c.if-not-branch.false (c.in_ok-push_point.ensures {u = tt}) in
    record {
      long = c.loop-k.invariant.long;
      rest = λ after answer h.
          c.loop-k.invariant.rest after answer
          (subst (λ (vs : List Val). ArePaired product vs (drop k c.args.ys.now) c.loop-k.pairs.items after answer) (sym next_x)
          (subst (λ (vs : List Val). ArePaired product (x ∷ xs) vs c.loop-k.pairs.items after answer) (sym next_y)
          (pairs-more product x y xs ys c.loop-k.pairs.items c.push_point.new.pairs.items after one answer h)));
    }

pub returns : goal.returns
returns c =
    let product = c.args.classes.now in
    let k = c.loop-k.k in
    c.loop-k.invariant.rest c.loop-k.pairs.items true
    (subst (λ (vs : List Val). ArePaired product vs (drop k c.args.ys.now) c.loop-k.pairs.items c.loop-k.pairs.items true) (sym (drop_all k c.args.xs.now (omega arith)))
    (subst (λ (vs : List Val). ArePaired product [] vs c.loop-k.pairs.items c.loop-k.pairs.items true) (sym (drop_all k c.args.ys.now (omega (arith, c.loop-k.invariant.long))))
    (pairs-none product c.loop-k.pairs.items)))
