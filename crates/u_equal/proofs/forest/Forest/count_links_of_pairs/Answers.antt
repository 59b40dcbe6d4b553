use Rattle.std.proofs.Common.{◌≡◌, ◌+◌, ℕ, [], ◌∷◌, ◌++◌, length, take, ap, sym, ◌∙◌, arith}
use Rattle.std.proofs.lemmas.List.{take_more}
use Rattle.u_terms.specs.Syntax.{Val}
use Rattle.u_equal.specs.Joined.{seen}
use Rattle.u_equal.specs.Links.{told}
use Rattle.u_equal.specs.LinkCounts.{links_of_values, sum_of_pairs}
use Rattle.u_equal.proofs.links.LinkNumbers.{same-taken, pairs-number, told-sum}
use Rattle.u_equal.proofs.forest.Forest.count_links_of_pairs.Goals as goal

pub loop-i-preserved : goal.loop-i-preserved
loop-i-preserved c =
    let f : Val → Val → ℕ = links_of_values (seen c.args.self.now) (length c.args.numbers.now) in
    let i = c.loop-i.i in
    let xs = c.args.xs.now in
    let ys = c.args.ys.now in
    let x = c.index-xs-i.result in
    let y = c.index-ys-i.result in
    let more_x : take (i + 1) xs ≡ take i xs ++ x ∷ [] = take_more xs i x (omega arith) ∙ ap (λ (a : Val). take i xs ++ a ∷ []) (sym c.index-xs-i.is) in
    let more_y : take (i + 1) ys ≡ take i ys ++ y ∷ [] = take_more ys i y (omega (arith, c.loop-i.invariant.long)) ∙ ap (λ (a : Val). take i ys ++ a ∷ []) (sym c.index-ys-i.is) in
    record {
      long = c.loop-i.invariant.long;
      counted =
          c.saturating_add-total.ensures
          ∙ told-sum (sum_of_pairs f (take i xs) (take i ys)) (f x y) c.loop-i.total c.in_ok-number.number c.loop-i.invariant.counted c.in_ok-number.ensures
          ∙ ap told (pairs-number f (take i xs) (take i ys) (take (i + 1) xs) (take (i + 1) ys) x y more_x more_y (same-taken i xs ys c.loop-i.invariant.long));
    }
