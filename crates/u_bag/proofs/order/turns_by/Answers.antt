use Rattle.std.proofs.Common.{◌≡◌, ℕ, ◌+◌, ◌<◌, List, [], ◌∷◌, add-one, append-nil, drop, drop-cons, length, sym, subst, arith}
use Rattle.std.specs.Prelude.{get_or, slice_get, IsPermutation, Some}
use Rattle.std.proofs.lemmas.List.{drop_all}
use Rattle.std.proofs.lemmas.List.Edits.{length-remove}
use Rattle.std.proofs.lemmas.Option.{slice_get_within}
use Rattle.shape_entails.specs.Turning.{AreFound}
use Rattle.shape_entails.proofs.Positions.{others-wait, wanted-waits}
use Rattle.u_equal.specs.Standing.{IsIn}
use Rattle.u_bag.proofs.pairing.Ordered.{next-turn}
use Rattle.u_bag.proofs.order.turns_by.Goals as goal

pub standing-before-requires-clause-waits : goal.standing-before-requires-clause-waits
standing-before-requires-clause-waits c =
    let less : c.loop-place.place-index < length c.args.wanted.now = c.loop-place-test.true in
    let next : drop c.loop-place.place-index c.args.wanted.now ≡ get_or c.args.wanted.now c.loop-place.place-index 0 ∷ drop (c.loop-place.place-index + 1) c.args.wanted.now =
    rw (add-one, drop-cons c.args.wanted.now c.loop-place.place-index 0 less) in
    subst (IsIn (get_or c.args.wanted.now c.loop-place.place-index 0)) (sym c.as_slice.ensures.value)
    (wanted-waits c.loop-place.waiting.items (drop (c.loop-place.place-index + 1) c.args.wanted.now) (get_or c.args.wanted.now c.loop-place.place-index 0)
    (subst (IsPermutation c.loop-place.waiting.items) next c.loop-place.invariant.wait))

pub remove-requires : goal.remove-requires
remove-requires c =
    let at = slice_get_within c.as_slice.result.now c.standing-before.result (get_or c.args.wanted.now c.loop-place.place-index 0) c.standing-before.ensures in
    omega (arith, at, c.as_slice.ensures.len)

pub loop-place-preserved : goal.loop-place-preserved
loop-place-preserved c =
    let less : c.loop-place.place-index < length c.args.wanted.now = c.loop-place-test.true in
    let next : drop c.loop-place.place-index c.args.wanted.now ≡ get_or c.args.wanted.now c.loop-place.place-index 0 ∷ drop (c.loop-place.place-index + 1) c.args.wanted.now =
    rw (add-one, drop-cons c.args.wanted.now c.loop-place.place-index 0 less) in
    let at : slice_get c.loop-place.waiting.items c.standing-before.result ≡ Some (get_or c.args.wanted.now c.loop-place.place-index 0) =
    subst (λ (l : List ℕ). slice_get l c.standing-before.result ≡ Some (get_or c.args.wanted.now c.loop-place.place-index 0)) c.as_slice.ensures.value c.standing-before.ensures in
    let low = slice_get_within c.loop-place.waiting.items c.standing-before.result (get_or c.args.wanted.now c.loop-place.place-index 0) at in
    rw (c.remove.ensures.items, (c.in_ok-push.ensures {u = tt}).items) (record {
      few = let few = c.loop-place.invariant.few in omega (arith, few, length-remove c.loop-place.waiting.items c.standing-before.result low);
      wait = others-wait c.loop-place.waiting.items (drop (c.loop-place.place-index + 1) c.args.wanted.now) (get_or c.args.wanted.now c.loop-place.place-index 0) c.standing-before.result
          (subst (IsPermutation c.loop-place.waiting.items) next c.loop-place.invariant.wait) at;
      goes_on = next-turn c.in_ok-waiting.waiting.items c.args.wanted.now c.loop-place.waiting.items (drop c.loop-place.place-index c.args.wanted.now)
          (drop (c.loop-place.place-index + 1) c.args.wanted.now) c.loop-place.turns.items (get_or c.args.wanted.now c.loop-place.place-index 0) c.standing-before.result next at c.loop-place.invariant.goes_on;
    })

pub returns : goal.returns
returns c =
    let none : drop c.loop-place.place-index c.args.wanted.now ≡ [] = drop_all c.loop-place.place-index c.args.wanted.now c.loop-place-test.false in
    record {
      places = c.in_ok-waiting.waiting.items;
      all = c.in_ok-waiting.ensures {u = tt};
      found = subst (λ (l : List ℕ). AreFound c.in_ok-waiting.waiting.items c.args.wanted.now l) (append-nil c.loop-place.turns.items)
          (c.loop-place.invariant.goes_on [] (subst (λ (l : List ℕ). AreFound c.loop-place.waiting.items l []) (sym none) tt));
    }
