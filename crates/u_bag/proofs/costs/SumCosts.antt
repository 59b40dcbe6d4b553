-- What a derivation between two sums of blocks costs, by the shapes of the blocks that are paired.
use Rattle.std.proofs.Common.{◌≡◌, ℕ, zero, suc, ◌+◌, ◌*◌, ◌<◌, ◌≤◌, List, [], ◌∷◌, ◌++◌, length, get_or, map, Option, Some, refl, ap, sym, subst, ◌∙◌, arith}
use Rattle.std.specs.Prelude.{sum_by, unwrap_or, Contains, IsPermutation}
use Rattle.std.proofs.lemmas.List.{length-append, length-map}
use Rattle.std.proofs.lemmas.List.Sums.{sum_by-cons}
use Rattle.std.proofs.lemmas.List.Sorted.{Contains-permutation, IsPermutation-map, IsPermutation-sym, length_permutation}
use Rattle.data_model.specs.Lists.{Each}
use Rattle.u_terms.specs.Syntax.{U}
use Rattle.u_terms.specs.Size.{nodes, depth}
use Rattle.u_rules.specs.Terms.{add_leaves}
use Rattle.u_deriv.specs.LineBounds.{lines_bound}
use Rattle.u_deriv.specs.declared.run.Run.TheVariants.{Left, Right}
use Rattle.u_deriv.specs.Turns.{turns}
use Rattle.u_moves.specs.Derivations.{Derivation, IsWithin}
use Rattle.u_moves.specs.Lifting.{lifted}
use Rattle.u_moves.proofs.derivations.Lines.{bound-then, bound-under, count-under, plain-lifted, plain-then}
use Rattle.u_deriv.specs.LineBounds.{IsPlain}
use Rattle.u_congruence.specs.Congruence.{AreBeside}
use Rattle.normal_form.specs.NormalTerms.{sum_of}
use Rattle.u_simple.proofs.Chosen.{each-permuted}
use Rattle.shapes.specs.Shapes.{Shape}
use Rattle.block_costs.specs.Costs.{Pairs, lefts, rights, pairing_steps, pairing_nodes, pairing_depth, pairing_bytes, greatest_depth, sum_costs}
use Rattle.term_shapes.specs.TermShape.{HasShape, term_shape}
use Rattle.u_bag.specs.declared.pairs.Pair.{Pair}
use Rattle.u_bag.specs.Pairs.{ArePairs, CanBePaired, lefts_of, rights_of}
use Rattle.u_bag.specs.Costs.{AddedCosts, HaveShapePairs, IsOneStepAtMost, IsThreefold, IsTight, IsTightSum, KeepsAddedCosts, KeepsCosts, KeepsPairingCosts, KeepsPairsCosts, KeepsSumCosts}
use Rattle.u_bag.proofs.costs.Numbers.{greatest-more, sum-permuted, sum-shallow}

abbrev steps_of_pair : Shape × Shape → ℕ
steps_of_pair pair = pairing_steps pair.0 pair.1

abbrev nodes_of_pair : Shape × Shape → ℕ
nodes_of_pair pair = 1 + pairing_nodes pair.0 pair.1

abbrev depth_of_pair : Shape × Shape → ℕ
depth_of_pair pair = pairing_depth pair.0 pair.1

-- ---- bytes of blocks that stand further down
-- where each line of a block is longer by so much
abbrev bytes_below : ℕ → Shape × Shape → ℕ
bytes_below more pair = pairing_bytes pair.0 pair.1 + more * pairing_steps pair.0 pair.1

bytes-lower : (more : ℕ) (pairs : Pairs) → sum_by (bytes_below more) pairs + 11 * sum_by steps_of_pair pairs ≡ sum_by (bytes_below (more + 11)) pairs
bytes-lower more [] = refl
bytes-lower more (pair ∷ pairs) =
    let rest = bytes-lower more pairs in
    omega (arith, rest, sum_by-cons (bytes_below more) pair pairs, sum_by-cons steps_of_pair pair pairs, sum_by-cons (bytes_below (more + 11)) pair pairs)

-- ---- pair by pair
only-one : (pairs : Pairs) (shapes : Shape × Shape) (d : Derivation) → pairs ≡ shapes ∷ [] → length d.steps ≤ pairing_steps shapes.0 shapes.1 → d.nodes ≤ pairing_nodes shapes.0 shapes.1 → d.depth ≤ pairing_depth shapes.0 shapes.1
    → lines_bound d.steps ≤ pairing_bytes shapes.0 shapes.1 → Each IsPlain d.steps → AddedCosts (shapes ∷ []) d
only-one pairs shapes d is steps many deep bytes plain = record {
  steps = omega (arith, steps, sum_by-cons steps_of_pair shapes []);
  nodes = omega (arith, many, sum_by-cons nodes_of_pair shapes []);
  depth = omega (arith, deep, greatest-more depth_of_pair shapes []);
  bytes = omega (arith, bytes, sum_by-cons (bytes_below (11 * length (shapes ∷ []))) shapes []);
  plain = plain;
}

pub one-costs : (outs : ℕ) (found : List Pair) (pair : Pair) (d : Derivation) → found ≡ pair ∷ [] → KeepsPairingCosts outs pair.left.now pair.right.now d → KeepsAddedCosts outs found d
one-costs outs found pair d is costs = subst (λ (ps : List Pair). KeepsAddedCosts outs ps d) (sym is) (record { by = alone })
  where
    alone : (pairs : Pairs) → 0 < length pairs → HaveShapePairs outs (pair ∷ []) pairs → AddedCosts pairs d
    alone [] some h = absurd h
    alone (shapes ∷ []) some h =
        let k = costs.by shapes.0 shapes.1 h.0 h.1 h.2 in
        only-one (shapes ∷ []) shapes d refl k.steps k.nodes k.depth k.bytes k.plain
    alone (shapes ∷ more ∷ pairs) some h = absurd h.3

-- the first pair beside the others
module _ (outs : ℕ) (pair : Pair) (next : Pair) (found : List Pair) (first others d : Derivation) (one : KeepsPairingCosts outs pair.left.now pair.right.now first) (rest : KeepsAddedCosts outs (next ∷ found) others)
    (beside : AreBeside first others d) where
  added : (pairs : Pairs) → 0 < length pairs → HaveShapePairs outs (pair ∷ next ∷ found) pairs → AddedCosts pairs d
  added [] some h = absurd h
  added (shapes ∷ []) some h = absurd h.3
  added (shapes ∷ more ∷ pairs) some h =
      let k = one.by shapes.0 shapes.1 h.0 h.1 h.2 in
      let l = rest.by (more ∷ pairs) (omega arith) h.3 in
      let steps = k.steps in
      let other_steps = l.steps in
      let many = k.nodes in
      let other_nodes = l.nodes in
      let deep = k.depth in
      let other_depth = l.depth in
      let bytes = k.bytes in
      let other_bytes : lines_bound others.steps ≤ sum_by (bytes_below (11 * length (more ∷ pairs))) (more ∷ pairs) = l.bytes in
      let both_nodes = beside.nodes in
      let both_depth = beside.depth in
      let once_left : length (turns (Left 1 ∷ [])) ≡ 1 = refl in
      let once_right : length (turns (Right 1 ∷ [])) ≡ 1 = refl in
      let longer : 11 * length (more ∷ pairs) + 11 ≡ 11 * length (shapes ∷ more ∷ pairs) = omega arith in
      let lower : sum_by (bytes_below (11 * length (more ∷ pairs))) (more ∷ pairs) + 11 * sum_by steps_of_pair (more ∷ pairs) ≡ sum_by (bytes_below (11 * length (shapes ∷ more ∷ pairs))) (more ∷ pairs) =
      bytes-lower (11 * length (more ∷ pairs)) (more ∷ pairs) ∙ ap (λ (n : ℕ). sum_by (bytes_below n) (more ∷ pairs)) longer in
      record {
        steps = omega (
          arith,
          steps,
          other_steps,
          ap length beside.steps,
          length-append (lifted (Left 1 ∷ []) first.steps) (lifted (Right 1 ∷ []) others.steps),
          count-under (Left 1 ∷ []) first.steps,
          count-under (Right 1 ∷ []) others.steps,
          sum_by-cons steps_of_pair shapes (more ∷ pairs),
        );
        nodes = omega (arith, both_nodes, many, other_nodes, sum_by-cons nodes_of_pair shapes (more ∷ pairs));
        depth = omega (arith, both_depth, deep, other_depth, greatest-more depth_of_pair shapes (more ∷ pairs));
        bytes = lines (first-longer (length (more ∷ pairs)) (pairing_steps shapes.0 shapes.1) (length first.steps) steps) lower bytes other_bytes other_steps once_left once_right;
        plain = subst (Each IsPlain) (sym beside.steps)
            (plain-then (lifted (Left 1 ∷ []) first.steps) (lifted (Right 1 ∷ []) others.steps) (plain-lifted (Left 1 ∷ []) first.steps k.plain) (plain-lifted (Right 1 ∷ []) others.steps l.plain));
      }
    where
      first-longer : (n most steps : ℕ) → steps ≤ most → 11 * steps ≤ 11 * suc n * most
      first-longer zero most steps few = omega (arith, few)
      first-longer (suc n) most steps few = let before = first-longer n most steps few in omega (arith, before)

      lines : 11 * length first.steps ≤ 11 * length (shapes ∷ more ∷ pairs) * pairing_steps shapes.0 shapes.1
          → sum_by (bytes_below (11 * length (more ∷ pairs))) (more ∷ pairs) + 11 * sum_by steps_of_pair (more ∷ pairs) ≡ sum_by (bytes_below (11 * length (shapes ∷ more ∷ pairs))) (more ∷ pairs)
          → lines_bound first.steps ≤ pairing_bytes shapes.0 shapes.1 → lines_bound others.steps ≤ sum_by (bytes_below (11 * length (more ∷ pairs))) (more ∷ pairs)
          → length others.steps ≤ sum_by steps_of_pair (more ∷ pairs) → length (turns (Left 1 ∷ [])) ≡ 1 → length (turns (Right 1 ∷ [])) ≡ 1
          → lines_bound d.steps ≤ sum_by (bytes_below (11 * length (shapes ∷ more ∷ pairs))) (shapes ∷ more ∷ pairs)
      lines longer lower bytes other_bytes other_steps once_left once_right =
          let left : lines_bound (lifted (Left 1 ∷ []) first.steps) ≡ 11 * length first.steps + lines_bound first.steps =
          bound-under (Left 1 ∷ []) first.steps ∙ ap (λ (n : ℕ). length first.steps * (11 * n) + lines_bound first.steps) once_left ∙ omega arith in
          let right : lines_bound (lifted (Right 1 ∷ []) others.steps) ≡ 11 * length others.steps + lines_bound others.steps =
          bound-under (Right 1 ∷ []) others.steps ∙ ap (λ (n : ℕ). length others.steps * (11 * n) + lines_bound others.steps) once_right ∙ omega arith in
          omega (
            arith,
            ap lines_bound beside.steps,
            bound-then (lifted (Left 1 ∷ []) first.steps) (lifted (Right 1 ∷ []) others.steps),
            left,
            right,
            longer,
            lower,
            bytes,
            other_bytes,
            other_steps,
            sum_by-cons (bytes_below (11 * length (shapes ∷ more ∷ pairs))) shapes (more ∷ pairs),
          )

pub beside-costs : (outs : ℕ) (all found : List Pair) (pair : Pair) (first others d : Derivation) → all ≡ pair ∷ found → 0 < length found → KeepsPairingCosts outs pair.left.now pair.right.now first → KeepsAddedCosts outs found others
    → AreBeside first others d → KeepsAddedCosts outs all d
beside-costs outs all [] pair first others d is some one rest beside = absurd (omega (arith, some))
beside-costs outs all (next ∷ found) pair first others d is some one rest beside =
    subst (λ (ps : List Pair). KeepsAddedCosts outs ps d) (sym is) (record { by = added outs pair next found first others d one rest beside })

pub no-pairs-costs : (outs : ℕ) (found : List Pair) (d : Derivation) → found ≡ [] → KeepsAddedCosts outs found d
no-pairs-costs outs found d is = subst (λ (ps : List Pair). KeepsAddedCosts outs ps d) (sym is) (record { by = none })
  where
    none : (pairs : Pairs) → 0 < length pairs → HaveShapePairs outs [] pairs → AddedCosts pairs d
    none [] some h = absurd (omega (arith, some))
    none (shapes ∷ pairs) some h = absurd h

-- ---- the step before and the one after
rights-shallow : (outs : ℕ) (found : List Pair) (pairs : Pairs) → HaveShapePairs outs found pairs → Each (λ u. depth u ≤ greatest_depth pairs) (rights_of found)
rights-shallow outs [] [] h = tt
rights-shallow outs [] (shapes ∷ pairs) h = absurd h
rights-shallow outs (pair ∷ found) [] h = absurd h
rights-shallow outs (pair ∷ found) (shapes ∷ pairs) h =
    let shallow = h.2.shallow in
    let greatest = greatest-more depth_of_pair shapes pairs in (
      omega (arith, shallow, greatest),
      deeper (greatest_depth pairs) (greatest_depth (shapes ∷ pairs)) (omega (arith, greatest)) (rights_of found) (rights-shallow outs found pairs h.3),
    )
  where
    deeper : (m n : ℕ) → m ≤ n → (us : List U) → Each (λ u. depth u ≤ m) us → Each (λ u. depth u ≤ n) us
    deeper m n less [] each = tt
    deeper m n less (u ∷ us) each = let first = each.0 in (omega (arith, first, less), deeper m n less us each.1)

as-many-pairs : (outs : ℕ) (found : List Pair) (pairs : Pairs) → HaveShapePairs outs found pairs → length found ≡ length pairs
as-many-pairs outs [] [] h = refl
as-many-pairs outs [] (shapes ∷ pairs) h = absurd h
as-many-pairs outs (pair ∷ found) [] h = absurd h
as-many-pairs outs (pair ∷ found) (shapes ∷ pairs) h = ap suc (as-many-pairs outs found pairs h.3)

module _ (outs : ℕ) (left right : U) (found : List Pair) (h : ArePairs (add_leaves left) (add_leaves right) found) (between first last d : Derivation) (start end : U) (added_costs : KeepsAddedCosts outs found between)
    (start_is : start ≡ sum_of (lefts_of found)) (end_is : end ≡ sum_of (rights_of found)) (from : IsWithin between.nodes between.depth start) (to : IsWithin between.nodes between.depth end)
    (one : IsOneStepAtMost left start first) (other : IsOneStepAtMost end right last) (all : IsThreefold first between last d) where
  sums-cost : (pairs : Pairs) → 0 < length pairs → HaveShapePairs outs found pairs → IsTightSum outs left → IsTightSum outs right → KeepsCosts (sum_costs pairs) d
  sums-cost pairs some shaped of_left of_right =
      let k = added_costs.by pairs some shaped in
      let as_many = as-many-pairs outs found pairs shaped in
      let left_is : left ≡ start = of_left.in_row ∙ sym (start_is ∙ ap sum_of h.lefts_are) in
      let rights_long : 0 < length (rights_of found) = omega (arith, some, as_many, length-map found (λ (p : Pair). p.right.now)) in
      let right_nodes : nodes right ≡ nodes end = ap nodes of_right.in_row ∙ sum-permuted (rights_of found) (add_leaves right) rights_long (IsPermutation-sym (add_leaves right) (rights_of found) h.rights_are) ∙ ap nodes (sym end_is) in
      let right_shallow : Each (λ u. depth u ≤ greatest_depth pairs) (add_leaves right) =
      each-permuted (λ u. depth u ≤ greatest_depth pairs) (rights_of found) (add_leaves right) (IsPermutation-sym (add_leaves right) (rights_of found) h.rights_are) (rights-shallow outs found pairs shaped) in
      let right_depth = sum-shallow (greatest_depth pairs) (add_leaves right) of_right.some right_shallow in
      let right_long : length (add_leaves right) ≡ length pairs =
      sym (length_permutation (add_leaves right) (rights_of found) h.rights_are) ∙ length-map found (λ (p : Pair). p.right.now) ∙ as_many in
      let steps = k.steps in
      let many = k.nodes in
      let deep = k.depth in
      let bytes = k.bytes in
      let f = from.few in
      let t = to.few in
      let fs = from.shallow in
      let ts = to.shallow in
      let one_steps = one.steps in
      let other_steps = other.steps in
      let one_nodes = one.nodes in
      let other_nodes = other.nodes in
      let one_depth = one.depth in
      let other_depth = other.depth in
      let one_bytes = one.bytes in
      let other_bytes = other.bytes in
      let all_nodes = all.nodes in
      let all_depth = all.depth in
      record {
        steps = omega (
          arith,
          steps,
          one_steps,
          other_steps,
          ap length all.steps,
          length-append (first.steps ++ between.steps) last.steps,
          length-append first.steps between.steps,
        );
        nodes = omega (arith, all_nodes, many, one_nodes, other_nodes, ap nodes left_is, right_nodes, f, t);
        depth = omega (arith, all_depth, deep, one_depth, other_depth, ap depth left_is, ap depth of_right.in_row, right_depth, right_long, fs, ts);
        bytes = omega (
          arith,
          bytes,
          one_bytes,
          other_bytes,
          ap lines_bound all.steps,
          bound-then (first.steps ++ between.steps) last.steps,
          bound-then first.steps between.steps,
          ap nodes left_is,
          right_nodes,
          f,
          t,
          many,
        );
        plain = subst (Each IsPlain) (sym all.steps) (plain-then (first.steps ++ between.steps) last.steps (plain-then first.steps between.steps one.plain k.plain) other.plain);
      }

  pub pairs-cost : KeepsPairsCosts outs left right found d
  pairs-cost = record { by = sums-cost }

-- ---- the shapes of the pairs
pub no_shape : Shape
no_shape = record { entries = []; equalities = []; marks = []; outputs = [] }

-- the shape of a term that has one
abbrev pub shape_at : ℕ → U → Shape
shape_at outs u = unwrap_or (term_shape outs u) no_shape

abbrev shapes_at : ℕ → Pair → Shape × Shape
shapes_at outs pair = (shape_at outs pair.left.now, shape_at outs pair.right.now)

shapes-listed : (outs : ℕ) (us : List U) (ss : List Shape) → map (term_shape outs) us ≡ map Some ss → map (shape_at outs) us ≡ ss
shapes-listed outs [] [] e = refl
shapes-listed outs [] (s ∷ ss) e = absurd (cc)
shapes-listed outs (u ∷ us) [] e = absurd (cc)
shapes-listed outs (u ∷ us) (s ∷ ss) e =
    let first : term_shape outs u ≡ Some s = cc in
    let rest : map (term_shape outs) us ≡ map Some ss = cc in
    ap (λ (o : Option Shape). unwrap_or o no_shape ∷ map (shape_at outs) us) first ∙ ap (λ (ts : List Shape). s ∷ ts) (shapes-listed outs us ss rest)

pub shaped-at : (outs : ℕ) (us : List U) (ss : List Shape) → map (term_shape outs) us ≡ map Some ss → (u : U) → Contains us u → HasShape outs u (shape_at outs u)
shaped-at outs us ss e u i = at us ss e i.0 i.1 i.2
  where
    at : (xs : List U) (ts : List Shape) → map (term_shape outs) xs ≡ map Some ts → (k : ℕ) → k < length xs → get_or xs k u ≡ u → HasShape outs u (shape_at outs u)
    at [] ts e k less is = absurd (omega (arith, less))
    at (x ∷ xs) [] e k less is = absurd (cc)
    at (x ∷ xs) (t ∷ ts) e zero less is =
        let first : term_shape outs x ≡ Some t = cc in
        let here : term_shape outs u ≡ Some t = ap (term_shape outs) (sym is) ∙ first in
        here ∙ ap (λ (o : Option Shape). Some (unwrap_or o no_shape)) (sym here)
    at (x ∷ xs) (t ∷ ts) e (suc k) less is = at xs ts (cc) k (omega (arith, less)) is

lefts-at : (outs : ℕ) (found : List Pair) → lefts (map (shapes_at outs) found) ≡ map (shape_at outs) (lefts_of found)
lefts-at outs [] = refl
lefts-at outs (pair ∷ found) = ap (λ (ss : List Shape). shape_at outs pair.left.now ∷ ss) (lefts-at outs found)

rights-at : (outs : ℕ) (found : List Pair) → rights (map (shapes_at outs) found) ≡ map (shape_at outs) (rights_of found)
rights-at outs [] = refl
rights-at outs (pair ∷ found) = ap (λ (ss : List Shape). shape_at outs pair.right.now ∷ ss) (rights-at outs found)

-- what holds of each term of a list, and of no other place in it
later : (u : U) (us : List U) (x : U) → Contains us x → Contains (u ∷ us) x
later u us x i = (suc i.0, (let low = i.1 in omega (arith, low)), i.2)

have-shape-pairs : (outs : ℕ) (found : List Pair) → ((u : U) → Contains (lefts_of found) u → HasShape outs u (shape_at outs u) × IsTight (shape_at outs u) u)
    → ((u : U) → Contains (rights_of found) u → HasShape outs u (shape_at outs u) × IsTight (shape_at outs u) u) → HaveShapePairs outs found (map (shapes_at outs) found)
have-shape-pairs outs [] l r = tt
have-shape-pairs outs (pair ∷ found) l r =
    let left = l pair.left.now (0, omega arith, refl) in
    let right = r pair.right.now (0, omega arith, refl) in (
      record { left_has = left.0; right_has = right.0 },
      left.1,
      right.1,
      have-shape-pairs outs found (λ u i. l u (later pair.left.now (lefts_of found) u i)) (λ u i. r u (later pair.right.now (rights_of found) u i)),
    )

pub sum-costs : (outs : ℕ) (left right : U) (found : List Pair) (d : Derivation) → ArePairs (add_leaves left) (add_leaves right) found → (can : CanBePaired outs (add_leaves left) (add_leaves right))
    → KeepsPairsCosts outs left right found d → KeepsSumCosts outs left right can.ss can.ts d
sum-costs outs left right found d h can costs = record {
  pairs = map (shapes_at outs) found;
  lefts_are = lefts-at outs found ∙ ap (map (shape_at outs)) h.lefts_are ∙ shapes-listed outs (add_leaves left) can.ss can.lefts_have;
  rights_are = subst (λ (ts : List Shape). IsPermutation ts (rights (map (shapes_at outs) found))) (shapes-listed outs (add_leaves right) can.ts can.rights_have)
      (subst (IsPermutation (map (shape_at outs) (add_leaves right))) (sym (rights-at outs found)) (IsPermutation-map (shape_at outs) (add_leaves right) (rights_of found) h.rights_are));
  costs = λ of_left of_right.
      let long : length (map (shapes_at outs) found) ≡ length (add_leaves left) =
      length-map found (shapes_at outs) ∙ sym (length-map found (λ (p : Pair). p.left.now)) ∙ ap length h.lefts_are in
      let some = of_left.some in
      costs.by (map (shapes_at outs) found) (omega (arith, some, long))
      (have-shape-pairs outs found
      (λ u i.
      let among : Contains (add_leaves left) u = subst (λ (us : List U). Contains us u) h.lefts_are i in
      let shaped = shaped-at outs (add_leaves left) can.ss can.lefts_have u among in
      (shaped, of_left.each u among (shape_at outs u) shaped))
      (λ u i.
      let among : Contains (add_leaves right) u = Contains-permutation (rights_of found) (add_leaves right) u (IsPermutation-sym (add_leaves right) (rights_of found) h.rights_are) i in
      let shaped = shaped-at outs (add_leaves right) can.ts can.rights_have u among in
      (shaped, of_right.each u among (shape_at outs u) shaped)))
      of_left of_right;
}
