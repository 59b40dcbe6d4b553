-- The size that is kept of a term, after the sides of a step are exchanged in it.
use Rattle.std.proofs.Common.{◌≡◌, ℕ, zero, suc, ◌+◌, ◌-◌, ◌*◌, ◌<◌, ◌≤◌, max, Bool, true, false, length, sym, ap, ◌∙◌, subst, inl, inr, arith}
use Rattle.std.specs.Prelude.{List}
use Rattle.u_terms.specs.Syntax.{U}
use Rattle.u_terms.specs.Size.{nodes, depth}
use Rattle.u_terms.specs.declared.facts.Facts.{Facts}
use Rattle.u_terms.proofs.Sizes.{depth-positive, nodes-Mul, depth-Mul}
use Rattle.u_terms.specs.Binding.{closed_path}
use Rattle.u_rules.specs.declared.side_sizes.Sizes.{Sizes}
use Rattle.u_rules.specs.Measures.{flat, measure_of, sizes_of}
use Rattle.u_rules.specs.Rows.{Instance}
use Rattle.u_rules.specs.Terms.{◌⊗◌}
use Rattle.u_deriv.specs.declared.run.Run.{Run}
use Rattle.u_deriv.specs.declared.step.Step.{Step, out-Step}
use Rattle.u_deriv.specs.declared.place.Place.{Place}
use Rattle.u_deriv.specs.Applying.{place_of}
use Rattle.u_deriv.specs.Contexts.{binders, way}
use Rattle.u_deriv.specs.Steps.{Replaced, Exchanged, Sides}
use Rattle.u_deriv.specs.Turns.{turns}
use Rattle.u_deriv.proofs.contexts.Extents.{replaced-nodes, replaced-depth, replaced-at_root, replaced-in_square, binders-few, deep-filled}
use Rattle.proof_text.specs.Limits.{most_depth}
use Rattle.proof_check.specs.Limits.{SidesAreSmall, sizes_for}
use Rattle.proof_check.specs.TermSize.{HasSize, IsSteppable, directed, depth_after}

-- ---- the sides of a step
pub record AreSizes (sizes : Sizes) (left right : U) : Type 0 where
  pub left_nodes : sizes.left_nodes ≡ nodes left
  pub left_depth : sizes.left_depth ≡ depth left
  pub right_nodes : sizes.right_nodes ≡ nodes right
  pub right_depth : sizes.right_depth ≡ depth right

-- those of small sides are no greatest numbers of 64 bits
exact-sizes : (facts : Facts) (step : Step) (left right : U) → Instance facts (out-Step step).rule (out-Step step).args left right
    → SidesAreSmall (sizes_for facts step) → AreSizes (sizes_for facts step) left right
unfolding measure_of
exact-sizes facts step left right i small =
    let e : sizes_for facts step ≡ flat (measure_of left) (measure_of right) = ap sizes_of i.row in
    record {
      left_nodes = omega (arith, ap (λ (s : Sizes). s.left_nodes) e, small.left.few);
      left_depth = omega (arith, ap (λ (s : Sizes). s.left_depth) e, small.left.flat);
      right_nodes = omega (arith, ap (λ (s : Sizes). s.right_nodes) e, small.right.few);
      right_depth = omega (arith, ap (λ (s : Sizes). s.right_depth) e, small.right.flat);
    }

pub directed-sizes : (facts : Facts) (step : Step) (forward : Bool) (from to : U) → Sides facts forward step from to
    → SidesAreSmall (sizes_for facts step) → AreSizes (directed forward (sizes_for facts step)) from to
directed-sizes facts step true from to i small = exact-sizes facts step from to i small
directed-sizes facts step false from to i small =
    let e = exact-sizes facts step to from i small in
    record { left_nodes = e.right_nodes; left_depth = e.right_depth; right_nodes = e.left_nodes; right_depth = e.left_depth }

pub directed-small : (sizes : Sizes) (forward : Bool) → SidesAreSmall sizes → SidesAreSmall (directed forward sizes)
directed-small sizes true small = small
directed-small sizes false small = record { left = small.right; right = small.left }

-- ---- terms on which steps are made
pub steppable-nodes : (u : U) → IsSteppable u → nodes u ≤ 400001
steppable-nodes u (inl small) = omega (arith, small.few)
steppable-nodes u (inr square) = omega (arith, square.small.few, ap nodes square.square, nodes-Mul square.factor square.factor)

pub steppable-depth : (u : U) → IsSteppable u → depth u ≤ 2049
steppable-depth u (inl small) = omega (arith, small.flat)
steppable-depth u (inr square) = omega (arith, square.small.flat, ap depth square.square, depth-Mul square.factor square.factor)

pub size-square : (x : U) → HasSize (x ⊗ x) (2 * nodes x + 1) (depth x + 1)
size-square x = record {
  counted = omega (arith, nodes-Mul x x);
  bounded = omega (arith, depth-Mul x x);
  exact = λ deep. omega (arith, depth-Mul x x);
}

-- ---- after a step
module _ (outs : ℕ) (path : List Run) (before from to after : U) (r : Replaced outs path before from to after) where
  nodes-after : (count bound : ℕ) → HasSize before count bound → nodes after ≡ count + nodes to - nodes from
  nodes-after count bound h = omega (arith, replaced-nodes outs path before from to after r, h.counted)

  -- the bound is the depth where it is above the limit
  near : (count bound : ℕ) → HasSize before count bound → bound ≤ max most_depth (depth before)
  near count bound h = grind (arith, h.exact)

  -- where the new side stands below the root, no term on which steps are made becomes less deep than the side there
  deep-after : (count bound k : ℕ) → IsSteppable before → HasSize before count bound → suc k ≡ length (turns path) → most_depth < max bound (suc k + depth to)
      → max bound (suc k + depth to) ≤ depth after
  deep-after count bound k (inl small) h is deep =
      let above = replaced-depth outs path before from to after r (max (depth before) (depth after)) (omega arith) in
      let within : length (turns path) + depth to ≤ max (depth before) (depth after) = above.0 (omega arith) in
      omega (arith, near count bound h, small.flat)
  deep-after count bound k (inr square) h is deep =
      let x = square.factor in
      let of_square : Replaced outs path (x ⊗ x) from to after = subst (λ u. Replaced outs path u from to after) square.square r in
      let kept : depth (x ⊗ x) ≤ depth after = replaced-in_square outs path x from to after of_square (omega (arith, is)) in
      let above = replaced-depth outs path before from to after r (max (depth before) (depth after)) (omega arith) in
      let within : length (turns path) + depth to ≤ max (depth before) (depth after) = above.0 (omega arith) in
      omega (arith, near count bound h, kept, ap depth square.square)

  pub size-after : (count bound k : ℕ) → IsSteppable before → HasSize before count bound → k ≡ length (turns path)
      → HasSize after (count + nodes to - nodes from) (depth_after k bound (depth to))
  size-after count bound zero steppable h is =
      let all : depth after ≡ depth to = replaced-at_root outs path before from to after r (sym is) in
      record { counted = nodes-after count bound h; bounded = omega (arith, all); exact = λ deep. all }
  size-after count bound (suc k) steppable h is =
      let most = max bound (suc k + depth to) in
      let below = replaced-depth outs path before from to after r most (omega (arith, h.bounded)) in
      let bounded : depth after ≤ most = below.1 (omega (arith, is)) in
      record {
        counted = nodes-after count bound h;
        bounded = bounded;
        exact = λ deep. omega (arith, bounded, deep-after count bound k steppable h is deep);
      }

pub record Grows (after : U) (count bound turns : ℕ) (sizes : Sizes) : Type 0 where
  pub few : count + sizes.right_nodes ≤ 600001
  pub fits : sizes.left_nodes ≤ count + sizes.right_nodes
  pub size : HasSize after (count + sizes.right_nodes - sizes.left_nodes) (depth_after turns bound sizes.right_depth)

module _ (facts : Facts) (outs : ℕ) (before : U) (step : Step) (after : U) (t : Exchanged facts outs before step after) where
  -- how far down a step is made
  pub few-turns : length (way t.replaced.context) + 1 ≤ depth before
  few-turns =
      let r = t.replaced in
      let part = closed_path t.from outs (binders r.context) in
      omega (arith, ap depth r.is_from, deep-filled r.context part, depth-positive part)

  pub few-binders : binders t.replaced.context + 1 ≤ depth before
  few-binders = omega (arith, few-turns, binders-few t.replaced.context)

  pub grows : (count bound : ℕ) (place : Place) (sizes : Sizes) → IsSteppable before → HasSize before count bound → SidesAreSmall (sizes_for facts step)
      → place ≡ place_of t.replaced.context → sizes ≡ directed (out-Step step).forward (sizes_for facts step)
      → Grows after count bound place.turns sizes
  grows count bound place sizes steppable h small here is =
      let r = t.replaced in
      let e : AreSizes sizes t.from t.to = subst (λ s. AreSizes s t.from t.to) (sym is) (directed-sizes facts step (out-Step step).forward t.from t.to t.sides small) in
      let k : place.turns ≡ length (turns (out-Step step).path) = ap (λ (p : Place). p.turns) here ∙ ap length r.at_path in
      let w : SidesAreSmall sizes = subst (λ s. SidesAreSmall s) (sym is) (directed-small (sizes_for facts step) (out-Step step).forward small) in
      record {
        few = omega (arith, w.right.few, h.counted, steppable-nodes before steppable);
        fits = omega (arith, e.left_nodes, e.right_nodes, h.counted, replaced-nodes outs (out-Step step).path before t.from t.to after r);
        size =
            rw (e.right_nodes, e.left_nodes, e.right_depth)
            (size-after outs (out-Step step).path before t.from t.to after r count bound place.turns steppable h k);
      }
