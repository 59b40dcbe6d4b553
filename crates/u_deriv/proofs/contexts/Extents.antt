-- How large a context is with a term in it: what the limits on a term need after a step.
use Rattle.std.proofs.Common.{◌≡◌, ℕ, ◌+◌, ◌<◌, ◌≤◌, max, List, [], ◌∷◌, ◌++◌, length, refl, ap, sym, ◌∙◌, arith}
use Rattle.std.specs.Prelude.{◌↔◌}
use Rattle.std.proofs.lemmas.List.Sums.{sum_by-cons, sum_by-append}
use Rattle.u_terms.specs.Syntax.{U, Val}
use Rattle.u_terms.specs.Size.{nodes, value_nodes, list_nodes, depth, value_depth, list_depth}
use Rattle.u_terms.specs.Binding.{closed_path}
use Rattle.u_terms.proofs.MappedSizes.{closed_path-nodes, closed_path-depth}
use Rattle.u_terms.proofs.Sizes as at
use Rattle.u_terms.specs.declared.term.U.TheOpen.{U-F}
use Rattle.u_terms.specs.declared.term.U.TheViews.{out-U}
use Rattle.u_rules.specs.Terms.{◌⊗◌}
use Rattle.u_deriv.specs.declared.run.Run.{Run}
use Rattle.u_deriv.specs.Turns.{turns}
use Rattle.u_deriv.specs.Steps.{Replaced}
use Rattle.u_deriv.proofs.contexts.Ends.{out-Add, out-Mul, out-Squash, out-Not, out-Sum, out-Rel, out-Eq, out-Pred}
use Rattle.u_deriv.specs.Contexts.{Context, ValueContext, hole, add_left, add_right, mul_left, mul_right, in_squash, in_not, in_sum, in_relation, eq_left, eq_right, in_predicate, in_function, in_aggregate, filled, filled_value, way, value_way, binders, value_binders}

-- ---- a context with one of two terms in it
nodes_between : (before after : List Val) (w : Val) → list_nodes (before ++ w ∷ after) ≡ list_nodes before + (value_nodes w + list_nodes after)
nodes_between before after w = sum_by-append value_nodes before (w ∷ after) ∙ ap (λ (m : ℕ). list_nodes before + m) (sum_by-cons value_nodes w after)

depth_between : (before after : List Val) (w : Val) → list_depth (before ++ w ∷ after) ≡ max (list_depth before) (max (value_depth w) (list_depth after))
depth_between [] after w = omega (arith, at.list_depth-cons w after)
depth_between (b ∷ before) after w = omega (arith, at.list_depth-cons b (before ++ w ∷ after), depth_between before after w, at.list_depth-cons b before)

mutual
  unfolding filled

  -- what the whole has more than the part
  pub nodes-filled : (c : Context) (s t : U) → nodes (filled c s) + nodes t ≡ nodes (filled c t) + nodes s
  nodes-filled hole s t = omega arith
  nodes-filled (add_left c b) s t = omega (arith, at.nodes-Add (filled c s) b, at.nodes-Add (filled c t) b, nodes-filled c s t)
  nodes-filled (add_right a c) s t = omega (arith, at.nodes-Add a (filled c s), at.nodes-Add a (filled c t), nodes-filled c s t)
  nodes-filled (mul_left c b) s t = omega (arith, at.nodes-Mul (filled c s) b, at.nodes-Mul (filled c t) b, nodes-filled c s t)
  nodes-filled (mul_right a c) s t = omega (arith, at.nodes-Mul a (filled c s), at.nodes-Mul a (filled c t), nodes-filled c s t)
  nodes-filled (in_squash c) s t = omega (arith, at.nodes-Squash (filled c s), at.nodes-Squash (filled c t), nodes-filled c s t)
  nodes-filled (in_not c) s t = omega (arith, at.nodes-Not (filled c s), at.nodes-Not (filled c t), nodes-filled c s t)
  nodes-filled (in_sum c) s t = omega (arith, at.nodes-Sum (filled c s), at.nodes-Sum (filled c t), nodes-filled c s t)
  nodes-filled (in_relation table before c after) s t =
      omega (
        arith,
        at.nodes-Rel table (before ++ filled_value c s ∷ after),
        at.nodes-Rel table (before ++ filled_value c t ∷ after),
        nodes_between before after (filled_value c s),
        nodes_between before after (filled_value c t),
        value_nodes-filled c s t,
      )
  nodes-filled (eq_left c b) s t = omega (arith, at.nodes-Eq (filled_value c s) b, at.nodes-Eq (filled_value c t) b, value_nodes-filled c s t)
  nodes-filled (eq_right a c) s t = omega (arith, at.nodes-Eq a (filled_value c s), at.nodes-Eq a (filled_value c t), value_nodes-filled c s t)
  nodes-filled (in_predicate symbol before c after) s t =
      omega (
        arith,
        at.nodes-Pred symbol (before ++ filled_value c s ∷ after),
        at.nodes-Pred symbol (before ++ filled_value c t ∷ after),
        nodes_between before after (filled_value c s),
        nodes_between before after (filled_value c t),
        value_nodes-filled c s t,
      )

  value_nodes-filled : (c : ValueContext) (s t : U) → value_nodes (filled_value c s) + nodes t ≡ value_nodes (filled_value c t) + nodes s
  value_nodes-filled (in_function symbol before c after) s t =
      omega (
        arith,
        at.nodes-Fun symbol (before ++ filled_value c s ∷ after),
        at.nodes-Fun symbol (before ++ filled_value c t ∷ after),
        nodes_between before after (filled_value c s),
        nodes_between before after (filled_value c t),
        value_nodes-filled c s t,
      )
  value_nodes-filled (in_aggregate aggregate c) s t = omega (arith, at.nodes-Agg aggregate (filled c s), at.nodes-Agg aggregate (filled c t), nodes-filled c s t)

mutual
  unfolding filled way

  pub depth-filled : (c : Context) (s t : U) → depth (filled c s) ≤ max (depth (filled c t)) (length (way c) + depth s)
  depth-filled hole s t = omega arith
  depth-filled (add_left c b) s t = omega (arith, at.depth-Add (filled c s) b, at.depth-Add (filled c t) b, depth-filled c s t)
  depth-filled (add_right a c) s t = omega (arith, at.depth-Add a (filled c s), at.depth-Add a (filled c t), depth-filled c s t)
  depth-filled (mul_left c b) s t = omega (arith, at.depth-Mul (filled c s) b, at.depth-Mul (filled c t) b, depth-filled c s t)
  depth-filled (mul_right a c) s t = omega (arith, at.depth-Mul a (filled c s), at.depth-Mul a (filled c t), depth-filled c s t)
  depth-filled (in_squash c) s t = omega (arith, at.depth-Squash (filled c s), at.depth-Squash (filled c t), depth-filled c s t)
  depth-filled (in_not c) s t = omega (arith, at.depth-Not (filled c s), at.depth-Not (filled c t), depth-filled c s t)
  depth-filled (in_sum c) s t = omega (arith, at.depth-Sum (filled c s), at.depth-Sum (filled c t), depth-filled c s t)
  depth-filled (in_relation table before c after) s t =
      omega (
        arith,
        at.depth-Rel table (before ++ filled_value c s ∷ after),
        at.depth-Rel table (before ++ filled_value c t ∷ after),
        depth_between before after (filled_value c s),
        depth_between before after (filled_value c t),
        value_depth-filled c s t,
      )
  depth-filled (eq_left c b) s t = omega (arith, at.depth-Eq (filled_value c s) b, at.depth-Eq (filled_value c t) b, value_depth-filled c s t)
  depth-filled (eq_right a c) s t = omega (arith, at.depth-Eq a (filled_value c s), at.depth-Eq a (filled_value c t), value_depth-filled c s t)
  depth-filled (in_predicate symbol before c after) s t =
      omega (
        arith,
        at.depth-Pred symbol (before ++ filled_value c s ∷ after),
        at.depth-Pred symbol (before ++ filled_value c t ∷ after),
        depth_between before after (filled_value c s),
        depth_between before after (filled_value c t),
        value_depth-filled c s t,
      )

  value_depth-filled : (c : ValueContext) (s t : U) → value_depth (filled_value c s) ≤ max (value_depth (filled_value c t)) (length (value_way c) + depth s)
  value_depth-filled (in_function symbol before c after) s t =
      omega (
        arith,
        at.depth-Fun symbol (before ++ filled_value c s ∷ after),
        at.depth-Fun symbol (before ++ filled_value c t ∷ after),
        depth_between before after (filled_value c s),
        depth_between before after (filled_value c t),
        value_depth-filled c s t,
      )
  value_depth-filled (in_aggregate aggregate c) s t = omega (arith, at.depth-Agg aggregate (filled c s), at.depth-Agg aggregate (filled c t), depth-filled c s t)

-- ---- the hole is as deep as its path has turns
mutual
  unfolding filled way

  pub deep-filled : (c : Context) (s : U) → length (way c) + depth s ≤ depth (filled c s)
  deep-filled hole s = omega arith
  deep-filled (add_left c b) s = omega (arith, at.depth-Add (filled c s) b, deep-filled c s)
  deep-filled (add_right a c) s = omega (arith, at.depth-Add a (filled c s), deep-filled c s)
  deep-filled (mul_left c b) s = omega (arith, at.depth-Mul (filled c s) b, deep-filled c s)
  deep-filled (mul_right a c) s = omega (arith, at.depth-Mul a (filled c s), deep-filled c s)
  deep-filled (in_squash c) s = omega (arith, at.depth-Squash (filled c s), deep-filled c s)
  deep-filled (in_not c) s = omega (arith, at.depth-Not (filled c s), deep-filled c s)
  deep-filled (in_sum c) s = omega (arith, at.depth-Sum (filled c s), deep-filled c s)
  deep-filled (in_relation table before c after) s =
      omega (arith, at.depth-Rel table (before ++ filled_value c s ∷ after), depth_between before after (filled_value c s), value_deep-filled c s)
  deep-filled (eq_left c b) s = omega (arith, at.depth-Eq (filled_value c s) b, value_deep-filled c s)
  deep-filled (eq_right a c) s = omega (arith, at.depth-Eq a (filled_value c s), value_deep-filled c s)
  deep-filled (in_predicate symbol before c after) s =
      omega (arith, at.depth-Pred symbol (before ++ filled_value c s ∷ after), depth_between before after (filled_value c s), value_deep-filled c s)

  value_deep-filled : (c : ValueContext) (s : U) → length (value_way c) + depth s ≤ value_depth (filled_value c s)
  value_deep-filled (in_function symbol before c after) s =
      omega (arith, at.depth-Fun symbol (before ++ filled_value c s ∷ after), depth_between before after (filled_value c s), value_deep-filled c s)
  value_deep-filled (in_aggregate aggregate c) s = omega (arith, at.depth-Agg aggregate (filled c s), deep-filled c s)

mutual
  unfolding binders way

  -- a binder takes a turn
  pub binders-few : (c : Context) → binders c ≤ length (way c)
  binders-few hole = omega arith
  binders-few (add_left c b) = omega (arith, binders-few c)
  binders-few (add_right a c) = omega (arith, binders-few c)
  binders-few (mul_left c b) = omega (arith, binders-few c)
  binders-few (mul_right a c) = omega (arith, binders-few c)
  binders-few (in_squash c) = omega (arith, binders-few c)
  binders-few (in_not c) = omega (arith, binders-few c)
  binders-few (in_sum c) = omega (arith, binders-few c)
  binders-few (in_relation table before c after) = omega (arith, value_binders-few c)
  binders-few (eq_left c b) = omega (arith, value_binders-few c)
  binders-few (eq_right a c) = omega (arith, value_binders-few c)
  binders-few (in_predicate symbol before c after) = omega (arith, value_binders-few c)

  value_binders-few : (c : ValueContext) → value_binders c ≤ length (value_way c)
  value_binders-few (in_function symbol before c after) = omega (arith, value_binders-few c)
  value_binders-few (in_aggregate aggregate c) = omega (arith, binders-few c)

-- ---- after a replacement
pub replaced-nodes : (outs : ℕ) (path : List Run) (before from to after : U) → Replaced outs path before from to after → nodes after + nodes from ≡ nodes before + nodes to
replaced-nodes outs path before from to after r =
    let k = binders r.context in
    let e = nodes-filled r.context (closed_path to outs k) (closed_path from outs k) in
    omega (arith, e, ap nodes r.is_from, ap nodes r.is_to, closed_path-nodes from outs k, closed_path-nodes to outs k)

-- at the root the new term is all that there is
filled-at_root : (c : Context) (s : U) → length (way c) ≡ 0 → filled c s ≡ s
unfolding filled way
filled-at_root hole s none = refl
filled-at_root (add_left c b) s none = absurd (omega (arith, none))
filled-at_root (add_right a c) s none = absurd (omega (arith, none))
filled-at_root (mul_left c b) s none = absurd (omega (arith, none))
filled-at_root (mul_right a c) s none = absurd (omega (arith, none))
filled-at_root (in_squash c) s none = absurd (omega (arith, none))
filled-at_root (in_not c) s none = absurd (omega (arith, none))
filled-at_root (in_sum c) s none = absurd (omega (arith, none))
filled-at_root (in_relation table before c after) s none = absurd (omega (arith, none))
filled-at_root (eq_left c b) s none = absurd (omega (arith, none))
filled-at_root (eq_right a c) s none = absurd (omega (arith, none))
filled-at_root (in_predicate symbol before c after) s none = absurd (omega (arith, none))

pub replaced-at_root : (outs : ℕ) (path : List Run) (before from to after : U) → Replaced outs path before from to after → length (turns path) ≡ 0 → depth after ≡ depth to
replaced-at_root outs path before from to after r none =
    ap depth (r.is_to ∙ filled-at_root r.context (closed_path to outs (binders r.context)) (ap length r.at_path ∙ none)) ∙ closed_path-depth to outs (binders r.context)

-- elsewhere in a square the other factor stays
out-square : (c : Context) (s x : U) → x ⊗ x ≡ filled c s → U-F.Mul x x ≡ out-U (filled c s)
out-square c s x is = sym (out-Mul x x) ∙ ap out-U is

square-filled : (c : Context) (s t x : U) → x ⊗ x ≡ filled c s → 0 < length (way c) → depth (x ⊗ x) ≤ depth (filled c t)
unfolding filled way
square-filled hole s t x is some = absurd (omega (arith, some))
square-filled (mul_left c b) s t x is some =
    let e : U-F.Mul x x ≡ U-F.Mul (filled c s) b = out-square (mul_left c b) s x is ∙ out-Mul (filled c s) b in
    let same : x ≡ b = cc in
    omega (arith, at.depth-Mul x x, at.depth-Mul (filled c t) b, ap depth same)
square-filled (mul_right a c) s t x is some =
    let e : U-F.Mul x x ≡ U-F.Mul a (filled c s) = out-square (mul_right a c) s x is ∙ out-Mul a (filled c s) in
    let same : x ≡ a = cc in
    omega (arith, at.depth-Mul x x, at.depth-Mul a (filled c t), ap depth same)
square-filled (add_left c b) s t x is some = let e = out-square (add_left c b) s x is ∙ out-Add (filled c s) b in absurd cc
square-filled (add_right a c) s t x is some = let e = out-square (add_right a c) s x is ∙ out-Add a (filled c s) in absurd cc
square-filled (in_squash c) s t x is some = let e = out-square (in_squash c) s x is ∙ out-Squash (filled c s) in absurd cc
square-filled (in_not c) s t x is some = let e = out-square (in_not c) s x is ∙ out-Not (filled c s) in absurd cc
square-filled (in_sum c) s t x is some = let e = out-square (in_sum c) s x is ∙ out-Sum (filled c s) in absurd cc
square-filled (in_relation table before c after) s t x is some =
    let e = out-square (in_relation table before c after) s x is ∙ out-Rel table (before ++ filled_value c s ∷ after) in absurd cc
square-filled (eq_left c b) s t x is some = let e = out-square (eq_left c b) s x is ∙ out-Eq (filled_value c s) b in absurd cc
square-filled (eq_right a c) s t x is some = let e = out-square (eq_right a c) s x is ∙ out-Eq a (filled_value c s) in absurd cc
square-filled (in_predicate symbol before c after) s t x is some =
    let e = out-square (in_predicate symbol before c after) s x is ∙ out-Pred symbol (before ++ filled_value c s ∷ after) in absurd cc

pub replaced-in_square : (outs : ℕ) (path : List Run) (x from to after : U) → Replaced outs path (x ⊗ x) from to after → 0 < length (turns path) → depth (x ⊗ x) ≤ depth after
replaced-in_square outs path x from to after r some =
    let t : length (way r.context) ≡ length (turns path) = ap length r.at_path in
    let kept = square-filled r.context (closed_path from outs (binders r.context)) (closed_path to outs (binders r.context)) x r.is_from (omega (arith, t, some)) in
    omega (arith, kept, ap depth r.is_to)

-- what the new term has more in depth than the old one it has at the end of the path
pub replaced-depth : (outs : ℕ) (path : List Run) (before from to after : U) → Replaced outs path before from to after
    → (most : ℕ) → depth before ≤ most → (depth after ≤ most) ↔ (length (turns path) + depth to ≤ most)
replaced-depth outs path before from to after r most shallow =
    let k = binders r.context in
    let t : length (way r.context) ≡ length (turns path) = ap length r.at_path in
    let above = depth-filled r.context (closed_path to outs k) (closed_path from outs k) in
    let below = deep-filled r.context (closed_path to outs k) in
    let ends : depth (closed_path to outs k) ≡ depth to = closed_path-depth to outs k in
    (λ within. omega (arith, below, ends, t, within, ap depth r.is_to), λ within. omega (arith, above, ends, t, within, shallow, ap depth r.is_from, ap depth r.is_to))
