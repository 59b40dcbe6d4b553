-- What a derivation by way of normal forms costs, by what it is made of.
use Rattle.std.proofs.Common.{◌≡◌, ℕ, zero, suc, ◌+◌, ◌*◌, ◌<◌, ◌≤◌, List, [], ◌∷◌, ◌++◌, length, get_or, map, fold, length-append, Some, refl, sym, ap, ◌∙◌, subst, arith}
use Rattle.std.specs.Prelude.{max, Contains, IsPermutation}
use Rattle.std.proofs.lemmas.List.{length-map}
use Rattle.std.proofs.lemmas.List.Sorted.{Contains-permutation, IsPermutation-refl, IsPermutation-sym, length_permutation, sum_by-IsPermutation}
use Rattle.data_model.specs.Lists.{Each}
use Rattle.shapes.specs.Shapes.{Shape}
use Rattle.block_costs.specs.Costs.{Costs, greatest_nodes, lefts, line_bytes, normal_costs, rights, sum_costs, term_nodes, then, union_nodes}
use Rattle.u_terms.specs.Syntax.{U}
use Rattle.u_terms.specs.declared.facts.Facts.{Facts}
use Rattle.u_rules.specs.Terms.{add_leaves}
use Rattle.term_shapes.specs.BlockTerms.{HaveShapes, one_block, two_sums}
use Rattle.term_shapes.specs.FewOnes.{HasFewOnes}
use Rattle.term_shapes.specs.TermShape.{term_shape}
use Rattle.normal_form.specs.NormalTerms.{AreBlocks, IsNormal, block_then, no_block, sum_of, sum_of_blocks}
use Rattle.normal_form.proofs.Leaves.{add_leaves-row}
use Rattle.normal_form.proofs.Loose.{block-leaf}
use Rattle.u_deriv.specs.LineBounds.{IsPlain, lines_bound}
use Rattle.u_moves.specs.Derivations.{Derivation, IsSound}
use Rattle.u_moves.specs.Turning.{turned_back}
use Rattle.u_normal.specs.Shaped.{KeepsSum}
use Rattle.u_normal.proofs.costs.FewOnes.{normal-sizes}
use Rattle.u_normal.proofs.costs.NormalCosts.{normal-bytes, normal-depth, normal-nodes, normal-steps}
use Rattle.u_bag.specs.Sums.{AreSumsPaired}
use Rattle.u_moves.proofs.derivations.Lines.{bound-back, bound-then, count-back, plain-back, plain-then}
use Rattle.u_bag.specs.Costs.{IsTightSum, KeepsCosts}
use Rattle.u_prover.specs.Costs.{IsCheap, KeepsUnionCosts}
use Rattle.u_prover.specs.Proving.{IsNormalEnd, IsThere, IsThrough}
use Rattle.u_prover.proofs.Reach.{blocks-shaped}

-- ---- derivations put together
module _ (a c : Costs) (first last d : Derivation) (first_keeps : KeepsCosts a first) (last_keeps : KeepsCosts c last) where
  pub through-costs : (b : Costs) (between : Derivation) → KeepsCosts b between → IsThrough first between last d → KeepsCosts (then a (then b c)) d
  through-costs b between keeps is =
      let front = first.steps ++ between.steps in
      record {
        plain = subst (Each IsPlain) (sym is.steps)
            (plain-then front (turned_back last.steps) (plain-then first.steps between.steps first_keeps.plain keeps.plain) (plain-back last.steps last_keeps.plain));
        steps = omega (
          arith,
          ap length is.steps,
          length-append front (turned_back last.steps),
          length-append first.steps between.steps,
          count-back last.steps,
          first_keeps.steps,
          keeps.steps,
          last_keeps.steps,
        );
        nodes = omega (arith, is.nodes, first_keeps.nodes, keeps.nodes, last_keeps.nodes);
        depth = omega (arith, is.depth, first_keeps.depth, keeps.depth, last_keeps.depth);
        bytes = omega (
          arith,
          ap lines_bound is.steps,
          bound-then front (turned_back last.steps),
          bound-then first.steps between.steps,
          bound-back last.steps,
          first_keeps.bytes,
          keeps.bytes,
          last_keeps.bytes,
        );
      }

  pub there-costs : (b : Costs) → IsThere first last d → KeepsCosts (then a (then b c)) d
  there-costs b is = record {
    plain = subst (Each IsPlain) (sym is.steps) (plain-then first.steps (turned_back last.steps) first_keeps.plain (plain-back last.steps last_keeps.plain));
    steps = omega (arith, ap length is.steps, length-append first.steps (turned_back last.steps), count-back last.steps, first_keeps.steps, last_keeps.steps);
    nodes = omega (arith, is.nodes, first_keeps.nodes, last_keeps.nodes);
    depth = omega (arith, is.depth, first_keeps.depth, last_keeps.depth);
    bytes = omega (arith, ap lines_bound is.steps, bound-then first.steps (turned_back last.steps), bound-back last.steps, first_keeps.bytes, last_keeps.bytes);
  }

-- ---- the greatest block
greatest-from : (most : ℕ) (ss : List Shape) → fold (λ m s. max m (term_nodes s)) most ss ≡ max most (greatest_nodes ss)
greatest-from most [] = omega arith
greatest-from most (s ∷ ss) = omega (arith, greatest-from (max most (term_nodes s)) ss, greatest-from (max 0 (term_nodes s)) ss)

pub greatest-cons : (s : Shape) (ss : List Shape) → greatest_nodes (s ∷ ss) ≡ max (term_nodes s) (greatest_nodes ss)
greatest-cons s ss = omega (arith, greatest-from (max 0 (term_nodes s)) ss)

in-greatest : (ss : List Shape) (s : Shape) → Contains ss s → term_nodes s ≤ greatest_nodes ss
in-greatest ss s i = at ss i.0 i.1 i.2
  where
    at : (xs : List Shape) (k : ℕ) → k < length xs → get_or xs k s ≡ s → term_nodes s ≤ greatest_nodes xs
    at [] k less is = absurd (omega (arith, less))
    at (x ∷ xs) zero less is = omega (arith, greatest-cons x xs, ap term_nodes is)
    at (x ∷ xs) (suc k) less is = omega (arith, greatest-cons x xs, at xs k (omega (arith, less)) is)

greatest-least : (ss : List Shape) (most : ℕ) → ((s : Shape) → Contains ss s → term_nodes s ≤ most) → greatest_nodes ss ≤ most
greatest-least [] most each = omega arith
greatest-least (s ∷ ss) most each =
    omega (arith, greatest-cons s ss, each s (0, omega arith, refl), greatest-least ss most (λ x i. each x (suc i.0, (let low = i.1 in omega (arith, low)), i.2)))

greatest-moved : (ss ts : List Shape) → IsPermutation ss ts → greatest_nodes ts ≤ greatest_nodes ss
greatest-moved ss ts p = greatest-least ts (greatest_nodes ss) (λ s i. in-greatest ss s (Contains-permutation ts ss s (IsPermutation-sym ss ts p) i))

-- ---- to a normal form
abbrev costs-by : ℕ → ℕ → ℕ → Costs
costs-by count whole greatest = record { steps = count + 1; nodes = whole; depth = count + greatest; bytes = (count + 1) * line_bytes whole (count + greatest) }

-- the order of the blocks does not matter
pub costs-moved : (ss ts : List Shape) → IsPermutation ss ts → normal_costs ss ≡ normal_costs ts
costs-moved ss ts p =
    let count : length ss ≡ length ts = sym (length_permutation ss ts p) in
    let whole : union_nodes ss ≡ union_nodes ts = sym (sum_by-IsPermutation (λ s. 1 + term_nodes s) ss ts p) in
    let greatest : greatest_nodes ss ≡ greatest_nodes ts = omega (arith, greatest-moved ss ts p, greatest-moved ts ss (IsPermutation-sym ss ts p)) in
    ap (λ (n : ℕ). costs-by n (union_nodes ss) (greatest_nodes ss)) count
    ∙ ap (λ (n : ℕ). costs-by (length ts) n (greatest_nodes ss)) whole
    ∙ ap (λ (n : ℕ). costs-by (length ts) (union_nodes ts) n) greatest

module _ (outs : ℕ) (ss : List Shape) (d : Derivation) where
  normal-kept : IsSound d → KeepsSum outs ss d → HaveShapes outs d.from ss → HasFewOnes d.from → KeepsCosts (normal_costs ss) d
  normal-kept sound keeps has few = record {
    plain = keeps.short.plain;
    steps = normal-steps outs ss d keeps;
    nodes = normal-nodes outs ss d keeps has few;
    depth = normal-depth outs ss d keeps has few;
    bytes = normal-bytes outs ss d keeps has few sound;
  }

-- ---- the shapes of a normal term
same-shapes : (ss ts : List Shape) → map Some ss ≡ map Some ts → ss ≡ ts
same-shapes [] [] e = refl
same-shapes [] (t ∷ ts) e = cc
same-shapes (s ∷ ss) [] e = cc
same-shapes (s ∷ ss) (t ∷ ts) e =
    let first : s ≡ t = cc in
    let rest : map Some ss ≡ map Some ts = cc in
    ap (λ (x : Shape). x ∷ ss) first ∙ ap (λ (xs : List Shape). t ∷ xs) (same-shapes ss ts rest)

pub some-block : (outs : ℕ) (t : U) (ss : List Shape) → HaveShapes outs t ss → 0 < length ss
some-block outs t ss (one_block h) = omega arith
some-block outs t ss (two_sums {ss = ls} {ts = rs} h k) = omega (arith, some-block outs _ ls h, length-append ls rs)

each-leaf : (us : List U) → AreBlocks us → Each (λ u. add_leaves u ≡ u ∷ []) us
each-leaf us no_block = tt
each-leaf us (block_then {block = block} {rest = rest} h hs) = (block-leaf block h, each-leaf rest hs)

in_row : (t : U) → IsNormal t → t ≡ sum_of (add_leaves t)
in_row t (sum_of_blocks blocks h e) = e ∙ ap sum_of (sym (ap add_leaves e ∙ add_leaves-row blocks (each-leaf blocks h)))

tight-sum : (outs : ℕ) (t : U) (ss : List Shape) → HaveShapes outs t ss → IsNormal t → IsTightSum outs t
tight-sum outs t ss has normal = record {
  some = omega (
    arith,
    some-block outs t ss has,
    length-map (add_leaves t) (term_shape outs),
    length-map ss (λ (s : Shape). Some s),
    ap length (blocks-shaped outs t ss has),
  );
  in_row = in_row t normal;
  each = λ block i s shaped. let sizes = normal-sizes outs t block s normal i shaped in record { few = sizes.0; shallow = sizes.1 };
}

-- ---- with itself
abbrev pub itself : Shape → Shape × Shape
itself s = (s, s)

pub lefts-itself : (ss : List Shape) → lefts (map itself ss) ≡ ss
lefts-itself [] = refl
lefts-itself (s ∷ ss) = ap (λ (xs : List Shape). s ∷ xs) (lefts-itself ss)

pub rights-itself : (ss : List Shape) → rights (map itself ss) ≡ ss
rights-itself [] = refl
rights-itself (s ∷ ss) = ap (λ (xs : List Shape). s ∷ xs) (rights-itself ss)

-- ---- from normal forms
module _ (F : Facts) (outs : ℕ) (down up d : Derivation) (end_down : IsNormalEnd F outs down) (end_up : IsNormalEnd F outs up) (sound_down : IsSound down) (sound_up : IsSound up) where
  pub cheap-same : down.to ≡ up.to → IsThere down up d → IsCheap outs down.from up.from d
  cheap-same same is = record { by = by }
    where
      by : (ss ts : List Shape) → HaveShapes outs down.from ss → HaveShapes outs up.from ts → HasFewOnes down.from → HasFewOnes up.from → KeepsUnionCosts ss ts d
      by ss ts left right few_left few_right =
          let kd = end_down.keeps ss left in
          let ku = end_up.keeps ts right in
          let e : ss ≡ ts = same-shapes ss ts
          (sym (blocks-shaped outs down.to ss kd.shapes) ∙ ap (λ (t : U). map (term_shape outs) (add_leaves t)) same ∙ blocks-shaped outs up.to ts ku.shapes) in
          record {
            pairs = map itself ss;
            lefts_are = lefts-itself ss;
            rights_are = subst (λ (xs : List Shape). IsPermutation xs (rights (map itself ss))) e (subst (IsPermutation ss) (sym (rights-itself ss)) (IsPermutation-refl ss));
            keeps = there-costs (normal_costs (lefts (map itself ss))) (normal_costs (rights (map itself ss))) down up d
                (subst (λ (xs : List Shape). KeepsCosts (normal_costs xs) down) (sym (lefts-itself ss)) (normal-kept outs ss down sound_down kd left few_left))
                (subst (λ (xs : List Shape). KeepsCosts (normal_costs xs) up) (sym e ∙ sym (rights-itself ss)) (normal-kept outs ts up sound_up ku right few_right))
                (sum_costs (map itself ss)) is;
          }

  pub cheap-paired : (between : Derivation) → AreSumsPaired F outs down.to up.to between → IsThrough down between up d → IsCheap outs down.from up.from d
  cheap-paired between sums is = record { by = by }
    where
      by : (ss ts : List Shape) → HaveShapes outs down.from ss → HaveShapes outs up.from ts → HasFewOnes down.from → HasFewOnes up.from → KeepsUnionCosts ss ts d
      by ss ts left right few_left few_right =
          let kd = end_down.keeps ss left in
          let ku = end_up.keeps ts right in
          let paired = sums.paired in
          let c = sums.costs in
          let of_left : paired.ss ≡ ss = same-shapes paired.ss ss (sym paired.lefts_have ∙ blocks-shaped outs down.to ss kd.shapes) in
          let of_right : paired.ts ≡ ts = same-shapes paired.ts ts (sym paired.rights_have ∙ blocks-shaped outs up.to ts ku.shapes) in
          let first : lefts c.pairs ≡ ss = c.lefts_are ∙ of_left in
          let last : IsPermutation ts (rights c.pairs) = subst (λ (xs : List Shape). IsPermutation xs (rights c.pairs)) of_right c.rights_are in
          record {
            pairs = c.pairs;
            lefts_are = first;
            rights_are = last;
            keeps = through-costs (normal_costs (lefts c.pairs)) (normal_costs (rights c.pairs)) down up d
                (subst (λ (xs : List Shape). KeepsCosts (normal_costs xs) down) (sym first) (normal-kept outs ss down sound_down kd left few_left))
                (subst (λ (most : Costs). KeepsCosts most up) (costs-moved ts (rights c.pairs) last) (normal-kept outs ts up sound_up ku right few_right))
                (sum_costs c.pairs) between
                (c.costs (tight-sum outs down.to ss kd.shapes end_down.normal) (tight-sum outs up.to ts ku.shapes end_up.normal)) is;
          }
