-- What a derivation between two blocks costs, turn by turn.
use Rattle.std.proofs.Common.{◌≡◌, ℕ, suc, ◌+◌, ◌-◌, ◌*◌, ◌<◌, ◌≤◌, List, [], ◌∷◌, length, take, drop, Option, refl, ap, sym, subst, ◌∙◌, arith}
use Rattle.std.specs.Prelude.{max, IfSome}
use Rattle.std.proofs.Math.Seq.{take-length}
use Rattle.std.proofs.lemmas.List.{length-append}
use Rattle.std.proofs.lemmas.Nat.{mul-le}
use Rattle.u_terms.specs.Syntax.{U}
use Rattle.u_terms.specs.Size.{nodes, depth}
use Rattle.u_terms.specs.Binding.{opened, sums}
use Rattle.u_terms.proofs.Sizes.{nodes-Sum, depth-Sum}
use Rattle.u_terms.proofs.MappedSizes.{sums-nodes, sums-depth}
use Rattle.u_binder.specs.Changes.{exchanged}
use Rattle.u_rules.specs.Terms.{S}
use Rattle.u_rules.specs.declared.rule.Arg.{Arg}
use Rattle.u_rules.specs.declared.rule.Rule.TheVariants as rule
use Rattle.u_deriv.specs.declared.run.Run.TheVariants.{Inside}
use Rattle.u_moves.specs.declared.moves.Moves.{Moves}
use Rattle.u_moves.specs.Derivations.{Derivation, IsSound}
use Rattle.u_moves.specs.Moving.{IsMove}
use Rattle.u_moves.proofs.derivations.Lines.{count-under, plain-short}
use Rattle.u_moves.proofs.derivations.Plain.{joined-plain, move-plain, under-plain}
use Rattle.u_moves.proofs.derivations.Sound.{last-within}
use Rattle.u_congruence.specs.Congruence.{IsOneDown, IsSequence}
use Rattle.u_normal.proofs.products.Nodes.{opened-nodes}
use Rattle.shapes.specs.Small.{columns_of}
use Rattle.block_costs.specs.Costs.{pairing_steps, pairing_nodes, pairing_depth, line_bytes, factor_count, fact_nodes}
use Rattle.term_shapes.specs.Factors.{sum_count}
use Rattle.term_shapes.proofs.Columns.{sums-columns}
use Rattle.u_bag.specs.Costs.{IsBlockOf, KeepsMeetingCosts, KeepsMeetingCostsAfter, KeepsPairingCosts, KeepsProductCosts, OutwardCosts}
use Rattle.u_bag.specs.Meeting.{Turn}
use Rattle.u_bag.proofs.costs.FactorsOf.{block-of, block-opened, block-turned, product-of-block, opened-depth, exchanged-nodes, exchanged-depth}

-- ---- the last turn
pub at-end : (turns : List ℕ) (left right : U) (d : Derivation) → length turns < 1 → KeepsProductCosts left right d → KeepsMeetingCosts (length turns) (length turns) left right d
at-end turns left right d none costs =
    let zero : length turns ≡ 0 = omega (arith, none) in
    subst (λ (n : ℕ). KeepsMeetingCosts n n left right d) (sym zero)
    (record { by = λ s t of_left of_right. costs.by s t (product-of-block s 0 left refl of_left) (product-of-block t 0 right refl of_right) })

-- ---- the first turn
pub others-long : (turns : List ℕ) → 0 < length turns → length (take (length turns - 1) (drop 1 turns)) + 1 ≡ length turns
others-long [] some = absurd (omega (arith, some))
others-long (turn ∷ turns) some =
    let n : length turns ≡ length (turn ∷ turns) - 1 = omega arith in
    let rest : length (take (length (turn ∷ turns) - 1) turns) ≡ length turns = ap length (ap (λ (m : ℕ). take m turns) (sym n) ∙ take-length turns) in
    omega (arith, rest)

pub first-turn : (n m : ℕ) (l r left right : U) → n + 1 ≡ m → l ≡ left → r ≡ right → (o : Option Derivation) → IfSome o (KeepsMeetingCosts (n + 1) (n + 1) l r) → IfSome o (KeepsMeetingCosts m m left right)
first-turn n m l r left right is e f o h =
    subst (λ (k : ℕ). IfSome o (KeepsMeetingCosts k k left right)) is
    (subst (λ (x : U). IfSome o (KeepsMeetingCosts (n + 1) (n + 1) x right)) e (subst (λ (y : U). IfSome o (KeepsMeetingCosts (n + 1) (n + 1) l y)) f h))

-- ---- under a sum
pub under-costs : (n : ℕ) (f g : U) (name : ℕ) (left right : U) (part d : Derivation) → left ≡ opened f name → right ≡ opened g name → KeepsMeetingCosts n n left right part → IsOneDown part d
    → KeepsMeetingCosts (n + 1) n (S f) (S g) d
under-costs n f g name left right part d is_left is_right costs down = record {
  by = λ s t of_left of_right.
      let k = costs.by s t (subst (IsBlockOf s n) (sym is_left) (block-opened s n f name of_left)) (subst (IsBlockOf t n) (sym is_right) (block-opened t n g name of_right)) in
      record {
        steps = let few = k.steps in omega (arith, few, ap length down.steps, count-under (Inside 1 ∷ []) part.steps);
        nodes = λ m a b x y.
            let most = k.nodes m a b (omega (arith, x, ap nodes is_left, opened-nodes f name, nodes-Sum f)) (omega (arith, y, ap nodes is_right, opened-nodes g name, nodes-Sum g)) in
            let more = down.nodes in
            omega (arith, most, more);
        depth = λ m a b x y.
            let most = k.depth m a b (omega (arith, x, ap depth is_left, opened-depth f name, depth-Sum f)) (omega (arith, y, ap depth is_right, opened-depth g name, depth-Sum g)) in
            let more = down.depth in
            omega (arith, most, more);
        plain = under-plain (Inside 1 ∷ []) part d down.steps k.plain;
      };
}

-- ---- a turn
pub no-turn-costs : (n : ℕ) (left right : U) (d : Derivation) → KeepsMeetingCosts (n + 1) n left right d → KeepsMeetingCosts (n + 1) (n + 1) left right d
no-turn-costs n left right d costs = record {
  by = λ s t of_left of_right.
      let k = costs.by s t of_left of_right in
      record { steps = let few = k.steps in omega (arith, few); nodes = k.nodes; depth = k.depth; plain = k.plain };
}

pub outward-costs : (moves : Moves) (args : List Arg) (turn : ℕ) (f body copy : U) (made d : Derivation) → d ≡ made → copy ≡ body → f ≡ sums turn body
    → IsMove moves rule.SumSwap args (sums (turn + 1) copy) (sums (turn + 1) (exchanged turn 1 copy)) made → OutwardCosts f d
outward-costs moves args turn f body copy made d same copied is move =
    let long : turn + 1 ≡ suc turn = omega arith in
    let many = move.nodes in
    let deep = move.depth in
    let to : d.to ≡ S (sums turn (exchanged turn 1 body)) =
    ap (λ (x : Derivation). x.to) same ∙ move.to ∙ ap (λ (n : ℕ). sums n (exchanged turn 1 copy)) long ∙ ap (λ (x : U). S (sums turn (exchanged turn 1 x))) copied in
    record {
      steps = ap (λ (x : Derivation). length x.steps) same ∙ ap length move.steps;
      nodes = omega (
        arith,
        many,
        ap (λ (x : Derivation). x.nodes) same,
        nodes-Sum f,
        ap nodes is,
        ap nodes copied,
        sums-nodes turn body,
        sums-nodes (turn + 1) copy,
        sums-nodes (turn + 1) (exchanged turn 1 copy),
        exchanged-nodes turn copy,
      );
      depth = omega (
        arith,
        deep,
        ap (λ (x : Derivation). x.depth) same,
        depth-Sum f,
        ap depth is,
        ap depth copied,
        sums-depth turn body,
        sums-depth (turn + 1) copy,
        sums-depth (turn + 1) (exchanged turn 1 copy),
        exchanged-depth turn copy,
      );
      plain = move-plain rule.SumSwap args d (λ e. cc) (λ e. cc) (ap (λ (x : Derivation). x.steps) same ∙ move.steps);
      keeps = λ s n block. subst (IsBlockOf s n) (sym to) (block-turned s n turn body (subst (λ (x : U). IsBlockOf s n (S x)) is block));
    }

-- the derivation, and then the other one under the sum
pub then-costs : (n : ℕ) (f g : U) (first rest d : Derivation) → first.to ≡ S f → IsSound first → IsSequence first rest d → KeepsMeetingCosts (n + 1) n (S f) (S g) rest → KeepsMeetingCostsAfter first (n + 1) n (S g) d
then-costs n f g first rest d to sound joined costs = record {
  by = λ left same_nodes same_depth few plain s t of_left of_right.
      let k = costs.by s t (subst (IsBlockOf s (n + 1)) to of_left) of_right in
      let end = last-within first sound in
      let end_few = end.few in
      let end_shallow = end.shallow in
      record {
        steps = let more = k.steps in omega (arith, few, more, ap length joined.steps, length-append first.steps rest.steps);
        nodes = λ m a b x y.
            let most = k.nodes m a b (omega (arith, x, same_nodes, end_few, ap nodes to)) y in
            let both = joined.bounds.nodes in
            omega (arith, most, both, x, same_nodes);
        depth = λ m a b x y.
            let most = k.depth m a b (omega (arith, x, same_depth, end_shallow, ap depth to)) y in
            let both = joined.bounds.depth in
            omega (arith, most, both, x, same_depth);
        plain = joined-plain first rest d joined.steps plain k.plain;
      };
}

pub turn-costs : (n : ℕ) (f g : U) (first d : Derivation) → OutwardCosts f first → KeepsMeetingCostsAfter first (n + 1) n (S g) d → KeepsMeetingCosts (n + 1) (n + 1) (S f) (S g) d
turn-costs n f g first d out after = record {
  by = λ s t of_left of_right. after.by (S f) (sym out.nodes) (sym out.depth) (let one = out.steps in omega (arith, one)) out.plain s t (out.keeps s (n + 1) of_left) of_right;
}

-- ---- two blocks that are paired
module _ (outs : ℕ) (turns : List ℕ) (left right : U) (d : Derivation) (sound : IsSound d) (turn : Turn turns left right) (costs : KeepsMeetingCosts (length turns) (length turns) left right d) where
  pub pairing-costs : KeepsPairingCosts outs left right d
  pairing-costs = record {
    by = λ s t shapes tight_left tight_right.
        let many_left : sum_count left ≡ length turns = turn.turning.turned.many_left in
        let many_right : sum_count right ≡ length turns = turn.turning.turned.many_right in
        let columns_left = sums-columns outs left s shapes.left_has in
        let columns_right = sums-columns outs right t shapes.right_has in
        let k = costs.by s t (block-of outs left s shapes.left_has (length turns) (sym many_left)) (block-of outs right t shapes.right_has (length turns) (sym many_right)) in
        let few = k.steps in
        let a = tight_left.few in
        let b = tight_right.few in
        let p = tight_left.shallow in
        let q = tight_right.shallow in
        let most : d.nodes ≤ pairing_nodes s t = omega (
          arith,
          many_left,
          many_right,
          columns_left,
          columns_right,
          k.nodes (6 + max (columns_of s.entries + 2 * length s.entries) (columns_of t.entries + 2 * length t.entries) + fact_nodes s + fact_nodes t) (omega arith) (omega arith)
              (omega (arith, a, many_left, columns_left)) (omega (arith, b, many_right, columns_right)),
        ) in
        let deepest : d.depth ≤ pairing_depth s t = omega (
          arith,
          many_left,
          many_right,
          columns_left,
          columns_right,
          k.depth (factor_count s + factor_count t + 6) (omega arith) (omega arith) (omega (arith, p, many_left, columns_left)) (omega (arith, q, many_right, columns_right)),
        ) in
        let steps : length d.steps ≤ pairing_steps s t = omega (arith, few, many_left, columns_left) in
        record {
          steps = steps;
          nodes = most;
          depth = deepest;
          bytes = omega (
            arith,
            plain-short d sound k.plain,
            mul-le (length d.steps) (18 + 11 * d.depth + 28 * d.nodes) (pairing_steps s t) (line_bytes (pairing_nodes s t) (pairing_depth s t)) steps (omega (arith, most, deepest)),
          );
          plain = k.plain;
        };
  }
