-- Sums over the blocks of small unions.
use Rattle.std.proofs.Common.{ℕ, ◌+◌, ◌*◌, ◌≤◌, List, [], ◌∷◌, length, arith}
use Rattle.std.specs.Prelude.{max, fold, sum_by}
use Rattle.std.proofs.lemmas.List.{length-map}
use Rattle.std.proofs.lemmas.List.Sums.{sum_by-cons}
use Rattle.std.proofs.lemmas.Nat.{mul-le}
use Rattle.std.proofs.Math.Nat.{mul-le-mul_right}
use Rattle.shapes.specs.Shapes.{Shape}
use Rattle.shapes.specs.Small.{columns_of, facts_of, SmallBlock, AllSmall, all_columns, all_facts, SmallQuery, most_entries}
use Rattle.block_costs.specs.Costs.{Pairs, lefts, rights, term_nodes, pairing_steps, pairing_nodes, pairing_depth, line_bytes, pairing_bytes, sum_nodes, sum_steps, sum_depth, sum_bytes, union_nodes, greatest_nodes, normal_costs, union_costs}
use Rattle.block_costs.proofs.Blocks.{facts_of_both, term-nodes, few-steps, few-nodes, shallow, few-bytes}

-- ---- what is linear in each block is so in all
-- so much for a block, for an equality or a mark, and for a column
module _ (f : Shape → ℕ) (each fact column : ℕ) (most : (s : Shape) → SmallBlock most_entries s → f s ≤ each + fact * facts_of s + column * columns_of s.entries) where
  sum-blocks : (ss : List Shape) → AllSmall most_entries ss → sum_by f ss ≤ each * length ss + fact * all_facts ss + column * all_columns ss
  sum-blocks [] small = omega arith
  sum-blocks (s ∷ ss) small = omega (arith, sum_by-cons f s ss, most s small.0, sum-blocks ss small.1)

module _ (f : (Shape × Shape) → ℕ) (each fact column : ℕ)
    (most : (pair : Shape × Shape) → SmallBlock most_entries pair.0 → SmallBlock most_entries pair.1 → f pair ≤ each + fact * facts_of_both pair.0 pair.1 + column * columns_of pair.0.entries) where
  sum-pairs : (pairs : Pairs) → AllSmall most_entries (lefts pairs) → AllSmall most_entries (rights pairs)
      → sum_by f pairs ≤ each * length pairs + fact * (all_facts (lefts pairs) + all_facts (rights pairs)) + column * all_columns (lefts pairs)
  sum-pairs [] small small' = omega arith
  sum-pairs (pair ∷ pairs) small small' = omega (arith, sum_by-cons f pair pairs, most pair small.0 small'.0, sum-pairs pairs small.1 small'.1)

-- ---- the greatest
fold-blocks : (k from : ℕ) → from ≤ k → (ss : List Shape) → AllSmall most_entries ss → ((s : Shape) → SmallBlock most_entries s → term_nodes s ≤ k) → fold (λ most s. max most (term_nodes s)) from ss ≤ k
fold-blocks k from low [] small each = low
fold-blocks k from low (s ∷ ss) small each = fold-blocks k (max from (term_nodes s)) (omega (arith, each s small.0)) ss small.1 each

fold-pairs : (k from : ℕ) → from ≤ k → (pairs : Pairs) → AllSmall most_entries (lefts pairs) → AllSmall most_entries (rights pairs)
    → ((s t : Shape) → SmallBlock most_entries s → SmallBlock most_entries t → pairing_depth s t ≤ k) → fold (λ most pair. max most (pairing_depth pair.0 pair.1)) from pairs ≤ k
fold-pairs k from low [] small small' each = low
fold-pairs k from low (pair ∷ pairs) small small' each =
    fold-pairs k (max from (pairing_depth pair.0 pair.1)) (omega (arith, each pair.0 pair.1 small.0 small'.0)) pairs small.1 small'.1 each

-- ---- a union to its normal form
module _ (ss : List Shape) (small : SmallQuery most_entries ss) where
  few-union_nodes : union_nodes ss ≤ 8256
  few-union_nodes = omega (arith, sum-blocks (λ s. 1 + term_nodes s) 84 7 2 (λ s block. omega (arith, term-nodes s block)) ss small.each, small.few_blocks, small.columns, small.facts)

  few-greatest_nodes : greatest_nodes ss ≤ 291
  few-greatest_nodes = fold-blocks 291 0 (omega arith) ss small.each (λ s block. omega (arith, term-nodes s block, block.few_columns, block.few_facts))

  few-normal_bytes : (normal_costs ss).bytes ≤ 15280915
  few-normal_bytes = mul-le (length ss + 1) (line_bytes (union_nodes ss) (length ss + greatest_nodes ss)) 65 235091 (omega (arith, small.few_blocks)) (omega (arith, few-union_nodes, few-greatest_nodes, small.few_blocks))

-- ---- between two sums
module _ (pairs : Pairs) (small : SmallQuery most_entries (lefts pairs)) (small' : SmallQuery most_entries (rights pairs)) where
  few-pairs : length pairs ≤ 64
  few-pairs = omega (arith, small.few_blocks, length-map pairs (λ (pair : Shape × Shape). pair.0))

  few-sum_steps : sum_steps pairs ≤ 71938
  few-sum_steps =
      omega (
        arith,
        sum-pairs (λ pair. pairing_steps pair.0 pair.1) 590 87 1 (λ pair block block'. omega (arith, few-steps pair.0 pair.1 block block')) pairs small.each small'.each,
        few-pairs,
        small.columns,
        small.facts,
        small'.facts,
      )

  few-sum_nodes : sum_nodes pairs ≤ 19392
  few-sum_nodes =
      omega (
        arith,
        sum-pairs (λ pair. 1 + pairing_nodes pair.0 pair.1) 261 7 0 (λ pair block block'. omega (arith, few-nodes pair.0 pair.1 block block')) pairs small.each small'.each,
        few-pairs,
        small.facts,
        small'.facts,
      )

  few-sum_depth : sum_depth pairs ≤ 206
  few-sum_depth =
      omega (arith, few-pairs, fold-pairs 142 0 (omega arith) pairs small.each small'.each (λ s t block block'. omega (arith, shallow s t block block', block.few_facts, block'.few_facts)))

  few-lifted : (pair : Shape × Shape) → SmallBlock most_entries pair.0 → SmallBlock most_entries pair.1
      → pairing_bytes pair.0 pair.1 + 11 * length pairs * pairing_steps pair.0 pair.1 ≤ 5435080 + 1499862 * facts_of_both pair.0 pair.1 + 15836 * columns_of pair.0.entries
  few-lifted pair block block' =
      let far : 11 * length pairs * pairing_steps pair.0 pair.1 ≤ 704 * pairing_steps pair.0 pair.1 = mul-le-mul_right (pairing_steps pair.0 pair.1) (omega (arith, few-pairs)) in
      omega (arith, few-bytes pair.0 pair.1 block block', few-steps pair.0 pair.1 block block', far)

  few-sum_bytes : sum_bytes pairs ≤ 937044752
  few-sum_bytes =
      omega (
        arith,
        sum-pairs (λ pair. pairing_bytes pair.0 pair.1 + 11 * length pairs * pairing_steps pair.0 pair.1) 5435080 1499862 15836 few-lifted pairs small.each small'.each,
        few-pairs,
        small.columns,
        small.facts,
        small'.facts,
        few-sum_nodes,
        few-sum_depth,
      )

  -- ---- all together
  pub union-steps : (union_costs pairs).steps ≤ 1000000
  union-steps = omega (arith, few-sum_steps, small.few_blocks, small'.few_blocks)

  pub union-nodes : (union_costs pairs).nodes ≤ 200000
  union-nodes = omega (arith, few-sum_nodes, few-union_nodes (lefts pairs) small, few-union_nodes (rights pairs) small')

  pub union-depth : (union_costs pairs).depth ≤ 2048
  union-depth = omega (arith, few-sum_depth, few-greatest_nodes (lefts pairs) small, few-greatest_nodes (rights pairs) small', small.few_blocks, small'.few_blocks)

  pub union-bytes : (union_costs pairs).bytes ≤ 1073000000
  union-bytes = omega (arith, few-sum_bytes, few-normal_bytes (lefts pairs) small, few-normal_bytes (rights pairs) small')
