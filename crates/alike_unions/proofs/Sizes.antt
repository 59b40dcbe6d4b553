-- The terms of small unions are within the limits of a term.
use Rattle.std.proofs.Common.{ℕ, ◌+◌, ◌≤◌, List, [], ◌∷◌, length, length-append, map, sym, ap, subst, arith}
use Rattle.data_model.specs.Lists.{Each}
use Rattle.u_terms.specs.Syntax.{U}
use Rattle.u_terms.specs.Size.{depth}
use Rattle.u_terms.proofs.Sizes.{depth-Add}
use Rattle.shapes.specs.Shapes.{Shape}
use Rattle.shapes.specs.Small.{AllSmall, SmallQuery, most_entries}
use Rattle.block_costs.specs.Costs.{lefts, rights, term_depth, union_nodes}
use Rattle.block_costs.proofs.Totals.{union-nodes}
use Rattle.scope_core.proofs.basics.Each.{Each-left, Each-right}
use Rattle.term_shapes.specs.BlockTerms.{HaveShapes, one_block, two_sums}
use Rattle.term_shapes.specs.FewOnes.{HasFewOnes}
use Rattle.term_shapes.proofs.FewOnes.{few-ones, few-parts}
use Rattle.term_shapes.proofs.Sizes.{block-depth, sum-nodes}
use Rattle.sql_to_u.specs.Limits.{IsWithinLimits}
use Rattle.u_prover.proofs.Costs.{itself, lefts-itself, rights-itself, some-block}

-- a small block's term is no deeper
abbrev deepest : ℕ
deepest = 92

abbrev IsFlat : Shape → Type 0
IsFlat s = term_depth s ≤ deepest

all-flat : (ss : List Shape) → AllSmall most_entries ss → Each IsFlat ss
all-flat [] small = tt
all-flat (s ∷ ss) small = let b = small.0 in (omega (arith, b.few_entries, b.few_columns, b.few_facts, b.few_outputs), all-flat ss small.1)

-- a sum of blocks is as deep as the deepest one and a level for each other
sum-flat : (outs : ℕ) (w : U) (ss : List Shape) → HaveShapes outs w ss → HasFewOnes w → Each IsFlat ss → depth w + 1 ≤ length ss + deepest
sum-flat outs w ss (one_block {s = s} h) few each = omega (arith, block-depth outs w s h (few-ones w few), each.0)
sum-flat outs w ss (two_sums {a = a} {b = b} {ss = ls} {ts = rs} h k) few each =
    let parts = few-parts a b few in
    omega (
      arith,
      depth-Add a b,
      length-append ls rs,
      some-block outs a ls h,
      some-block outs b rs k,
      sum-flat outs a ls h parts.0 (Each-left IsFlat ls rs each),
      sum-flat outs b rs k parts.1 (Each-right IsFlat ls rs each),
    )

-- its nodes are those of one side of a derivation from the term to itself
pub small-term : (outs : ℕ) (w : U) (ss : List Shape) → HaveShapes outs w ss → HasFewOnes w → SmallQuery most_entries ss → IsWithinLimits w
small-term outs w ss has few small =
    let l : SmallQuery most_entries (lefts (map itself ss)) = subst (SmallQuery most_entries) (sym (lefts-itself ss)) small in
    let r : SmallQuery most_entries (rights (map itself ss)) = subst (SmallQuery most_entries) (sym (rights-itself ss)) small in
    record {
      few = omega (arith, sum-nodes outs w ss has few, union-nodes (map itself ss) l r, ap union_nodes (lefts-itself ss));
      shallow = omega (arith, sum-flat outs w ss has few (all-flat ss small.each), small.few_blocks);
    }
