-- The costs between two small blocks grow at most linearly with their equalities and marks, and with the columns of the first.
use Rattle.std.proofs.Common.{ℕ, ◌+◌, ◌*◌, ◌≤◌, List, [], ◌∷◌, length, arith}
use Rattle.std.specs.Prelude.{sum_by}
use Rattle.std.proofs.Math.Nat.{mul-le-mul_left}
use Rattle.std.proofs.lemmas.Nat.{mul-le}
use Rattle.std.proofs.lemmas.List.Sums.{sum_by-cons}
use Rattle.shapes.specs.Shapes.{Mark, MarkIn, here, there, Shape}
use Rattle.shapes.specs.Small.{columns_of, facts_of, SmallBlock, most_entries}
use Rattle.block_costs.specs.Costs.{mark_count, point_count, fact_nodes, atom_nodes, term_nodes, link_count, pairing_steps, pairing_nodes, pairing_depth, line_bytes, pairing_bytes}

-- ---- one block
points-few : (ms : List Mark) → ((m : Mark) → MarkIn m ms → length m.points ≤ 4) → sum_by (λ mark. length mark.points) ms ≤ 4 * length ms
points-few [] few = omega arith
points-few (m ∷ ms) few = omega (arith, sum_by-cons (λ (mark : Mark). length mark.points) m ms, few m here, points-few ms (λ n i. few n (there i)))

module _ (s : Shape) (small : SmallBlock most_entries s) where
  few-points : point_count s ≤ 4 * mark_count s
  few-points = points-few s.marks small.few_points

  pub fact-nodes : fact_nodes s ≤ 64 + 7 * facts_of s
  fact-nodes = omega (arith, few-points, small.few_outputs)

  pub atom-nodes : atom_nodes s ≤ 114
  atom-nodes = omega (arith, small.few_columns, small.few_entries)

  pub term-nodes : term_nodes s ≤ 83 + 2 * columns_of s.entries + 7 * facts_of s
  term-nodes = omega (arith, fact-nodes, small.few_entries)

-- ---- the links between two blocks, of so many equalities, outputs, marks and points each
links-both : (e o m p e' o' m' p' : ℕ) → e + m ≤ 16 → o ≤ 16 → p ≤ 4 * m → e' + m' ≤ 16 → o' ≤ 16 → p' ≤ 4 * m'
    → (e + o) * (e' + o' + p') + (e' + o') * (e + o + p) ≤ 512 + 80 * (e + m + (e' + m'))
links-both e o m p e' o' m' p' few outputs points few' outputs' points' =
    omega (
      arith,
      mul-le (e + o) (e' + o' + p') (e + 16) (e' + 16 + 4 * m') (omega arith) (omega arith),
      mul-le (e' + o') (e + o + p) (e' + 16) (e + 16 + 4 * m) (omega arith) (omega arith),
      mul-le-mul_left e few',
      mul-le-mul_left m' few,
      mul-le-mul_left e' few,
      mul-le-mul_left m few',
    )

-- ---- two blocks
-- the equalities and marks of both
abbrev pub facts_of_both : Shape → Shape → ℕ
facts_of_both s t = facts_of s + facts_of t

module _ (s t : Shape) (small : SmallBlock most_entries s) (small' : SmallBlock most_entries t) where
  few-links : link_count s t + link_count t s ≤ 512 + 80 * facts_of_both s t
  few-links =
      links-both (length s.equalities) (length s.outputs) (length s.marks) (point_count s) (length t.equalities) (length t.outputs) (length t.marks) (point_count t)
      small.few_facts small.few_outputs (few-points s small) small'.few_facts small'.few_outputs (few-points t small')

  pub few-steps : pairing_steps s t ≤ 590 + 87 * facts_of_both s t + columns_of s.entries
  few-steps = omega (arith, few-links, small.few_outputs, small'.few_outputs)

  pub few-nodes : pairing_nodes s t ≤ 260 + 7 * facts_of_both s t
  few-nodes = omega (arith, atom-nodes s small, atom-nodes t small', fact-nodes s small, fact-nodes t small')

  pub shallow : pairing_depth s t ≤ 110 + facts_of_both s t
  shallow = omega (arith, small.few_columns, small'.few_columns, small.few_entries, small'.few_entries, small.few_outputs, small'.few_outputs)

  few-facts : facts_of_both s t ≤ 32
  few-facts = omega (arith, small.few_facts, small'.few_facts)

  short-line : line_bytes (pairing_nodes s t) (pairing_depth s t) ≤ 8508 + 207 * facts_of_both s t
  short-line = omega (arith, few-nodes, shallow)

  pub few-bytes : pairing_bytes s t ≤ 5019720 + 1438614 * facts_of_both s t + 15132 * columns_of s.entries
  few-bytes =
      linear (pairing_steps s t) (line_bytes (pairing_nodes s t) (pairing_depth s t)) (facts_of_both s t) (columns_of s.entries) few-facts few-steps short-line
    where
      linear : (steps line x c : ℕ) → x ≤ 32 → steps ≤ 590 + 87 * x + c → line ≤ 8508 + 207 * x → steps * line ≤ 5019720 + 1438614 * x + 15132 * c
      linear steps line x c few steps_few line_short =
          omega (arith, mul-le steps line (590 + 87 * x + c) (8508 + 207 * x) steps_few line_short, mul-le-mul_left x few, mul-le-mul_left c few)
