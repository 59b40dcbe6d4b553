-- What a derivation from one block to another costs at most, and one from a union of blocks to another, by the shapes of the blocks. The bounds
-- are those of the steps that a pairing of the entries gives: each block gains, one after the other, the equalities and the marks that the other
-- one has, along chains of its own equalities.
use Rattle.std.specs.Prelude.{ℕ, ◌+◌, ◌*◌, max, List, length, fold, map, sum_by}
use Rattle.shapes.specs.Shapes.{Shape}
use Rattle.shapes.specs.Small.{columns_of}

pub record Costs : Type 0 where
  pub steps : ℕ
  pub nodes : ℕ
  pub depth : ℕ
  -- of the lines of the steps
  pub bytes : ℕ

-- ---- a block
-- its equalities, and one for each output
abbrev pub equality_count : Shape → ℕ
equality_count s = length s.equalities + length s.outputs

abbrev pub mark_count : Shape → ℕ
mark_count s = length s.marks

-- of all marks together
abbrev pub point_count : Shape → ℕ
point_count s = sum_by (λ mark. length mark.points) s.marks

abbrev pub factor_count : Shape → ℕ
factor_count s = length s.entries + equality_count s + mark_count s

-- An equality has three nodes, a mark two beside its points at most, and each of them stands in one product more.
abbrev pub fact_nodes : Shape → ℕ
fact_nodes s = 4 * equality_count s + 3 * mark_count s + point_count s

-- A sum for each column, and for each entry an atom and a product, with the columns as values.
abbrev pub atom_nodes : Shape → ℕ
atom_nodes s = 2 * columns_of s.entries + 2 * length s.entries

-- the most nodes, and the greatest depth, of a term of this shape without factors 1 beside others
abbrev pub term_nodes : Shape → ℕ
term_nodes s = 1 + atom_nodes s + fact_nodes s

abbrev pub term_depth : Shape → ℕ
term_depth s = columns_of s.entries + factor_count s + 3

-- ---- two blocks
-- A chain has at most as many links as the product has equalities; there is one for each equality of the other block, and for each point of its marks.
abbrev pub link_count : Shape → Shape → ℕ
link_count s t = equality_count s * (equality_count t + point_count t)

-- the steps beside links: two an equality, five a mark, and one that sets the factors in a row
abbrev pub spare_steps : Shape → ℕ
spare_steps t = 2 * equality_count t + 5 * mark_count t + 1

-- the one block gains what the other says
abbrev pub gaining_steps : Shape → Shape → ℕ
gaining_steps s t = link_count s t + spare_steps t

-- a step for each sum that changes its place, then both gain, and one step leads from the one row to the other
abbrev pub pairing_steps : Shape → Shape → ℕ
pairing_steps s t = columns_of s.entries + gaining_steps s t + gaining_steps t s + 1

abbrev pub pairing_nodes : Shape → Shape → ℕ
pairing_nodes s t = 6 + max (atom_nodes s) (atom_nodes t) + fact_nodes s + fact_nodes t

abbrev pub pairing_depth : Shape → Shape → ℕ
pairing_depth s t = 6 + max (columns_of s.entries) (columns_of t.entries) + factor_count s + factor_count t

-- of a plain step: 18, 11 for each level of the term that it is made in, and 28 for each node, since its arguments stand in both sides
abbrev pub line_bytes : ℕ → ℕ → ℕ
line_bytes nodes depth = 18 + 11 * depth + 28 * nodes

abbrev pub pairing_bytes : Shape → Shape → ℕ
pairing_bytes s t = pairing_steps s t * line_bytes (pairing_nodes s t) (pairing_depth s t)

-- ---- two sums of blocks, each block of the one with its own of the other
abbrev pub Pairs : Type 0
Pairs = List (Shape × Shape)

abbrev pub lefts : Pairs → List Shape
lefts = map (λ pair. pair.0)

abbrev pub rights : Pairs → List Shape
rights = map (λ pair. pair.1)

abbrev pub greatest_depth : Pairs → ℕ
greatest_depth = fold (λ most pair. max most (pairing_depth pair.0 pair.1)) 0

-- between the sums, with a step before and one after that set the blocks in order
abbrev pub sum_nodes : Pairs → ℕ
sum_nodes = sum_by (λ pair. 1 + pairing_nodes pair.0 pair.1)

abbrev pub sum_steps : Pairs → ℕ
sum_steps pairs = sum_by (λ pair. pairing_steps pair.0 pair.1) pairs + 2

abbrev pub sum_depth : Pairs → ℕ
sum_depth pairs = length pairs + greatest_depth pairs

-- each line of a block is longer by the way to it
abbrev pub sum_bytes : Pairs → ℕ
sum_bytes pairs =
    sum_by (λ pair. pairing_bytes pair.0 pair.1 + 11 * length pairs * pairing_steps pair.0 pair.1) pairs
    + 2 * line_bytes (1 + sum_nodes pairs) (sum_depth pairs)

abbrev pub sum_costs : Pairs → Costs
sum_costs pairs = record { steps = sum_steps pairs; nodes = 1 + sum_nodes pairs; depth = sum_depth pairs; bytes = sum_bytes pairs }

-- ---- two unions, each by way of its normal form
abbrev pub union_nodes : List Shape → ℕ
union_nodes = sum_by (λ s. 1 + term_nodes s)

abbrev pub greatest_nodes : List Shape → ℕ
greatest_nodes = fold (λ most s. max most (term_nodes s)) 0

-- a step for each block and one for the sum, where no term on the way has more nodes than the first
abbrev pub normal_costs : List Shape → Costs
normal_costs ss = record { steps = length ss + 1; nodes = union_nodes ss; depth = length ss + greatest_nodes ss; bytes = (length ss + 1) * line_bytes (union_nodes ss) (length ss + greatest_nodes ss) }

-- the one derivation and then the other
abbrev pub then : Costs → Costs → Costs
then a b = record { steps = a.steps + b.steps; nodes = max a.nodes b.nodes; depth = max a.depth b.depth; bytes = a.bytes + b.bytes }

abbrev pub union_costs : Pairs → Costs
union_costs pairs = then (normal_costs (lefts pairs)) (then (sum_costs pairs) (normal_costs (rights pairs)))
