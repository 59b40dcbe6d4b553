-- What derivations between blocks, and between sums of blocks, cost.
use Rattle.std.specs.Prelude.{◌≡◌, ℕ, ◌+◌, ◌*◌, ◌<◌, ◌≤◌, max, false, List, [], ◌∷◌, ◌++◌, length, sum_by, count_by, if◌then◌else◌, IsPermutation, Contains}
use Rattle.data_model.specs.Lists.{Each}
use Rattle.u_terms.specs.Syntax.{U, Eq}
use Rattle.u_terms.specs.Size as size
use Rattle.u_terms.specs.Size.{nodes, depth}
use Rattle.u_terms.specs.Products.{product_of}
use Rattle.u_rules.specs.Terms.{S, add_leaves, mul_leaves, terms}
use Rattle.u_deriv.specs.LineBounds.{lines_bound}
use Rattle.u_moves.specs.Derivations.{Derivation, HasPlainSteps}
use Rattle.u_moves.specs.Turning.{turned_back}
use Rattle.u_equal.specs.Links.{is_equality}
use Rattle.u_entail.specs.Carrying.{points}
use Rattle.u_entail.specs.Gaining.{IsLean}
use Rattle.u_entail.specs.Small.{AreBasic}
use Rattle.normal_form.specs.NormalTerms.{sum_of}
use Rattle.shapes.specs.Shapes.{Shape}
use Rattle.shapes.specs.Small.{columns_of}
use Rattle.block_costs.specs.Costs.{Costs, Pairs, lefts, rights, equality_count, mark_count, point_count, factor_count, fact_nodes, term_nodes, term_depth, gaining_steps, pairing_steps, pairing_nodes, pairing_depth, pairing_bytes, sum_nodes, greatest_depth, sum_costs}
use Rattle.term_shapes.specs.Factors.{sum_count, under_sums}
use Rattle.term_shapes.specs.TermShape.{HasShape}
use Rattle.shape_entails.specs.Values.{is_atom}
use Rattle.u_bag.specs.declared.gaining.Row.{Row}
use Rattle.u_bag.specs.declared.pairs.Pair.{Pair}
use Rattle.u_bag.specs.Shapes.{HaveShapes}

-- ---- what is promised
-- no more than these; and the steps are plain
pub record KeepsCosts (most : Costs) (d : Derivation) : Type 0 where
  pub steps : length d.steps ≤ most.steps
  pub nodes : d.nodes ≤ most.nodes
  pub depth : d.depth ≤ most.depth
  pub bytes : lines_bound d.steps ≤ most.bytes
  pub plain : HasPlainSteps d

abbrev pub pairing_costs : Shape → Shape → Costs
pairing_costs s t = record { steps = pairing_steps s t; nodes = pairing_nodes s t; depth = pairing_depth s t; bytes = pairing_bytes s t }

-- a term of the shape has no more nodes, and is no deeper, than the shape says: no factor 1 stands beside others
pub record IsTight (s : Shape) (u : U) : Type 0 where
  pub few : nodes u ≤ term_nodes s
  pub shallow : depth u ≤ term_depth s

-- between tight blocks
pub record KeepsPairingCosts (outs : ℕ) (left right : U) (d : Derivation) : Type 0 where
  pub by : (s t : Shape) → HaveShapes outs left right s t → IsTight s left → IsTight t right → KeepsCosts (pairing_costs s t) d

-- a sum of blocks in a row, one at least, each of them tight
pub record IsTightSum (outs : ℕ) (u : U) : Type 0 where
  pub some : 0 < length (add_leaves u)
  pub in_row : u ≡ sum_of (add_leaves u)
  pub each : (block : U) → Contains (add_leaves u) block → (s : Shape) → HasShape outs block s → IsTight s block

-- Between tight sums, by pairs of a left block's shape, in order, with that of a right one's of its own.
pub record KeepsSumCosts (outs : ℕ) (left right : U) (ss ts : List Shape) (d : Derivation) : Type 0 where
  pub pairs : Pairs
  pub lefts_are : lefts pairs ≡ ss
  pub rights_are : IsPermutation ts (rights pairs)
  pub costs : IsTightSum outs left → IsTightSum outs right → KeepsCosts (sum_costs pairs) d

-- ---- contracts of private functions alone cite this
-- ---- steps put together
-- a plain step between these terms, or none
pub record IsOneStepAtMost (first last : U) (d : Derivation) : Type 0 where
  pub steps : length d.steps ≤ 1
  pub nodes : d.nodes ≤ max (size.nodes first) (size.nodes last)
  pub depth : d.depth ≤ max (size.depth first) (size.depth last)
  pub bytes : lines_bound d.steps ≤ 18 + 14 * (size.nodes first + size.nodes last)
  pub plain : HasPlainSteps d

pub record IsBackward (first d : Derivation) : Type 0 where
  pub steps : d.steps ≡ turned_back first.steps
  pub nodes : d.nodes ≡ first.nodes
  pub depth : d.depth ≡ first.depth

-- the steps of all three
pub record IsThreefold (first between last d : Derivation) : Type 0 where
  pub steps : d.steps ≡ (first.steps ++ between.steps) ++ last.steps
  pub nodes : d.nodes ≡ max (max first.nodes between.nodes) last.nodes
  pub depth : d.depth ≡ max (max first.depth between.depth) last.depth

-- ---- factors that a product gains
-- the steps by which a product with so many equalities gains an equality, or a mark
unfoldable pub gain_steps : ℕ → U → ℕ
gain_steps equalities (Eq a b) = equalities + 2
gain_steps equalities mark = length (points mark) * equalities + 5

-- the wanted one stands behind the factors
pub record FactorCosts (product : U) (factors : List U) (wanted : U) (d : Derivation) : Type 0 where
  pub steps : (n : ℕ) → count_by is_equality (mul_leaves product) ≤ n → length d.steps ≤ gain_steps n wanted
  pub lean : IsLean (product_of (factors ++ wanted ∷ [])) 1 d
  pub plain : HasPlainSteps d
  pub no_atom : is_atom wanted ≡ false

-- the wanted ones stand behind those of a row
pub record RowCosts (product : U) (before : Row) (wanted : List U) (row : Row) : Type 0 where
  pub steps : (n : ℕ) → count_by is_equality (mul_leaves product) ≤ n → length row.deriv.steps ≤ length before.deriv.steps + sum_by (gain_steps n) wanted
  pub nodes : row.deriv.nodes ≤ max before.deriv.nodes (size.nodes (product_of (terms row.factors.items)) + 1)
  pub depth : row.deriv.depth ≤ max before.deriv.depth (size.depth (product_of (terms row.factors.items)) + 1)
  pub plain : HasPlainSteps before.deriv → HasPlainSteps row.deriv
  pub no_atoms : Each (λ factor. is_atom factor ≡ false) wanted

-- from the product to one with the wanted ones too
pub record GainCosts (product : U) (wanted : List U) (d : Derivation) : Type 0 where
  pub steps : (n : ℕ) → count_by is_equality (mul_leaves product) ≤ n → length d.steps ≤ 1 + sum_by (gain_steps n) wanted
  pub nodes : d.nodes ≤ max (size.nodes product) (size.nodes (product_of (mul_leaves product ++ wanted)) + 1)
  pub depth : d.depth ≤ max (size.depth product) (size.depth (product_of (mul_leaves product ++ wanted)) + 1)
  pub plain : HasPlainSteps d
  pub no_atoms : Each (λ factor. is_atom factor ≡ false) wanted

-- the one, a step, and the other backward
pub record MetCosts (down up d : Derivation) : Type 0 where
  pub steps : length d.steps ≤ length down.steps + length up.steps + 1
  pub nodes : d.nodes ≤ max down.nodes up.nodes
  pub depth : d.depth ≤ max down.depth up.depth
  pub plain : HasPlainSteps down → HasPlainSteps up → HasPlainSteps d

-- ---- by shapes
-- the same of factors that are no atoms, of others nothing
abbrev pub of_facts : (U → ℕ) → U → ℕ
of_facts f factor = if is_atom factor then 0 else f factor

abbrev pub one_more : U → ℕ
one_more factor = 1 + size.nodes factor

-- The factors are no more, and no larger, than those that the shape says, and neither a call nor an aggregate stands in one.
pub record HasFactorsOf (s : Shape) (product : U) : Type 0 where
  pub basic : AreBasic (mul_leaves product)
  pub shallow : Each (λ factor. size.depth factor ≤ 3) (mul_leaves product)
  pub equalities : count_by is_equality (mul_leaves product) ≤ equality_count s
  pub many : length (mul_leaves product) ≤ factor_count s
  pub nodes : sum_by one_more (mul_leaves product) ≤ columns_of s.entries + 2 * length s.entries + fact_nodes s
  pub facts : sum_by (of_facts (λ factor. 1)) (mul_leaves product) ≤ equality_count s + mark_count s
  pub nodes_of_facts : sum_by (of_facts one_more) (mul_leaves product) ≤ fact_nodes s
  pub steps_of_facts : (n : ℕ) → sum_by (of_facts (gain_steps n)) (mul_leaves product) ≤ (n + 2) * equality_count s + (n * point_count s + 5 * mark_count s)

-- so many sums around such a product
pub record IsBlockOf (s : Shape) (sums : ℕ) (u : U) : Type 0 where
  pub sums_are : sum_count u ≡ sums
  pub product : HasFactorsOf s (under_sums u)

-- a row of the factors of the one shape, and of the equalities and marks of the other behind them
abbrev pub row_nodes : Shape → Shape → ℕ
row_nodes s t = columns_of s.entries + 2 * length s.entries + fact_nodes s + fact_nodes t

abbrev pub row_depth : Shape → Shape → ℕ
row_depth s t = factor_count s + equality_count t + mark_count t + 3

-- Between terms with so many sums, by so many turns: no term on the way has more nodes, or is deeper, than these or such a row under the sums.
pub record MeetingCosts (s t : Shape) (sums turns : ℕ) (left right : U) (d : Derivation) : Type 0 where
  pub steps : length d.steps ≤ turns + gaining_steps s t + gaining_steps t s + 1
  pub nodes : (n : ℕ) → row_nodes s t + 2 ≤ n → row_nodes t s + 2 ≤ n → size.nodes left ≤ sums + n → size.nodes right ≤ sums + n → d.nodes ≤ sums + n
  pub depth : (n : ℕ) → row_depth s t + 1 ≤ n → row_depth t s + 1 ≤ n → size.depth left ≤ sums + n → size.depth right ≤ sums + n → d.depth ≤ sums + n
  pub plain : HasPlainSteps d

-- between two products, whatever shapes have these factors
pub record KeepsProductCosts (left right : U) (d : Derivation) : Type 0 where
  pub by : (s t : Shape) → HasFactorsOf s left → HasFactorsOf t right → MeetingCosts s t 0 0 left right d

-- between two blocks
pub record KeepsMeetingCosts (sums turns : ℕ) (left right : U) (d : Derivation) : Type 0 where
  pub by : (s t : Shape) → IsBlockOf s sums left → IsBlockOf t sums right → MeetingCosts s t sums turns left right d

-- the same of the end of a derivation, with what that costs before
pub record KeepsMeetingCostsAfter (first : Derivation) (sums turns : ℕ) (right : U) (d : Derivation) : Type 0 where
  pub by : (left : U) → size.nodes left ≡ first.nodes → size.depth left ≡ first.depth → length first.steps ≤ 1 → HasPlainSteps first → (s t : Shape) → IsBlockOf s sums first.to → IsBlockOf t sums right
      → MeetingCosts s t sums (turns + 1) left right d

-- one step between terms of as many nodes and of the same depth, of which the first is a block where the last is
pub record OutwardCosts (f : U) (d : Derivation) : Type 0 where
  pub steps : length d.steps ≡ 1
  pub nodes : d.nodes ≡ size.nodes (S f)
  pub depth : d.depth ≡ size.depth (S f)
  pub plain : HasPlainSteps d
  pub keeps : (s : Shape) (sums : ℕ) → IsBlockOf s sums (S f) → IsBlockOf s sums d.to

-- ---- sums
-- the pairs have these shapes, in order, and are tight
abbrev pub HaveShapePairs : ℕ → List Pair → Pairs → Type 0
HaveShapePairs outs [] [] = Unit {0}
HaveShapePairs outs (pair ∷ found) (shapes ∷ pairs) =
    HaveShapes outs pair.left.now pair.right.now shapes.0 shapes.1 × IsTight shapes.0 pair.left.now × IsTight shapes.1 pair.right.now × HaveShapePairs outs found pairs
HaveShapePairs outs found pairs = ⊥

-- between the sum of the left blocks and that of the right ones
pub record AddedCosts (pairs : Pairs) (d : Derivation) : Type 0 where
  pub steps : length d.steps ≤ sum_by (λ pair. pairing_steps pair.0 pair.1) pairs
  pub nodes : d.nodes ≤ 1 + sum_nodes pairs
  pub depth : d.depth ≤ length pairs + greatest_depth pairs
  pub bytes : lines_bound d.steps ≤ sum_by (λ pair. pairing_bytes pair.0 pair.1 + 11 * length pairs * pairing_steps pair.0 pair.1) pairs
  pub plain : HasPlainSteps d

pub record KeepsAddedCosts (outs : ℕ) (found : List Pair) (d : Derivation) : Type 0 where
  pub by : (pairs : Pairs) → 0 < length pairs → HaveShapePairs outs found pairs → AddedCosts pairs d

-- and between sums that have these blocks
pub record KeepsPairsCosts (outs : ℕ) (left right : U) (found : List Pair) (d : Derivation) : Type 0 where
  pub by : (pairs : Pairs) → 0 < length pairs → HaveShapePairs outs found pairs → IsTightSum outs left → IsTightSum outs right → KeepsCosts (sum_costs pairs) d
