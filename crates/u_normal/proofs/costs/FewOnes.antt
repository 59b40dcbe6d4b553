-- Normal terms have few factors 1, so the blocks of those that have shapes are no larger than the shapes say.
use Rattle.std.proofs.Common.{◌≡◌, ℕ, zero, suc, ◌≤◌, ◌<◌, List, [], ◌∷◌, ◌++◌, length, get_or, refl, sym, subst, arith}
use Rattle.std.specs.Prelude.{Contains}
use Rattle.data_model.specs.Lists.{Each}
use Rattle.u_terms.specs.Syntax.{U, Zero, One, Add, Mul, Squash as SquashOf, Not, Sum, Rel, Eq, Pred, constructors}
use Rattle.u_terms.specs.Size.{nodes, depth}
use Rattle.u_rules.specs.Terms.{add_leaves}
use Rattle.normal_form.specs.declared.kind.Kind.{Kind}
use Rattle.normal_form.specs.declared.kind.Kind.TheVariants.{Mark, Atom, Squash, Negation}
use Rattle.normal_form.specs.NormalTerms.{sum_of, IsNormal, AreBlocks, IsBlock, AreFactors, IsFactor, sum_of_blocks, no_block, block_then, sum_over, product_of_factors, no_factor, factor_then, equality, predicate, no_equality, no_predicate, relation, squash, negation}
use Rattle.normal_form.proofs.Lists.{each-append}
use Rattle.shapes.specs.Shapes.{Shape}
use Rattle.block_costs.specs.Costs.{greatest_nodes, term_depth, term_nodes}
use Rattle.block_costs.proofs.Greatest.{greatest-append}
use Rattle.term_shapes.specs.TermShape.{HasShape}
use Rattle.term_shapes.specs.BlockTerms.{HaveShapes, one_block, two_sums}
use Rattle.term_shapes.specs.FewOnes.{ones, HasFewOnes}
use Rattle.term_shapes.proofs.FewOnes.{IsBare, few-both, few-ones, few-parts, few-product, few-Sum, few-zero}
use Rattle.term_shapes.proofs.Sizes.{block-depth, block-nodes}
use Rattle.u_normal.specs.Shaped.{HasSmallBlocks}
use Rattle.u_normal.proofs.costs.Levels.{one-leaf, small-both}

-- ---- a block
factor-bare : (kind : Kind) (w : U) → IsFactor kind w → IsBare w
unfolding ones HasFewOnes
factor-bare kind w (equality a b) = record { none = refl; few = omega arith }
factor-bare kind w (predicate vs) = record { none = refl; few = omega arith }
factor-bare kind w (no_equality a b) = record { none = refl; few = omega arith }
factor-bare kind w (no_predicate vs) = record { none = refl; few = omega arith }
factor-bare kind w (relation vs) = record { none = refl; few = omega arith }
factor-bare kind w (squash n) = record { none = refl; few = omega arith }
factor-bare kind w (negation n e) = record { none = refl; few = omega arith }

each-bare : (kind : Kind) (us : List U) → AreFactors kind us → Each IsBare us
each-bare kind us no_factor = tt
each-bare kind us (factor_then {factor = x} {rest = rest} h hs) = (factor-bare kind x h, each-bare kind rest hs)

block-few : (w : U) → IsBlock w → HasFewOnes w
unfolding constructors
block-few w (sum_over {body = body} h) = few-Sum body (few-ones body (block-few body h))
block-few w (product_of_factors ms rs ss ns hm ha hs ls hn ln e) =
    subst HasFewOnes (sym e)
    (few-product (ms ++ (rs ++ (ss ++ ns)))
    (each-append IsBare ms (rs ++ (ss ++ ns)) (each-bare Mark ms hm)
    (each-append IsBare rs (ss ++ ns) (each-bare Atom rs ha) (each-append IsBare ss ns (each-bare Squash ss hs) (each-bare Negation ns hn)))))

-- ---- a normal term
row-few : (us : List U) → AreBlocks us → HasFewOnes (sum_of us)
row-few us no_block = few-zero
row-few us (block_then {block = x} h no_block) = block-few x h
row-few us (block_then {block = x} h (block_then {block = y} {rest = rest} k hs)) = few-both x (sum_of (y ∷ rest)) (block-few x h) (row-few (y ∷ rest) (block_then k hs))

pub normal-few : (w : U) → IsNormal w → HasFewOnes w
normal-few w (sum_of_blocks blocks h e) = subst HasFewOnes (sym e) (row-few blocks h)

leaves-few : (w : U) → HasFewOnes w → Each (λ block. ones block ≤ 1) (add_leaves w)
unfolding HasFewOnes add_leaves
leaves-few Zero h = tt
leaves-few One h = (h, tt)
leaves-few (Add a b) h = each-append (λ block. ones block ≤ 1) (add_leaves a) (add_leaves b) (leaves-few a h.0) (leaves-few b h.1)
leaves-few (Mul a b) h = (h, tt)
leaves-few (SquashOf a) h = (h, tt)
leaves-few (Not a) h = (h, tt)
leaves-few (Sum body) h = (h, tt)
leaves-few (Rel table shape arguments) h = (h, tt)
leaves-few (Eq a b) h = (h, tt)
leaves-few (Pred symbol shape arguments) h = (h, tt)

pub normal-blocks_few : (w : U) → IsNormal w → Each (λ block. ones block ≤ 1) (add_leaves w)
normal-blocks_few w h = leaves-few w (normal-few w h)

-- so its blocks are as large and as deep as their shapes say, at most
pub normal-sizes : (outs : ℕ) (w block : U) (s : Shape) → IsNormal w → Contains (add_leaves w) block → HasShape outs block s → (nodes block ≤ term_nodes s) × (depth block ≤ term_depth s)
normal-sizes outs w block s normal there h =
    let few : ones block ≤ 1 = at (add_leaves w) (normal-blocks_few w normal) there.0 there.1 there.2 in (block-nodes outs block s h few, block-depth outs block s h few)
  where
    at : (us : List U) → Each (λ b. ones b ≤ 1) us → (k : ℕ) → k < length us → get_or us k block ≡ block → ones block ≤ 1
    at [] each k less is = absurd (omega (arith, less))
    at (x ∷ us) each zero less is = subst (λ (b : U). ones b ≤ 1) is each.0
    at (x ∷ us) each (suc k) less is = at us each.1 k (omega (arith, less)) is

-- ---- a sum of blocks
blocks-within : (most outs : ℕ) (w : U) (ss : List Shape) → HaveShapes outs w ss → HasFewOnes w → greatest_nodes ss ≤ most → HasSmallBlocks most w
blocks-within most outs w ss (one_block {s = s} h) few within =
    subst (λ (us : List U). Each (λ block. nodes block ≤ most) us) (sym (one-leaf outs w s h)) (omega (arith, block-nodes outs w s h (few-ones w few), within), tt)
blocks-within most outs w ss (two_sums {a = a} {b = b} {ss = ls} {ts = rs} h k) few within =
    let parts = few-parts a b few in
    small-both most a b (blocks-within most outs a ls h parts.0 (omega (arith, within, greatest-append ls rs))) (blocks-within most outs b rs k parts.1 (omega (arith, within, greatest-append ls rs)))

pub blocks-small : (outs : ℕ) (w : U) (ss : List Shape) → HaveShapes outs w ss → HasFewOnes w → HasSmallBlocks (greatest_nodes ss) w
blocks-small outs w ss h few = blocks-within (greatest_nodes ss) outs w ss h few (omega arith)
