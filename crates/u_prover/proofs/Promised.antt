-- Between small sums of blocks that are alike a derivation is found, but where the budget ends a search.
use Rattle.std.proofs.Common.{◌≡◌, ℕ, zero, suc, ◌<◌, Bool, true, false, List, [], ◌∷◌, length, get_or, sym, subst, inl, inr, arith}
use Rattle.std.specs.Prelude.{◌⊎◌, Contains}
use Rattle.block_costs.specs.Costs.{lefts, rights}
use Rattle.block_costs.proofs.Permuted.{small-permuted}
use Rattle.block_costs.proofs.Totals.{union-bytes, union-depth, union-nodes, union-steps}
use Rattle.shapes.specs.Shapes.{Shape}
use Rattle.shapes.specs.Small.{AllSmall, SmallBlock, SmallQuery, most_entries}
use Rattle.shapes.specs.Unions.{AllAlike}
use Rattle.shapes.proofs.Decides.{tried-bounded}
use Rattle.term_shapes.specs.BlockTerms.{HaveShapes}
use Rattle.term_shapes.specs.FewOnes.{HasFewOnes}
use Rattle.u_moves.specs.Derivations.{Derivation, IsSound}
use Rattle.u_prover.specs.Costs.{KeepsUnionCosts}
use Rattle.u_prover.specs.Proving.{HaveFewColumns, IsEnough, IsMissed, IsPromised, PassesLimits, PassesOne, SomeSearchPasses}
use Rattle.u_prover.proofs.StepSizes.{none-passed}
use Rattle.u_terms.specs.Syntax.{U}
use Rattle.u_terms.specs.declared.facts.Facts.{Facts}

-- ---- small blocks
pub each-small : (most : ℕ) (ss : List Shape) → AllSmall most ss → (s : Shape) → Contains ss s → SmallBlock most s
each-small most ss small s h = at ss small h.0 h.1 h.2
  where
    at : (ss : List Shape) → AllSmall most ss → (k : ℕ) → k < length ss → get_or ss k s ≡ s → SmallBlock most s
    at [] small k less is = absurd (omega (arith, less))
    at (x ∷ xs) small zero less is = subst (SmallBlock most) is small.0
    at (x ∷ xs) small (suc k) less is = at xs small.1 k (omega (arith, less)) is

pub small-columns : (ss : List Shape) → AllSmall most_entries ss → HaveFewColumns ss
small-columns ss small s i = omega (arith, (each-small most_entries ss small s i).few_columns)

-- a search tries no more lists than a block has
pub none-passes : (ss ts : List Shape) (budget : ℕ) → IsEnough ss budget → SomeSearchPasses ss ts budget → ⊥
none-passes ss ts budget enough p = absurd (omega (arith, enough p.s p.s_in, tried-bounded p.s p.t, p.above))

-- what a derivation costs by pairs of small blocks passes no limit
cheap-within : (ss ts : List Shape) (d : Derivation) → SmallQuery most_entries ss → SmallQuery most_entries ts → IsSound d → KeepsUnionCosts ss ts d → PassesOne d → ⊥
cheap-within ss ts d small_left small_right sound costs =
    let pairs = costs.pairs in
    let keeps = costs.keeps in
    let l : SmallQuery most_entries (lefts pairs) = subst (SmallQuery most_entries) (sym costs.lefts_are) small_left in
    let r : SmallQuery most_entries (rights pairs) = small-permuted most_entries ts (rights pairs) costs.rights_are small_right in
    none-passed d sound keeps.plain (omega (arith, keeps.steps, union-steps pairs l r))
    (record { few = omega (arith, keeps.nodes, union-nodes pairs l r); flat = omega (arith, keeps.depth, union-depth pairs l r) })
    (omega (arith, keeps.bytes, union-bytes pairs l r))

-- ---- why none is known
module _ (F : Facts) (names : ℕ) (left right : U) (budget : ℕ) (spent : Bool) where
  -- of sums of blocks that are alike, by a search that passes the budget
  pub alike-passes : (ss ts : List Shape) → HaveShapes names left ss → HaveShapes names right ts → AllAlike ss ts → HaveFewColumns ss
      → IsMissed F names left right budget spent → (spent ≡ true) × SomeSearchPasses ss ts budget
  alike-passes ss ts left_has right_has alike few missed =
      let on = missed.beyond (record { ss = ss; ts = ts; left_has = left_has; right_has = right_has; alike = alike; few = few }) in
      (on, missed.above on ss ts left_has right_has)

  -- and where they are small, by nothing else
  pub small-passes : (ss ts : List Shape) → HaveShapes names left ss → HaveShapes names right ts → AllAlike ss ts → SmallQuery most_entries ss → SmallQuery most_entries ts
      → HasFewOnes left → HasFewOnes right → IsMissed F names left right budget spent ⊎ ((spent ≡ false) × PassesLimits F names left right)
      → (spent ≡ true) × SomeSearchPasses ss ts budget
  small-passes ss ts left_has right_has alike left_small right_small left_ones right_ones (inl missed) =
      alike-passes ss ts left_has right_has alike (small-columns ss left_small.each) missed
  small-passes ss ts left_has right_has alike left_small right_small left_ones right_ones (inr (off, limits)) =
      absurd (cheap-within ss ts limits.deriv left_small right_small limits.sound (limits.costs.by ss ts left_has right_has left_ones right_ones) limits.passes)

  pub never-promised : IsMissed F names left right budget spent ⊎ ((spent ≡ false) × PassesLimits F names left right) → IsPromised names left right budget → ⊥
  never-promised cause p =
      none-passes p.ss p.ts budget p.enough
      (small-passes p.ss p.ts p.left_has p.right_has p.alike p.left_small p.right_small p.left_ones p.right_ones cause).1
