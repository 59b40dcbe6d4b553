-- What a search for a pairing of blocks comes to.
use Rattle.std.specs.Prelude.{ℕ}
use Rattle.u_terms.specs.Syntax.{U}
use Rattle.u_terms.specs.declared.facts.Facts.{Facts}
use Rattle.u_moves.specs.Derivations.{Derivation}
use Rattle.u_congruence.specs.Congruence.{IsFromTo}
use Rattle.u_bag.specs.declared.blocks.Matched.{Matched}
use Rattle.u_bag.specs.declared.blocks.Matched.TheVariants.{Found, Nothing, Spent}
use Rattle.u_bag.specs.Costs.{KeepsPairingCosts}
use Rattle.u_bag.specs.Shapes.{AreAlike, HasTooManySums, StaysWithinBudget, PassesBudget}

-- from the left block to the right one
pub record IsPaired (F : Facts) (names : ℕ) (left right : U) (budget : ℕ) (d : Derivation) : Type 0 where
  pub leads : IsFromTo F names left right d
  pub alike : AreAlike names left right
  pub within : StaysWithinBudget names left right budget
  pub costs : KeepsPairingCosts names left right d

-- the terms do not have shapes that are alike, unless there are more sums than a step exchanges
pub record IsNotPaired (outs : ℕ) (left right : U) (budget : ℕ) : Type 0 where
  pub apart : AreAlike outs left right → HasTooManySums left
  pub within : StaysWithinBudget outs left right budget

-- `Spent` exactly where more lists are tried than the budget has, else `Found` or `Nothing` as the shapes are alike or not
abbrev pub IsMatched : Facts → ℕ → U → U → ℕ → Matched → Type 0
IsMatched facts outs left right budget (Found deriv) = IsPaired facts outs left right budget deriv
IsMatched facts outs left right budget Nothing = IsNotPaired outs left right budget
IsMatched facts outs left right budget Spent = PassesBudget outs left right budget

-- ---- contracts of private functions alone cite this
abbrev pub IsMade : Facts → ℕ → U → U → Matched → Type 0
IsMade facts outs left right (Found deriv) = IsFromTo facts outs left right deriv × KeepsPairingCosts outs left right deriv
IsMade facts outs left right Nothing = HasTooManySums left
IsMade facts outs left right Spent = ⊥
