-- What a match of two sums comes to.
use Rattle.std.specs.Prelude.{ℕ, List, All}
use Rattle.u_terms.specs.Syntax.{U}
use Rattle.u_terms.specs.declared.facts.Facts.{Facts}
use Rattle.u_rules.specs.Terms.{add_leaves}
use Rattle.normal_form.specs.NormalTerms.{sum_of}
use Rattle.u_moves.specs.Derivations.{Derivation, IsKnown}
use Rattle.u_congruence.specs.Congruence.{IsFromTo}
use Rattle.u_bag.specs.declared.blocks.Matched.{Matched}
use Rattle.u_bag.specs.declared.blocks.Matched.TheVariants.{Found, Nothing, Spent}
use Rattle.u_bag.specs.declared.pairs.Pair.{Pair}
use Rattle.u_bag.specs.Costs.{KeepsPairsCosts, KeepsSumCosts}
use Rattle.u_bag.specs.Pairs.{CanBePaired, SomePassBudget, lefts_of, rights_of}
use Rattle.u_bag.specs.Shapes.{SomeHasTooManySums}

-- from the left sum to the right one, whose blocks can be paired
pub record AreSumsPaired (F : Facts) (names : ℕ) (left right : U) (d : Derivation) : Type 0 where
  pub leads : IsFromTo F names left right d
  pub paired : CanBePaired names (add_leaves left) (add_leaves right)
  pub costs : KeepsSumCosts names left right paired.ss paired.ts d

-- `Nothing` only where the blocks cannot be paired, unless one has more sums than a step exchanges
abbrev pub IsSumsMatch : Facts → ℕ → U → U → ℕ → Matched → Type 0
IsSumsMatch facts outs left right budget (Found deriv) = AreSumsPaired facts outs left right deriv
IsSumsMatch facts outs left right budget Nothing = CanBePaired outs (add_leaves left) (add_leaves right) → SomeHasTooManySums (add_leaves left)
IsSumsMatch facts outs left right budget Spent = SomePassBudget outs (add_leaves left) (add_leaves right) budget

-- ---- contracts of private functions alone cite this
pub record IsKnownPair (outs : ℕ) (pair : Pair) : Type 0 where
  pub left : IsKnown 0 outs pair.left.now
  pub right : IsKnown 0 outs pair.right.now

abbrev pub AreKnownPairs : ℕ → List Pair → Type 0
AreKnownPairs outs found = All (IsKnownPair outs) found

-- from the sum of the left blocks to that of the right ones
abbrev pub IsFromPairs : Facts → ℕ → List Pair → Derivation → Type 0
IsFromPairs facts outs found d = IsFromTo facts outs (sum_of (lefts_of found)) (sum_of (rights_of found)) d

abbrev pub AreMade : Facts → ℕ → U → U → List Pair → Matched → Type 0
AreMade facts outs left right found (Found deriv) = IsFromTo facts outs left right deriv × KeepsPairsCosts outs left right found deriv
AreMade facts outs left right found Nothing = SomeHasTooManySums (add_leaves left)
AreMade facts outs left right found Spent = ⊥
