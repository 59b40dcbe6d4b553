use Rattle.std.proofs.Common.{◌≡◌, ℕ, ◌<◌, true, false}
use Rattle.std.specs.Prelude.{get_or}
use Rattle.shapes.specs.Alike.{Alike}
use Rattle.u_bag.specs.declared.pairs.Block.{Block}
use Rattle.u_bag.specs.Pairs.{SomeSpendsBudget}
use Rattle.u_bag.proofs.pairs.first_partner.Given as goal

-- none of the blocks so far is alike, unless the budget ended a search
abbrev pub invariant-loop-place : goal.invariant-loop-place
invariant-loop-place l = record {
  above : l.spent ≡ true → SomeSpendsBudget l.left.shape l.rights l.budget;
  apart : l.spent ≡ false → (k : ℕ) (block : Block) → k < l.place → get_or l.rights k block ≡ block → Alike l.left.shape block.shape → ⊥;
}
