-- The size of a term as it is kept while steps are made on it.
use Rattle.std.specs.Prelude.{◌≡◌, ℕ, zero, suc, ◌+◌, ◌<◌, ◌≤◌, max, Bool, true, false, ◌⊎◌}
use Rattle.u_terms.specs.Syntax.{U}
use Rattle.u_terms.specs.Size.{nodes, depth}
use Rattle.u_rules.specs.Terms.{◌⊗◌}
use Rattle.u_rules.specs.declared.side_sizes.Sizes.{Sizes}
use Rattle.proof_text.specs.Limits.{most_depth}
use Rattle.proof_check.specs.Limits.{IsSmall}

-- the term has so many nodes and is no deeper than `bound`, which is its depth where it passes the limit
pub record HasSize (u : U) (count bound : ℕ) : Type 0 where
  pub counted : nodes u ≡ count
  pub bounded : depth u ≤ bound
  pub exact : most_depth < bound → depth u ≡ bound

pub record IsSmallSquare (u : U) : Type 0 where
  pub factor : U
  pub small : IsSmall factor
  pub square : u ≡ factor ⊗ factor

-- steps are made on small terms, and on the square that the inner steps of `sq_fix` begin with
abbrev pub IsSteppable : U → Type 0
IsSteppable u = IsSmall u ⊎ IsSmallSquare u

-- ---- contracts of private functions alone cite these
-- the sizes with that of the side that a step writes on the right
abbrev pub directed : Bool → Sizes → Sizes
directed true sizes = sizes
directed false sizes = record {
  left_nodes = sizes.right_nodes;
  left_depth = sizes.right_depth;
  right_nodes = sizes.left_nodes;
  right_depth = sizes.left_depth;
}

-- how deep a term may be, of at most this depth, after a side of that depth is written so many turns down
abbrev pub depth_after : ℕ → ℕ → ℕ → ℕ
depth_after zero most side = side
depth_after (suc turns) most side = max most (suc turns + side)
