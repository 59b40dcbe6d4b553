-- How large a proof, its terms and the sides of its steps may be.
use Rattle.std.specs.Prelude.{◌≡◌, ℕ, ◌<◌, ◌≤◌, ◌⊎◌}
use Rattle.u_terms.specs.Syntax.{U}
use Rattle.u_terms.specs.Size.{nodes, depth}
use Rattle.u_terms.specs.declared.facts.Facts.{Facts}
use Rattle.u_rules.specs.declared.side_sizes.Sizes.{Sizes}
use Rattle.u_rules.specs.Measures.{sizes_of}
use Rattle.u_rules.specs.Rows.{row}
use Rattle.u_deriv.specs.declared.step.Step.{Step, out-Step}
use Rattle.proof_text.specs.Limits.{most_nodes, most_depth}
use Rattle.proof_text.specs.declared.limits.LimitKind.{LimitKind}
use Rattle.proof_text.specs.declared.limits.LimitKind.TheVariants.{Nodes, Depth, Steps, Nesting}

-- steps, inner ones too
abbrev pub most_steps : ℕ
most_steps = 1000000

-- inner proofs that are open at once
abbrev pub most_nesting : ℕ
most_nesting = 64

-- so many nodes and this depth are within the limits of a term
pub record IsWithin (nodes depth : ℕ) : Type 0 where
  pub few : nodes ≤ most_nodes
  pub flat : depth ≤ most_depth

-- or pass one, nodes before depth; the count is what passes it
abbrev pub Passes : ℕ → ℕ → LimitKind → ℕ → Type 0
Passes nodes depth Nodes count = (most_nodes < nodes) × (count ≡ nodes)
Passes nodes depth Depth count = (nodes ≤ most_nodes) × (most_depth < depth) × (count ≡ depth)
Passes nodes depth Steps count = ⊥
Passes nodes depth Nesting count = ⊥

-- ---- terms
abbrev pub IsSmall : U → Type 0
IsSmall u = IsWithin (nodes u) (depth u)

abbrev pub TermPasses : U → LimitKind → ℕ → Type 0
TermPasses u what count = Passes (nodes u) (depth u) what count

-- ---- the sides of a step's row, the left one first. Where its arguments have no row both count 0, and all counts end at the last number of
-- 64 bits.
abbrev pub sizes_for : Facts → Step → Sizes
sizes_for facts step = sizes_of (row facts (out-Step step).rule (out-Step step).args)

pub record SidesAreSmall (sizes : Sizes) : Type 0 where
  pub left : IsWithin sizes.left_nodes sizes.left_depth
  pub right : IsWithin sizes.right_nodes sizes.right_depth

abbrev pub SidesPass : Sizes → LimitKind → ℕ → Type 0
SidesPass sizes what count =
    Passes sizes.left_nodes sizes.left_depth what count
    ⊎ (IsWithin sizes.left_nodes sizes.left_depth × Passes sizes.right_nodes sizes.right_depth what count)
