-- An opened body keeps its nodes.
use Rattle.std.proofs.Common.{◌≡◌, ℕ, ◌≤◌, Bool, true, false, refl, arith}
use Rattle.std.specs.Prelude.{nat_eq, if◌then◌else◌}
use Rattle.u_terms.specs.Syntax.{U, Bound, Free}
use Rattle.u_terms.specs.Size.{nodes, value_nodes, depth, value_depth}
use Rattle.u_terms.specs.Binding.{opened, same_name, value_for_place}
use Rattle.u_terms.proofs.MappedSizes.{nodes-mapped}

one-node : (b : Bool) (i x : ℕ) → value_nodes (if b then Free x else Bound i) ≡ 1
unfolding nodes
one-node true i x = refl
one-node false i x = refl

free-node : (x : ℕ) → value_nodes (Free x) ≡ 1
unfolding nodes
free-node x = refl

one-deep : (b : Bool) (i x : ℕ) → value_depth (if b then Free x else Bound i) ≡ 1
unfolding depth
one-deep true i x = refl
one-deep false i x = refl

free-deep : (x : ℕ) → value_depth (Free x) ≡ 1
unfolding depth
free-deep x = refl

pub opened-nodes : (u : U) (x : ℕ) → nodes (opened u x) ≡ nodes u
opened-nodes u x = nodes-mapped (value_for_place (Free x)) same_name (λ k i. one-node (nat_eq i k) i x) (λ k y. free-node y) (λ k i. one-deep (nat_eq i k) i x) (λ k y. free-deep y) u 0
