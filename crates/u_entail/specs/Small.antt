-- How large the values on a way are.
use Rattle.std.specs.Prelude.{ℕ, ◌+◌, ◌*◌, ◌≤◌, List}
use Rattle.data_model.specs.Lists.{Each}
use Rattle.u_terms.specs.Syntax.{U, Val, Bound, Free, Lit, Fun, Agg}
use Rattle.u_terms.specs.Size.{value_nodes, value_depth, list_nodes, list_depth}
use Rattle.u_equal.specs.Standing.{standing}
use Rattle.u_entail.specs.Sides.{IsAmong}

-- a place, a name or a literal: one node
abbrev pub IsBasic : Val → Type 0
IsBasic (Bound place) = Unit {0}
IsBasic (Free name) = Unit {0}
IsBasic (Lit literal) = Unit {0}
IsBasic (Fun symbol shape arguments) = ⊥
IsBasic (Agg aggregate body) = ⊥

-- neither a call nor an aggregate stands in a factor
abbrev pub AreBasic : List U → Type 0
AreBasic = Each (λ factor. Each IsBasic (standing factor))

-- no value that stands in a factor has more nodes, or is deeper
pub record AreSmall (many deep : ℕ) (factors : List U) : Type 0 where
  pub few : (a : Val) → IsAmong factors a → value_nodes a ≤ many
  pub shallow : (a : Val) → IsAmong factors a → value_depth a ≤ deep

-- A value on the way along links, with calls in calls so deep: each call adds at most the nodes of the two that it leads between.
pub record IsSmall (many deep n : ℕ) (a : Val) : Type 0 where
  pub few : value_nodes a ≤ many + 2 * (n * many)
  pub shallow : value_depth a ≤ deep + n

-- ---- private functions alone cite this
-- the arguments of a call on the way between two calls: first those that were reached, then those that are left
pub record HaveRoom (many deep : ℕ) (before xs ys : List Val) : Type 0 where
  pub few : list_nodes before + list_nodes xs + list_nodes ys + 2 ≤ 2 * many
  pub shallow_before : list_depth before + 1 ≤ deep
  pub shallow_from : list_depth xs + 1 ≤ deep
  pub shallow_to : list_depth ys + 1 ≤ deep
