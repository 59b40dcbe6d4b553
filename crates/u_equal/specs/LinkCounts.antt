-- How many links lead from place to place, by recursion on the edges in order of time. Public clauses cite `links_of_values`, by `IsDistance`, and so what it unfolds to:
-- `links_between`, `links_by`, `sum_of_pairs`, `place_in`, `value_of`, `arguments` and `row_values`. Contracts of private functions cite the rest.
use Rattle.std.specs.Prelude.{ℕ, zero, suc, ◌+◌, ◌≤◌, nat_eq, if◌then◌else◌, List, [], ◌∷◌, length, get_or, sum_by, Some, slice_get, ◌≡◌}
use Rattle.u_terms.specs.Syntax.{U, Val, Fun, Vals, NoVals, ValThen}
use Rattle.u_terms.specs.declared.term.Val.TheVariants as v
use Rattle.u_equal.specs.declared.forest.Edge.{Edge}
use Rattle.u_equal.specs.declared.forest.Forest.{Forest}
use Rattle.u_equal.specs.declared.forest.Reason.{Reason}
use Rattle.u_equal.specs.declared.forest.Reason.TheVariants.{Given, Called}
use Rattle.u_equal.specs.declared.chains.Hop.{Hop}
use Rattle.u_equal.specs.declared.chains.Part.{Part}
use Rattle.u_equal.specs.declared.chains.Part.TheVariants.{Found, Open}
use Rattle.u_equal.specs.Keys.{same_code}
use Rattle.u_equal.specs.Links.{told}
use Rattle.u_equal.specs.Joined.{State, edge_at, label_at, seen, AreClasses, AreSame}

-- ---- calls
unfoldable pub row_values : {n : _} → Vals n → List Val
row_values NoVals = []
row_values (ValThen value rest) = value ∷ row_values rest

-- the arguments of a call
unfoldable pub arguments : Val → List Val
arguments (Fun symbol shape row) = row_values row
arguments _ = []

-- the first place of the value
abbrev pub place_in : List Val → Val → ℕ
place_in [] a = 0
place_in (value ∷ values) a = if same_code a value then 0 else suc (place_in values a)

abbrev pub value_of : List Val → ℕ → Val
value_of values i = get_or values i (v.Bound 0)

-- over the arguments of two calls
abbrev pub sum_of_pairs : (Val → Val → ℕ) → List Val → List Val → ℕ
sum_of_pairs links [] ys = 0
sum_of_pairs links (x ∷ xs) [] = 0
sum_of_pairs links (x ∷ xs) (y ∷ ys) = links x y + sum_of_pairs links xs ys

-- ---- edges
-- how many links an edge stands for: its own, and those that lead from argument to argument
abbrev pub links_by : List Val → (ℕ → ℕ → ℕ) → Edge → Reason → ℕ
links_by values between e (Given factor turned) = 1
links_by values between e Called =
    1 + sum_of_pairs (λ x y. between (place_in values x) (place_in values y)) (arguments (value_of values e.left)) (arguments (value_of values e.right))

-- from place to place along the first k edges: over the last one where it joined them
unfoldable pub links_between : State → ℕ → ℕ → ℕ → ℕ
links_between s zero i j = 0
links_between s (suc k) i j =
    if nat_eq (label_at s.edges k i) (label_at s.edges k j) then
    links_between s k i j
    else (
    if nat_eq (label_at s.edges k i) (label_at s.edges k (edge_at s.edges k).left) then
    links_between s k i (edge_at s.edges k).left
    + links_by s.values (links_between s k) (edge_at s.edges k) (edge_at s.edges k).reason
    + links_between s k (edge_at s.edges k).right j
    else
    links_between s k i (edge_at s.edges k).right
    + links_by s.values (links_between s k) (edge_at s.edges k) (edge_at s.edges k).reason
    + links_between s k (edge_at s.edges k).left j
    )

abbrev pub links_of_edge : State → ℕ → ℕ
links_of_edge s k = links_by s.values (links_between s k) (edge_at s.edges k) (edge_at s.edges k).reason

abbrev pub links_of_values : State → ℕ → Val → Val → ℕ
links_of_values s k a b = links_between s k (place_in s.values a) (place_in s.values b)

-- ---- ways
abbrev pub links_of_hops : State → List Hop → ℕ
links_of_hops s = sum_by (λ hop. links_of_edge s hop.time)

abbrev pub links_of_part : State → Part → ℕ
links_of_part s (Found hop) = links_of_edge s hop.time
links_of_part s (Open time from to) = links_between s time from to

abbrev pub links_of_parts : State → List Part → ℕ
links_of_parts s = sum_by (links_of_part s)

-- ---- numbers as the code keeps them
-- of the first k edges
pub record AreNumbers (s : State) (k : ℕ) (numbers : List ℕ) : Type 0 where
  pub within : k ≤ length s.edges
  pub long : length numbers ≡ k
  pub each : (time number : ℕ) → slice_get numbers time ≡ Some number → number ≡ told (links_of_edge s time)

-- ---- what a route keeps
pub record IsRoute (product : U) (forest : Forest) (a b : Val) (number : ℕ) : Type 0 where
  pub classes : AreClasses product forest
  pub same : AreSame (seen forest) a b
  pub is : number ≡ told (links_of_values (seen forest) (length forest.edges.items) a b)

-- ---- what routes keep
pub record AreRoutes (product : U) (forest : Forest) (numbers : List ℕ) : Type 0 where
  pub classes : AreClasses product forest
  pub numbers_are : AreNumbers (seen forest) (length forest.edges.items) numbers
