-- Values that are joined by edges in order of time. Public clauses cite `State`, `AreSame`, `IsState` and `AreEdges`, by `IsDistance`, and so what these unfold to: `label_at`,
-- `label_now`, `renamed`, `edge_at`, `FirstAt`, `Joined`, `Same`, `SameEach`, `AreCalls`, `IsApart`, `HasReason` and `IsEdge`. Contracts of private functions cite the rest.
use Rattle.std.specs.Prelude.{◌≡◌, ◌⊎◌, ℕ, zero, suc, ◌+◌, ◌<◌, ◌≤◌, nat_eq, not, if◌then◌else◌, List, [], ◌∷◌, ◌++◌, length, get_or, take, Bool, true, false, Some, slice_get, count_by}
use Rattle.u_terms.specs.Syntax.{U, Val}
use Rattle.u_terms.specs.declared.term.Val.TheVariants as v
use Rattle.u_rules.specs.Terms.{◌≐◌, mul_leaves}
use Rattle.u_equal.specs.declared.forest.Edge.{Edge}
use Rattle.u_equal.specs.declared.forest.Reason.{Reason}
use Rattle.u_equal.specs.declared.forest.Reason.TheVariants.{Given, Called}
use Rattle.u_equal.specs.declared.forest.Place.{Place}
use Rattle.u_equal.specs.declared.forest.Place.TheVariants.{Root, Under}
use Rattle.u_equal.specs.declared.forest.Forest.{Forest}
use Rattle.u_equal.specs.Standing.{standing, EachOnce, IsIn}
use Rattle.u_equal.specs.Links.{HasNoCall, is_equality}

-- ---- labels of places: places with one label are joined
-- the class of `right` gets the label of `left`
abbrev pub renamed : ℕ → ℕ → ℕ → ℕ
renamed from to label = if nat_eq label from then to else label

abbrev pub no_edge : Edge
no_edge = record { left = 0; right = 0; reason = Called }

abbrev pub edge_at : List Edge → ℕ → Edge
edge_at edges k = get_or edges k no_edge

-- the label of a place after the first k edges
unfoldable pub label_at : List Edge → ℕ → ℕ → ℕ
label_at edges zero i = i
label_at edges (suc k) i = renamed (label_at edges k (edge_at edges k).right) (label_at edges k (edge_at edges k).left) (label_at edges k i)

-- how many numbers below n the test holds of
abbrev pub count : (ℕ → Bool) → ℕ → ℕ
count test zero = 0
count test (suc n) = count test n + (if test n then 1 else 0)

-- how many of the first k edges are in the class that a place has after them: no chain to a place of its class is longer
abbrev pub reach : List Edge → ℕ → ℕ → ℕ
reach edges k i = count (λ j. nat_eq (label_at edges k (edge_at edges j).left) (label_at edges k i)) k

-- ---- values that are equal or joined
abbrev pub IsAbsent : Val → List Val → Type 0
IsAbsent a values = (place : ℕ) → slice_get values place ≡ Some a → ⊥

-- the first place of the value
pub record FirstAt (values : List Val) (a : Val) (i : ℕ) : Type 0 where
  pub here : slice_get values i ≡ Some a
  pub first : (j : ℕ) → j < i → slice_get values j ≡ Some a → ⊥

pub record Joined (values : List Val) (label : ℕ → ℕ) (a b : Val) : Type 0 where
  pub left : ℕ
  pub right : ℕ
  pub is_left : FirstAt values a left
  pub is_right : FirstAt values b right
  pub joined : label left ≡ label right

abbrev pub Same : List Val → (ℕ → ℕ) → Val → Val → Type 0
Same values label a b = (a ≡ b) ⊎ Joined values label a b

pub record SameEach (values : List Val) (label : ℕ → ℕ) (xs ys : List Val) : Type 0 where
  pub long : length xs ≡ length ys
  pub each : (k : ℕ) (a b : Val) → slice_get xs k ≡ Some a → slice_get ys k ≡ Some b → Same values label a b

-- calls of one function with the same arguments
pub record AreCalls (values : List Val) (label : ℕ → ℕ) (a b : Val) : Type 0 where
  pub symbol : ℕ
  pub from : List Val
  pub to : List Val
  pub is_from : a ≡ v.Fun symbol from
  pub is_to : b ≡ v.Fun symbol to
  pub each : SameEach values label from to

-- ---- what the code keeps
pub record State : Type 0 where
  pub values : List Val
  pub edges : List Edge

abbrev pub seen : Forest → State
seen forest = record { values = forest.values.keys; edges = forest.edges.items }

-- the label of a place after all edges
abbrev pub label_now : State → ℕ → ℕ
label_now s = label_at s.edges (length s.edges)

abbrev pub AreSame : State → Val → Val → Type 0
AreSame s = Same s.values (label_now s)

-- The edge joins two classes. Where calls are its reason, its values are calls with the same arguments.
pub record IsApart (values : List Val) (label : ℕ → ℕ) (e : Edge) : Type 0 where
  pub left_within : e.left < length values
  pub right_within : e.right < length values
  pub apart : label e.left ≡ label e.right → ⊥
  pub calls : e.reason ≡ Called → (a b : Val) → slice_get values e.left ≡ Some a → slice_get values e.right ≡ Some b → AreCalls values label a b

-- each edge joined two classes
abbrev pub IsState : State → Type 0
IsState s = (k : ℕ) → k < length s.edges → IsApart s.values (label_at s.edges k) (edge_at s.edges k)

-- ---- the tree of places
-- the place is the label of its class to this day
abbrev pub Stands : List Edge → ℕ → Type 0
Stands edges i = (k : ℕ) → k ≤ length edges → label_at edges k i ≡ i

-- the place was hung under another one by the edge of this time: until then it was the label of its class
pub record IsUnder (n : ℕ) (edges : List Edge) (i to time : ℕ) : Type 0 where
  pub within : to < n
  pub past : time < length edges
  pub before : (k : ℕ) → k ≤ time → label_at edges k i ≡ i
  pub after : (k : ℕ) → time < k → k ≤ length edges → label_at edges k i ≡ label_at edges k to

abbrev pub IsPlace : ℕ → List Edge → ℕ → Place → Type 0
IsPlace n edges i (Root size) = Stands edges i
IsPlace n edges i (Under to time) = IsUnder n edges i to time

abbrev pub place_at : List Place → ℕ → Place
place_at places i = get_or places i (Root 0)

-- a place that was hung under another one was so before that one
pub record IsTreeOf (n : ℕ) (edges : List Edge) (places : List Place) : Type 0 where
  pub long : length places ≡ n
  pub each : (i : ℕ) → i < n → IsPlace n edges i (place_at places i)
  pub rising : (i to time up later : ℕ) → i < n → place_at places i ≡ Under to time → place_at places to ≡ Under up later → time < later

abbrev pub IsTree : Forest → Type 0
IsTree forest = IsTreeOf (length forest.values.keys) forest.edges.items forest.places.items

-- ---- edges, each with its reason in what was before
-- by the factor with this number, or as calls
abbrev pub HasReason : List U → List Val → List Val → (ℕ → ℕ) → Val → Val → Reason → Type 0
HasReason factors calls values label a b (Given factor turned) = slice_get factors factor ≡ Some (if turned then b ≐ a else a ≐ b)
HasReason factors calls values label a b Called = IsIn a calls × IsIn b calls × AreCalls values label a b

abbrev pub turned_reason : Reason → Reason
turned_reason (Given factor turned) = Given factor (not turned)
turned_reason Called = Called

pub record IsEdge (factors : List U) (calls values : List Val) (label : ℕ → ℕ) (e : Edge) : Type 0 where
  pub from : Val
  pub to : Val
  pub is_from : slice_get values e.left ≡ Some from
  pub is_to : slice_get values e.right ≡ Some to
  pub reason : HasReason factors calls values label from to e.reason

abbrev pub AreEdges : List U → List Val → State → Type 0
AreEdges factors calls s = (k : ℕ) → k < length s.edges → IsEdge factors calls s.values (label_at s.edges k) (edge_at s.edges k)

-- ---- nothing is left to be joined
abbrev pub HoldsGiven : List U → List Val → (ℕ → ℕ) → Type 0
HoldsGiven factors values label = (factor : ℕ) (a b : Val) → slice_get factors factor ≡ Some (a ≐ b) → Same values label a b

abbrev pub HoldsCalls : List Val → List Val → (ℕ → ℕ) → Type 0
HoldsCalls calls values label = (a b : Val) → IsIn a calls → IsIn b calls → AreCalls values label a b → Same values label a b

-- the classes of the product: nothing is left to be joined
pub record AreClasses (product : U) (forest : Forest) : Type 0 where
  pub once : EachOnce forest.values.keys
  pub tree : IsTree forest
  pub state : IsState (seen forest)
  pub edges_hold : AreEdges (mul_leaves product) (standing product) (seen forest)
  pub given : HoldsGiven (mul_leaves product) forest.values.keys (label_now (seen forest))
  pub calls : HoldsCalls (standing product) forest.values.keys (label_now (seen forest))
  pub few : HasNoCall (standing product) → length forest.edges.items ≤ count_by is_equality (mul_leaves product)
  pub narrow : length forest.edges.items ≤ length (standing product)

-- ---- moves
abbrev pub pushed : State → Edge → State
pushed s e = record { values = s.values; edges = s.edges ++ e ∷ [] }

-- whether the places were joined, by an edge either way round
abbrev pub IsMoved : ℕ → ℕ → Reason → State → State → Bool → Type 0
IsMoved left right reason before after false = (label_now before left ≡ label_now before right) × (after ≡ before)
IsMoved left right reason before after true = (label_now before left ≡ label_now before right → ⊥)
    × ((after ≡ pushed before (record { left = left; right = right; reason = reason }))
    ⊎ (after ≡ pushed before (record { left = right; right = left; reason = turned_reason reason })))

-- some of the calls were joined
pub record IsProgress (calls : List Val) (before after : State) : Type 0 where
  pub values : after.values ≡ before.values
  pub state : IsState after
  pub edges_hold : (factors : List U) → AreEdges factors calls before → AreEdges factors calls after
  pub joins : (i j : ℕ) → label_now before i ≡ label_now before j → label_now after i ≡ label_now after j
  pub grows : length before.edges ≤ length after.edges
  pub quiet : HasNoCall calls → length after.edges ≤ length before.edges

-- each value in a class of its own
pub record IsFresh (values : List Val) (s : State) : Type 0 where
  pub values_are : s.values ≡ values
  pub edges_are : s.edges ≡ []

-- the equalities among the first `upto` factors were joined
pub record JoinsFactors (factors : List U) (upto : ℕ) (before after : State) : Type 0 where
  pub values : after.values ≡ before.values
  pub state : IsState after
  pub edges_hold : (calls : List Val) → AreEdges factors calls before → AreEdges factors calls after
  pub joins : (factor : ℕ) (a b : Val) → factor < upto → slice_get factors factor ≡ Some (a ≐ b) → AreSame after a b
  pub few : length after.edges ≤ length before.edges + count_by is_equality (take upto factors)
