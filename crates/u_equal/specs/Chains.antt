-- What the code of chains finds: contracts of private functions cite this.
use Rattle.std.specs.Prelude.{◌≡◌, ℕ, ◌+◌, ◌*◌, ◌<◌, ◌≤◌, sum_by, Bool, if◌then◌else◌, List, [], ◌∷◌, ◌++◌, length, Some, slice_get}
use Rattle.u_terms.specs.Syntax.{U, Val}
use Rattle.u_terms.specs.declared.term.Val.TheVariants as v
use Rattle.u_rules.specs.Terms.{mul_leaves}
use Rattle.u_equal.specs.declared.forest.Edge.{Edge}
use Rattle.u_equal.specs.declared.chains.Hop.{Hop}
use Rattle.u_equal.specs.declared.chains.Part.{Part}
use Rattle.u_equal.specs.declared.chains.Part.TheVariants.{Found, Open}
use Rattle.u_equal.specs.declared.link.Link.{Link}
use Rattle.u_equal.specs.Standing.{standing}
use Rattle.u_equal.specs.Links.{Leads, LeadsEach, Nests}
use Rattle.u_equal.specs.Joined.{State, AreEdges, edge_at, label_at, reach}
use Rattle.u_equal.specs.LinkCounts.{links_between, links_of_hops, links_of_part, links_of_parts}

-- ---- ways from place to place
abbrev pub near : Edge → Bool → ℕ
near e turned = if turned then e.right else e.left

abbrev pub far : Edge → Bool → ℕ
far e turned = if turned then e.left else e.right

-- two places that the first edges join
pub record IsPart (s : State) (upto from to : ℕ) : Type 0 where
  pub within : upto ≤ length s.edges
  pub from_within : from < length s.values
  pub to_within : to < length s.values
  pub joined : label_at s.edges upto from ≡ label_at s.edges upto to

-- the edge that joined two places, and which of them it had on its right
pub record Meets (edges : List Edge) (upto from to : ℕ) (hop : Hop) : Type 0 where
  pub within : hop.time < upto
  pub apart : label_at edges hop.time from ≡ label_at edges hop.time to → ⊥
  pub from_near : label_at edges hop.time from ≡ label_at edges hop.time (near (edge_at edges hop.time) hop.turned)
  pub far_to : label_at edges hop.time (far (edge_at edges hop.time) hop.turned) ≡ label_at edges hop.time to

-- one step after the other along the first edges
pub data IsWay (edges : List Edge) (upto : ℕ) : ℕ → List Hop → ℕ → Type 0 where
  stays : (i : ℕ) → IsWay edges upto i [] i
  along : (hop : Hop) (hops : List Hop) (i j to : ℕ) → hop.time < upto → i ≡ near (edge_at edges hop.time) hop.turned → j ≡ far (edge_at edges hop.time) hop.turned
      → IsWay edges upto j hops to → IsWay edges upto i (hop ∷ hops) to

pub record IsPath (s : State) (upto from : ℕ) (hops : List Hop) (to : ℕ) : Type 0 where
  pub way : IsWay s.edges upto from hops to
  pub short : length hops ≤ reach s.edges upto from
  pub counted : links_of_hops s hops ≡ links_between s upto from to

-- ---- parts of ways that wait in a list, the next one last
-- the part leads from place to place, along the first edges
abbrev pub IsPartOf : State → ℕ → Part → ℕ → ℕ → Type 0
IsPartOf s upto (Found hop) i j = (hop.time < upto) × (i ≡ near (edge_at s.edges hop.time) hop.turned) × (j ≡ far (edge_at s.edges hop.time) hop.turned)
IsPartOf s upto (Open time from to) i j = (time ≤ upto) × (i ≡ from) × (j ≡ to) × IsPart s time from to

abbrev pub IsSound : State → Part → Type 0
IsSound s (Found hop) = Unit {0}
IsSound s (Open time from to) = IsPart s time from to

abbrev pub Joins : State → ℕ → List Part → ℕ → ℕ → Type 0
Joins s upto [] i j = i ≡ j
Joins s upto (part ∷ parts) i j = (k : ℕ) × Joins s upto parts i k × IsPartOf s upto part k j

-- how many steps there are at most
abbrev pub steps_of : List Edge → Part → ℕ
steps_of edges (Found hop) = 1
steps_of edges (Open time from to) = reach edges time from

abbrev pub steps : List Edge → List Part → ℕ
steps edges = sum_by (steps_of edges)

-- what is left to be done
abbrev pub weight_of : List Edge → Part → ℕ
weight_of edges (Found hop) = 1
weight_of edges (Open time from to) = 4 * reach edges time from + 1

abbrev pub weight : List Edge → List Part → ℕ
weight edges = sum_by (weight_of edges)

-- the part was walked, or parted into others
pub record Walks (s : State) (part : Part) (hops_before hops_after : List Hop) (parts_before parts_after : List Part) : Type 0 where
  pub hops : List Hop
  pub parts : List Part
  pub hops_are : hops_after ≡ hops_before ++ hops
  pub parts_are : parts_after ≡ parts_before ++ parts
  pub leads : (upto i j : ℕ) → IsPartOf s upto part i j → (k : ℕ) × IsWay s.edges upto i hops k × Joins s upto parts k j
  pub short : length hops + steps s.edges parts ≤ steps_of s.edges part
  pub counted : links_of_hops s hops + links_of_parts s parts ≡ links_of_part s part
  pub lighter : weight s.edges parts < weight_of s.edges part

-- the way is parted at the edge that joined its ends, its first part last
abbrev pub parting : List Edge → ℕ → ℕ → Hop → List Part
parting edges from to hop =
    Open hop.time (far (edge_at edges hop.time) hop.turned) to ∷ (Found hop ∷ (Open hop.time from (near (edge_at edges hop.time) hop.turned) ∷ []))

pub record Parts (edges : List Edge) (upto from to : ℕ) (before after : List Part) : Type 0 where
  pub hop : Hop
  pub meets : Meets edges upto from to hop
  pub is : after ≡ before ++ parting edges from to hop

-- ---- links
abbrev pub HoldsEdges : State → U → Type 0
HoldsEdges s product = AreEdges (mul_leaves product) (standing product) s

-- a link that leads over a step
abbrev pub LinksHop : State → Hop → Link → Type 0
LinksHop s hop link = (product : U) → HoldsEdges s product → (a b : Val)
    → slice_get s.values (near (edge_at s.edges hop.time) hop.turned) ≡ Some a → slice_get s.values (far (edge_at s.edges hop.time) hop.turned) ≡ Some b
    → Leads product a (link ∷ []) b

-- of an edge of this time: the calls in it are those of earlier edges
abbrev pub NestsFrom : ℕ → Link → Type 0
NestsFrom time link = (n : ℕ) → time < n → Nests n (link ∷ [])

-- a link for each step
abbrev pub LinksHops : State → List Hop → List Link → Type 0
LinksHops s hops links = (length links ≡ length hops) × ((k : ℕ) (hop : Hop) (link : Link) → slice_get hops k ≡ Some hop → slice_get links k ≡ Some link → LinksHop s hop link)

-- links that lead from value to value
pub record LinksValues (s : State) (upto : ℕ) (a b : Val) (links : List Link) : Type 0 where
  pub leads : (product : U) → HoldsEdges s product → Leads product a links b
  pub short : length links ≤ upto

abbrev pub LinksEach : State → List Val → List Val → List (List Link) → Type 0
LinksEach s xs ys pairs = (product : U) → HoldsEdges s product → LeadsEach product xs pairs ys

-- the same for the arguments of two calls
pub record LinksCalls (s : State) (a b : Val) (pairs : List (List Link)) : Type 0 where
  pub symbol : ℕ
  pub from : List Val
  pub to : List Val
  pub is_from : a ≡ v.Fun symbol from
  pub is_to : b ≡ v.Fun symbol to
  pub each : LinksEach s from to pairs
