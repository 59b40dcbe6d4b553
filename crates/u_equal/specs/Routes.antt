-- Chains, and what is known of one before it is made.
use Rattle.std.specs.Prelude.{◌≡◌, ℕ, ◌<◌, ◌≤◌, List, Option, None, Some, count_by, length}
use Rattle.u_terms.specs.Syntax.{U, Val}
use Rattle.u_rules.specs.Terms.{mul_leaves}
use Rattle.u_equal.specs.declared.link.Link.{Link}
use Rattle.u_equal.specs.Entails.{Entails}
use Rattle.u_equal.specs.Joined.{AreEdges, AreSame, IsState, State}
use Rattle.u_equal.specs.LinkCounts.{links_of_values}
use Rattle.u_equal.specs.Links.{HasCount, HasNoCall, Leads, Nests, is_equality, told}
use Rattle.u_equal.specs.Standing.{standing, EachOnce}

-- ---- how far values are apart
-- Values, each once, were joined one after another, each time two that were apart, by a factor or as calls whose arguments were joined before. So in this
-- forest there is one way from a to b, and on it there are so many links, those of arguments of calls counted too.
pub record IsDistance (product : U) (a b : Val) (number : ℕ) : Type 0 where
  pub joined : State
  pub once : EachOnce joined.values
  pub state : IsState joined
  pub edges_hold : AreEdges (mul_leaves product) (standing product) joined
  pub same : AreSame joined a b
  pub is : number ≡ links_of_values joined (length joined.edges) a b

-- there are as many links as on the way between both in some such forest
pub record HasDistance (product : U) (a b : Val) (links : List Link) : Type 0 where
  pub number : ℕ
  pub is : IsDistance product a b number
  pub counted : HasCount links number

-- ---- chains
-- Links that lead from a to b, at most as many as the product has equalities where no call stands in it, with calls in calls at most as deep
-- as it has values, and as many as there are on the way between both in some forest; or none, where it does not entail that they are equal.
abbrev pub IsChain : U → Val → Val → Option (List Link) → Type 0
IsChain product a b None = Entails product a b → ⊥
IsChain product a b (Some links) =
    Leads product a links b × (HasNoCall (standing product) → length links ≤ count_by is_equality (mul_leaves product)) × Nests (length (standing product)) links
    × HasDistance product a b links

-- ---- chains that are not made yet
-- from where to where by the equalities of which product, and the number of its links
pub record Course : Type 0 where
  pub product : U
  pub from : Val
  pub to : Val
  pub links : ℕ

-- both are equal, and there are as many links between them as is told
pub record IsFrom (course : Course) (product : U) (a b : Val) : Type 0 where
  pub product_is : course.product ≡ product
  pub from_is : course.from ≡ a
  pub to_is : course.to ≡ b
  pub entailed : Entails product a b
  pub number : ℕ
  pub distance : IsDistance product a b number
  pub links_are : course.links ≡ told number

-- so many links, those of arguments of calls too, as a u64 tells it
pub record AreCounted (links : List Link) (number : ℕ) : Type 0 where
  pub count : ℕ
  pub counted : HasCount links count
  pub is : number ≡ told count

-- the chain of the course if it has at most so many links; none if it has more
abbrev pub IsWithin : Course → ℕ → Option (List Link) → Type 0
IsWithin course most None = most < course.links
IsWithin course most (Some links) = (course.links ≤ most) × IsChain course.product course.from course.to (Some links) × AreCounted links course.links
