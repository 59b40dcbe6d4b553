-- Steps of a mark by equalities among the factors: at a place one side of an equality becomes the other.
use Rattle.std.specs.Prelude.{◌≡◌, ℕ, ◌+◌, ◌≤◌, ◌++◌, List, [], ◌∷◌, length}
use Rattle.u_terms.specs.Syntax.{U, Val}
use Rattle.u_terms.specs.declared.term.Val.TheVariants as v
use Rattle.u_moves.specs.Derivations.{IsWithin}
use Rattle.u_equal.specs.declared.link.Link.{Link}
use Rattle.u_equal.specs.Links.{HasCount, HasCountEach}
use Rattle.u_entail.specs.Sides.{IsSide, LeadsBy, LeadsEachBy}
use Rattle.u_entail.specs.Small.{AreSmall, IsSmall, HaveRoom}
use Rattle.u_entail.specs.Spines.{spine}
use Rattle.u_entail.specs.Spots.{Spot, filled, way}
use Rattle.u_entail.specs.declared.hops.Hop.{Hop}

-- ---- where hops lead
pub record HopLeads (factors : List U) (first : U) (hop : Hop) (last : U) : Type 0 where
  pub spot : Spot
  pub left : Val
  pub right : Val
  pub at : way spot ≡ hop.place
  pub side : IsSide factors hop.factor hop.turned left right
  pub from : first ≡ filled spot left
  pub to : last ≡ filled spot right

-- one after the other
pub data HopsLead (factors : List U) : U → List Hop → U → Type 0 where
  arrived : (u : U) → HopsLead factors u [] u
  hopped : (u mid w : U) (first : Hop) (rest : List Hop) → HopLeads factors u first mid → HopsLead factors mid rest w → HopsLead factors u (first ∷ rest) w

-- they lead somewhere
pub record Lead (factors : List U) (first : U) (hops : List Hop) : Type 0 where
  pub to : U
  pub by : HopsLead factors first hops to

-- the same where behind the factors no mark on the way has more nodes, or is deeper
pub data StayWithin (nodes depth : ℕ) (factors : List U) : U → List Hop → U → Type 0 where
  stays : (u : U) → StayWithin nodes depth factors u [] u
  goes : (u mid w : U) (first : Hop) (rest : List Hop) → HopLeads factors u first mid → IsWithin nodes depth (spine factors u) → IsWithin nodes depth (spine factors mid)
      → StayWithin nodes depth factors mid rest w → StayWithin nodes depth factors u (first ∷ rest) w

-- ---- the hops that links stand for
-- At the place they lead from value to value where the links do, by values that are small, and there are at most as many of them as links, those
-- of arguments of calls counted too.
pub record AreHops (place : List ℕ) (links : List Link) (hops : List Hop) : Type 0 where
  pub stay : (many deep : ℕ) (factors : List U) → AreSmall many deep factors → (n : ℕ) (a b : Val) → LeadsBy factors n a links b → (spot : Spot) → way spot ≡ place
      → (most deepest : ℕ) → ((x : Val) → IsSmall many deep n x → IsWithin most deepest (spine factors (filled spot x))) → StayWithin most deepest factors (filled spot a) hops (filled spot b)
  pub few : (n : ℕ) → HasCount links n → length hops ≤ n

-- ---- contracts of private functions alone cite this
pub record PushesHops (place : List ℕ) (links : List Link) (before after : List Hop) : Type 0 where
  pub hops : List Hop
  pub are : AreHops place links hops
  pub is : after ≡ before ++ hops

-- the same for the arguments of calls, from an argument on
pub record ArePairHops (place : List ℕ) (done : ℕ) (pairs : List (List Link)) (hops : List Hop) : Type 0 where
  pub stay : (many deep : ℕ) (factors : List U) → AreSmall many deep factors → (n : ℕ) (xs ys : List Val) → LeadsEachBy factors n xs pairs ys → (spot : Spot) → way spot ≡ place
      → (f : ℕ) (before : List Val) → length before ≡ done → HaveRoom many deep before xs ys
      → (most deepest : ℕ) → ((x : Val) → IsSmall many deep (n + 1) x → IsWithin most deepest (spine factors (filled spot x)))
      → StayWithin most deepest factors (filled spot (v.Fun f (before ++ xs))) hops (filled spot (v.Fun f (before ++ ys)))
  pub few : (n : ℕ) → HasCountEach pairs n → length hops ≤ n

pub record PushesPairHops (place : List ℕ) (pairs : List (List Link)) (before after : List Hop) : Type 0 where
  pub hops : List Hop
  pub are : ArePairHops place 0 pairs hops
  pub is : after ≡ before ++ hops
