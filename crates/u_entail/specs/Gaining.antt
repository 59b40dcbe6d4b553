-- An equality that is entailed, gained as a factor.
use Rattle.std.specs.Prelude.{◌≡◌, ℕ, ◌+◌, ◌*◌, ◌≤◌, max, List, [], ◌∷◌, ◌++◌, Option, Some, None, length, count_by}
use Rattle.u_terms.specs.Syntax.{U, Val}
use Rattle.u_terms.specs.Size as size
use Rattle.u_terms.specs.Products.{product_of}
use Rattle.u_terms.specs.declared.facts.Facts.{Facts}
use Rattle.u_rules.specs.Terms.{◌⊗◌, ◌≐◌, I, mul_leaves}
use Rattle.u_moves.specs.Derivations.{Derivation, HasPlainSteps, IsJoined, IsWithin}
use Rattle.u_equal.specs.Standing.{standing}
use Rattle.u_equal.specs.Entails.{Entails}
use Rattle.u_equal.specs.Links.{HasNoCall, is_equality}
use Rattle.u_equal.specs.Routes.{IsDistance}
use Rattle.u_entail.specs.Spines.{spine}
use Rattle.u_entail.specs.declared.hops.Hop.{Hop}
use Rattle.u_entail.specs.Following.{IsBounded}
use Rattle.u_entail.specs.Hops.{HopsLead, StayWithin}
use Rattle.u_entail.specs.Small.{AreBasic, AreSmall, IsSmall}

-- where the right side of an equality stands
abbrev pub right_side : List ℕ
right_side = 1 ∷ []

-- In the place of a last factor 1 stands an equality: the one of the value with itself has gone along the hops.
pub record IsGained (factors : List U) (a : Val) (hops : List Hop) (first d : Derivation) : Type 0 where
  pub facts : d.facts ≡ first.facts
  pub outs : d.outs ≡ first.outs
  pub from : d.from ≡ first.from
  pub arrives : (last : U) → HopsLead factors (a ≐ a) hops last → d.to ≡ spine factors last
  pub steps : length d.steps ≡ length first.steps + 1 + length hops
  pub within : (nodes depth : ℕ) (to : U) → StayWithin nodes depth factors (a ≐ a) hops to → IsWithin nodes depth (spine factors I) → IsWithin nodes depth (spine factors (a ≐ a)) → IsBounded nodes depth first
      → IsBounded nodes depth d
  pub plain : HasPlainSteps first → HasPlainSteps d

-- A derivation by these facts, with the names from `outs` on for binders, that leads from the one term to the other. Its steps are plain, so
-- their bytes follow from its steps and from the nodes and the depth that it states, by the law of plain derivations.
pub record LeadsBetween (F : Facts) (names : ℕ) (first last : U) (d : Derivation) : Type 0 where
  pub facts : d.facts ≡ F
  pub outs : d.outs ≡ names
  pub from : d.from ≡ first
  pub to : d.to ≡ last
  pub plain : HasPlainSteps d

-- ---- private functions alone cite this
-- one step
pub record IsRegrouped (facts : Facts) (outs : ℕ) (first last : U) (d : Derivation) : Type 0 where
  pub leads : LeadsBetween facts outs first last d
  pub steps : length d.steps ≡ 1
  pub nodes : d.nodes ≡ max (size.nodes first) (size.nodes last)
  pub depth : d.depth ≡ max (size.depth first) (size.depth last)

-- the factors, with a last factor 1
pub record IsWidened (facts : Facts) (outs : ℕ) (factors : List U) (d : Derivation) : Type 0 where
  pub leads : LeadsBetween facts outs (product_of factors) (spine factors I) d
  pub steps : length d.steps ≤ 1
  pub within : (nodes depth : ℕ) → IsWithin nodes depth (product_of factors) → IsWithin nodes depth (spine factors I) → IsBounded nodes depth d

-- this derivation leads to the term
pub record EndsIn (F : Facts) (names : ℕ) (last : U) (d : Derivation) : Type 0 where
  pub facts : d.facts ≡ F
  pub outs : d.outs ≡ names
  pub to : d.to ≡ last

-- the last factor 1 has become the equality of the value with itself
pub record IsBegun (facts : Facts) (outs : ℕ) (factors : List U) (a : Val) (first d : Derivation) : Type 0 where
  pub ends : EndsIn facts outs (spine factors (a ≐ a)) d
  pub from : d.from ≡ first.from
  pub steps : length d.steps ≡ length first.steps + 1
  pub within : (nodes depth : ℕ) → IsWithin nodes depth (spine factors I) → IsWithin nodes depth (spine factors (a ≐ a)) → IsBounded nodes depth first → IsBounded nodes depth d
  pub plain : HasPlainSteps first → HasPlainSteps d

-- the last factor has gone along the hops
pub record IsLed (F : Facts) (names : ℕ) (factors : List U) (last : U) (hops : List Hop) (begun d : Derivation) : Type 0 where
  pub facts : d.facts ≡ F
  pub outs : d.outs ≡ names
  pub from : d.from ≡ begun.from
  pub arrives : (to : U) → HopsLead factors last hops to → d.to ≡ spine factors to
  pub steps : length d.steps ≡ length begun.steps + length hops
  pub within : (nodes depth : ℕ) (to : U) → StayWithin nodes depth factors last hops to → IsBounded nodes depth begun → IsBounded nodes depth d
  pub plain : HasPlainSteps begun → HasPlainSteps d

-- the product leans to the right, and behind its factors the equality is gained
pub record IsGainedIn (facts : Facts) (outs : ℕ) (product : U) (factors : List U) (a : Val) (hops : List Hop) (d : Derivation) : Type 0 where
  pub spread : Derivation
  pub first : IsRegrouped facts outs product (spine factors I) spread
  pub gained : IsGained factors a hops spread d

-- the factors before the equality are the product again
pub record IsRegathered (F : Facts) (names : ℕ) (factors : List U) (product : U) (a b : Val) (gained d : Derivation) : Type 0 where
  pub gathered : Derivation
  pub last : IsRegrouped F names (spine factors (a ≐ b)) (product ⊗ (a ≐ b)) gathered
  pub facts : d.facts ≡ gained.facts
  pub outs : d.outs ≡ gained.outs
  pub from : d.from ≡ gained.from
  pub to : d.to ≡ gathered.to
  pub steps : d.steps ≡ gained.steps ++ gathered.steps
  pub bounds : IsJoined gained gathered d

-- behind the factors the right side of the equality stays small, with calls in calls so deep
abbrev pub StaysSmall : List U → ℕ → Val → List Hop → Val → Type 0
StaysSmall factors n a hops b = (many deep : ℕ) → AreSmall many deep factors → (most deepest : ℕ) → ((x : Val) → IsSmall many deep n x → IsWithin most deepest (spine factors (a ≐ x)))
    → StayWithin most deepest factors (a ≐ a) hops (a ≐ b)

-- by these hops
pub record IsGainedBy (facts : Facts) (outs : ℕ) (factors : List U) (first last : U) (a b : Val) (hops : List Hop) (more : ℕ) (d : Derivation) : Type 0 where
  pub leads : LeadsBetween facts outs first last d
  pub steps : length d.steps ≤ length hops + more
  pub nodes : (n : ℕ) → StaysSmall factors n a hops b → d.nodes ≤ 2 * (size.nodes first + size.nodes (a ≐ b)) + 2 * (n * size.nodes first)
  pub depth : (n : ℕ) → StaysSmall factors n a hops b → d.depth ≤ length factors + max (size.depth first) (size.depth (a ≐ b)) + 1 + n
  pub within : (nodes depth : ℕ) → StayWithin nodes depth factors (a ≐ a) hops (a ≐ b) → IsWithin nodes depth first → IsWithin nodes depth last → IsWithin nodes depth (spine factors (a ≐ b))
      → IsBounded nodes depth d

-- ---- how many steps, and how large
-- At most one step for each link from a to b, those of the arguments of calls too, and a few more.
pub record HasStepsOf (product : U) (a b : Val) (more : ℕ) (d : Derivation) : Type 0 where
  pub number : ℕ
  pub distance : IsDistance product a b number
  pub few : length d.steps ≤ number + more

-- Where no call stands in the product whose equalities are used, a chain has no more links than it has equalities, and no term on the way is
-- much larger than the first one with the equality.
pub record IsShort (product : U) (factors : List U) (first : U) (a b : Val) (more : ℕ) (d : Derivation) : Type 0 where
  pub steps : HasNoCall (standing product) → length d.steps ≤ count_by is_equality (mul_leaves product) + more
  pub nodes : HasNoCall (standing product) → d.nodes ≤ 2 * (size.nodes first + size.nodes (a ≐ b))
  pub depth : HasNoCall (standing product) → d.depth ≤ length factors + max (size.depth first) (size.depth (a ≐ b)) + 1

-- Through calls too: the terms on the way are larger than these by at most two calls for each level of calls in calls, of which there are no more
-- than values.
pub record IsModest (factors : List U) (first : U) (a b : Val) (d : Derivation) : Type 0 where
  pub nodes : d.nodes ≤ 2 * (size.nodes first + size.nodes (a ≐ b)) + 2 * (size.nodes first * size.nodes first)
  pub depth : d.depth ≤ length factors + max (size.depth first) (size.depth (a ≐ b)) + 1 + size.nodes first

-- No term on the way has more nodes, or is deeper, than the last one, but for so many: of factors that are gained one after the other, none costs
-- more than its own nodes.
pub record IsLean (last : U) (more : ℕ) (d : Derivation) : Type 0 where
  pub nodes : d.nodes ≤ size.nodes last + more
  pub depth : d.depth ≤ size.depth last + more

-- ---- the product times the equality
pub record Derives (facts : Facts) (outs : ℕ) (product : U) (a b : Val) (d : Derivation) : Type 0 where
  pub entailed : Entails product a b
  pub leads : LeadsBetween facts outs product (product ⊗ (a ≐ b)) d
  pub links : HasStepsOf product a b 3 d
  pub short : IsShort product (mul_leaves product) product a b 3 d
  pub modest : IsModest (mul_leaves product) product a b d

abbrev pub IsDerived : Facts → ℕ → U → Val → Val → Option Derivation → Type 0
IsDerived facts outs product a b None = Entails product a b → ⊥
IsDerived facts outs product a b (Some d) = Derives facts outs product a b d

-- ---- the equality behind the factors
-- the factors of the product are the first ones
pub record Begins (product : U) (factors : List U) : Type 0 where
  pub rest : List U
  pub is : factors ≡ mul_leaves product ++ rest

pub record Appends (facts : Facts) (outs : ℕ) (product : U) (factors : List U) (a b : Val) (d : Derivation) : Type 0 where
  pub entailed : Entails product a b
  pub leads : LeadsBetween facts outs (product_of factors) (product_of (factors ++ (a ≐ b) ∷ [])) d
  pub links : HasStepsOf product a b 2 d
  pub short : IsShort product factors (product_of factors) a b 2 d
  pub modest : IsModest factors (product_of factors) a b d
  pub lean : AreBasic factors → IsLean (product_of (factors ++ (a ≐ b) ∷ [])) 0 d

abbrev pub IsAppended : Facts → ℕ → U → List U → Val → Val → Option Derivation → Type 0
IsAppended facts outs product factors a b None = Entails product a b → ⊥
IsAppended facts outs product factors a b (Some d) = Appends facts outs product factors a b d
