-- A mark of other points behind the factors, one of which is the same mark of points that are entailed to be equal.
use Rattle.std.specs.Prelude.{◌≡◌, ℕ, ◌+◌, ◌-◌, ◌^◌, ◌<◌, ◌*◌, ◌≤◌, List, [], ◌∷◌, ◌++◌, Option, Some, None, length, slice_get, count_by}
use Rattle.u_terms.specs.Syntax.{U, Val}
use Rattle.u_terms.specs.Size as size
use Rattle.u_terms.specs.Products.{product_of}
use Rattle.u_terms.specs.declared.facts.Facts.{Facts}
use Rattle.u_rules.specs.Terms.{◌≐◌, neg, mul_leaves}
use Rattle.u_moves.specs.Derivations.{Derivation}
use Rattle.u_equal.specs.Links.{HasNoCall, is_equality}
use Rattle.u_equal.specs.Standing.{standing}
use Rattle.u_entail.specs.Carrying.{AreDistances, Carries, Follows, IsReadAs, MarkCourse, points}
use Rattle.u_entail.specs.Following.{IsBounded}
use Rattle.u_entail.specs.Gaining.{IsLean, LeadsBetween}
use Rattle.u_entail.specs.Hops.{HopsLead, Lead, StayWithin}
use Rattle.u_entail.specs.Small.{AreBasic}
use Rattle.u_entail.specs.declared.hops.Hop.{Hop}

-- at most one step for each link from point to point, and a few more
pub record HasStepsEach (product first last : U) (more : ℕ) (d : Derivation) : Type 0 where
  pub number : ℕ
  pub distances : AreDistances product (points first) (points last) number
  pub few : length d.steps ≤ number + more
  pub short : HasNoCall (standing product) → length d.steps ≤ length (points last) * count_by is_equality (mul_leaves product) + more

-- No term on the way is much larger than the product and the wanted mark; through calls in calls, of which there are no more levels than values,
-- by at most two calls for each level.
pub record IsCopySmall (product : U) (factors : List U) (wanted : U) (d : Derivation) : Type 0 where
  pub nodes : HasNoCall (standing product) → d.nodes ≤ 3 * size.nodes (product_of factors) + size.nodes wanted + 2
  pub depth : HasNoCall (standing product) → d.depth ≤ length factors + 3 * size.depth (product_of factors) + size.depth wanted + 1
  pub nodes_through : d.nodes ≤ 3 * size.nodes (product_of factors) + size.nodes wanted + 2 + 2 * (size.nodes (product_of factors) * size.nodes (product_of factors))
  pub depth_through : d.depth ≤ length factors + 3 * size.depth (product_of factors) + size.depth wanted + 1 + size.nodes (product_of factors)

-- The mark, as it is read, carries the wanted one, and the derivation leads to the factors with this behind them.
pub record IsCopy (facts : Facts) (outs : ℕ) (product : U) (factors : List U) (mark wanted : U) (d : Derivation) : Type 0 where
  pub follows : Follows product mark wanted
  pub leads : LeadsBetween facts outs (product_of factors) (product_of (factors ++ wanted ∷ [])) d
  pub read_as : U
  pub read : IsReadAs mark read_as
  pub carries : Carries product read_as wanted
  pub steps : HasStepsEach product read_as wanted 5 d
  pub small : IsCopySmall product factors wanted d
  pub lean : AreBasic factors → IsLean (product_of (factors ++ wanted ∷ [])) 1 d

abbrev pub IsCopyAt : Facts → ℕ → U → List U → ℕ → U → Option Derivation → Type 0
IsCopyAt facts outs product factors place wanted None = (mark : U) → slice_get factors place ≡ Some mark → Follows product mark wanted → ⊥
IsCopyAt facts outs product factors place wanted (Some d) = (mark : U) → slice_get factors place ≡ Some mark → IsCopy facts outs product factors mark wanted d

-- The copy along counted chains takes at most five steps more than they have links, where these are not too many to be told.
pub record CopiesAlong (facts : Facts) (outs : ℕ) (course : MarkCourse) (factors : List U) (d : Derivation) : Type 0 where
  pub copy : IsCopy facts outs course.product factors course.mark course.wanted d
  pub counted : course.links < 2 ^ 64 - 1 → length d.steps ≤ course.links + 5

-- ---- contracts of private functions alone cite this
-- the factors with the last one behind them, after so many steps
pub record IsReady (F : Facts) (names : ℕ) (factors : List U) (last : U) (more : ℕ) (d : Derivation) : Type 0 where
  pub leads : LeadsBetween F names (product_of factors) (product_of (factors ++ last ∷ [])) d
  pub steps : length d.steps ≤ more
  pub lean : IsLean (product_of (factors ++ last ∷ [])) 1 d

pub record IsCopiedBy (facts : Facts) (outs : ℕ) (factors : List U) (first : U) (hops : List Hop) (more : ℕ) (d : Derivation) : Type 0 where
  pub leads : (last : U) → HopsLead factors first hops last → LeadsBetween facts outs (product_of factors) (product_of (factors ++ last ∷ [])) d
  pub steps : length d.steps ≤ length hops + more
  pub within : (nodes depth : ℕ) (last : U) → StayWithin nodes depth factors first hops last → size.nodes (product_of (factors ++ first ∷ [])) + 1 ≤ nodes
      → size.depth (product_of (factors ++ first ∷ [])) + 1 ≤ depth → IsBounded nodes depth d

-- the hops lead from the mark, a negated equality, with its sides exchanged
pub record LeadExchanged (factors : List U) (mark : U) (hops : List Hop) : Type 0 where
  pub left : Val
  pub right : Val
  pub is : mark ≡ neg (left ≐ right)
  pub lead : Lead factors (neg (right ≐ left)) hops

pub record IsDifferenceCopied (facts : Facts) (outs : ℕ) (factors : List U) (mark : U) (hops : List Hop) (d : Derivation) : Type 0 where
  pub each : (a b : Val) → mark ≡ neg (a ≐ b) → IsCopiedBy facts outs factors (neg (b ≐ a)) hops 5 d
