-- What following hops makes of the last factor of a product.
use Rattle.std.specs.Prelude.{◌≡◌, ℕ, ◌+◌, ◌≤◌, max, Bool, List, length, take}
use Rattle.u_terms.specs.Syntax.{U, Val}
use Rattle.u_terms.specs.Places.{IsClosed}
use Rattle.u_terms.specs.Size as size
use Rattle.u_terms.specs.declared.facts.Facts.{Facts}
use Rattle.u_rules.specs.Terms.{put}
use Rattle.u_moves.specs.Derivations.{Derivation, HasPlainSteps, IsKnown}
use Rattle.u_entail.specs.Spines.{spine}
use Rattle.u_entail.specs.Sides.{IsSide}
use Rattle.u_entail.specs.Hops.{HopLeads, HopsLead, StayWithin}
use Rattle.u_entail.specs.declared.following.Followed.{Followed}
use Rattle.u_entail.specs.declared.hops.Hop.{Hop}

-- ---- one step
-- beside this factor the one last factor becomes the other one, both ends being what stands behind the factors before it
pub record IsExchange (F : Facts) (names : ℕ) (factors : List U) (factor : ℕ) (first last : U) (d : Derivation) : Type 0 where
  pub facts : d.facts ≡ F
  pub outs : d.outs ≡ names
  pub from : spine factors first ≡ spine (take factor factors) d.from
  pub to : spine factors last ≡ spine (take factor factors) d.to
  pub closed_from : IsClosed 0 d.from
  pub closed_to : IsClosed 0 d.to
  pub steps : length d.steps ≡ 1
  pub nodes : d.nodes ≡ max (size.nodes d.from) (size.nodes d.to)
  pub depth : d.depth ≡ max (size.depth d.from) (size.depth d.to)
  pub plain : HasPlainSteps d

-- the one side of the equality becomes the other one at the body's place
pub record Exchanges (facts : Facts) (outs : ℕ) (factors : List U) (factor : ℕ) (turned : Bool) (body : U) (d : Derivation) : Type 0 where
  pub each : (a b : Val) → IsSide factors factor turned a b → IsExchange facts outs factors factor (put a body) (put b body) d

pub record Crosses (facts : Facts) (outs : ℕ) (factors : List U) (first : U) (hop : Hop) (d : Derivation) : Type 0 where
  pub each : (last : U) → HopLeads factors first hop last → IsExchange facts outs factors hop.factor first last d

pub record LandsAt (factors : List U) (first : U) (hop : Hop) (new : U) : Type 0 where
  pub each : (last : U) → HopLeads factors first hop last → new ≡ last

-- ---- where hops have been followed to
pub record Stands (F : Facts) (names : ℕ) (factors : List U) (at : Followed) : Type 0 where
  pub facts : at.deriv.facts ≡ F
  pub outs : at.deriv.outs ≡ names
  pub to : at.deriv.to ≡ spine factors at.last
  pub known : IsKnown 0 names at.last

-- no term on the way has more nodes, or is deeper
pub record IsBounded (nodes depth : ℕ) (d : Derivation) : Type 0 where
  pub few : d.nodes ≤ nodes
  pub shallow : d.depth ≤ depth

-- The hops were followed, from the one place to the other. The terms on the way are the factors with the marks on the way behind them.
pub record IsFollowed (factors : List U) (hops : List Hop) (at end : Followed) : Type 0 where
  pub from : end.deriv.from ≡ at.deriv.from
  pub arrives : (to : U) → HopsLead factors at.last hops to → end.last ≡ to
  pub steps : length end.deriv.steps ≡ length at.deriv.steps + length hops
  pub within : (nodes depth : ℕ) (to : U) → StayWithin nodes depth factors at.last hops to → IsBounded nodes depth at.deriv → IsBounded nodes depth end.deriv
  pub plain : HasPlainSteps at.deriv → HasPlainSteps end.deriv
