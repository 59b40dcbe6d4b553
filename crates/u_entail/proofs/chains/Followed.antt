-- Following no hop, one hop, and one after the other.
use Rattle.std.proofs.Common.{◌≡◌, ℕ, ◌<◌, Bool, true, false, List, [], ◌∷◌, length, take, refl, ap, sym, ◌∙◌, subst, arith}
use Rattle.std.proofs.lemmas.Option.{slice_get_within}
use Rattle.u_terms.specs.Syntax.{U, Val}
use Rattle.u_terms.specs.declared.term.Val.TheVariants as v
use Rattle.u_terms.specs.declared.facts.Facts.{Facts}
use Rattle.u_terms.specs.Size.{nodes, depth}
use Rattle.u_rules.specs.Terms.{◌≐◌, put}
use Rattle.u_moves.specs.Derivations.{Derivation, IsKnown, IsWithin}
use Rattle.u_moves.specs.Moving.{IsKnownValue}
use Rattle.u_entail.specs.declared.following.Followed.{Followed}
use Rattle.u_entail.specs.declared.hops.Hop.{Hop}
use Rattle.u_entail.specs.Sides.{IsSide, HasSide, AreFactors}
use Rattle.u_entail.specs.Spots.{filled, HasSpot, IsPut}
use Rattle.u_entail.specs.Hops.{HopLeads, HopsLead, arrived, hopped, Lead, StayWithin, stays, goes}
use Rattle.u_entail.specs.Following.{IsExchange, Exchanges, Crosses, LandsAt, Stands, IsBounded, IsFollowed}
use Rattle.u_entail.specs.Spines.{spine, IsMadeBehind}
use Rattle.u_entail.proofs.substitution.Filled.{spot-put, spot-closed, spot-named, bound-names, bound-closed}
use Rattle.u_entail.proofs.products.Spines.{nodes-spine, depth-behind}
use Rattle.u_entail.proofs.products.Lists.{each-at}
use Rattle.u_entail.proofs.products.Parts.{left-known, right-known}

-- ---- hops taken apart
pub record Parted (factors : List U) (u : U) (first : Hop) (rest : List Hop) (w : U) : Type 0 where
  pub mid : U
  pub one : HopLeads factors u first mid
  pub more : HopsLead factors mid rest w

pub parted : (factors : List U) (u w : U) (first : Hop) (rest : List Hop) → HopsLead factors u (first ∷ rest) w → Parted factors u first rest w
parted factors u w first rest (hopped a mid b f r h k) = record { mid = mid; one = h; more = k }

pub ended : (factors : List U) (u w : U) → HopsLead factors u [] w → u ≡ w
ended factors u w (arrived a) = refl

pub record PartedStay (nodes depth : ℕ) (factors : List U) (u : U) (first : Hop) (rest : List Hop) (w : U) : Type 0 where
  pub mid : U
  pub one : HopLeads factors u first mid
  pub here : IsWithin nodes depth (spine factors u)
  pub there : IsWithin nodes depth (spine factors mid)
  pub more : StayWithin nodes depth factors mid rest w

pub parted-stay : (n m : ℕ) (factors : List U) (u w : U) (first : Hop) (rest : List Hop) → StayWithin n m factors u (first ∷ rest) w → PartedStay n m factors u first rest w
parted-stay n m factors u w first rest (goes a mid b f r h x y k) = record { mid = mid; one = h; here = x; there = y; more = k }

alone : (factors : List U) (u w : U) (first : Hop) → HopLeads factors u first w → HopsLead factors u (first ∷ []) w
alone factors u w first h = hopped u w w first [] h (arrived w)

pub lead-first : (factors : List U) (u : U) (first : Hop) (rest : List Hop) → Lead factors u (first ∷ rest) → (to : U) × HopLeads factors u first to
lead-first factors u first rest h = let p = parted factors u h.to first rest h.by in (p.mid, p.one)

-- ---- one after the other
module _ (factors : List U) where
  pub followed-none : (at : Followed) → IsFollowed factors [] at at
  followed-none at = record {
    from = refl;
    arrives = λ to h. ended factors at.last to h;
    steps = omega arith;
    within = λ n m to stay bounded. bounded;
    plain = λ plain. plain;
  }

  pub followed-more : (first : Hop) (rest : List Hop) (at mid end : Followed) → ((to : U) × HopLeads factors at.last first to) → IsFollowed factors (first ∷ []) at mid → IsFollowed factors rest mid end
      → IsFollowed factors (first ∷ rest) at end
  followed-more first rest at mid end leads h k = record {
    from = k.from ∙ h.from;
    arrives = λ to l.
        let p = parted factors at.last to first rest l in
        k.arrives to (subst (λ (x : U). HopsLead factors x rest to) (sym (h.arrives p.mid (alone factors at.last p.mid first p.one))) p.more);
    steps = omega (arith, h.steps, k.steps);
    within = λ n m to stay bounded.
        let p = parted-stay n m factors at.last to first rest stay in
        let there : mid.last ≡ p.mid = h.arrives p.mid (alone factors at.last p.mid first p.one) in
        k.within n m to (subst (λ (x : U). StayWithin n m factors x rest to) (sym there) p.more)
        (h.within n m p.mid (goes at.last p.mid p.mid first [] p.one p.here p.there (stays p.mid)) bounded);
    plain = λ plain. k.plain (h.plain plain);
  }

  -- what is still to be followed leads on
  pub lead-rest : (first : Hop) (rest : List Hop) (at mid : Followed) → IsFollowed factors (first ∷ []) at mid → Lead factors at.last (first ∷ rest) → Lead factors mid.last rest
  lead-rest first rest at mid h l =
      let p = parted factors at.last l.to first rest l.by in
      record { to = l.to; by = subst (λ (x : U). HopsLead factors x rest l.to) (sym (h.arrives p.mid (alone factors at.last p.mid first p.one))) p.more }

-- ---- one hop
pub side-known : (outs : ℕ) (factors : List U) → AreFactors outs factors → (factor : ℕ) (turned : Bool) (a b : Val) → IsSide factors factor turned a b → IsKnownValue outs b
side-known outs factors ready factor false a b is = right-known outs a b (each-at (IsKnown 0 outs) factors factor (a ≐ b) ready.known is)
side-known outs factors ready factor true a b is = left-known outs b a (each-at (IsKnown 0 outs) factors factor (b ≐ a) ready.known is)

pub side-in : (factors : List U) (factor : ℕ) (turned : Bool) (a b : Val) → IsSide factors factor turned a b → factor < length factors
side-in factors factor false a b is = slice_get_within factors factor (a ≐ b) is
side-in factors factor true a b is = slice_get_within factors factor (b ≐ a) is

pub hop-spot : (factors : List U) (u : U) (hop : Hop) (place : List ℕ) → hop.place ≡ place → ((to : U) × HopLeads factors u hop to) → HasSpot u place
hop-spot factors u hop place is leads = let h = leads.1 in record { spot = h.spot; value = h.left; at = h.at ∙ is; is = h.from }

pub hop-within : (factors : List U) (u : U) (hop : Hop) → ((to : U) × HopLeads factors u hop to) → hop.factor < length factors
hop-within factors u hop leads = let h = leads.1 in side-in factors hop.factor hop.turned h.left h.right h.side

pub hop-side : (factors : List U) (u : U) (hop : Hop) → ((to : U) × HopLeads factors u hop to) → (a : Val) × HasSide factors hop.factor hop.turned a
hop-side factors u hop leads = let h = leads.1 in (h.left, record { to = h.right; is = h.side })

module _ (outs : ℕ) (factors : List U) (first : U) (known : IsKnown 0 outs first) (hop : Hop) (place : List ℕ) (place_is : hop.place ≡ place) (body : U) (made : IsPut first place (v.Bound 0) body) where
  body-is : (to : U) (h : HopLeads factors first hop to) → body ≡ filled h.spot (v.Bound 0)
  body-is to h = made.each h.spot h.left (h.at ∙ place_is) h.from

  pub body-known : ((to : U) × HopLeads factors first hop to) → IsKnown 1 outs body
  body-known leads =
      let h = leads.1 in
      let k = subst (λ (x : U). IsKnown 0 outs x) h.from known in
      subst (λ (x : U). IsKnown 1 outs x) (sym (body-is leads.0 h)) (record {
        closed = spot-closed 1 (v.Bound 0) (bound-closed 1 0 (omega arith)) h.spot h.left k.closed;
        named = spot-named (λ x. x < outs) (v.Bound 0) (bound-names (λ x. x < outs) 0) h.spot h.left k.named;
      })

  put-is : (to : U) (h : HopLeads factors first hop to) (c : Val) → put c body ≡ filled h.spot c
  put-is to h c =
      let k = subst (λ (x : U). IsKnown 0 outs x) h.from known in
      ap (λ (x : U). put c x) (body-is to h) ∙ spot-put c h.spot h.left k.closed

  pub crosses : (facts : Facts) (d : Derivation) → Exchanges facts outs factors hop.factor hop.turned body d → Crosses facts outs factors first hop d
  crosses facts d e = record {
    each = λ to h.
        subst (λ (x : U). IsExchange facts outs factors hop.factor x to d) (put-is to h h.left ∙ sym h.from)
        (subst (λ (x : U). IsExchange facts outs factors hop.factor (put h.left body) x d) (put-is to h h.right ∙ sym h.to) (e.each h.left h.right h.side));
  }

pub lands : (factors : List U) (first : U) (hop : Hop) (place : List ℕ) → hop.place ≡ place → (side : Val) → ((a b : Val) → IsSide factors hop.factor hop.turned a b → side ≡ b) → (new : U)
    → IsPut first place side new → LandsAt factors first hop new
lands factors first hop place place_is side tells new made = record {
  each = λ to h. made.each h.spot h.left (h.at ∙ place_is) h.from ∙ ap (λ (c : Val). filled h.spot c) (tells h.left h.right h.side) ∙ sym h.to;
}

module _ (facts : Facts) (outs : ℕ) (factors : List U) (ready : AreFactors outs factors) (hop : Hop) (at : Followed) (stands : Stands facts outs factors at)
    (leads : (to : U) × HopLeads factors at.last hop to) (part : Derivation) (over : Crosses facts outs factors at.last hop part) (front : List U) (front_is : front ≡ take hop.factor factors) where
  abbrev to : U
  to = leads.0

  ex : IsExchange facts outs factors hop.factor at.last to part
  ex = over.each to leads.1

  pub part-facts : at.deriv.facts ≡ part.facts
  part-facts = let e = ex in stands.facts ∙ sym e.facts

  begins-there : spine factors at.last ≡ spine front part.from
  begins-there = let e = ex in e.from ∙ ap (λ (xs : List U). spine xs part.from) (sym front_is)

  ends-there : spine factors to ≡ spine front part.to
  ends-there = let e = ex in e.to ∙ ap (λ (xs : List U). spine xs part.to) (sym front_is)

  pub part-stands : at.deriv.to ≡ spine front part.from
  part-stands = stands.to ∙ begins-there

  to-known : IsKnown 0 outs to
  to-known =
      let h = leads.1 in
      let k = subst (λ (x : U). IsKnown 0 outs x) h.from stands.known in
      let s = side-known outs factors ready hop.factor hop.turned h.left h.right h.side in
      subst (λ (x : U). IsKnown 0 outs x) (sym h.to) (record {
        closed = spot-closed 0 h.right s.closed h.spot h.left k.closed;
        named = spot-named (λ x. x < outs) h.right s.named h.spot h.left k.named;
      })

  module _ (d : Derivation) (made : IsMadeBehind front at.deriv part d) (w : U) (land : LandsAt factors at.last hop w) where
    abbrev after : Followed
    after = record { deriv = d; last = w }

    pub hop-stands : Stands facts outs factors after
    hop-stands = record {
      facts = made.facts ∙ stands.facts;
      outs = made.outs ∙ stands.outs;
      to = made.to ∙ sym ends-there ∙ ap (λ (x : U). spine factors x) (sym (land.each to leads.1));
      known = subst (λ (x : U). IsKnown 0 outs x) (sym (land.each to leads.1)) to-known;
    }

    bounded-after : (n m : ℕ) (w' : U) → StayWithin n m factors at.last (hop ∷ []) w' → IsBounded n m at.deriv → IsBounded n m d
    bounded-after n m w' stay bounded =
        let p = parted-stay n m factors at.last w' hop [] stay in
        let e = over.each p.mid p.one in
        let x = p.here in
        let y = p.there in
        let begins : spine factors at.last ≡ spine front part.from = e.from ∙ ap (λ (xs : List U). spine xs part.from) (sym front_is) in
        let ends : spine factors p.mid ≡ spine front part.to = e.to ∙ ap (λ (xs : List U). spine xs part.to) (sym front_is) in
        record {
          few = omega (arith, made.nodes, e.nodes, nodes-spine front part.from, nodes-spine front part.to, ap nodes begins, ap nodes ends, x.few, y.few, bounded.few);
          shallow = omega (arith, made.depth, e.depth, depth-behind front part.from, depth-behind front part.to, ap depth begins, ap depth ends, x.shallow, y.shallow, bounded.shallow);
        }

    pub hop-followed : IsFollowed factors (hop ∷ []) at after
    hop-followed = record {
      from = made.from;
      arrives = λ last h.
          let p = parted factors at.last last hop [] h in
          land.each p.mid p.one ∙ ended factors p.mid last p.more;
      steps = let e = ex in omega (arith, made.steps, e.steps);
      within = bounded-after;
      plain = λ plain. let e = ex in made.plain plain e.plain;
    }
