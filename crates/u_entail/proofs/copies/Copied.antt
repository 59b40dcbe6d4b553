-- What the hops of a mark make of it behind the factors, and what that says of the answer.
use Rattle.std.proofs.Common.{◌≡◌, ℕ, ◌+◌, ◌-◌, ◌*◌, ◌^◌, ◌<◌, ◌≤◌, max, List, [], ◌∷◌, ◌++◌, Option, Some, None, length, refl, ap, sym, ◌∙◌, subst, arith}
use Rattle.std.specs.Prelude.{MatchOption, slice_get, sum_by}
use Rattle.std.proofs.lemmas.List.Sums.{sum_by-append}
use Rattle.std.proofs.lemmas.Option.{same_Some}
use Rattle.data_model.specs.Lists.{Each}
use Rattle.u_terms.specs.Names.{EachName}
use Rattle.u_terms.specs.Syntax.{U, Val, constructors}
use Rattle.u_terms.specs.Places.{IsClosed}
use Rattle.u_terms.specs.Products.{product_of}
use Rattle.u_terms.specs.Size.{nodes, depth}
use Rattle.u_terms.specs.declared.facts.Facts.{Facts}
use Rattle.u_terms.specs.declared.term.U.TheVariants as u
use Rattle.u_terms.proofs.Parts.{parts-Not}
use Rattle.u_terms.proofs.Sizes.{nodes-Eq, nodes-Not, depth-Eq, depth-Not}
use Rattle.u_rules.specs.Terms.{◌≐◌, neg, mul_leaves}
use Rattle.u_moves.specs.Derivations.{Derivation, IsKnown, IsWithin}
use Rattle.u_moves.specs.Moving.{IsKnownValue}
use Rattle.u_equal.specs.declared.link.Link.{Link}
use Rattle.u_equal.proofs.products.KeyLaws.{sides-Eq}
use Rattle.u_equal.specs.Links.{LeadsEach, no_pair, pair, HasNoCall, NestsEach, no_lists, lists_within, told}
use Rattle.u_equal.specs.Routes.{Course}
use Rattle.u_equal.specs.Standing.{standing}
use Rattle.u_entail.specs.declared.carrying.MarkPairs.{MarkPairs}
use Rattle.u_entail.specs.declared.hops.Hop.{Hop}
use Rattle.u_entail.specs.Sides.{AreFactors}
use Rattle.u_entail.specs.Following.{IsBounded}
use Rattle.u_entail.specs.Hops.{HopsLead, Lead, StayWithin}
use Rattle.u_entail.specs.Gaining.{Begins, EndsIn, IsLean, IsLed, IsRegrouped, LeadsBetween}
use Rattle.u_entail.specs.Marks.{IsAgain, HasMark, fails}
use Rattle.u_entail.specs.Carrying.{points, Carries, Follows, straight, exchanged, IsReadAs, as_it_stands, sides_exchanged, AlongCourses, AreMarkPairs, CarriesBy, ExchangedBy, LeadsMark, LeadsExchanged, MarkCourse, MarksBy, PointsBy, AreCourses, links_of}
use Rattle.u_entail.specs.Copies.{CopiesAlong, IsCopy, IsCopyAt, IsCopySmall, IsDifferenceCopied, IsReady, IsCopiedBy, LeadExchanged}
use Rattle.u_entail.specs.Small.{AreBasic, IsBasic}
use Rattle.u_entail.specs.Spines.{spine, weight, IsMadeBehind}
use Rattle.u_entail.proofs.sizes.Basic.{basic-ends, basic-exchanged, basic-lighter, basic-lower, basic-points, basic-small, basic-spare, no-calls}
use Rattle.u_entail.proofs.sizes.Bounds.{depth-product, depth-spine, weight-at, weight-product}
use Rattle.u_entail.proofs.copies.Carried.{carried-lighter, carried-lower, mark-carried, no-pairs-found, read-follows, whole-spare}
use Rattle.u_entail.proofs.copies.Doubled.{inside-known}
use Rattle.u_entail.proofs.chains.Flat.{stay-lead}
use Rattle.u_entail.proofs.chains.Leading.{leads-given, nests-given}
use Rattle.u_entail.proofs.products.Lists.{each-at}
use Rattle.u_entail.proofs.products.Parts.{eq-known, left-known, right-known}
use Rattle.u_entail.proofs.sizes.Small.{small-factors, stand-leaves, sum-product, times-le}
use Rattle.u_entail.proofs.products.Spines.{depth-behind, depth-near, nodes-spine, product-spine}

negation-known : (outs : ℕ) (x : U) → IsKnown 0 outs x → IsKnown 0 outs (neg x)
unfolding IsClosed EachName constructors
negation-known outs x k = record { closed = k.closed; named = k.named }

-- ---- what does not follow
pub no-follow-by : (product mark wanted : U) → (Carries product mark wanted → ⊥) → ((a b : Val) → mark ≡ neg (a ≐ b) → Carries product (neg (b ≐ a)) wanted → ⊥) → Follows product mark wanted → ⊥
no-follow-by product mark wanted apart other (straight m w h) = apart h
no-follow-by product mark wanted apart other (exchanged a b w h) = other a b refl h

pub no-copy : (facts : Facts) (outs : ℕ) (product : U) (factors : List U) (place : ℕ) (mark wanted : U) → slice_get factors place ≡ Some mark → (Follows product mark wanted → ⊥)
    → IsCopyAt facts outs product factors place wanted None
no-copy facts outs product factors place mark wanted at apart = λ m here follows. apart (subst (λ (x : U). Follows product x wanted) (same_Some m mark (sym here ∙ at)) follows)

-- ---- the last factor that is ready
pub turned-nodes : (a b : Val) → nodes (neg (b ≐ a)) ≡ nodes (neg (a ≐ b))
turned-nodes a b = omega (arith, nodes-Not (b ≐ a), nodes-Not (a ≐ b), nodes-Eq b a, nodes-Eq a b)

pub turned-depth : (a b : Val) → depth (neg (b ≐ a)) ≡ depth (neg (a ≐ b))
turned-depth a b = omega (arith, depth-Not (b ≐ a), depth-Not (a ≐ b), depth-Eq b a, depth-Eq a b)

module _ (facts : Facts) (outs : ℕ) (factors : List U) where
  pub ends-between : (last : U) (d : Derivation) → LeadsBetween facts outs (product_of factors) (product_of (factors ++ last ∷ [])) d → EndsIn facts outs (spine factors last) d
  ends-between last d l = record { facts = l.facts; outs = l.outs; to = l.to ∙ product-spine factors last }

  pub copied-by : (first : U) (hops : List Hop) (more : ℕ) (begun d : Derivation) → LeadsBetween facts outs (product_of factors) (product_of (factors ++ first ∷ [])) begun → length begun.steps ≤ more
      → IsLean (product_of (factors ++ first ∷ [])) 1 begun → IsLed facts outs factors first hops begun d → IsCopiedBy facts outs factors first hops more d
  copied-by first hops more begun d b few lean l = record {
    leads = λ last h. record { facts = l.facts; outs = l.outs; from = l.from ∙ b.from; to = l.arrives last h ∙ sym (product-spine factors last); plain = l.plain b.plain };
    steps = omega (arith, l.steps, few);
    within = λ most deepest last stay room space. l.within most deepest last stay (record { few = omega (arith, lean.nodes, room); shallow = omega (arith, lean.depth, space) });
  }

  module _ (a b : Val) (again part : Derivation) (h : IsAgain facts outs factors (neg (a ≐ b)) again) (one : IsRegrouped facts outs (neg (a ≐ b)) (neg (b ≐ a)) part) where
    pub again-facts : again.facts ≡ part.facts
    again-facts = let l = h.leads in let k = one.leads in l.facts ∙ sym k.facts

    pub again-outs : again.outs ≡ part.outs
    again-outs = let l = h.leads in let k = one.leads in l.outs ∙ sym k.outs

    pub again-stands : again.to ≡ spine factors part.from
    again-stands = let l = h.leads in let k = one.leads in l.to ∙ product-spine factors (neg (a ≐ b)) ∙ ap (λ (x : U). spine factors x) (sym k.from)

    pub exchange-ready : (d : Derivation) → IsMadeBehind factors again part d → IsReady facts outs factors (neg (b ≐ a)) 5 d
    exchange-ready d made =
        let l = h.leads in
        let k = one.leads in
        let n = h.lean in
        let before : product_of (factors ++ neg (a ≐ b) ∷ []) ≡ spine factors (neg (a ≐ b)) = product-spine factors (neg (a ≐ b)) in
        let after : product_of (factors ++ neg (b ≐ a) ∷ []) ≡ spine factors (neg (b ≐ a)) = product-spine factors (neg (b ≐ a)) in
        record {
          leads = record {
            facts = made.facts ∙ l.facts;
            outs = made.outs ∙ l.outs;
            from = made.from ∙ l.from;
            to = made.to ∙ ap (λ (x : U). spine factors x) k.to ∙ sym (product-spine factors (neg (b ≐ a)));
            plain = made.plain l.plain k.plain;
          };
          steps = omega (arith, made.steps, h.steps, one.steps);
          lean = record {
            nodes = omega (
              arith,
              made.nodes,
              n.nodes,
              one.nodes,
              ap nodes before,
              ap nodes after,
              nodes-spine factors (neg (a ≐ b)),
              nodes-spine factors (neg (b ≐ a)),
              turned-nodes a b,
            );
            depth = omega (
              arith,
              made.depth,
              n.depth,
              one.depth,
              ap depth before,
              ap depth after,
              depth-near 0 factors (neg (a ≐ b)) (neg (b ≐ a)) (omega (arith, turned-depth a b)),
              depth-behind factors (neg (b ≐ a)),
              turned-depth a b,
            );
          };
        }

module _ (outs : ℕ) (factors : List U) (ready : AreFactors outs factors) (place : ℕ) (a b : Val) (at : slice_get factors place ≡ Some (neg (a ≐ b))) where
  equality-here : IsKnown 0 outs (a ≐ b)
  equality-here = inside-known outs (a ≐ b) (each-at (IsKnown 0 outs) factors place (neg (a ≐ b)) ready.known at)

  pub sides-here : IsKnownValue outs a × IsKnownValue outs b
  sides-here = (left-known outs a b equality-here, right-known outs a b equality-here)

  pub mark-closed : IsClosed 0 (neg (a ≐ b))
  mark-closed = let k = each-at (IsKnown 0 outs) factors place (neg (a ≐ b)) ready.known at in k.closed

  pub shallow-mark : outs + depth (product_of factors) < 2 ^ 32 → outs + depth (neg (a ≐ b)) < 2 ^ 32
  shallow-mark room =
      let level = each-at (λ x. depth x ≤ depth (product_of factors)) factors place (neg (a ≐ b)) (depth-product factors) at in
      omega (arith, room, level)

  pub equality-closed : IsClosed 0 (a ≐ b)
  equality-closed = let k = equality-here in k.closed

  pub exchanged-known : (x : U) → x ≡ neg (b ≐ a) → IsKnown 0 outs x
  exchanged-known x is = subst (λ (y : U). IsKnown 0 outs y) (sym is) (negation-known outs (b ≐ a) (eq-known outs b a sides-here.1 sides-here.0))

-- ---- where the hops of a mark lead
pub lead-by : (product : U) (factors : List U) → Begins product factors → (mark wanted : U) (hops : List Hop) → CarriesBy product mark wanted hops → HopsLead factors mark hops wanted
lead-by product factors begins mark wanted hops by =
    let many : ℕ = nodes (product_of factors) in
    let deep : ℕ = depth (product_of factors) in
    let n : ℕ = length (standing product) in
    let rise : ℕ = depth mark + depth wanted + (deep + n) in
    let most : ℕ = weight factors + (nodes mark + nodes wanted + (many + 2 * (n * many))) in
    let deepest : ℕ = length factors + max deep (depth mark + rise) in
    stay-lead most deepest factors mark wanted hops
    (by.stay n by.nested factors begins many deep (small-factors factors) (nodes wanted) rise (whole-spare mark wanted (deep + n)) (omega arith) most deepest
    (λ x w. record { few = omega (arith, w.few, nodes-spine factors x); shallow = omega (arith, w.shallow, depth-spine deep factors x (depth-product factors)) }))

-- ---- the copy
pairs-given : (product : U) → HasNoCall (standing product) → (xs ys : List Val) (pairs : List (List Link)) → LeadsEach product xs pairs ys → NestsEach 0 pairs
pairs-given product without xs ys pairs no_pair = no_lists 0
pairs-given product without xs ys pairs (pair a b links as' bs ps h hs) =
    lists_within 0 links ps (nests-given links (leads-given product without a b links h)) (pairs-given product without as' bs ps hs)

module _ (facts : Facts) (outs : ℕ) (product : U) (factors : List U) (begins : Begins product factors) (first wanted : U) (light : nodes first ≤ nodes (product_of factors))
    (level : depth first ≤ depth (product_of factors)) (hops : List Hop) (by : CarriesBy product first wanted hops) (more : ℕ) (d : Derivation) (c : IsCopiedBy facts outs factors first hops more d) where
  abbrev F : ℕ
  F = nodes (product_of factors)

  abbrev D : ℕ
  D = depth (product_of factors)

  bounded-at : (n : ℕ) → NestsEach n by.pairs → IsBounded (3 * F + nodes wanted + 2 + 2 * (n * F)) (length factors + 3 * D + depth wanted + 1 + n) d
  bounded-at n nests =
      let most : ℕ = 3 * F + nodes wanted + 2 + 2 * (n * F) in
      let deepest : ℕ = length factors + 3 * D + depth wanted + 1 + n in
      let rise : ℕ = depth first + depth wanted + (D + n) in
      c.within most deepest wanted
      (by.stay n nests factors begins F D (small-factors factors) (nodes wanted) rise (whole-spare first wanted (D + n)) (omega arith) most deepest
      (λ x w. record {
        few = omega (arith, w.few, light, nodes-spine factors x, weight-product factors);
        shallow = omega (arith, w.shallow, level, depth-spine D factors x (depth-product factors));
      })) (omega (arith, light, ap nodes (product-spine factors first), nodes-spine factors first, weight-product factors))
      (omega (arith, level, ap depth (product-spine factors first), depth-spine D factors first (depth-product factors)))

  copy-small : IsCopySmall product factors wanted d
  copy-small =
      let n : ℕ = length (standing product) in
      let few : n ≤ F = omega (arith, stand-leaves product, sum-product factors, ap (λ (xs : List U). sum_by nodes xs) begins.is, sum_by-append nodes (mul_leaves product) begins.rest) in
      let wide = bounded-at n by.nested in
      record {
        nodes = λ none. let flat = bounded-at 0 (pairs-given product none (points first) (points wanted) by.pairs by.chains) in omega (arith, flat.few);
        depth = λ none. let flat = bounded-at 0 (pairs-given product none (points first) (points wanted) by.pairs by.chains) in omega (arith, flat.shallow);
        nodes_through = omega (arith, wide.few, times-le n F F few);
        depth_through = omega (arith, wide.shallow, few);
      }

  -- where neither calls nor aggregates stand
  module _ (basic : AreBasic factors) (starts : Each IsBasic (points first)) where
    abbrev row : U
    row = product_of (factors ++ wanted ∷ [])

    row-is : row ≡ spine factors wanted
    row-is = product-spine factors wanted

    lighter : nodes first ≤ nodes wanted
    lighter = carried-lighter product first wanted by.carries (basic-lighter product (points first) (points wanted) by.pairs by.chains starts)

    lower : depth first ≤ depth wanted
    lower = carried-lower product first wanted by.carries (basic-lower product (points first) (points wanted) by.pairs by.chains starts)

    near-row : (x : U) → nodes x ≤ nodes first + 1 → depth x ≤ depth first + 1 → IsWithin (nodes row + 1) (depth row + 1) (spine factors x)
    near-row x few shallow = record {
      few = omega (arith, few, lighter, ap nodes row-is, nodes-spine factors x, nodes-spine factors wanted);
      shallow = omega (arith, ap depth row-is, depth-near 1 factors x wanted (omega (arith, shallow, lower)));
    }

    marks-stay : StayWithin (nodes row + 1) (depth row + 1) factors first hops wanted
    marks-stay =
        let flat = pairs-given product (no-calls factors basic product begins) (points first) (points wanted) by.pairs by.chains in
        let ends = basic-ends factors basic product begins (points first) (points wanted) by.pairs by.chains starts in
        by.stay 0 flat factors begins 1 1 (basic-small factors basic) 0 1 (basic-spare (points first) (points wanted) starts ends) (omega arith) (nodes row + 1) (depth row + 1)
        (λ x w. near-row x (omega (arith, w.few)) (omega (arith, w.shallow)))

    row-bounded : IsBounded (nodes row + 1) (depth row + 1) d
    row-bounded =
        c.within (nodes row + 1) (depth row + 1) wanted marks-stay
        (omega (arith, lighter, ap nodes row-is, ap nodes (product-spine factors first), nodes-spine factors first, nodes-spine factors wanted))
        (omega (arith, ap depth row-is, ap depth (product-spine factors first), depth-near 0 factors first wanted (omega (arith, lower))))

    copy-lean : IsLean row 1 d
    copy-lean = let bounded = row-bounded in record { nodes = bounded.few; depth = bounded.shallow }

  pub copy-found : (mark : U) → IsReadAs mark first → more ≤ 5 → (AreBasic factors → Each IsBasic (points first)) → IsCopy facts outs product factors mark wanted d
  copy-found mark read few starts = record {
    follows = read-follows product mark first wanted read by.carries;
    leads = c.leads wanted (lead-by product factors begins first wanted hops by);
    read_as = first;
    read = read;
    carries = by.carries;
    steps = record {
      number = by.number;
      distances = by.distances;
      few = omega (arith, c.steps, by.few, few);
      short = λ none. omega (arith, c.steps, by.short none, few);
    };
    small = copy-small;
    lean = λ basic. copy-lean basic (starts basic);
  }

pub copy-at : (facts : Facts) (outs : ℕ) (product : U) (factors : List U) (place : ℕ) (mark wanted : U) → slice_get factors place ≡ Some mark → (d : Derivation) → IsCopy facts outs product factors mark wanted d
    → IsCopyAt facts outs product factors place wanted (Some d)
copy-at facts outs product factors place mark wanted at d h = λ m here. subst (λ (x : U). IsCopy facts outs product factors x wanted d) (same_Some mark m (sym at ∙ here)) h

pub mark-here : (outs : ℕ) (factors : List U) (ready : AreFactors outs factors) (place : ℕ) (mark : U) → slice_get factors place ≡ Some mark → IsKnown 0 outs mark
mark-here outs factors ready place mark at = each-at (IsKnown 0 outs) factors place mark ready.known at

pub negation-stands : (factors : List U) (place : ℕ) (x : U) → slice_get factors place ≡ Some (neg x) → HasMark factors place
negation-stands factors place x at = record { mark = neg x; at = at; is = fails x }

-- ---- along chains that were counted
pub mark-light : (factors : List U) (place : ℕ) (mark : U) → slice_get factors place ≡ Some mark → nodes mark ≤ nodes (product_of factors)
mark-light factors place mark at = omega (arith, weight-at factors place mark at, weight-product factors)

pub mark-level : (factors : List U) (place : ℕ) (mark : U) → slice_get factors place ≡ Some mark → depth mark ≤ depth (product_of factors)
mark-level factors place mark at = each-at (λ x. depth x ≤ depth (product_of factors)) factors place mark (depth-product factors) at

mark-basic : (factors : List U) → AreBasic factors → (place : ℕ) (mark : U) → slice_get factors place ≡ Some mark → Each IsBasic (points mark)
mark-basic factors basic place mark at = basic-points mark (each-at (λ factor. Each IsBasic (standing factor)) factors place mark basic at)

counted-by : (courses : List Course) (links : ℕ) → links ≡ told (links_of courses) → (hops : List Hop) → AlongCourses 0 courses hops → (d : Derivation) → length d.steps ≤ length hops + 5 → links < 2 ^ 64 - 1
    → length d.steps ≤ links + 5
counted-by courses links is hops along d few less = omega (arith, is, few, less, along.counted (omega (arith, is, less)))

-- whatever leads from the points of the one mark to those of the other
module _ (facts : Facts) (outs : ℕ) (product : U) (factors : List U) (begins : Begins product factors) (place : ℕ) (mark wanted : U) (at : slice_get factors place ≡ Some mark)
    (Are : List Val → List Val → Type 0) (hops : List Hop) (along : (xs ys : List Val) → Are xs ys → PointsBy product 0 xs ys hops) where
  pub straight-by : MarksBy mark wanted Are → Lead factors mark hops
  straight-by l = record { to = wanted; by = lead-by product factors begins mark wanted hops (mark-carried product mark wanted Are l hops along) }

  pub exchanged-by : ExchangedBy mark wanted Are → LeadExchanged factors mark hops
  exchanged-by l =
      let first : U = neg (l.right ≐ l.left) in
      record {
        left = l.left;
        right = l.right;
        is = l.is;
        lead = record { to = wanted; by = lead-by product factors begins first wanted hops (mark-carried product first wanted Are l.leads hops along) };
      }

  pub straight-copy : MarksBy mark wanted Are → (d : Derivation) → IsCopiedBy facts outs factors mark hops 4 d → IsCopy facts outs product factors mark wanted d
  straight-copy l d c =
      let by = mark-carried product mark wanted Are l hops along in
      copy-found facts outs product factors begins mark wanted (mark-light factors place mark at) (mark-level factors place mark at) hops by 4 d c mark as_it_stands (omega arith)
      (λ basic. mark-basic factors basic place mark at)

  pub exchanged-copy : ExchangedBy mark wanted Are → (d : Derivation) → IsDifferenceCopied facts outs factors mark hops d → IsCopy facts outs product factors mark wanted d
  exchanged-copy l d copied =
      let a = l.left in
      let b = l.right in
      let first : U = neg (b ≐ a) in
      let c = copied.each a b l.is in
      let by = mark-carried product first wanted Are l.leads hops along in
      let light = mark-light factors place mark at in
      let level = mark-level factors place mark at in
      copy-found facts outs product factors begins first wanted (omega (arith, light, ap nodes l.is, turned-nodes a b)) (omega (arith, level, ap depth l.is, turned-depth a b)) hops by 5 d c mark (sides_exchanged a b l.is) (omega arith)
      (λ basic. basic-exchanged a b (subst (λ (x : U). Each IsBasic (points x)) l.is (mark-basic factors basic place mark at)))

module _ (facts : Facts) (outs : ℕ) (product : U) (factors : List U) (begins : Begins product factors) (place : ℕ) (mark wanted : U) (at : slice_get factors place ≡ Some mark) (courses : List Course) (links : ℕ)
    (is : links ≡ told (links_of courses)) (hops : List Hop) (along : AlongCourses 0 courses hops) where
  abbrev course : MarkCourse
  course = record { product = product; mark = mark; wanted = wanted; links = links }

  abbrev Counted : List Val → List Val → Type 0
  Counted from to = AreCourses product from courses to

  pub straight-lead : LeadsMark product mark wanted courses → Lead factors mark hops
  straight-lead = straight-by facts outs product factors begins place mark wanted at Counted hops (along.by product)

  pub exchanged-lead : LeadsExchanged product mark wanted courses → LeadExchanged factors mark hops
  exchanged-lead = exchanged-by facts outs product factors begins place mark wanted at Counted hops (along.by product)

  pub straight-copied : LeadsMark product mark wanted courses → (d : Derivation) → IsCopiedBy facts outs factors mark hops 4 d → CopiesAlong facts outs course factors d
  straight-copied l d c = record {
    copy = straight-copy facts outs product factors begins place mark wanted at Counted hops (along.by product) l d c;
    counted = counted-by courses links is hops along d (omega (arith, c.steps));
  }

  pub exchanged-copied : LeadsExchanged product mark wanted courses → (d : Derivation) → IsDifferenceCopied facts outs factors mark hops d → CopiesAlong facts outs course factors d
  exchanged-copied l d copied =
      let c = copied.each l.left l.right l.is in
      record {
        copy = exchanged-copy facts outs product factors begins place mark wanted at Counted hops (along.by product) l d copied;
        counted = counted-by courses links is hops along d c.steps;
      }

-- ---- what the pairs of points say
pub none-copied : (facts : Facts) (outs : ℕ) (product : U) (factors : List U) (place : ℕ) (mark wanted : U) → slice_get factors place ≡ Some mark → (found : Option MarkPairs)
    → MatchOption found (Follows product mark wanted → ⊥) (λ pairs. AreMarkPairs product mark wanted pairs) → found ≡ None → IsCopyAt facts outs product factors place wanted None
none-copied facts outs product factors place mark wanted at found h is = no-copy facts outs product factors place mark wanted at (no-pairs-found product mark wanted found h is)

-- ---- a negated equality
pub no-equality-led : (factors : List U) (inner : U) (hops : List Hop) → LeadExchanged factors (neg inner) hops → ((a b : Val) → inner ≡ u.Eq a b → ⊥) → ⊥
no-equality-led factors inner hops h differ = differ h.left h.right (parts-Not inner (h.left ≐ h.right) h.is)

pub no-negation-led : (factors : List U) (mark : U) (hops : List Hop) → LeadExchanged factors mark hops → ((x : U) → mark ≡ u.Not x → ⊥) → ⊥
no-negation-led factors mark hops h differ = differ (h.left ≐ h.right) h.is

pub sides-led : (factors : List U) (a b : Val) (hops : List Hop) → LeadExchanged factors (neg (a ≐ b)) hops → Lead factors (neg (b ≐ a)) hops
sides-led factors a b hops h =
    let both = sides-Eq a b h.left h.right (parts-Not (a ≐ b) (h.left ≐ h.right) h.is) in
    subst (λ (x : Val). Lead factors (neg (x ≐ a)) hops) (sym both.1) (subst (λ (x : Val). Lead factors (neg (h.right ≐ x)) hops) (sym both.0) h.lead)

pub difference-copied : (facts : Facts) (outs : ℕ) (factors : List U) (a b : Val) (hops : List Hop) (d : Derivation) → IsCopiedBy facts outs factors (neg (b ≐ a)) hops 5 d
    → IsDifferenceCopied facts outs factors (neg (a ≐ b)) hops d
difference-copied facts outs factors a b hops d c = record {
  each = λ x y is.
      let both = sides-Eq a b x y (parts-Not (a ≐ b) (x ≐ y) is) in
      subst (λ (z : Val). IsCopiedBy facts outs factors (neg (z ≐ x)) hops 5 d) both.1 (subst (λ (z : Val). IsCopiedBy facts outs factors (neg (b ≐ z)) hops 5 d) both.0 c);
}
