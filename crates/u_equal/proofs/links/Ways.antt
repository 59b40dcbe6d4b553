-- Ways from place to place, parted at the edges that joined their ends.
use Rattle.std.proofs.Common.{◌≡◌, ℕ, zero, suc, ◌+◌, ◌-◌, ◌<◌, ◌≤◌, Bool, true, false, List, [], ◌∷◌, ◌++◌, length, get_or, refl, ap, sym, ◌∙◌, subst, arith}
use Rattle.std.specs.Prelude.{nat_eq}
use Rattle.std.proofs.lemmas.List.Sums.{sum_by-append}
use Rattle.std.proofs.lemmas.List.{append-nil, length-append, get_or_default}
use Rattle.u_terms.specs.Syntax.{Val}
use Rattle.u_equal.specs.declared.forest.Edge.{Edge}
use Rattle.u_equal.specs.declared.chains.Hop.{Hop}
use Rattle.u_equal.specs.declared.chains.Part.{Part}
use Rattle.u_equal.specs.declared.chains.Part.TheVariants.{Found, Open}
use Rattle.u_equal.specs.Joined.{no_edge, edge_at, label_at, reach, count, State, IsState, IsApart}
use Rattle.u_equal.specs.LinkCounts.{links_between, links_of_edge, links_of_hops, links_of_part, links_of_parts}
use Rattle.u_equal.specs.Chains.{near, far, IsPart, Meets, IsWay, stays, along, IsPath, IsPartOf, IsSound, Joins, steps_of, steps, weight_of, weight, Walks, parting}
use Rattle.u_equal.proofs.edges.Labels.{label_at-keeps, label_at-joins, before, across, across_turned, joined_by}
use Rattle.u_equal.proofs.edges.Reaches.{reach-joined, reach-later}
use Rattle.u_equal.proofs.links.LinkNumbers.{links-forth, links-back, links-later, links-itself}

-- ---- sides of an edge
pub near-within : (values : List Val) (label : ℕ → ℕ) (e : Edge) (turned : Bool) → IsApart values label e → near e turned < length values
near-within values label e true h = h.right_within
near-within values label e false h = h.left_within

pub far-within : (values : List Val) (label : ℕ → ℕ) (e : Edge) (turned : Bool) → IsApart values label e → far e turned < length values
far-within values label e true h = h.left_within
far-within values label e false h = h.right_within

near-left : (edges : List Edge) (time : ℕ) (turned : Bool) → label_at edges (time + 1) (edge_at edges time).left ≡ label_at edges (time + 1) (near (edge_at edges time) turned)
near-left edges time true = label_at-joins edges time
near-left edges time false = refl

near-far : (edges : List Edge) (time : ℕ) (turned : Bool) → label_at edges (time + 1) (near (edge_at edges time) turned) ≡ label_at edges (time + 1) (far (edge_at edges time) turned)
near-far edges time true = sym (label_at-joins edges time)
near-far edges time false = label_at-joins edges time

pub edge-read : (edges : List Edge) (k : ℕ) (e : Edge) → k < length edges → e ≡ get_or edges k e → edge_at edges k ≡ e
edge-read edges k e within is = get_or_default edges k no_edge e within ∙ sym is

-- ---- where two places meet
at_start : (edges : List Edge) (i : ℕ) → label_at edges 0 i ≡ i
unfolding label_at
at_start edges i = refl

pub apart-start : (edges : List Edge) (from to : ℕ) → (from ≡ to → ⊥) → label_at edges 0 from ≡ label_at edges 0 to → ⊥
apart-start edges from to differ same = differ (sym (at_start edges from) ∙ same ∙ at_start edges to)

-- places that are joined by some of the edges are not joined by none
pub some-edge : (edges : List Edge) (upto from to : ℕ) → (from ≡ to → ⊥) → label_at edges upto from ≡ label_at edges upto to → 0 < upto
some-edge edges zero from to differ same = absurd (apart-start edges from to differ same)
some-edge edges (suc upto) from to differ same = omega arith

module _ (s : State) (state : IsState s) (time from to : ℕ) (within : time < length s.edges) (apart : label_at s.edges time from ≡ label_at s.edges time to → ⊥)
    (same : label_at s.edges (time + 1) from ≡ label_at s.edges (time + 1) to) where
  abbrev e : Edge
  e = edge_at s.edges time

  abbrev l : ℕ → ℕ
  l = label_at s.edges time

  -- the near side is the left one exactly where the first place is joined with it
  turned-false : l from ≡ l e.left → (l to ≡ l e.right)
  turned-false at_left = elim (joined_by s.edges time from to same) [
    | before h ↦ absurd (apart h)
    | across h k ↦ k
    | across_turned h k ↦ absurd ((state time within).apart (sym at_left ∙ h))
  ]

  turned-true : (l from ≡ l e.left → ⊥) → (l from ≡ l e.right) × (l to ≡ l e.left)
  turned-true not_left = elim (joined_by s.edges time from to same) [
    | before h ↦ absurd (apart h)
    | across h k ↦ absurd (not_left h)
    | across_turned h k ↦ (h, k)
  ]

  pub meets-forth : (upto : ℕ) → time < upto → l from ≡ l e.left → Meets s.edges upto from to (record { time = time; turned = false })
  meets-forth upto less at_left = record { within = less; apart = apart; from_near = at_left; far_to = sym (turned-false at_left) }

  pub meets-back : (upto : ℕ) → time < upto → (l from ≡ l e.left → ⊥) → Meets s.edges upto from to (record { time = time; turned = true })
  meets-back upto less not_left = let h = turned-true not_left in record { within = less; apart = apart; from_near = h.0; far_to = sym h.1 }

-- ---- the reach of both parts
module _ (s : State) (upto from to : ℕ) (m : Hop) (meets : Meets s.edges upto from to m) where
  abbrev met : Edge
  met = edge_at s.edges m.time

  left-from : label_at s.edges (m.time + 1) met.left ≡ label_at s.edges (m.time + 1) from
  left-from = near-left s.edges m.time m.turned ∙ sym (label_at-keeps s.edges m.time from (near met m.turned) meets.from_near)

  from-to : label_at s.edges (m.time + 1) from ≡ label_at s.edges (m.time + 1) to
  from-to = label_at-keeps s.edges m.time from (near met m.turned) meets.from_near ∙ near-far s.edges m.time m.turned ∙ label_at-keeps s.edges m.time (far met m.turned) to meets.far_to

  same-reach : (i j : ℕ) → label_at s.edges m.time i ≡ label_at s.edges m.time j → reach s.edges m.time i ≡ reach s.edges m.time j
  same-reach i j same = ap (λ class. count (λ n. nat_eq (label_at s.edges m.time (edge_at s.edges n).left) class) m.time) same

  whole : (x y : ℕ) → x ≤ y → x + (y - x) ≡ y
  whole x y less = omega arith

  met-reach : reach s.edges m.time from + 1 + reach s.edges m.time (far met m.turned) ≤ reach s.edges upto from
  met-reach =
      let h = reach-joined s.values s.edges m.time from to meets.apart from-to left-from in
      let k = reach-later s.values s.edges (m.time + 1) (upto - (m.time + 1)) from in
      let w = meets.within in
      let d : reach s.edges (m.time + 1 + (upto - (m.time + 1))) from ≡ reach s.edges upto from = ap (λ x. reach s.edges x from) (whole (m.time + 1) upto (omega arith)) in
      omega (arith, h, k, d, same-reach (far met m.turned) to meets.far_to)

  -- the links of both parts
  abbrev over : (e : Edge) (turned : Bool) → ℕ
  over e turned = links_between s m.time from (near e turned) + links_of_edge s m.time + links_between s m.time (far e turned) to

  over-met : IsApart s.values (label_at s.edges m.time) met → (turned : Bool) → m.turned ≡ turned → links_between s (m.time + 1) from to ≡ over met turned
  over-met here false is = links-forth s m.time from to meets.apart (subst (λ t. label_at s.edges m.time from ≡ label_at s.edges m.time (near met t)) is meets.from_near)
  over-met here true is =
      let at_right : label_at s.edges m.time from ≡ label_at s.edges m.time met.right = subst (λ t. label_at s.edges m.time from ≡ label_at s.edges m.time (near met t)) is meets.from_near in
      links-back s m.time from to meets.apart (λ at_left. here.apart (sym at_left ∙ at_right))

  met-links : IsApart s.values (label_at s.edges m.time) met → links_between s upto from to ≡ over met m.turned
  met-links here =
      let w = meets.within in
      let d : links_between s upto from to ≡ links_between s (m.time + 1 + (upto - (m.time + 1))) from to =
      ap (λ x. links_between s x from to) (sym (whole (m.time + 1) upto (omega arith))) in
      d ∙ links-later s (m.time + 1) (upto - (m.time + 1)) from to from-to ∙ over-met here m.turned refl

  module _ (state : IsState s) (part : IsPart s upto from to) where
    here : IsApart s.values (label_at s.edges m.time) met
    here = let w = meets.within in let v = part.within in state m.time (omega (arith, w, v))

    first-part : IsPart s m.time from (near met m.turned)
    first-part = record {
      within = let w = meets.within in let v = part.within in omega (arith, w, v);
      from_within = part.from_within;
      to_within = near-within s.values (label_at s.edges m.time) met m.turned here;
      joined = meets.from_near;
    }

    last-part : IsPart s m.time (far met m.turned) to
    last-part = record {
      within = let w = meets.within in let v = part.within in omega (arith, w, v);
      from_within = far-within s.values (label_at s.edges m.time) met m.turned here;
      to_within = part.to_within;
      joined = meets.far_to;
    }

    parting-leads : (all i j : ℕ) → IsPartOf s all (Open upto from to) i j → (k : ℕ) × IsWay s.edges all i [] k × Joins s all (parting s.edges from to m) k j
    parting-leads all i j h =
        let w = meets.within in
        let less : upto ≤ all = h.0 in
        let early : m.time ≤ all = omega (arith, w, less) in
        let sooner : m.time < all = omega (arith, w, less) in (
          i,
          stays i,
          (far met m.turned, (near met m.turned, (i, refl, (early, h.1, refl, first-part)), (sooner, refl, refl)), (early, refl, h.2, last-part)),
        )

    pub walks-parted : (hops : List Hop) (old new : List Part) → new ≡ old ++ parting s.edges from to m → Walks s (Open upto from to) hops hops old new
    walks-parted hops old new is = record {
      hops = [];
      parts = parting s.edges from to m;
      hops_are = sym (append-nil hops);
      parts_are = is;
      leads = parting-leads;
      short = omega (arith, met-reach);
      counted = omega (arith, met-links here);
      lighter = omega (arith, met-reach);
    }

pub walks-found : (s : State) (hop : Hop) (old new : List Hop) (parts : List Part) → new ≡ old ++ hop ∷ [] → Walks s (Found hop) old new parts parts
walks-found s hop old new parts is = record {
  hops = hop ∷ [];
  parts = [];
  hops_are = is;
  parts_are = sym (append-nil parts);
  leads = λ all i j h. (j, along hop [] i j j h.0 h.1 h.2 (stays j), refl);
  short = omega arith;
  counted = omega arith;
  lighter = omega arith;
}

pub walks-same : (s : State) (upto from to : ℕ) (hops : List Hop) (parts : List Part) → from ≡ to → Walks s (Open upto from to) hops hops parts parts
walks-same s upto from to hops parts same = record {
  hops = [];
  parts = [];
  hops_are = sym (append-nil hops);
  parts_are = sym (append-nil parts);
  leads = λ all i j h. (i, stays i, h.1 ∙ same ∙ sym h.2);
  short = omega arith;
  counted = let none : links_between s upto from to ≡ 0 = ap (λ x. links_between s upto from x) (sym same) ∙ links-itself s upto from in omega (arith, none);
  lighter = omega arith;
}

-- ---- ways and lists of parts put together
pub way-through : (edges : List Edge) (upto i j k : ℕ) (xs ys : List Hop) → IsWay edges upto i xs j → IsWay edges upto j ys k → IsWay edges upto i (xs ++ ys) k
way-through edges upto i j k xs ys (stays h) w = w
way-through edges upto i j k xs ys (along hop hops h m n less is_near is_far rest) w = along hop (hops ++ ys) h m k less is_near is_far (way-through edges upto m n k hops ys rest w)

joins-split : (s : State) (upto : ℕ) (xs ys : List Part) (i j : ℕ) → Joins s upto (xs ++ ys) i j → (k : ℕ) × Joins s upto ys i k × Joins s upto xs k j
joins-split s upto [] ys i j h = (j, h, refl)
joins-split s upto (x ∷ xs) ys i j h = let k = joins-split s upto xs ys i h.0 h.1 in (k.0, k.1, (h.0, k.2, h.2))

joins-through : (s : State) (upto : ℕ) (xs ys : List Part) (i k j : ℕ) → Joins s upto ys i k → Joins s upto xs k j → Joins s upto (xs ++ ys) i j
joins-through s upto [] ys i k j h g = subst (λ (m : ℕ). Joins s upto ys i m) g h
joins-through s upto (x ∷ xs) ys i k j h g = (g.0, joins-through s upto xs ys i k g.0 h g.1, g.2)

-- the last part is sound
sound-of : (s : State) (upto : ℕ) (part : Part) (i j : ℕ) → IsPartOf s upto part i j → IsSound s part
sound-of s upto (Found hop) i j h = tt
sound-of s upto (Open time from to) i j h = h.3

module _ (s : State) (upto from to : ℕ) (part : Part) (hops hops_after : List Hop) (rest parts parts_after : List Part) (is : parts ≡ rest ++ part ∷ [])
    (way : (k : ℕ) × IsWay s.edges upto from hops k × Joins s upto parts k to) where
  split : (k : ℕ) × Joins s upto (part ∷ []) way.0 k × Joins s upto rest k to
  split = joins-split s upto rest (part ∷ []) way.0 to (subst (λ (ps : List Part). Joins s upto ps way.0 to) is way.2)

  part-here : IsPartOf s upto part way.0 split.0
  part-here = subst (λ (m : ℕ). IsPartOf s upto part m split.0) (sym split.1.1) split.1.2

  pub part-sound : IsSound s part
  part-sound = sound-of s upto part way.0 split.0 part-here

  module _ (w : Walks s part hops hops_after rest parts_after) where
    pub walked-way : (k : ℕ) × IsWay s.edges upto from hops_after k × Joins s upto parts_after k to
    walked-way =
        let h = w.leads upto way.0 split.0 part-here in (
          h.0,
          subst (λ (hs : List Hop). IsWay s.edges upto from hs h.0) (sym w.hops_are) (way-through s.edges upto from way.0 h.0 hops w.hops way.1 h.1),
          subst (λ (ps : List Part). Joins s upto ps h.0 to) (sym w.parts_are) (joins-through s upto rest w.parts h.0 split.0 to h.2 split.2),
        )

    pub walked-short : (limit : ℕ) → length hops + steps s.edges parts ≤ limit → length hops_after + steps s.edges parts_after ≤ limit
    walked-short limit short =
        let a : steps s.edges parts ≡ steps s.edges (rest ++ part ∷ []) = ap (steps s.edges) is in
        let b : steps s.edges parts_after ≡ steps s.edges (rest ++ w.parts) = ap (steps s.edges) w.parts_are in
        let c : length hops_after ≡ length (hops ++ w.hops) = ap length w.hops_are in
        omega (arith, a, b, c, short, w.short, sum_by-append (steps_of s.edges) rest (part ∷ []), sum_by-append (steps_of s.edges) rest w.parts, length-append hops w.hops)

    pub walked-counted : (number : ℕ) → links_of_hops s hops + links_of_parts s parts ≡ number → links_of_hops s hops_after + links_of_parts s parts_after ≡ number
    walked-counted number counted =
        let a : links_of_parts s parts ≡ links_of_parts s (rest ++ part ∷ []) = ap (links_of_parts s) is in
        let b : links_of_parts s parts_after ≡ links_of_parts s (rest ++ w.parts) = ap (links_of_parts s) w.parts_are in
        let c : links_of_hops s hops_after ≡ links_of_hops s (hops ++ w.hops) = ap (links_of_hops s) w.hops_are in
        omega (
          arith,
          a,
          b,
          c,
          counted,
          w.counted,
          sum_by-append (links_of_part s) rest (part ∷ []),
          sum_by-append (links_of_part s) rest w.parts,
          sum_by-append (λ (hop : Hop). links_of_edge s hop.time) hops w.hops,
        )

    pub walked-lighter : weight s.edges parts_after < weight s.edges parts
    walked-lighter =
        let a : weight s.edges parts ≡ weight s.edges (rest ++ part ∷ []) = ap (weight s.edges) is in
        let b : weight s.edges parts_after ≡ weight s.edges (rest ++ w.parts) = ap (weight s.edges) w.parts_are in
        omega (arith, a, b, w.lighter, sum_by-append (weight_of s.edges) rest (part ∷ []), sum_by-append (weight_of s.edges) rest w.parts)

pub way-opened : (s : State) (upto from to : ℕ) → IsPart s upto from to → (hops : List Hop) (parts : List Part) → hops ≡ [] → parts ≡ Open upto from to ∷ []
    → ((k : ℕ) × IsWay s.edges upto from hops k × Joins s upto parts k to) × (length hops + steps s.edges parts ≤ reach s.edges upto from)
    × (links_of_hops s hops + links_of_parts s parts ≡ links_between s upto from to)
way-opened s upto from to part hops parts no_hops is = (
  (
    from,
    subst (λ (hs : List Hop). IsWay s.edges upto from hs from) (sym no_hops) (stays from),
    subst (λ (ps : List Part). Joins s upto ps from to) (sym is) (from, refl, (omega arith, refl, refl, part)),
  ),
  let a : length hops ≡ 0 = ap length no_hops in
      let b : steps s.edges parts ≡ steps s.edges (Open upto from to ∷ []) = ap (steps s.edges) is in
      omega (arith, a, b),
  let a : links_of_hops s hops ≡ 0 = ap (links_of_hops s) no_hops in
      let b : links_of_parts s parts ≡ links_of_parts s (Open upto from to ∷ []) = ap (links_of_parts s) is in
      omega (arith, a, b),
)

pub path-done : (s : State) (upto from to : ℕ) (hops : List Hop) (parts : List Part) → parts ≡ [] → (k : ℕ) × IsWay s.edges upto from hops k × Joins s upto parts k to
    → length hops + steps s.edges parts ≤ reach s.edges upto from → links_of_hops s hops + links_of_parts s parts ≡ links_between s upto from to → IsPath s upto from hops to
path-done s upto from to hops parts none way short counted =
    let last : way.0 ≡ to = subst (λ (ps : List Part). Joins s upto ps way.0 to) none way.2 in
    record { way = subst (λ (m : ℕ). IsWay s.edges upto from hops m) last way.1; short = omega (arith, short); counted = let a : links_of_parts s parts ≡ 0 = ap (links_of_parts s) none in omega (arith, a, counted) }
