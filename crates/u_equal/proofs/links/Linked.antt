-- Links put together.
use Rattle.std.proofs.Common.{◌≡◌, ℕ, zero, suc, ◌+◌, ◌<◌, ◌≤◌, Bool, true, false, List, [], ◌∷◌, ◌++◌, length, get_or, inl, inr, refl, ap, sym, ◌∙◌, subst, arith}
use mathlib.Core.Bool.{beq, not}
use Rattle.std.specs.Prelude.{Some, slice_get}
use Rattle.std.proofs.lemmas.List.{length_push}
use Rattle.std.proofs.lemmas.Option.{slice_get-get_or, same_Some, none-some, slice_get_within}
use Rattle.u_terms.specs.Syntax.{U, Val}
use Rattle.u_terms.specs.declared.term.Val.TheVariants as v
use Rattle.u_rules.specs.Terms.{◌≐◌, mul_leaves}
use Rattle.u_equal.specs.declared.forest.Edge.{Edge}
use Rattle.u_equal.specs.declared.forest.Reason.{Reason}
use Rattle.u_equal.specs.declared.forest.Reason.TheVariants.{Given, Called}
use Rattle.u_equal.specs.declared.chains.Hop.{Hop}
use Rattle.u_equal.specs.declared.link.Link.{Link}
use Rattle.u_equal.specs.declared.link.Link.TheVariants as link
use Rattle.u_equal.specs.Standing.{standing, IsIn}
use Rattle.u_equal.specs.Links.{Leads, LeadsEach, no_link, forth, back, called, no_pair, pair}
use Rattle.u_equal.specs.Joined.{edge_at, label_at, FirstAt, Joined, Same, SameEach, AreCalls, State, IsState, HasReason}
use Rattle.u_equal.specs.Links.{HasCount, HasCountEach}
use Rattle.u_equal.specs.LinkCounts.{arguments, links_of_edge, links_of_values, sum_of_pairs}
use Rattle.u_equal.specs.Chains.{near, far, IsWay, stays, along, IsPath, HoldsEdges, LinksHop, LinksHops, LinksValues, LinksEach, LinksCalls}
use Rattle.u_equal.proofs.edges.Labels.{first-unique}
use Rattle.u_equal.proofs.edges.Moves.{calls-back}
use Rattle.u_equal.proofs.edges.Reaches.{reach-le}
use Rattle.u_equal.proofs.links.LinkNumbers.{arguments-Fun, same-both, edge-given, edge-called, pairs-found, one-given, one-call}
use Rattle.u_equal.proofs.congruence.Signatures.{parts-Fun}
use Rattle.u_equal.proofs.links.Ways.{far-within}
use Rattle.u_equal.proofs.products.Listed.{at-push}

-- ---- links
pub leads-through : (product : U) (a b c : Val) (xs ys : List Link) → Leads product a xs b → Leads product b ys c → Leads product a (xs ++ ys) c
leads-through product a b c xs ys (no_link d) k = k
leads-through product a b c xs ys (forth factor d e f rest at h) k = forth factor d e c (rest ++ ys) at (leads-through product e f c rest ys h k)
leads-through product a b c xs ys (back factor d e f rest at h) k = back factor d e c (rest ++ ys) at (leads-through product e f c rest ys h k)
leads-through product a b c xs ys (called f as' bs d pairs rest sa sb each h) k = called f as' bs c pairs (rest ++ ys) sa sb each (leads-through product (v.Fun f bs) d c rest ys h k)

-- ---- the steps of a way
pub way-each : (edges : List Edge) (upto i j : ℕ) (hops : List Hop) → IsWay edges upto i hops j → (k : ℕ) (hop : Hop) → slice_get hops k ≡ Some hop → hop.time < upto
way-each edges upto i j hops (stays h) k hop at = absurd (none-some hop at)
way-each edges upto i j hops (along first rest h m n less is_near is_far w) zero hop at = subst (λ (x : Hop). x.time < upto) (same_Some first hop at) less
way-each edges upto i j hops (along first rest h m n less is_near is_far w) (suc k) hop at = way-each edges upto m n rest w k hop at

first-link : (s : State) (hop : Hop) (hops : List Hop) (l : Link) (ls : List Link) → LinksHops s (hop ∷ hops) (l ∷ ls) → LinksHop s hop l
first-link s hop hops l ls h = h.1 0 hop l refl refl

rest-links : (s : State) (hop : Hop) (hops : List Hop) (l : Link) (ls : List Link) → LinksHops s (hop ∷ hops) (l ∷ ls) → LinksHops s hops ls
rest-links s hop hops l ls h = (let e = h.0 in omega (arith, e), λ k g m at_g at_m. h.1 (suc k) g m at_g at_m)

module _ (s : State) (state : IsState s) (product : U) (hold : HoldsEdges s product) (upto : ℕ) (within : upto ≤ length s.edges) where
  pub way-leads : (i j : ℕ) (hops : List Hop) (links : List Link) → IsWay s.edges upto i hops j → LinksHops s hops links → (a b : Val) → slice_get s.values i ≡ Some a → slice_get s.values j ≡ Some b
      → Leads product a links b
  way-leads i j hops [] (stays h) ls a b at_a at_b = subst (λ (x : Val). Leads product a [] x) (same_Some a b (sym at_a ∙ at_b)) (no_link a)
  way-leads i j hops (l ∷ links) (stays h) ls a b at_a at_b = let e = ls.0 in absurd (omega (arith, e))
  way-leads i j hops [] (along hop rest h m n less is_near is_far w) ls a b at_a at_b = let e = ls.0 in absurd (omega (arith, e))
  way-leads i j hops (l ∷ links) (along hop rest h m n less is_near is_far w) ls a b at_a at_b =
      let e : Edge = edge_at s.edges hop.time in
      let inside : m < length s.values =
      subst (λ (x : ℕ). x < length s.values) (sym is_far) (far-within s.values (label_at s.edges hop.time) e hop.turned (state hop.time (omega (arith, less, within)))) in
      let at_m = slice_get-get_or s.values m a inside in
      leads-through product a (get_or s.values m a) b (l ∷ []) links
      (first-link s hop rest l links ls product hold a (get_or s.values m a) (subst (λ (x : ℕ). slice_get s.values x ≡ Some a) is_near at_a)
      (subst (λ (x : ℕ). slice_get s.values x ≡ Some (get_or s.values m a)) is_far at_m))
      (way-leads m n rest links w (rest-links s hop rest l links ls) (get_or s.values m a) b at_m at_b)

pub links-of : (s : State) (upto from to : ℕ) (hops : List Hop) (links : List Link) (a b : Val) → IsState s → upto ≤ length s.edges → IsPath s upto from hops to → LinksHops s hops links
    → slice_get s.values from ≡ Some a → slice_get s.values to ≡ Some b → LinksValues s upto a b links
links-of s upto from to hops links a b state within path ls at_a at_b = record {
  leads = λ product hold. way-leads s state product hold upto within from to hops links path.way ls a b at_a at_b;
  short = omega (arith, ls.0, path.short, reach-le s.values s.edges upto from);
}

pub leads-same : (s : State) (upto : ℕ) (a b : Val) (links : List Link) → a ≡ b → links ≡ [] → LinksValues s upto a b links
leads-same s upto a b links same none = record {
  leads = λ product hold. subst (λ (ls : List Link). Leads product a ls b) (sym none) (subst (λ (x : Val). Leads product a [] x) same (no_link a));
  short = let e : length links ≡ 0 = ap length none in omega (arith, e);
}

pub hops-none : (s : State) (links : List Link) → links ≡ [] → LinksHops s [] links
hops-none s links none = (ap length none, λ k hop l at. absurd (none-some hop at))

pub hops-more : (s : State) (hops : List Hop) (links after : List Link) (hop : Hop) (l : Link) → LinksHops s hops links → LinksHop s hop l → after ≡ links ++ l ∷ [] → LinksHops s (hops ++ hop ∷ []) after
hops-more s hops links after hop l h new is = (
  ap length is ∙ length_push links l ∙ ap (λ n. n + 1) h.0 ∙ sym (length_push hops hop),
  λ k g m at_g at_m. each k g m at_g (subst (λ (ls : List Link). slice_get ls k ≡ Some m) is at_m),
)
  where
    each : (k : ℕ) (g : Hop) (m : Link) → slice_get (hops ++ hop ∷ []) k ≡ Some g → slice_get (links ++ l ∷ []) k ≡ Some m → LinksHop s g m
    each k g m at_g at_m = elim (at-push hops hop g k at_g) [
      | inl here ↦ elim (at-push links l m k at_m) [
        | inl there ↦ h.1 k g m here there
        | inr last ↦ let w = slice_get_within hops k g here in absurd (omega (arith, w, last.0, h.0))
      ]
      | inr end ↦ elim (at-push links l m k at_m) [
        | inl there ↦ let w = slice_get_within links k m there in absurd (omega (arith, w, end.0, h.0))
        | inr last ↦ subst (λ (x : Hop). LinksHop s x m) end.1 (subst (λ (x : Link). LinksHop s hop x) last.1 new)
      ]
    ]

-- ---- values that are joined
joined-of : (values : List Val) (label : ℕ → ℕ) (a b : Val) → (a ≡ b → ⊥) → Same values label a b → Joined values label a b
joined-of values label a b differ (inl is) = absurd (differ is)
joined-of values label a b differ (inr j) = j

module _ (values : List Val) (label : ℕ → ℕ) (a b : Val) (differ : a ≡ b → ⊥) (same : Same values label a b) where
  abbrev j : Joined values label a b
  j = joined-of values label a b differ same

  pub has-left : IsIn a values
  has-left = record { place = j.left; here = j.is_left.here }

  pub has-right : IsIn b values
  has-right = record { place = j.right; here = j.is_right.here }

  pub joined-at : (p q : ℕ) → FirstAt values a p → FirstAt values b q → label p ≡ label q
  joined-at p q first_a first_b = ap label (first-unique values a p j.left first_a j.is_left) ∙ j.joined ∙ ap label (first-unique values b j.right q j.is_right first_b)

-- ---- the link of a step
module _ (s : State) (hop : Hop) (within : hop.time < length s.edges) where
  abbrev e : Edge
  e = edge_at s.edges hop.time

  abbrev Reasoned : U → Val → Val → Reason → Type 0
  Reasoned product a b reason = HasReason (mul_leaves product) (standing product) s.values (label_at s.edges hop.time) a b reason

  -- the reason of the edge, for the values on its sides
  module _ (product : U) (hold : HoldsEdges s product) (a b : Val) where
    forward : (reason : Reason) → e.reason ≡ reason → slice_get s.values e.left ≡ Some a → slice_get s.values e.right ≡ Some b → Reasoned product a b reason
    forward reason is at_a at_b =
        let h = hold hop.time within in
        subst (λ (r : Reason). Reasoned product a b r) is
        (subst (λ (x : Val). Reasoned product x b e.reason) (same_Some h.from a (sym h.is_from ∙ at_a))
        (subst (λ (x : Val). Reasoned product h.from x e.reason) (same_Some h.to b (sym h.is_to ∙ at_b)) h.reason))

  one-link : (product : U) (a b : Val) (factor : ℕ) → slice_get (mul_leaves product) factor ≡ Some (a ≐ b) → Leads product a (link.Given factor false ∷ []) b
  one-link product a b factor at = forth factor a b b [] at (no_link b)

  turned-link : (product : U) (a b : Val) (factor : ℕ) → slice_get (mul_leaves product) factor ≡ Some (b ≐ a) → Leads product a (link.Given factor true ∷ []) b
  turned-link product a b factor at = back factor a b b [] at (no_link b)

  abbrev crossed : Bool → Bool → Bool
  crossed turned round = not (beq turned round)

  given-by : (factor : ℕ) (turned round : Bool) → e.reason ≡ Given factor turned → (product : U) → HoldsEdges s product → (a b : Val) → slice_get s.values (near e round) ≡ Some a
      → slice_get s.values (far e round) ≡ Some b → Leads product a (link.Given factor (crossed turned round) ∷ []) b
  given-by factor false false is product hold a b at_a at_b = one-link product a b factor (forward product hold a b (Given factor false) is at_a at_b)
  given-by factor false true is product hold a b at_a at_b = turned-link product a b factor (forward product hold b a (Given factor false) is at_b at_a)
  given-by factor true false is product hold a b at_a at_b = turned-link product a b factor (forward product hold a b (Given factor true) is at_a at_b)
  given-by factor true true is product hold a b at_a at_b = one-link product a b factor (forward product hold b a (Given factor true) is at_b at_a)

  pub given-hop : (factor : ℕ) (turned out : Bool) → e.reason ≡ Given factor turned → out ≡ crossed turned hop.turned → LinksHop s hop (link.Given factor out)
  given-hop factor turned out is out_is product hold a b at_a at_b =
      subst (λ (o : Bool). Leads product a (link.Given factor o ∷ []) b) (sym out_is) (given-by factor turned hop.turned is product hold a b at_a at_b)

  called-by : (round : Bool) → e.reason ≡ Called → (product : U) → HoldsEdges s product → (a b : Val) → slice_get s.values (near e round) ≡ Some a → slice_get s.values (far e round) ≡ Some b
      → IsIn a (standing product) × IsIn b (standing product)
  called-by false is product hold a b at_a at_b = let h = forward product hold a b Called is at_a at_b in (h.0, h.1)
  called-by true is product hold a b at_a at_b = let h = forward product hold b a Called is at_b at_a in (h.1, h.0)

  pub called-hop : (c d : Val) (pairs : List (List Link)) → e.reason ≡ Called → slice_get s.values (near e hop.turned) ≡ Some c → slice_get s.values (far e hop.turned) ≡ Some d
      → LinksCalls s c d pairs → LinksHop s hop (link.Call pairs)
  called-hop c d pairs is at_c at_d calls product hold a b at_a at_b =
      let stand = called-by hop.turned is product hold c d at_c at_d in
      let link_is = called calls.symbol calls.from calls.to (v.Fun calls.symbol calls.to) pairs []
      (subst (λ (x : Val). IsIn x (standing product)) calls.is_from stand.0) (subst (λ (x : Val). IsIn x (standing product)) calls.is_to stand.1)
      (calls.each product hold) (no_link (v.Fun calls.symbol calls.to)) in
      subst (λ (x : Val). Leads product x (link.Call pairs ∷ []) b) (sym calls.is_from ∙ same_Some c a (sym at_c ∙ at_a))
      (subst (λ (x : Val). Leads product (v.Fun calls.symbol calls.from) (link.Call pairs ∷ []) x) (sym calls.is_to ∙ same_Some d b (sym at_d ∙ at_b)) link_is)

  calls-by : IsState s → (round : Bool) → e.reason ≡ Called → (a b : Val) → slice_get s.values (near e round) ≡ Some a → slice_get s.values (far e round) ≡ Some b
      → AreCalls s.values (label_at s.edges hop.time) a b
  calls-by state false is a b at_a at_b = (state hop.time within).calls is a b at_a at_b
  calls-by state true is a b at_a at_b = calls-back s.values (label_at s.edges hop.time) b a ((state hop.time within).calls is b a at_b at_a)

  pub calls-hop : IsState s → e.reason ≡ Called → (a b : Val) → slice_get s.values (near e hop.turned) ≡ Some a → slice_get s.values (far e hop.turned) ≡ Some b
      → AreCalls s.values (label_at s.edges hop.time) a b
  calls-hop state = calls-by state hop.turned

  -- ---- and how many links it stands for
  pub given-count : (factor : ℕ) (turned out : Bool) → e.reason ≡ Given factor turned → HasCount (link.Given factor out ∷ []) (links_of_edge s hop.time)
  given-count factor turned out is = subst (λ n. HasCount (link.Given factor out ∷ []) n) (sym (edge-given s hop.time factor turned is)) (one-given factor out)

  call-count : IsState s → (round : Bool) → e.reason ≡ Called → (a b : Val) → slice_get s.values (near e round) ≡ Some a → slice_get s.values (far e round) ≡ Some b
      → links_of_edge s hop.time ≡ 1 + sum_of_pairs (links_of_values s hop.time) (arguments a) (arguments b)
  call-count state false is a b at_a at_b = edge-called s hop.time a b is at_a at_b
  call-count state true is a b at_a at_b =
      let calls = calls-by state true is a b at_a at_b in
      let from : arguments a ≡ calls.from = ap arguments calls.is_from ∙ arguments-Fun calls.symbol calls.from in
      let to : arguments b ≡ calls.to = ap arguments calls.is_to ∙ arguments-Fun calls.symbol calls.to in
      let f : Val → Val → ℕ = links_of_values s hop.time in
      let turned : sum_of_pairs f (arguments b) (arguments a) ≡ sum_of_pairs f (arguments a) (arguments b) =
      ap (λ (xs : List Val). sum_of_pairs f xs (arguments a)) to ∙ ap (λ (xs : List Val). sum_of_pairs f calls.to xs) from
      ∙ sym (same-both s state hop.time (omega (arith, within)) calls.from calls.to calls.each)
      ∙ ap (λ (xs : List Val). sum_of_pairs f xs calls.to) (sym from) ∙ ap (λ (xs : List Val). sum_of_pairs f (arguments a) xs) (sym to) in
      edge-called s hop.time b a is at_b at_a ∙ ap (λ n. 1 + n) turned

  pub called-count : IsState s → e.reason ≡ Called → (a b : Val) (pairs : List (List Link)) → slice_get s.values (near e hop.turned) ≡ Some a → slice_get s.values (far e hop.turned) ≡ Some b
      → HasCountEach pairs (sum_of_pairs (links_of_values s hop.time) (arguments a) (arguments b)) → HasCount (link.Call pairs ∷ []) (links_of_edge s hop.time)
  called-count state is a b pairs at_a at_b each =
      subst (λ n. HasCount (link.Call pairs ∷ []) n) (sym (call-count state hop.turned is a b at_a at_b)) (one-call pairs (sum_of_pairs (links_of_values s hop.time) (arguments a) (arguments b)) each)

-- the arguments as the code finds them
pub count-found : (s : State) (upto : ℕ) (a b : Val) (i j : ℕ) (xs ys : List Val) (pairs : List (List Link)) → a ≡ v.Fun i xs → b ≡ v.Fun j ys
    → HasCountEach pairs (sum_of_pairs (links_of_values s upto) xs ys) → HasCountEach pairs (sum_of_pairs (links_of_values s upto) (arguments a) (arguments b))
count-found s upto a b i j xs ys pairs is_a is_b each = subst (λ n. HasCountEach pairs n) (pairs-found (links_of_values s upto) a b i j xs ys is_a is_b) each

-- ---- pairs
pub each-more : (product : U) (xs : List Val) (pairs : List (List Link)) (ys : List Val) (a b : Val) (links : List Link) → LeadsEach product xs pairs ys → Leads product a links b
    → LeadsEach product (xs ++ a ∷ []) (pairs ++ links ∷ []) (ys ++ b ∷ [])
each-more product xs pairs ys a b links no_pair h = pair a b links [] [] [] h no_pair
each-more product xs pairs ys a b links (pair c d ls cs ds ps k ks) h = pair c d ls (cs ++ a ∷ []) (ds ++ b ∷ []) (ps ++ links ∷ []) k (each-more product cs ps ds a b links ks h)

-- the calls as the code finds them
pub calls-found : (s : State) (label : ℕ → ℕ) (a b : Val) (i j : ℕ) (xs ys : List Val) (pairs : List (List Link)) → AreCalls s.values label a b → a ≡ v.Fun i xs → b ≡ v.Fun j ys
    → LinksEach s xs ys pairs → LinksCalls s a b pairs
calls-found s label a b i j xs ys pairs calls is_a is_b each =
    let p = parts-Fun i calls.symbol xs calls.from (sym is_a ∙ calls.is_from) in
    let q = parts-Fun j calls.symbol ys calls.to (sym is_b ∙ calls.is_to) in
    record { symbol = i; from = xs; to = ys; is_from = is_a; is_to = is_b ∙ ap (λ (m : ℕ). v.Fun m ys) (q.0 ∙ sym p.0); each = each }

pub calls-same : (values : List Val) (label : ℕ → ℕ) (a b : Val) (i j : ℕ) (xs ys : List Val) → AreCalls values label a b → a ≡ v.Fun i xs → b ≡ v.Fun j ys → SameEach values label xs ys
calls-same values label a b i j xs ys h is_a is_b =
    let p = parts-Fun i h.symbol xs h.from (sym is_a ∙ h.is_from) in
    let q = parts-Fun j h.symbol ys h.to (sym is_b ∙ h.is_to) in
    subst (λ vs. SameEach values label vs ys) (sym p.1) (subst (λ vs. SameEach values label h.from vs) (sym q.1) h.each)
