-- What a chain between two values says, and how many links it has where no call stands in the product.
use Rattle.std.proofs.Common.{◌≡◌, ℕ, zero, suc, ◌+◌, ◌<◌, ◌≤◌, List, length, inl, inr, refl, ap, sym, ◌∙◌, subst, arith}
use Rattle.std.specs.Prelude.{Some, count_by, nat_eq, Result, Ok, Err, IfOk}
use Rattle.std.proofs.lemmas.Bool.{cases_eq}
use Rattle.u_terms.specs.Syntax.{U, Val}
use Rattle.u_rules.specs.Terms.{mul_leaves}
use Rattle.u_equal.specs.declared.forest.Forest.{Forest}
use Rattle.u_equal.specs.declared.forest.Reason.{Reason}
use Rattle.u_equal.specs.declared.forest.Reason.TheVariants.{Given, Called}
use Rattle.u_equal.specs.declared.link.Link.{Link}
use Rattle.u_equal.specs.Standing.{standing, IsIn}
use Rattle.u_equal.specs.Links.{HasCount, HasNoCall, Nests, is_equality}
use Rattle.u_equal.specs.LinkCounts.{links_between, links_of_edge, links_of_values, IsRoute}
use Rattle.u_equal.specs.Routes.{Course, IsChain, IsDistance, IsFrom}
use Rattle.u_equal.specs.Chains.{LinksValues}
use Rattle.u_equal.specs.Joined.{edge_at, label_at, label_now, count, reach, seen, Same, AreClasses, AreEdges, AreSame, HasReason, State, IsState}
use Rattle.u_equal.proofs.entailment.Answered.{classes-sound}
use Rattle.u_equal.proofs.edges.Labels.{label_at-keeps, label_at-joins, joined_by, before, across, across_turned}
use Rattle.u_equal.proofs.links.LinkNumbers.{links-none, links-kept, links-forth, links-back, links-same, links-at, edge-given}
use Rattle.u_equal.proofs.links.Nested.{nests-wider}
use Rattle.u_equal.proofs.edges.Reaches.{reach-grows, reach-joined, reach-le}

-- ---- the chain
module _ (product : U) (forest : Forest) (classes : AreClasses product forest) (a b : Val) (same : AreSame (seen forest) a b) where
  pub is-distance : IsDistance product a b (links_of_values (seen forest) (length forest.edges.items) a b)
  is-distance = record { joined = seen forest; once = classes.once; state = classes.state; edges_hold = classes.edges_hold; same = same; is = refl }

  pub chain-of : (links : List Link) → LinksValues (seen forest) (length forest.edges.items) a b links → HasCount links (links_of_values (seen forest) (length forest.edges.items) a b)
      → Nests (length forest.edges.items) links → IsChain product a b (Some links)
  chain-of links h counted nested = (
    h.leads product classes.edges_hold,
    λ none. let few = classes.few none in omega (arith, h.short, few),
    nests-wider (length forest.edges.items) (length (standing product)) links classes.narrow nested,
    record { number = links_of_values (seen forest) (length forest.edges.items) a b; is = is-distance; counted = counted },
  )

  pub chain-ok : {E : Type 0} (r : Result (List Link) E) → IfOk r (λ links. LinksValues (seen forest) (length forest.edges.items) a b links)
      → IfOk r (λ links. HasCount links (links_of_values (seen forest) (length forest.edges.items) a b)) → IfOk r (λ links. Nests (length forest.edges.items) links) → IfOk r (λ links. IsChain product a b (Some links))
  chain-ok (Ok links) h counted nested = chain-of links h counted nested
  chain-ok (Err e) h counted nested = tt

-- what is told of the chain before it is made
pub from-route : (product : U) (forest : Forest) (a b : Val) (number : ℕ) → IsRoute product forest a b number → (course : Course) → course ≡ record { product = product; from = a; to = b; links = number } → IsFrom course product a b
from-route product forest a b number h course is = record {
  product_is = ap (λ (c : Course). c.product) is;
  from_is = ap (λ (c : Course). c.from) is;
  to_is = ap (λ (c : Course). c.to) is;
  entailed = classes-sound product forest h.classes a b h.same;
  number = links_of_values (seen forest) (length forest.edges.items) a b;
  distance = is-distance product forest h.classes a b h.same;
  links_are = ap (λ (c : Course). c.links) is ∙ h.is;
}

-- ---- where no edge is of calls
abbrev AreGiven : State → Type 0
AreGiven s = (k : ℕ) → k < length s.edges → (edge_at s.edges k).reason ≡ Called → ⊥

one-by : (s : State) (k : ℕ) → ((edge_at s.edges k).reason ≡ Called → ⊥) → (reason : Reason) → (edge_at s.edges k).reason ≡ reason → links_of_edge s k ≡ 1
one-by s k given (Given factor turned) is = edge-given s k factor turned is
one-by s k given Called is = absurd (given is)

module _ (s : State) (state : IsState s) (given : AreGiven s) where
  abbrev l : ℕ → ℕ → ℕ
  l k i = label_at s.edges k i

  one-edge : (k : ℕ) → k < length s.edges → links_of_edge s k ≡ 1
  one-edge k within = one-by s k (given k within) (edge_at s.edges k).reason refl

  abbrev AreShort : ℕ → Type 0
  AreShort k = (i j : ℕ) → l k i ≡ l k j → links_between s k i j ≤ reach s.edges k i

  short-more : (k : ℕ) → k < length s.edges → AreShort k → AreShort (k + 1)
  short-more k within h i j same = elim (cases_eq (l k i) (l k j)) [
    | inl joined ↦ omega (arith, links-kept s k i j joined, h i j joined, reach-grows s.values s.edges k i)
    | inr apart ↦ elim (joined_by s.edges k i j same) [
      | before joined ↦ absurd (apart joined)
      | across at_left at_right ↦
          let first = h i (edge_at s.edges k).left at_left in
          let last = h (edge_at s.edges k).right j (sym at_right) in
          let whole = reach-joined s.values s.edges k i j apart same (sym (label_at-keeps s.edges k i (edge_at s.edges k).left at_left)) in
          let there = ap (λ m. m) (links-forth s k i j apart at_left) in
          omega (arith, there, first, last, whole, one-edge k within, same-reach k (edge_at s.edges k).right j (sym at_right))
      | across_turned at_right at_left ↦
          let first = h i (edge_at s.edges k).right at_right in
          let last = h (edge_at s.edges k).left j (sym at_left) in
          let left_is = label_at-joins s.edges k ∙ sym (label_at-keeps s.edges k i (edge_at s.edges k).right at_right) in
          let whole = reach-joined s.values s.edges k i j apart same left_is in
          let there = links-back s k i j apart (λ e. apart (e ∙ sym at_left)) in
          omega (arith, there, first, last, whole, one-edge k within, same-reach k (edge_at s.edges k).left j (sym at_left))
    ]
  ]
    where
      same-reach : (k i j : ℕ) → l k i ≡ l k j → reach s.edges k i ≡ reach s.edges k j
      same-reach k i j is = ap (λ m. count (λ e. nat_eq (l k (edge_at s.edges e).left) m) k) is

  all-short : (k : ℕ) → k ≤ length s.edges → AreShort k
  all-short zero within i j same = omega (arith, links-none s i j)
  all-short (suc k) within i j same =
      let more = short-more k (omega (arith, within)) (all-short k (omega (arith, within))) in
      subst AreShort (omega arith) more i j same

  values-short : (a b : Val) → Same s.values (label_now s) a b → links_of_values s (length s.edges) a b ≤ length s.edges
  values-short a b (inl same) = omega (arith, links-same s (length s.edges) a b same)
  values-short a b (inr j) =
      let h = all-short (length s.edges) (omega arith) j.left j.right j.joined in
      omega (arith, links-at s (length s.edges) a b j.left j.right j.is_left j.is_right, h, reach-le s.values s.edges (length s.edges) j.left)

-- ---- where no call stands
no-reason : (factors : List U) (calls values : List Val) (label : ℕ → ℕ) (a b : Val) (reason : Reason) → HasNoCall calls → HasReason factors calls values label a b reason → reason ≡ Called → ⊥
no-reason factors calls values label a b (Given factor turned) none h is = cc
no-reason factors calls values label a b Called none h is = let are = h.2 in none are.symbol are.from (subst (λ (x : Val). IsIn x calls) are.is_from h.0)

no-called : (factors : List U) (calls : List Val) (s : State) → HasNoCall calls → AreEdges factors calls s → AreGiven s
no-called factors calls s none hold k within is =
    let h = hold k within in
    no-reason factors calls s.values (label_at s.edges k) h.from h.to (edge_at s.edges k).reason none h.reason is

pub route-few : (product : U) (forest : Forest) (a b : Val) (number : ℕ) → IsRoute product forest a b number → HasNoCall (standing product) → number ≤ count_by is_equality (mul_leaves product)
route-few product forest a b number h none =
    let classes = h.classes in
    let given = no-called (mul_leaves product) (standing product) (seen forest) none classes.edges_hold in
    let few = classes.few none in
    omega (arith, h.is, values-short (seen forest) classes.state given a b h.same, few)
