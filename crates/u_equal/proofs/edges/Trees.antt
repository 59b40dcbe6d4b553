-- The tree of places tells the labels of each time.
use Rattle.std.proofs.Common.{◌≡◌, ℕ, zero, suc, ◌+◌, ◌-◌, ◌<◌, ◌≤◌, ◌≢◌, List, [], ◌∷◌, ◌++◌, length, set, get_or-set_other, get_or-set_same, inl, inr, refl, ap, sym, ◌∙◌, subst, arith}
use Rattle.std.proofs.lemmas.Bool.{cases_eq}
use Rattle.std.proofs.lemmas.List.{length-set}
use Rattle.u_equal.specs.declared.forest.Edge.{Edge}
use Rattle.u_equal.specs.declared.forest.Place.{Place}
use Rattle.u_equal.specs.declared.forest.Place.TheVariants.{Root, Under}
use Rattle.u_equal.specs.Joined.{renamed, label_at, label_now, State, Stands, IsUnder, IsPlace, place_at, IsTreeOf}
use Rattle.u_equal.proofs.edges.Labels.{renamed-hit, renamed-other, label_at-push}
use Rattle.u_equal.proofs.edges.Pushed.{long-edges, pushed-after}

-- ---- the way up
-- how long ago the place was hung: on the way up it was ever less long ago
abbrev pub age : ℕ → Place → ℕ
age n (Root size) = 0
age n (Under to time) = n - time

module _ (n : ℕ) (edges : List Edge) (places : List Place) (tree : IsTreeOf n edges places) (i to time : ℕ) (i_in : i < n) (is : place_at places i ≡ Under to time) where
  pub under-here : IsUnder n edges i to time
  under-here = subst (λ (p : Place). IsPlace n edges i p) is (tree.each i i_in)

  young : (p : Place) → place_at places to ≡ p → age (length edges) p < length edges - time
  young (Root size) p = let past = under-here.past in omega (arith, past)
  young (Under up later) p = let past = under-here.past in omega (arith, past, tree.rising i to time up later i_in is p)

  pub younger : age (length edges) (place_at places to) < age (length edges) (place_at places i)
  younger = subst (λ (p : Place). age (length edges) (place_at places to) < age (length edges) p) (sym is) (young (place_at places to) refl)

-- a place from which the way up goes no further before this time stands for its class
pub stands-root : (n : ℕ) (edges : List Edge) (places : List Place) → IsTreeOf n edges places → (i size upto : ℕ) → i < n → upto ≤ length edges → place_at places i ≡ Root size
    → (k : ℕ) → k ≤ upto → label_at edges k i ≡ i
stands-root n edges places tree i size upto i_in within is k less =
    let h : Stands edges i = subst (λ (p : Place). IsPlace n edges i p) is (tree.each i i_in) in
    h k (omega (arith, less, within))

pub stands-under : (n : ℕ) (edges : List Edge) (places : List Place) → IsTreeOf n edges places → (i to time upto : ℕ) → i < n → place_at places i ≡ Under to time → upto ≤ time
    → (k : ℕ) → k ≤ upto → label_at edges k i ≡ i
stands-under n edges places tree i to time upto i_in is late k less = let h = under-here n edges places tree i to time i_in is in h.before k (omega (arith, less, late))

-- ---- one edge more
module _ (s : State) (e : Edge) (n : ℕ) (places : List Place) (root under size : ℕ) (tree : IsTreeOf n s.edges places) (root_is : root ≡ label_now s e.left) (under_is : under ≡ label_now s e.right)
    (root_in : root < n) (under_in : under < n) (root_stands : Stands s.edges root) (under_stands : Stands s.edges under) (apart : root ≡ under → ⊥) where
  abbrev edges : List Edge
  edges = s.edges ++ e ∷ []

  abbrev T : ℕ
  T = length s.edges

  abbrev rooted : List Place
  rooted = set places root (Root size)

  abbrev hung : List Place
  hung = set rooted under (Under root T)

  after : (i : ℕ) → label_at edges (T + 1) i ≡ renamed under root (label_now s i)
  after i = pushed-after s e i ∙ ap (λ m. renamed m (label_now s e.left) (label_now s i)) (sym under_is) ∙ ap (λ m. renamed under m (label_now s i)) (sym root_is)

  before : (k i : ℕ) → k ≤ T → label_at edges k i ≡ label_at s.edges k i
  before k i less = label_at-push s.edges e k i less

  -- a label of a class that stays
  stays : (i : ℕ) → Stands s.edges i → (i ≡ under → ⊥) → Stands edges i
  stays i stands other k less = elim (cases_eq k (T + 1)) [
    | inl last ↦
        ap (λ m. label_at edges m i) last ∙ after i ∙ ap (renamed under root) (stands T (omega arith)) ∙ renamed-other under root i other
    | inr earlier ↦ let past : k ≤ T = omega (arith, less, earlier, long-edges s e) in before k i past ∙ stands k past
  ]

  long-hung : length hung ≡ n
  long-hung = length-set rooted under (Under root T) ∙ length-set places root (Root size) ∙ tree.long

  at-under : place_at hung under ≡ Under root T
  at-under = get_or-set_same rooted under (Under root T) (Root 0) (omega (arith, under_in, tree.long, length-set places root (Root size)))

  at-root : place_at hung root ≡ Root size
  at-root = let other : root ≢ under = apart in
      get_or-set_other rooted under root (Under root T) (Root 0) other ∙ get_or-set_same places root (Root size) (Root 0) (omega (arith, root_in, tree.long))

  at-other : (i : ℕ) → (i ≡ root → ⊥) → (i ≡ under → ⊥) → place_at hung i ≡ place_at places i
  at-other i not_root not_under = let one : i ≢ under = not_under in let two : i ≢ root = not_root in
      get_or-set_other rooted under i (Under root T) (Root 0) one ∙ get_or-set_other places root i (Root size) (Root 0) two

  under-now : IsUnder n edges under root T
  under-now = record {
    within = root_in;
    past = omega (arith, long-edges s e);
    before = λ k less. before k under less ∙ under_stands k less;
    after = λ k late within.
        let last : k ≡ T + 1 = omega (arith, late, within, long-edges s e) in
        ap (λ m. label_at edges m under) last ∙ after under ∙ ap (renamed under root) (under_stands T (omega arith)) ∙ renamed-hit under root under refl
        ∙ sym (ap (λ m. label_at edges m root) last ∙ after root ∙ ap (renamed under root) (root_stands T (omega arith)) ∙ renamed-other under root root apart);
  }

  kept : (i : ℕ) (p : Place) → IsPlace n s.edges i p → (i ≡ under → ⊥) → IsPlace n edges i p
  kept i (Root size) h other = stays i h other
  kept i (Under to time) h other = record {
    within = h.within;
    past = omega (arith, h.past, long-edges s e);
    before = λ k less. let past = h.past in before k i (omega (arith, less, past)) ∙ h.before k less;
    after = λ k late within. elim (cases_eq k (T + 1)) [
      | inl last ↦
          ap (λ m. label_at edges m i) last ∙ after i ∙ ap (renamed under root) (h.after T (let past = h.past in omega (arith, past)) (omega arith))
          ∙ sym (ap (λ m. label_at edges m to) last ∙ after to)
      | inr earlier ↦ let past : k ≤ T = omega (arith, within, earlier, long-edges s e) in before k i past ∙ h.after k late past ∙ sym (before k to past)
    ];
  }

  each-hung : (i : ℕ) → i < n → IsPlace n edges i (place_at hung i)
  each-hung i i_in = elim (cases_eq i under) [
    | inl is ↦ subst (λ (m : ℕ). IsPlace n edges m (place_at hung m)) (sym is) (subst (λ (p : Place). IsPlace n edges under p) (sym at-under) under-now)
    | inr not_under ↦ elim (cases_eq i root) [
      | inl is ↦ subst (λ (m : ℕ). IsPlace n edges m (place_at hung m)) (sym is) (subst (λ (p : Place). IsPlace n edges root p) (sym at-root) (stays root root_stands apart))
      | inr not_root ↦ subst (λ (p : Place). IsPlace n edges i p) (sym (at-other i not_root not_under)) (kept i (place_at places i) (tree.each i i_in) not_under)
    ]
  ]

  -- a root is not hung
  root-is-not : (size to time : ℕ) → Root size ≡ Under to time → ⊥
  root-is-not size to time e = cc

  same-under : (to time up later : ℕ) → Under to time ≡ Under up later → (to ≡ up) × (time ≡ later)
  same-under to time up later e = (cc, cc)

  past-here : (i to time : ℕ) → i < n → (i ≡ root → ⊥) → (i ≡ under → ⊥) → place_at hung i ≡ Under to time → time < T
  past-here i to time i_in not_root not_under is = (under-here n s.edges places tree i to time i_in (sym (at-other i not_root not_under) ∙ is)).past

  rising-other : (i to time up later : ℕ) → i < n → (i ≡ root → ⊥) → (i ≡ under → ⊥) → place_at hung i ≡ Under to time → place_at hung to ≡ Under up later → time < later
  rising-other i to time up later i_in not_root not_under is next = elim (cases_eq to under) [
    | inl at ↦
        let e = same-under root T up later (sym at-under ∙ ap (place_at hung) (sym at) ∙ next) in
        omega (arith, e.1, past-here i to time i_in not_root not_under is)
    | inr to_other ↦ elim (cases_eq to root) [
      | inl at ↦ absurd (root-is-not size up later (sym at-root ∙ ap (place_at hung) (sym at) ∙ next))
      | inr to_free ↦ tree.rising i to time up later i_in (sym (at-other i not_root not_under) ∙ is) (sym (at-other to to_free to_other) ∙ next)
    ]
  ]

  rising-hung : (i to time up later : ℕ) → i < n → place_at hung i ≡ Under to time → place_at hung to ≡ Under up later → time < later
  rising-hung i to time up later i_in is next = elim (cases_eq i under) [
    | inl at ↦
        let e = same-under root T to time (sym at-under ∙ ap (place_at hung) (sym at) ∙ is) in
        absurd (root-is-not size up later (sym at-root ∙ ap (place_at hung) e.0 ∙ next))
    | inr not_under ↦ elim (cases_eq i root) [
      | inl at ↦ absurd (root-is-not size to time (sym at-root ∙ ap (place_at hung) (sym at) ∙ is))
      | inr not_root ↦ rising-other i to time up later i_in not_root not_under is next
    ]
  ]

  pub tree-hung : IsTreeOf n edges hung
  tree-hung = record { long = long-hung; each = each-hung; rising = rising-hung }

-- ---- places without edges
at_start : (edges : List Edge) (k i : ℕ) → edges ≡ [] → k ≤ length edges → label_at edges k i ≡ i
unfolding label_at
at_start edges zero i none within = refl
at_start edges (suc k) i none within = let e : length edges ≡ 0 = ap length none in absurd (omega (arith, within, e))

pub tree-fresh : (n : ℕ) (edges : List Edge) (places : List Place) → edges ≡ [] → length places ≡ n → ((i : ℕ) → i < n → place_at places i ≡ Root 1) → IsTreeOf n edges places
tree-fresh n edges places none long roots = record {
  long = long;
  each = λ i i_in. subst (λ (p : Place). IsPlace n edges i p) (sym (roots i i_in)) (λ k within. at_start edges k i none within);
  rising = λ i to time up later i_in is next. absurd (fresh-not to time (sym (roots i i_in) ∙ is));
}
  where
    fresh-not : (to time : ℕ) → Root 1 ≡ Under to time → ⊥
    fresh-not to time e = cc
