-- There are fewer edges than values, and chains are no longer than the edges of their class.
use Rattle.std.proofs.Common.{◌≡◌, ℕ, zero, suc, ◌+◌, ◌<◌, ◌≤◌, Bool, true, List, length, inl, inr, refl, ap, sym, ◌∙◌, subst, arith, add-one, eq-eqb}
use Rattle.std.specs.Prelude.{nat_eq}
use Rattle.std.proofs.lemmas.Bool.{cases_eq, ne_eqb, eqb-true}
use Rattle.u_terms.specs.Syntax.{Val}
use Rattle.u_equal.specs.declared.forest.Edge.{Edge}
use Rattle.u_equal.specs.Joined.{edge_at, label_at, count, reach, IsApart, State, IsState}
use Rattle.u_equal.proofs.edges.Labels.{label_at-keeps, after-hit, after-other}
use Rattle.u_equal.proofs.edges.Counts.{count-bound, count-le, count-lt, count-split}

module _ (values : List Val) (edges : List Edge) where
  abbrev n : ℕ
  n = length values

  abbrev Apart : ℕ → Type 0
  Apart k = IsApart values (label_at edges k) (edge_at edges k)

  abbrev l : ℕ → ℕ → ℕ
  l k i = label_at edges k i

  at_start : (i : ℕ) → label_at edges 0 i ≡ i
  unfolding label_at
  at_start i = refl

  range-more : (k : ℕ) → Apart k → ((i : ℕ) → i < n → l k i < n) → (i : ℕ) → i < n → l (k + 1) i < n
  range-more k apart below i i_in = elim (cases_eq (l k i) (l k (edge_at edges k).right)) [
    | inl hit ↦ subst (λ (m : ℕ). m < n) (sym (after-hit edges k i hit)) (below (edge_at edges k).left apart.left_within)
    | inr other ↦ subst (λ (m : ℕ). m < n) (sym (after-other edges k i other)) (below i i_in)
  ]

  pub range : (k : ℕ) → ((j : ℕ) → j < k → Apart j) → (i : ℕ) → i < n → l k i < n
  range zero apart i i_in = subst (λ (m : ℕ). m < n) (sym (at_start i)) i_in
  range (suc k) apart i i_in = subst (λ (m : ℕ). l m i < n) (omega arith) (range-more k (apart k (omega arith)) (range k (λ j less. apart j (omega arith))) i i_in)

  idem-more : (k : ℕ) → Apart k → ((i : ℕ) → l k (l k i) ≡ l k i) → (i : ℕ) → l (k + 1) (l (k + 1) i) ≡ l (k + 1) i
  idem-more k apart again i = elim (cases_eq (l k i) (l k (edge_at edges k).right)) [
    | inl hit ↦
        let is = after-hit edges k i hit in
        let root : l k (l k (edge_at edges k).left) ≡ l k (edge_at edges k).left = again (edge_at edges k).left in
        ap (l (k + 1)) is ∙ after-other edges k (l k (edge_at edges k).left) (λ e. apart.apart (sym root ∙ e)) ∙ root ∙ sym is
    | inr other ↦
        let is = after-other edges k i other in
        ap (l (k + 1)) is ∙ after-other edges k (l k i) (λ e. other (sym (again i) ∙ e)) ∙ again i ∙ sym is
  ]

  pub idem : (k : ℕ) → ((j : ℕ) → j < k → Apart j) → (i : ℕ) → l k (l k i) ≡ l k i
  idem zero apart i = at_start (l 0 i)
  idem (suc k) apart i = subst (λ (m : ℕ). l m (l m i) ≡ l m i) (omega arith) (idem-more k (apart k (omega arith)) (idem k (λ j less. apart j (omega arith))) i)

  -- values that have their own place as a label
  abbrev roots : ℕ → ℕ
  roots k = count (λ i. nat_eq (l k i) i) n

  roots-less : (k : ℕ) → Apart k → ((j : ℕ) → j < k → Apart j) → roots (k + 1) + 1 ≤ roots k
  roots-less k apart before =
      count-lt (λ i. nat_eq (l (k + 1) i) i) (λ i. nat_eq (l k i) i) n right (range k before (edge_at edges k).right apart.right_within)
      (ne_eqb (l (k + 1) right) right (λ e. apart.apart (sym (after-hit edges k right root) ∙ e)))
      (eq-eqb (l k right) right root)
      (λ i less is. eq-eqb (l k i) i (stays i (eqb-true (l (k + 1) i) i is)))
    where
      right : ℕ
      right = l k (edge_at edges k).right

      root : l k right ≡ right
      root = idem k before (edge_at edges k).right

      stays : (i : ℕ) → l (k + 1) i ≡ i → l k i ≡ i
      stays i is = elim (cases_eq (l k i) right) [
        | inl hit ↦ absurd (apart.apart (sym (idem k before (edge_at edges k).left) ∙ ap (l k) (sym (after-hit edges k i hit) ∙ is) ∙ hit))
        | inr other ↦ sym (after-other edges k i other) ∙ is
      ]

  edges-bound : (k : ℕ) → ((j : ℕ) → j < k → Apart j) → k + roots k ≤ n
  edges-bound zero apart = omega (arith, count-bound (λ i. nat_eq (l 0 i) i) n)
  edges-bound (suc k) apart =
      let h = roots-less k (apart k (omega arith)) (λ j less. apart j (omega arith)) in
      let e : roots (k + 1) ≡ roots (suc k) = ap roots (omega arith) in
      omega (arith, h, e, edges-bound k (λ j less. apart j (omega arith)))

  -- ---- the reach of a chain
  pub reach-le : (k i : ℕ) → reach edges k i ≤ k
  reach-le k i = count-bound (λ j. nat_eq (l k (edge_at edges j).left) (l k i)) k

  pub reach-grows : (k i : ℕ) → reach edges k i ≤ reach edges (k + 1) i
  reach-grows k i =
      let e : count (λ j. nat_eq (l (k + 1) (edge_at edges j).left) (l (k + 1) i)) (k + 1) ≡ count (λ j. nat_eq (l (k + 1) (edge_at edges j).left) (l (k + 1) i)) (suc k) = ap (count (λ j. nat_eq (l (k + 1) (edge_at edges j).left) (l (k + 1) i))) (add-one k) in
      let h = count-le (λ j. nat_eq (l k (edge_at edges j).left) (l k i)) (λ j. nat_eq (l (k + 1) (edge_at edges j).left) (l (k + 1) i)) k
      (λ j less is. eq-eqb (l (k + 1) (edge_at edges j).left) (l (k + 1) i) (label_at-keeps edges k (edge_at edges j).left i (eqb-true (l k (edge_at edges j).left) (l k i) is))) in
      omega (arith, e, h)

  -- two classes that the edge joins, and the edge
  pub reach-joined : (k i j : ℕ) → (l k i ≡ l k j → ⊥) → l (k + 1) i ≡ l (k + 1) j → l (k + 1) (edge_at edges k).left ≡ l (k + 1) i
      → reach edges k i + 1 + reach edges k j ≤ reach edges (k + 1) i
  reach-joined k i j differ same left_is =
      let test : ℕ → Bool = λ m. nat_eq (l (k + 1) (edge_at edges m).left) (l (k + 1) i) in
      let e : count test (k + 1) ≡ count test (suc k) = ap (count test) (add-one k) in
      let last : test k ≡ true = eq-eqb (l (k + 1) (edge_at edges k).left) (l (k + 1) i) left_is in
      let more : count test (suc k) ≡ count test k + 1 = rw last refl in
      let h = count-split (λ m. nat_eq (l k (edge_at edges m).left) (l k i)) (λ m. nat_eq (l k (edge_at edges m).left) (l k j)) test k
      (λ m less is. eq-eqb (l (k + 1) (edge_at edges m).left) (l (k + 1) i) (label_at-keeps edges k (edge_at edges m).left i (eqb-true (l k (edge_at edges m).left) (l k i) is)))
      (λ m less is. eq-eqb (l (k + 1) (edge_at edges m).left) (l (k + 1) i) (label_at-keeps edges k (edge_at edges m).left j (eqb-true (l k (edge_at edges m).left) (l k j) is) ∙ sym same))
      (λ m less is is_too. differ (sym (eqb-true (l k (edge_at edges m).left) (l k i) is) ∙ eqb-true (l k (edge_at edges m).left) (l k j) is_too)) in
      omega (arith, e, more, h)

  pub reach-later : (k d i : ℕ) → reach edges k i ≤ reach edges (k + d) i
  reach-later k zero i = let e : reach edges (k + 0) i ≡ reach edges k i = ap (λ m. reach edges m i) (omega arith) in omega (arith, e)
  reach-later k (suc d) i =
      let e : reach edges (k + suc d) i ≡ reach edges (k + d + 1) i = ap (λ m. reach edges m i) (omega arith) in
      omega (arith, e, reach-later k d i, reach-grows (k + d) i)

pub fewer-edges : (s : State) → IsState s → length s.edges ≤ length s.values
fewer-edges s state = let h = edges-bound s.values s.edges (length s.edges) state in omega (arith, h)
