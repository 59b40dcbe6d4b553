-- Labels after one edge more, and of a list of edges that has grown.
use Rattle.std.proofs.Common.{◌≡◌, ℕ, zero, suc, ◌+◌, ◌≤◌, List, [], ◌∷◌, ◌++◌, length, inl, inr, refl, ap, sym, ◌∙◌, subst, arith, add-one, eq-eqb}
use Rattle.std.proofs.lemmas.Bool.{cases_eq, cases_order, ne_eqb}
use Rattle.std.proofs.lemmas.List.{get_or_append_left}
use Rattle.u_terms.specs.Syntax.{Val}
use Rattle.u_equal.specs.declared.forest.Edge.{Edge}
use Rattle.u_equal.specs.Joined.{renamed, no_edge, edge_at, label_at, FirstAt, Same}

pub renamed-hit : (from to c : ℕ) → c ≡ from → renamed from to c ≡ to
renamed-hit from to c is = rw (eq-eqb c from is) refl

pub renamed-other : (from to c : ℕ) → (c ≡ from → ⊥) → renamed from to c ≡ c
renamed-other from to c differ = rw (ne_eqb c from differ) refl

pub label_at-more : (edges : List Edge) (k i : ℕ)
    → label_at edges (k + 1) i ≡ renamed (label_at edges k (edge_at edges k).right) (label_at edges k (edge_at edges k).left) (label_at edges k i)
unfolding label_at
label_at-more edges k i = rw (add-one k) refl

-- what is joined stays joined
pub label_at-keeps : (edges : List Edge) (k i j : ℕ) → label_at edges k i ≡ label_at edges k j → label_at edges (k + 1) i ≡ label_at edges (k + 1) j
label_at-keeps edges k i j is =
    label_at-more edges k i ∙ ap (renamed (label_at edges k (edge_at edges k).right) (label_at edges k (edge_at edges k).left)) is ∙ sym (label_at-more edges k j)

pub label_at-later : (edges : List Edge) (k m i j : ℕ) → k ≤ m → label_at edges k i ≡ label_at edges k j → label_at edges m i ≡ label_at edges m j
label_at-later edges k zero i j less is = let e : k ≡ 0 = omega (arith, less) in subst (λ (x : ℕ). label_at edges x i ≡ label_at edges x j) e is
label_at-later edges k (suc m) i j less is = elim (cases_eq k (suc m)) [
  | inl last ↦ subst (λ (x : ℕ). label_at edges x i ≡ label_at edges x j) last is
  | inr earlier ↦ subst (λ (x : ℕ). label_at edges x i ≡ label_at edges x j) (omega arith) (label_at-keeps edges m i j (label_at-later edges k m i j (omega (arith, less, earlier)) is))
]

-- the sides of an edge are joined by it
pub label_at-joins : (edges : List Edge) (k : ℕ) → label_at edges (k + 1) (edge_at edges k).left ≡ label_at edges (k + 1) (edge_at edges k).right
label_at-joins edges k = elim (cases_eq (label_at edges k (edge_at edges k).left) (label_at edges k (edge_at edges k).right)) [
  | inl same ↦ label_at-keeps edges k (edge_at edges k).left (edge_at edges k).right same
  | inr differ ↦
      label_at-more edges k (edge_at edges k).left
      ∙ renamed-other (label_at edges k (edge_at edges k).right) (label_at edges k (edge_at edges k).left) (label_at edges k (edge_at edges k).left) differ
      ∙ sym (renamed-hit (label_at edges k (edge_at edges k).right) (label_at edges k (edge_at edges k).left) (label_at edges k (edge_at edges k).right) refl)
      ∙ sym (label_at-more edges k (edge_at edges k).right)
]

-- edges that come later change no label before
pub label_at-push : (edges : List Edge) (e : Edge) (k i : ℕ) → k ≤ length edges → label_at (edges ++ e ∷ []) k i ≡ label_at edges k i
unfolding label_at
label_at-push edges e zero i within = refl
label_at-push edges e (suc k) i within =
    let here : edge_at (edges ++ e ∷ []) k ≡ edge_at edges k = get_or_append_left edges (e ∷ []) no_edge k (omega arith) in
    rw (here, label_at-push edges e k (edge_at edges k).right (omega arith), label_at-push edges e k (edge_at edges k).left (omega arith), label_at-push edges e k i (omega arith)) refl

-- where two places are joined by an edge: they are joined before, or each is joined with a side of the edge
pub data JoinedBy (edges : List Edge) (k i j : ℕ) : Type 0 where
  before : label_at edges k i ≡ label_at edges k j → JoinedBy edges k i j
  across : label_at edges k i ≡ label_at edges k (edge_at edges k).left → label_at edges k j ≡ label_at edges k (edge_at edges k).right → JoinedBy edges k i j
  across_turned : label_at edges k i ≡ label_at edges k (edge_at edges k).right → label_at edges k j ≡ label_at edges k (edge_at edges k).left → JoinedBy edges k i j

module _ (edges : List Edge) (k : ℕ) where
  abbrev left : ℕ
  left = label_at edges k (edge_at edges k).left

  abbrev right : ℕ
  right = label_at edges k (edge_at edges k).right

  pub after-hit : (i : ℕ) → label_at edges k i ≡ right → label_at edges (k + 1) i ≡ left
  after-hit i hit = label_at-more edges k i ∙ renamed-hit right left (label_at edges k i) hit

  pub after-other : (i : ℕ) → (label_at edges k i ≡ right → ⊥) → label_at edges (k + 1) i ≡ label_at edges k i
  after-other i other = label_at-more edges k i ∙ renamed-other right left (label_at edges k i) other

  pub joined_by : (i j : ℕ) → label_at edges (k + 1) i ≡ label_at edges (k + 1) j → JoinedBy edges k i j
  joined_by i j same = elim (cases_eq (label_at edges k i) right) [
    | inl i_right ↦ elim (cases_eq (label_at edges k j) right) [
      | inl j_right ↦ before (i_right ∙ sym j_right)
      | inr j_other ↦ across_turned i_right (sym (after-other j j_other) ∙ sym same ∙ after-hit i i_right)
    ]
    | inr i_other ↦ elim (cases_eq (label_at edges k j) right) [
      | inl j_right ↦ across (sym (after-other i i_other) ∙ same ∙ after-hit j j_right) j_right
      | inr j_other ↦ before (sym (after-other i i_other) ∙ same ∙ after-other j j_other)
    ]
  ]

-- ---- values by their places
pub first-unique : (values : List Val) (a : Val) (i j : ℕ) → FirstAt values a i → FirstAt values a j → i ≡ j
first-unique values a i j p q = elim (cases_order i j) [
  | inl is ↦ is
  | inr other ↦ elim other [
    | inl less ↦ absurd (q.first i less p.here)
    | inr more ↦ absurd (p.first j more q.here)
  ]
]

pub same-back : (values : List Val) (label : ℕ → ℕ) (a b : Val) → Same values label a b → Same values label b a
same-back values label a b (inl is) = inl (sym is)
same-back values label a b (inr j) = inr (record { left = j.right; right = j.left; is_left = j.is_right; is_right = j.is_left; joined = sym j.joined })

pub same-through : (values : List Val) (label : ℕ → ℕ) (a b c : Val) → Same values label a b → Same values label b c → Same values label a c
same-through values label a b c (inl is) h = subst (λ (x : Val). Same values label x c) (sym is) h
same-through values label a b c (inr j) (inl is) = subst (λ (x : Val). Same values label a x) is (inr j)
same-through values label a b c (inr j) (inr k) =
    let one : j.right ≡ k.left = first-unique values b j.right k.left j.is_right k.is_left in
    inr (record { left = j.left; right = k.right; is_left = j.is_left; is_right = k.is_right; joined = j.joined ∙ ap label one ∙ k.joined })
