-- What one edge more keeps.
use Rattle.std.proofs.Common.{◌≡◌, ℕ, ◌+◌, ◌<◌, ◌≤◌, List, [], ◌∷◌, ◌++◌, length, inl, inr, refl, ap, sym, ◌∙◌, subst, arith}
use Rattle.std.proofs.lemmas.Bool.{cases_eq}
use Rattle.std.proofs.lemmas.List.{get_or_append_left, get_or_push, length_push}
use Rattle.u_terms.specs.Syntax.{U, Val}
use Rattle.u_equal.specs.declared.forest.Edge.{Edge}
use Rattle.u_equal.specs.Joined.{renamed, no_edge, edge_at, label_at, label_now, State, IsState, IsApart, AreEdges, IsEdge, pushed}
use Rattle.u_equal.proofs.edges.Labels.{label_at-more, label_at-push, label_at-joins}
use Rattle.u_equal.proofs.edges.Relabelled.{Agree, agree-coarsens, edge-coarser, apart-agree}

module _ (s : State) (e : Edge) where
  abbrev edges : List Edge
  edges = s.edges ++ e ∷ []

  abbrev T : ℕ
  T = length s.edges

  pub long-edges : length edges ≡ T + 1
  long-edges = length_push s.edges e

  pub edge-last : edge_at edges T ≡ e
  edge-last = get_or_push s.edges e no_edge T refl

  edge-before : (k : ℕ) → k < T → edge_at edges k ≡ edge_at s.edges k
  edge-before k less = get_or_append_left s.edges (e ∷ []) no_edge k less

  agree-before : (k : ℕ) → k ≤ T → Agree (length s.values) (label_at s.edges k) (label_at edges k)
  agree-before k within i i_in = sym (label_at-push s.edges e k i within)

  -- the labels after the edge
  pub pushed-after : (i : ℕ) → label_at edges (T + 1) i ≡ renamed (label_now s e.right) (label_now s e.left) (label_now s i)
  pushed-after i =
      label_at-more edges T i
      ∙ ap (λ (x : Edge). renamed (label_at edges T x.right) (label_at edges T x.left) (label_at edges T i)) edge-last
      ∙ ap (λ m. renamed (label_at edges T e.right) (label_at edges T e.left) m) (label_at-push s.edges e T i (omega arith))
      ∙ ap (λ m. renamed m (label_at edges T e.left) (label_now s i)) (label_at-push s.edges e T e.right (omega arith))
      ∙ ap (λ m. renamed (label_now s e.right) m (label_now s i)) (label_at-push s.edges e T e.left (omega arith))

  pub pushed-joins : (i j : ℕ) → label_now s i ≡ label_now s j → label_now (pushed s e) i ≡ label_now (pushed s e) j
  pushed-joins i j same =
      ap (λ m. label_at edges m i) long-edges ∙ pushed-after i ∙ ap (λ m. renamed (label_now s e.right) (label_now s e.left) m) same ∙ sym (pushed-after j)
      ∙ ap (λ m. label_at edges m j) (sym long-edges)

  pub pushed-joined : label_now (pushed s e) e.left ≡ label_now (pushed s e) e.right
  pushed-joined =
      ap (λ m. label_at edges m e.left) long-edges
      ∙ ap (λ (x : Edge). label_at edges (T + 1) x.left) (sym edge-last)
      ∙ label_at-joins edges T
      ∙ ap (λ (x : Edge). label_at edges (T + 1) x.right) edge-last
      ∙ ap (λ m. label_at edges m e.right) (sym long-edges)

  pub pushed-state : IsState s → IsApart s.values (label_now s) e → IsState (pushed s e)
  pushed-state state apart k less = elim (cases_eq k T) [
    | inl last ↦
        subst (λ (m : ℕ). IsApart s.values (label_at edges m) (edge_at edges m)) (sym last)
        (subst (λ (x : Edge). IsApart s.values (label_at edges T) x) (sym edge-last) (apart-agree s.values (label_now s) (label_at edges T) (agree-before T (omega arith)) e apart))
    | inr other ↦
        let before : k < T = omega (arith, less, other, long-edges) in
        subst (λ (x : Edge). IsApart s.values (label_at edges k) x) (sym (edge-before k before))
        (apart-agree s.values (label_at s.edges k) (label_at edges k) (agree-before k (omega arith)) (edge_at s.edges k) (state k before))
  ]

  pub pushed-edges : (factors : List U) (calls : List Val) → AreEdges factors calls s → IsEdge factors calls s.values (label_now s) e → AreEdges factors calls (pushed s e)
  pushed-edges factors calls hold h k less = elim (cases_eq k T) [
    | inl last ↦
        subst (λ (m : ℕ). IsEdge factors calls s.values (label_at edges m) (edge_at edges m)) (sym last)
        (subst (λ (x : Edge). IsEdge factors calls s.values (label_at edges T) x) (sym edge-last)
        (edge-coarser s.values (label_now s) (label_at edges T) (agree-coarsens (length s.values) (label_now s) (label_at edges T) (agree-before T (omega arith))) factors calls e h))
    | inr other ↦
        let before : k < T = omega (arith, less, other, long-edges) in
        subst (λ (x : Edge). IsEdge factors calls s.values (label_at edges k) x) (sym (edge-before k before))
        (edge-coarser s.values (label_at s.edges k) (label_at edges k) (agree-coarsens (length s.values) (label_at s.edges k) (label_at edges k) (agree-before k (omega arith))) factors calls (edge_at s.edges k) (hold k before))
  ]
