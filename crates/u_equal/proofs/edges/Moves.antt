-- What joining two places keeps.
use Rattle.std.proofs.Common.{◌≡◌, ℕ, ◌+◌, ◌≤◌, List, length, inl, inr, refl, sym, ◌∙◌, subst, arith}
use Rattle.std.specs.Prelude.{Bool, true, false, Some, slice_get}
use Rattle.std.proofs.lemmas.Bool.{true≢false}
use Rattle.std.proofs.lemmas.List.{length_push}
use Rattle.std.proofs.lemmas.Option.{slice_get_within, same_Some}
use Rattle.u_terms.specs.Syntax.{U, Val}
use Rattle.u_equal.specs.declared.forest.Edge.{Edge}
use Rattle.u_equal.specs.declared.forest.Reason.{Reason}
use Rattle.u_equal.specs.declared.forest.Reason.TheVariants.{Given, Called}
use Rattle.u_equal.specs.Joined.{label_now, AreCalls, State, IsState, IsApart, AreEdges, HasReason, turned_reason, pushed, IsMoved}
use Rattle.u_equal.proofs.edges.Labels.{same-back}
use Rattle.u_equal.proofs.edges.Pushed.{pushed-joins, pushed-joined, pushed-state, pushed-edges}

pub calls-back : (values : List Val) (label : ℕ → ℕ) (a b : Val) → AreCalls values label a b → AreCalls values label b a
calls-back values label a b h = record {
  symbol = h.symbol;
  from = h.to;
  to = h.from;
  is_from = h.is_to;
  is_to = h.is_from;
  each = record { long = sym h.each.long; each = λ k c d at_c at_d. same-back values label d c (h.each.each k d c at_d at_c) };
}

reason-back : (factors : List U) (calls values : List Val) (label : ℕ → ℕ) (a b : Val) (reason : Reason) → HasReason factors calls values label a b reason
    → HasReason factors calls values label b a (turned_reason reason)
reason-back factors calls values label a b (Given factor false) h = h
reason-back factors calls values label a b (Given factor true) h = h
reason-back factors calls values label a b Called h = (h.1, h.0, calls-back values label a b h.2)

turned-called : (reason : Reason) → turned_reason reason ≡ Called → reason ≡ Called
turned-called (Given factor false) e = cc
turned-called (Given factor true) e = cc
turned-called Called e = refl

module _ (s : State) (left right : ℕ) (reason : Reason) where
  abbrev forth : Edge
  forth = record { left = left; right = right; reason = reason }

  abbrev back : Edge
  back = record { left = right; right = left; reason = turned_reason reason }

  -- what holds where nothing was done, and after an edge either way round
  pub moved-by : (P : State → Type 0) (t : State) (joined : Bool) → (label_now s left ≡ label_now s right → P s) → ((label_now s left ≡ label_now s right → ⊥) → P (pushed s forth))
      → ((label_now s left ≡ label_now s right → ⊥) → P (pushed s back)) → IsMoved left right reason s t joined → P t
  moved-by P t false stays one two m = subst P (sym m.1) (stays m.0)
  moved-by P t true stays one two m = elim m.1 [
    | inl h ↦ subst P (sym h) (one m.0)
    | inr h ↦ subst P (sym h) (two m.0)
  ]

  module _ (t : State) (joined : Bool) (m : IsMoved left right reason s t joined) where
    pub moved-values : t.values ≡ s.values
    moved-values = moved-by (λ x. x.values ≡ s.values) t joined (λ _. refl) (λ _. refl) (λ _. refl) m

    pub moved-joins : (i j : ℕ) → label_now s i ≡ label_now s j → label_now t i ≡ label_now t j
    moved-joins = moved-by (λ x. (i j : ℕ) → label_now s i ≡ label_now s j → label_now x i ≡ label_now x j) t joined (λ _ i j h. h) (λ _. pushed-joins s forth) (λ _. pushed-joins s back) m

    pub moved-same : label_now t left ≡ label_now t right
    moved-same = moved-by (λ x. label_now x left ≡ label_now x right) t joined (λ h. h) (λ _. pushed-joined s forth) (λ _. sym (pushed-joined s back)) m

    pub moved-grows : length s.edges ≤ length t.edges
    moved-grows = moved-by (λ x. length s.edges ≤ length x.edges) t joined (λ _. omega arith) (λ _. omega (arith, length_push s.edges forth)) (λ _. omega (arith, length_push s.edges back)) m

    pub moved-once : length t.edges ≤ length s.edges + 1
    moved-once = moved-by (λ x. length x.edges ≤ length s.edges + 1) t joined (λ _. omega arith) (λ _. omega (arith, length_push s.edges forth)) (λ _. omega (arith, length_push s.edges back)) m

  pub moved-pushes : (t : State) (joined : Bool) → IsMoved left right reason s t joined → joined ≡ true → (e : Edge) × (t ≡ pushed s e)
  moved-pushes t false m e = absurd (true≢false (sym e))
  moved-pushes t true m e = elim m.1 [
    | inl h ↦ (forth, h)
    | inr h ↦ (back, h)
  ]

  pub moved-stays : (t : State) (joined : Bool) → IsMoved left right reason s t joined → joined ≡ false → (label_now s left ≡ label_now s right) × (t ≡ s)
  moved-stays t false m e = m
  moved-stays t true m e = absurd (true≢false e)

  module _ (a b : Val) (at_a : slice_get s.values left ≡ Some a) (at_b : slice_get s.values right ≡ Some b) where
    calls-at : (reason ≡ Called → AreCalls s.values (label_now s) a b) → reason ≡ Called → (c d : Val) → slice_get s.values left ≡ Some c → slice_get s.values right ≡ Some d
        → AreCalls s.values (label_now s) c d
    calls-at are_calls is c d at_c at_d =
        subst (λ (x : Val). AreCalls s.values (label_now s) x d) (same_Some a c (sym at_a ∙ at_c))
        (subst (λ (x : Val). AreCalls s.values (label_now s) a x) (same_Some b d (sym at_b ∙ at_d)) (are_calls is))

    apart-forth : (reason ≡ Called → AreCalls s.values (label_now s) a b) → (label_now s left ≡ label_now s right → ⊥) → IsApart s.values (label_now s) forth
    apart-forth are_calls differ = record {
      left_within = slice_get_within s.values left a at_a;
      right_within = slice_get_within s.values right b at_b;
      apart = differ;
      calls = calls-at are_calls;
    }

    apart-back : (reason ≡ Called → AreCalls s.values (label_now s) a b) → (label_now s left ≡ label_now s right → ⊥) → IsApart s.values (label_now s) back
    apart-back are_calls differ = record {
      left_within = slice_get_within s.values right b at_b;
      right_within = slice_get_within s.values left a at_a;
      apart = λ same. differ (sym same);
      calls = λ is c d at_c at_d. calls-back s.values (label_now s) d c (calls-at are_calls (turned-called reason is) d c at_d at_c);
    }

    module _ (t : State) (joined : Bool) (m : IsMoved left right reason s t joined) where
      pub moved-state : IsState s → (reason ≡ Called → AreCalls s.values (label_now s) a b) → IsState t
      moved-state state are_calls =
          moved-by IsState t joined (λ _. state) (λ differ. pushed-state s forth state (apart-forth are_calls differ)) (λ differ. pushed-state s back state (apart-back are_calls differ)) m

      pub moved-edges : (factors : List U) (calls : List Val) → HasReason factors calls s.values (label_now s) a b reason → AreEdges factors calls s → AreEdges factors calls t
      moved-edges factors calls h hold =
          moved-by (λ x. AreEdges factors calls x) t joined (λ _. hold)
          (λ _. pushed-edges s forth factors calls hold (record { from = a; to = b; is_from = at_a; is_to = at_b; reason = h }))
          (λ _. pushed-edges s back factors calls hold (record { from = b; to = a; is_from = at_b; is_to = at_a; reason = reason-back factors calls s.values (label_now s) a b reason h })) m
