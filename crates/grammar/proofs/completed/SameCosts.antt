-- Values that are the same up to where a prefix ends have the same cost.
use Rattle.std.proofs.Common.{◌≡◌, ℕ, ◌+◌, ◌≤◌, Bool, List, [], ◌∷◌, ◌⊎◌, inl, inr, refl, sym, ◌∙◌, ap, Option, arith}
use Rattle.grammar.specs.Form.{Form, seq, alt, star, nest, map, only, nonempty, counted, fork}
use Rattle.grammar.specs.Lookahead.{PredictiveGrammar}
use Rattle.grammar.proofs.completed.Costs.{Costing, summed}
use Rattle.grammar.proofs.completed.SamePrefixes.{AlikeLists, Each, Ends, SameOf, StillOf}

zero_sum : (a b : ℕ) → a ≡ 0 → b ≡ 0 → a + b ≡ 0
zero_sum a b i j = omega (arith, i, j)

sum_grows : (a b c d : ℕ) → a ≤ c → b ≤ d → a + b ≤ c + d
sum_grows a b c d i j = omega (arith, i, j)

zero_least : (a b : ℕ) → a ≡ 0 → a ≤ b
zero_least a b i = omega (arith, i)

equals : (a b : ℕ) → a ≡ b → a ≤ b
equals a b i = omega (arith, i)

between : (a b c d : ℕ) → a ≡ b → b ≤ c → d ≡ c → a ≤ d
between a b c d i l j = omega (arith, i, l, j)

through : (a b c : ℕ) → a ≤ b → b ≤ c → a ≤ c
through a b c i j = omega (arith, i, j)

module _ {T K N : Type 0} {V : N → Type 0} (g : PredictiveGrammar T K N V) (chosen others : T → Bool) (Same : (n : N) → V n → V n → Type 0) (Still Loose : (n : N) → V n → Type 0) where
  -- the cost is no more than that of any text that goes on from the prefix, and chosen tokens have none
  pub record Even {A : Type 0} (f : Form T K N V A) (cost : A → ℕ) : Type 0 where
    pub same : (v w : A) → SameOf g chosen others Same Still Loose f v w → cost v ≤ cost w
    pub still : (v : A) → StillOf g chosen Still f v → cost v ≡ 0

  -- The form's values are functions of an X; measured at the same X they are no more, those of chosen tokens have the base of that X, and all have that or more.
  pub record Adds {B X : Type 0} (f : Form T K N V B) (measure : B → X → ℕ) (base : X → ℕ) : Type 0 where
    pub same : (v w : B) → SameOf g chosen others Same Still Loose f v w → (x : X) → measure v x ≤ measure w x
    pub still : (v : B) → StillOf g chosen Still f v → (x : X) → measure v x ≡ base x
    pub loose : (v : B) → StillOf g others Loose f v → (x : X) → base x ≤ measure v x

just_base : (m b p : ℕ) → m ≡ b + p → p ≡ 0 → m ≡ b
just_base m b p i j = omega (arith, i, j)

over_base : (m b p : ℕ) → m ≡ b + p → b ≤ m
over_base m b p i = omega (arith, i)

module _ {T K N : Type 0} {V : N → Type 0} {g : PredictiveGrammar T K N V} {chosen others : T → Bool} {Same : (n : N) → V n → V n → Type 0} {Still Loose : (n : N) → V n → Type 0} where
  even_same : {A : Type 0} {f : Form T K N V A} {a : A → ℕ} (b : A → ℕ) → Even g chosen others Same Still Loose f a → ((v : A) → b v ≡ a v) → Even g chosen others Same Still Loose f b
  even_same {a = a} b l i = record { same = λ v w s. between (b v) (a v) (a w) (b w) (i v) (l.same v w s) (i w); still = λ v s. i v ∙ l.still v s }

  even_seq : {A B : Type 0} {f : Form T K N V A} {e : Form T K N V B} {a : A → ℕ} {b : B → ℕ} → Even g chosen others Same Still Loose f a
      → Even g chosen others Same Still Loose e b → Even g chosen others Same Still Loose (seq f e) (λ v. a v.0 + b v.1)
  even_seq {f = f} {e = e} {a = a} {b = b} l m = record { same = same; still = λ v s. zero_sum (a v.0) (b v.1) (l.still v.0 s.0) (m.still v.1 s.1) }
    where
      same : (v w : _ × _) → SameOf g chosen others Same Still Loose (seq f e) v w → a v.0 + b v.1 ≤ a w.0 + b w.1
      same v w (inl (s, (r, t))) = sum_grows (a v.0) (b v.1) (a w.0) (b w.1) (l.same v.0 w.0 s) (zero_least (b v.1) (b w.1) (m.still v.1 r))
      same v w (inr (i, s)) = sum_grows (a v.0) (b v.1) (a w.0) (b w.1) (equals (a v.0) (a w.0) (ap a i)) (m.same v.1 w.1 s)

  even_alt : {A : Type 0} {f e : Form T K N V A} {a : A → ℕ} → Even g chosen others Same Still Loose f a → Even g chosen others Same Still Loose e a → Even g chosen others Same Still Loose (alt f e) a
  even_alt l m = record {
    same = λ v w s. elim s [ inl r ↦ l.same v w r | inr r ↦ m.same v w r ];
    still = λ v s. elim s [ inl r ↦ l.still v r | inr r ↦ m.still v r ];
  }

  even_nest : {A : Type 0} {f : Form T K N V A} {a : A → ℕ} → Even g chosen others Same Still Loose f a → Even g chosen others Same Still Loose (nest f) a
  even_nest l = record { same = l.same; still = l.still }

  even_map : {A B : Type 0} {f : Form T K N V A} {a : A → ℕ} (h : A → B) (b : B → ℕ) → Even g chosen others Same Still Loose f a → ((v : A) → b (h v) ≡ a v) → Even g chosen others Same Still Loose (map h f) b
  even_map {a = a} h b l i = record {
    same = λ v w s. between (b v) (a s.0) (a s.1) (b w) (ap b s.3 ∙ i s.0) (l.same s.0 s.1 s.2) (ap b s.4 ∙ i s.1);
    still = λ v s. ap b s.2 ∙ (i s.0 ∙ l.still s.0 s.1);
  }

  even_only : {A : Type 0} {f : Form T K N V A} {a : A → ℕ} (q : A → Bool) → Even g chosen others Same Still Loose f a → Even g chosen others Same Still Loose (only q f) a
  even_only q l = record { same = l.same; still = l.still }

  even_star : {A : Type 0} {f : Form T K N V A} {a : A → ℕ} (most : Option ℕ) → Even g chosen others Same Still Loose f a → Even g chosen others Same Still Loose (star most f) (summed a)
  even_star {f = f} {a = a} most l = record { same = same; still = still }
    where
      still : (vs : List _) → Each (StillOf g chosen Still f) vs → summed a vs ≡ 0
      still [] s = refl
      still (v ∷ vs) (r, s) = zero_sum (a v) (summed a vs) (l.still v r) (still vs s)

      same : (vs ws : List _) → AlikeLists (SameOf g chosen others Same Still Loose f) (StillOf g chosen Still f) (StillOf g others Loose f) vs ws → summed a vs ≤ summed a ws
      same [] ws s = absurd s
      same (v ∷ vs) [] s = absurd s
      same (v ∷ vs) (w ∷ ws) (inl (s, (r, t))) = sum_grows (a v) (summed a vs) (a w) (summed a ws) (l.same v w s) (zero_least (summed a vs) (summed a ws) (still vs r))
      same (v ∷ vs) (w ∷ ws) (inr (i, s)) = sum_grows (a v) (summed a vs) (a w) (summed a ws) (equals (a v) (a w) (ap a i)) (same vs ws s)

  pub even_counted : {A : Type 0} {f : Form T K N V A} {a : A → ℕ} → Even g chosen others Same Still Loose f a → Even g chosen others Same Still Loose (counted f) (λ v. a v.0)
  even_counted l = record { same = λ v w s. l.same v.0 w.0 s; still = λ v s. l.still v.0 s }

  module _ (own_cost : (n : N) → V n → ℕ) (same_own_cost : (n : N) (v w : V n) → Same n v w → own_cost n v ≤ own_cost n w) (still_cost : (n : N) (v : V n) → Still n v → own_cost n v ≡ 0) where
    pub even : Costing own_cost (λ A f a. Even g chosen others Same Still Loose f a)
    even = record {
      of_same = even_same;
      of_empty = record { same = λ v w s. equals 0 0 refl; still = λ v s. refl };
      of_token = λ p. record { same = λ v w s. equals 0 0 refl; still = λ v s. refl };
      of_seq = even_seq;
      of_alt = even_alt;
      of_nest = even_nest;
      of_map = even_map;
      of_only = even_only;
      of_star = even_star;
      of_ref = λ n. record { same = same_own_cost n; still = still_cost n };
    }

  -- ---- functions of what stands to the left

  pub adds_map : {A B X : Type 0} {f : Form T K N V A} (cost : X → A → ℕ) → ((x : X) → Even g chosen others Same Still Loose f (cost x)) → (h : A → B) (measure : B → X → ℕ) (base : X → ℕ)
      → ((u : A) (x : X) → measure (h u) x ≡ base x + cost x u)
      → Adds g chosen others Same Still Loose (map h f) measure base
  adds_map cost l h measure base i = record {
    same = λ v w s x. between (measure v x) (base x + cost x s.0) (base x + cost x s.1) (measure w x) (ap (λ z. measure z x) s.3 ∙ i s.0 x)
        (sum_grows (base x) (cost x s.0) (base x) (cost x s.1) (equals (base x) (base x) refl) ((l x).same s.0 s.1 s.2)) (ap (λ z. measure z x) s.4 ∙ i s.1 x);
    still = λ v s x. ap (λ z. measure z x) s.2 ∙ just_base (measure (h s.0) x) (base x) (cost x s.0) (i s.0 x) ((l x).still s.0 s.1);
    loose = λ v s x. over_base (measure v x) (base x) (cost x s.0) (ap (λ z. measure z x) s.2 ∙ i s.0 x);
  }

  -- at another X
  pub adds_at : {A B X Y : Type 0} {f : Form T K N V A} {m : A → X → ℕ} {b : X → ℕ} → Adds g chosen others Same Still Loose f m b → (h : A → B) (measure : B → Y → ℕ) (base : Y → ℕ) (at : Y → X)
      → ((u : A) (y : Y) → measure (h u) y ≡ m u (at y)) → ((y : Y) → base y ≡ b (at y)) → Adds g chosen others Same Still Loose (map h f) measure base
  adds_at {m = m} {b = b} l h measure base at i j = record {
    same = λ v w s y. between (measure v y) (m s.0 (at y)) (m s.1 (at y)) (measure w y) (ap (λ z. measure z y) s.3 ∙ i s.0 y) (l.same s.0 s.1 s.2 (at y)) (ap (λ z. measure z y) s.4 ∙ i s.1 y);
    still = λ v s y. ap (λ z. measure z y) s.2 ∙ (i s.0 y ∙ (l.still s.0 s.1 (at y) ∙ sym (j y)));
    loose = λ v s y. between (base y) (b (at y)) (m s.0 (at y)) (measure v y) (j y) (l.loose s.0 s.1 (at y)) (ap (λ z. measure z y) s.2 ∙ i s.0 y);
  }

  pub adds_alt : {B X : Type 0} {f e : Form T K N V B} {m : B → X → ℕ} {b : X → ℕ} → Adds g chosen others Same Still Loose f m b
      → Adds g chosen others Same Still Loose e m b → Adds g chosen others Same Still Loose (alt f e) m b
  adds_alt l n = record {
    same = λ v w s x. elim s [ inl r ↦ l.same v w r x | inr r ↦ n.same v w r x ];
    still = λ v s x. elim s [ inl r ↦ l.still v r x | inr r ↦ n.still v r x ];
    loose = λ v s x. elim s [ inl r ↦ l.loose v r x | inr r ↦ n.loose v r x ];
  }

  pub adds_nonempty : {B X : Type 0} {f : Form T K N V B} {m : B → X → ℕ} {b : X → ℕ} → Adds g chosen others Same Still Loose f m b → Adds g chosen others Same Still Loose (nonempty f) m b
  adds_nonempty l = record { same = l.same; still = l.still; loose = l.loose }

  -- with something behind that has a cost
  pub adds_seq : {A B X : Type 0} {f : Form T K N V B} {e : Form T K N V A} {m : B → X → ℕ} {b : X → ℕ} {cost : A → ℕ} → Adds g chosen others Same Still Loose f m b → Even g chosen others Same Still Loose e cost
      → Adds g chosen others Same Still Loose (seq f e) (λ p x. m p.0 x + cost p.1) b
  adds_seq {f = f} {e = e} {m = m} {b = b} {cost = cost} l n = record {
    same = same;
    still = λ v s x. just_base (m v.0 x + cost v.1) (b x) (cost v.1) (ap (λ z. z + cost v.1) (l.still v.0 s.0 x)) (n.still v.1 s.1);
    loose = λ v s x. more (b x) (m v.0 x) (cost v.1) (l.loose v.0 s.0 x);
  }
    where
      more : (b m p : ℕ) → b ≤ m → b ≤ m + p
      more b m p i = omega (arith, i)

      same : (v w : _ × _) → SameOf g chosen others Same Still Loose (seq f e) v w → (x : _) → m v.0 x + cost v.1 ≤ m w.0 x + cost w.1
      same v w (inl (s, (r, t))) x = sum_grows (m v.0 x) (cost v.1) (m w.0 x) (cost w.1) (l.same v.0 w.0 s x) (zero_least (cost v.1) (cost w.1) (n.still v.1 r))
      same v w (inr (i, s)) x = sum_grows (m v.0 x) (cost v.1) (m w.0 x) (cost w.1) (equals (m v.0 x) (m w.0 x) (ap (λ z. m z x) i)) (n.same v.1 w.1 s)

  -- behind something that has a cost, and moves the X
  pub adds_behind : {A B C X Y : Type 0} {f : Form T K N V A} {e : Form T K N V B} {cost : A → ℕ} {m : B → X → ℕ} {b : X → ℕ}
      → Even g chosen others Same Still Loose f cost → Adds g chosen others Same Still Loose e m b
      → (h : A × B → C) (measure : C → Y → ℕ) (base : Y → ℕ) (at : A → Y → X)
      → ((u : A × B) (y : Y) → measure (h u) y ≡ m u.1 (at u.0 y)) → ((u : A) (y : Y) → b (at u y) ≡ base y + cost u) → Adds g chosen others Same Still Loose (map h (seq f e)) measure base
  adds_behind {A = A} {B = B} {C = C} {Y = Y} {f = f} {e = e} {cost = cost} {m = m} {b = b} l n h measure base at i j = record { same = same; still = still; loose = loose }
    where
      at_rest : (u : A × B) → StillOf g chosen Still e u.1 → (y : Y) → measure (h u) y ≡ base y + cost u.0
      at_rest u r y = i u y ∙ (n.still u.1 r (at u.0 y) ∙ j u.0 y)

      over_rest : (u : A × B) → StillOf g others Loose e u.1 → (y : Y) → base y + cost u.0 ≤ measure (h u) y
      over_rest u r y = between (base y + cost u.0) (b (at u.0 y)) (m u.1 (at u.0 y)) (measure (h u) y) (sym (j u.0 y)) (n.loose u.1 r (at u.0 y)) (i u y)

      parts : (u w : A × B) → SameOf g chosen others Same Still Loose (seq f e) u w → (y : Y) → measure (h u) y ≤ measure (h w) y
      parts u w (inl (s, (r, t))) y =
          through (measure (h u) y) (base y + cost w.0) (measure (h w) y)
          (between (measure (h u) y) (base y + cost u.0) (base y + cost w.0) (base y + cost w.0) (at_rest u r y) (sum_grows (base y) (cost u.0) (base y) (cost w.0) (equals (base y) (base y) refl) (l.same u.0 w.0 s)) refl)
          (over_rest w t y)
      parts u w (inr (q, s)) y = between (measure (h u) y) (m u.1 (at u.0 y)) (m w.1 (at u.0 y)) (measure (h w) y) (i u y) (n.same u.1 w.1 s (at u.0 y)) (i w y ∙ sym (ap (λ z. m w.1 (at z y)) q))

      same : (v w : C) → SameOf g chosen others Same Still Loose (map h (seq f e)) v w → (y : Y) → measure v y ≤ measure w y
      same v w (u, u2, s, k, k2) y = between (measure v y) (measure (h u) y) (measure (h u2) y) (measure w y) (ap (λ z. measure z y) k) (parts u u2 s y) (ap (λ z. measure z y) k2)

      loose : (v : C) → StillOf g others Loose (map h (seq f e)) v → (y : Y) → base y ≤ measure v y
      loose v (u, (r, s), k) y = through (base y) (base y + cost u.0) (measure v y) (over_base (base y + cost u.0) (base y) (cost u.0) refl) (between (base y + cost u.0) (base y + cost u.0) (measure (h u) y) (measure v y) refl (over_rest u s y) (ap (λ z. measure z y) k))

      still : (v : C) → StillOf g chosen Still (map h (seq f e)) v → (y : Y) → measure v y ≡ base y
      still v (u, (r, s), k) y = ap (λ z. measure z y) k ∙ just_base (measure (h u) y) (base y) (cost u.0) (at_rest u s y) (l.still u.0 r)

  -- a function and what it is applied to
  pub applied : {A B C : Type 0} {f : Form T K N V A} {e : Form T K N V B} {cost : A → ℕ} {m : B → A → ℕ} {b : A → ℕ}
      → Even g chosen others Same Still Loose f cost → Adds g chosen others Same Still Loose e m b → (h : A × B → C) (total : C → ℕ)
      → ((u : A × B) → total (h u) ≡ m u.1 u.0) → ((u : A) → b u ≡ cost u) → Even g chosen others Same Still Loose (map h (seq f e)) total
  applied {cost = cost} l n h total i j =
      let r = adds_behind {Y = Unit {0}} l n h (λ c y. total c) (λ y. 0) (λ u y. u) (λ u y. i u) (λ u y. j u ∙ from_zero (cost u)) in
      record { same = λ v w s. r.same v w s tt; still = λ v s. r.still v s tt }
    where
      from_zero : (c : ℕ) → c ≡ 0 + c
      from_zero c = omega arith

  -- what goes by the first's value
  pub forked : {A B C : Type 0} {f : Form T K N V (A ⊎ B)} {e : Form T K N V (A → C)} {i : Form T K N V (B → C)} {cost : A ⊎ B → ℕ} → Even g chosen others Same Still Loose f cost → (total : C → ℕ)
      → Adds g chosen others Same Still Loose e (λ k a. total (k a)) (λ a. cost (inl a)) → Adds g chosen others Same Still Loose i (λ k b. total (k b)) (λ b. cost (inr b))
      → Even g chosen others Same Still Loose (fork f e i) total
  forked {A = A} {B = B} {C = C} {f = f} {e = e} {i = i} {cost = cost} l total m n = record { same = same; still = λ v s. ends s.0 v s.2 ∙ l.still s.0 s.1 }
    where
      ends : (u : A ⊎ B) (v : C) → Ends (StillOf g chosen Still e) (StillOf g chosen Still i) u v → total v ≡ cost u
      ends (inl a) v (k, s, j) = ap total j ∙ m.still k s a
      ends (inr a) v (k, s, j) = ap total j ∙ n.still k s a

      over : (u : A ⊎ B) (v : C) → Ends (StillOf g others Loose e) (StillOf g others Loose i) u v → cost u ≤ total v
      over (inl a) v (k, s, j) = between (cost (inl a)) (cost (inl a)) (total (k a)) (total v) refl (m.loose k s a) (ap total j)
      over (inr a) v (k, s, j) = between (cost (inr a)) (cost (inr a)) (total (k a)) (total v) refl (n.loose k s a) (ap total j)

      same : (v w : C) → SameOf g chosen others Same Still Loose (fork f e i) v w → total v ≤ total w
      same v w (inl (a, b, s, p, q)) = through (total v) (cost b) (total w) (between (total v) (cost a) (cost b) (cost b) (ends a v p) (l.same a b s) refl) (over b w q)
      same v w (inr (inl (a, k, k2, s, p, q))) = between (total v) (total (k a)) (total (k2 a)) (total w) (ap total p) (m.same k k2 s a) (ap total q)
      same v w (inr (inr (a, k, k2, s, p, q))) = between (total v) (total (k a)) (total (k2 a)) (total w) (ap total p) (n.same k k2 s a) (ap total q)
