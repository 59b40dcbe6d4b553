-- Forms that spell the same where the names have given languages: how a production may be written in another way.
use Rattle.std.proofs.Common.{◌≡◌, ℕ, zero, suc, ◌+◌, List, ◌++◌, length, length-append, inl, inr, refl, sym, ◌∙◌, ap, subst, append_assoc, Some, None, arith}
use Rattle.grammar.specs.Language.{Language, Includes}
use Rattle.grammar.specs.Form.{Form, Room, seq, alt, nest, map, counted, form_language}
use Rattle.grammar.proofs.languages.Forms.{includes_itself, includes_through, map_in, counted_in, seq_in}

abbrev pub regrouped : {A B C : Type 0} → A × (B × C) → (A × B) × C
regrouped p = ((p.0, p.1.0), p.1.1)

abbrev pub counted_both : {A B : Type 0} → (A × ℕ) × (B × ℕ) → (A × B) × ℕ
counted_both p = ((p.0.0, p.1.0), p.0.1 + p.1.1)

module _ {T K N : Type 0} {V : N → Type 0} (kind : T → K) (E : Room → (n : N) → Language T (V n)) {A : Type 0} (f g : Form T K N V A) where
  -- what f spells and begins, g does, with every room
  abbrev Under : Type 0
  Under = (room : Room) → Includes (form_language kind E room g) (form_language kind E room f)

  pub record Below : Type 0 where
    pub holds : Under

module _ {T K N : Type 0} {V : N → Type 0} (kind : T → K) (E : Room → (n : N) → Language T (V n)) {A : Type 0} (f g : Form T K N V A) where
  pub record Alike : Type 0 where
    pub there : Under kind E f g
    pub back : Under kind E g f

module _ {T K N : Type 0} {V : N → Type 0} {kind : T → K} {E : Room → (n : N) → Language T (V n)} where
  pub itself : {A : Type 0} (f : Form T K N V A) → Below kind E f f
  itself f = record { holds = λ room. includes_itself _ }

  pub through : {A : Type 0} {f g h : Form T K N V A} → Below kind E f g → Below kind E g h → Below kind E f h
  through l m = record { holds = λ room. includes_through _ _ _ (l.holds room) (m.holds room) }

  pub of_alike : {A : Type 0} {f g : Form T K N V A} → Alike kind E f g → Below kind E f g
  of_alike a = record { holds = a.there }

  pub to_alike : {A : Type 0} {f g : Form T K N V A} → Alike kind E f g → Below kind E g f
  to_alike a = record { holds = a.back }

  -- ---- in a place

  pub below_map : {A B : Type 0} {f g : Form T K N V A} (h : A → B) → Below kind E f g → Below kind E (map h f) (map h g)
  below_map h l = record { holds = λ room. map_in _ _ (l.holds room) h }

  pub below_counted : {A : Type 0} {f g : Form T K N V A} → Below kind E f g → Below kind E (counted f) (counted g)
  below_counted l = record { holds = λ room. counted_in _ _ (l.holds room) }

  pub below_seq : {A B : Type 0} {f f' : Form T K N V A} {g g' : Form T K N V B} → Below kind E f f' → Below kind E g g' → Below kind E (seq f g) (seq f' g')
  below_seq l m = record { holds = λ room. seq_in _ _ _ _ (l.holds room) (m.holds room) }

  pub below_nest : {A : Type 0} {f g : Form T K N V A} → Below kind E f g → Below kind E (nest f) (nest g)
  below_nest {f = f} {g = g} l = record { holds = holds }
    where
      holds : Under kind E (nest f) (nest g)
      holds None = l.holds None
      holds (Some zero) = includes_itself _
      holds (Some (suc levels)) = l.holds (Some levels)

  -- what stands in either of two stands in the third
  pub either : {A : Type 0} {f g h : Form T K N V A} → Below kind E f h → Below kind E g h → Below kind E (alt f g) h
  either l m = record {
    holds = λ room. record {
      spells = λ ts v s. elim s [ inl a ↦ (l.holds room).spells ts v a | inr b ↦ (m.holds room).spells ts v b ];
      prefix = λ ts s. elim s [ inl a ↦ (l.holds room).prefix ts a | inr b ↦ (m.holds room).prefix ts b ];
    };
  }

  pub at_first : {A : Type 0} {f g : Form T K N V A} (h : Form T K N V A) → Below kind E f g → Below kind E f (alt g h)
  at_first h l = record { holds = λ room. record { spells = λ ts v s. inl ((l.holds room).spells ts v s); prefix = λ ts s. inl ((l.holds room).prefix ts s) } }

  pub at_second : {A : Type 0} {f h : Form T K N V A} (g : Form T K N V A) → Below kind E f h → Below kind E f (alt g h)
  at_second g l = record { holds = λ room. record { spells = λ ts v s. inr ((l.holds room).spells ts v s); prefix = λ ts s. inr ((l.holds room).prefix ts s) } }

  pub below_alt : {A : Type 0} {f f' g g' : Form T K N V A} → Below kind E f f' → Below kind E g g' → Below kind E (alt f g) (alt f' g')
  below_alt {f' = f'} {g' = g'} l m = either (at_first g' l) (at_second f' m)

  -- ---- alike

  pub both_below : {A : Type 0} {f g : Form T K N V A} → Below kind E f g → Below kind E g f → Alike kind E f g
  both_below l m = record { there = l.holds; back = m.holds }

  pub alike_itself : {A : Type 0} (f : Form T K N V A) → Alike kind E f f
  alike_itself f = both_below (itself f) (itself f)

  pub flip : {A : Type 0} {f g : Form T K N V A} → Alike kind E f g → Alike kind E g f
  flip a = record { there = a.back; back = a.there }

  pub chain : {A : Type 0} {f g h : Form T K N V A} → Alike kind E f g → Alike kind E g h → Alike kind E f h
  chain a b = both_below (through (of_alike a) (of_alike b)) (through (to_alike b) (to_alike a))

  pub alike_map : {A B : Type 0} {f g : Form T K N V A} (h : A → B) → Alike kind E f g → Alike kind E (map h f) (map h g)
  alike_map h a = both_below (below_map h (of_alike a)) (below_map h (to_alike a))

  pub alike_first : {A B : Type 0} {f g : Form T K N V A} (i : Form T K N V B) → Alike kind E f g → Alike kind E (seq f i) (seq g i)
  alike_first i a = both_below (below_seq (of_alike a) (itself i)) (below_seq (to_alike a) (itself i))

  pub alike_second : {A B : Type 0} {f g : Form T K N V A} (i : Form T K N V B) → Alike kind E f g → Alike kind E (seq i f) (seq i g)
  alike_second i a = both_below (below_seq (itself i) (of_alike a)) (below_seq (itself i) (to_alike a))

  pub alike_alt : {A : Type 0} {f g h i : Form T K N V A} → Alike kind E f g → Alike kind E h i → Alike kind E (alt f h) (alt g i)
  alike_alt a b = both_below (below_alt (of_alike a) (of_alike b)) (below_alt (to_alike a) (to_alike b))

  -- each part of what is alike two of them
  pub first_part : {A : Type 0} {f g h : Form T K N V A} → Alike kind E f (alt g h) → Below kind E g f
  first_part {g = g} {h = h} a = through (at_first h (itself g)) (to_alike a)

  pub second_part : {A : Type 0} {f g h : Form T K N V A} → Alike kind E f (alt g h) → Below kind E h f
  second_part {g = g} {h = h} a = through (at_second g (itself h)) (to_alike a)

  pub alike_nest : {A : Type 0} {f g : Form T K N V A} → Alike kind E f g → Alike kind E (nest f) (nest g)
  alike_nest a = both_below (below_nest (of_alike a)) (below_nest (to_alike a))

  pub alike_counted : {A : Type 0} {f g : Form T K N V A} → Alike kind E f g → Alike kind E (counted f) (counted g)
  alike_counted a = both_below (below_counted (of_alike a)) (below_counted (to_alike a))

  -- ---- values

  pub map_map : {A B C : Type 0} (h : B → C) (k : A → B) (f : Form T K N V A) → Alike kind E (map h (map k f)) (map (λ x. h (k x)) f)
  map_map h k f = record {
    there = λ room. record { spells = λ ts v s. (s.1.0, s.1.1, s.2 ∙ ap h s.1.2); prefix = λ ts a. a };
    back = λ room. record { spells = λ ts v s. (k s.0, (s.0, s.1, refl), s.2); prefix = λ ts a. a };
  }

  module _ {A B C : Type 0} (h : A → C) (f : Form T K N V A) (g : Form T K N V B) where
    pub seq_map : Alike kind E (seq (map h f) g) (map (λ p. (h p.0, p.1)) (seq f g))
    seq_map = record {
      there = λ room. record {
        spells = λ ts v s. ((s.3.0, v.1), (s.0, s.1, s.2, s.3.1, s.4), ap (λ z. (z, v.1)) s.3.2);
        prefix = λ ts a. elim a [ inl b ↦ inl b | inr b ↦ inr (b.0, b.1, b.4.0, b.3, b.4.1, b.5) ];
      };
      back = λ room. record {
        spells = λ ts v s. subst ((form_language kind E room (seq (map h f) g)).spells ts) (sym s.2) (s.1.0, s.1.1, s.1.2, (s.0.0, s.1.3, refl), s.1.4);
        prefix = λ ts a. elim a [ inl b ↦ inl b | inr b ↦ inr (b.0, b.1, h b.2, b.3, (b.2, b.4, refl), b.5) ];
      };
    }

    pub seq_with_map : Alike kind E (seq g (map h f)) (map (λ p. (p.0, h p.1)) (seq g f))
    seq_with_map = record {
      there = λ room. record {
        spells = λ ts v s. ((v.0, s.4.0), (s.0, s.1, s.2, s.3, s.4.1), ap (λ z. (v.0, z)) s.4.2);
        prefix = λ ts a. a;
      };
      back = λ room. record {
        spells = λ ts v s. subst ((form_language kind E room (seq g (map h f))).spells ts) (sym s.2) (s.1.0, s.1.1, s.1.2, s.1.3, (s.0.1, s.1.4, refl));
        prefix = λ ts a. a;
      };
    }

  pub map_alt : {A B : Type 0} (h : A → B) (f g : Form T K N V A) → Alike kind E (map h (alt f g)) (alt (map h f) (map h g))
  map_alt h f g =
      both_below (record { holds = λ room. record { spells = λ ts v s. elim s.1 [ inl a ↦ inl (s.0, a, s.2) | inr b ↦ inr (s.0, b, s.2) ]; prefix = λ ts a. a } })
      (either (below_map h (at_first g (itself f))) (below_map h (at_second f (itself g))))

  -- ---- sequences

  module _ {A B C : Type 0} (f : Form T K N V A) (g : Form T K N V B) (i : Form T K N V C) where
    pub seq_seq : Alike kind E (seq (seq f g) i) (map regrouped (seq f (seq g i)))
    seq_seq = record { there = λ room. record { spells = there room; prefix = there_prefix room }; back = λ room. record { spells = back room; prefix = back_prefix room } }
      where
        there : (room : Room) (ts : List T) (v : (A × B) × C) → (form_language kind E room (seq (seq f g) i)).spells ts v → (form_language kind E room (map regrouped (seq f (seq g i)))).spells ts v
        there room ts v (x, y, e, (x1, y1, e1, s, r), q) =
            ((v.0.0, (v.0.1, v.1)), (x1, y1 ++ y, e ∙ (ap (λ z. z ++ y) e1 ∙ append_assoc x1 y1 y), s, (y1, y, refl, r, q)), refl)

        there_prefix : (room : Room) (ts : List T) → (form_language kind E room (seq (seq f g) i)).prefix ts → (form_language kind E room (seq f (seq g i))).prefix ts
        there_prefix room ts (inl (inl a)) = inl a
        there_prefix room ts (inl (inr (x, y, v, e, s, a))) = inr (x, y, v, e, s, inl a)
        there_prefix room ts (inr (x, y, v, e, (x1, y1, e1, s, r), a)) =
            inr (x1, y1 ++ y, v.0, e ∙ (ap (λ z. z ++ y) e1 ∙ append_assoc x1 y1 y), s, inr (y1, y, v.1, refl, r, a))

        back : (room : Room) (ts : List T) (v : (A × B) × C) → (form_language kind E room (map regrouped (seq f (seq g i)))).spells ts v → (form_language kind E room (seq (seq f g) i)).spells ts v
        back room ts v (u, (x, y, e, s, (y1, z, e1, r, q)), j) =
            subst ((form_language kind E room (seq (seq f g) i)).spells ts) (sym j)
            (x ++ y1, z, e ∙ (ap (λ w. x ++ w) e1 ∙ sym (append_assoc x y1 z)), (x, y1, refl, s, r), q)

        back_prefix : (room : Room) (ts : List T) → (form_language kind E room (seq f (seq g i))).prefix ts → (form_language kind E room (seq (seq f g) i)).prefix ts
        back_prefix room ts (inl a) = inl (inl a)
        back_prefix room ts (inr (x, y, v, e, s, inl a)) = inl (inr (x, y, v, e, s, a))
        back_prefix room ts (inr (x, y, v, e, s, inr (y1, z, w, e1, r, a))) =
            inr (x ++ y1, z, (v, w), e ∙ (ap (λ u. x ++ u) e1 ∙ sym (append_assoc x y1 z)), (x, y1, refl, s, r), a)

  module _ {A B : Type 0} (f g : Form T K N V A) (i : Form T K N V B) where
    pub alt_seq : Alike kind E (seq (alt f g) i) (alt (seq f i) (seq g i))
    alt_seq =
        both_below (record { holds = λ room. record { spells = λ ts v s. elim s.3 [ inl a ↦ inl (s.0, s.1, s.2, a, s.4) | inr b ↦ inr (s.0, s.1, s.2, b, s.4) ]; prefix = prefix room } })
        (either (below_seq (at_first g (itself f)) (itself i)) (below_seq (at_second f (itself g)) (itself i)))
      where
        prefix : (room : Room) (ts : List T) → (form_language kind E room (seq (alt f g) i)).prefix ts → (form_language kind E room (alt (seq f i) (seq g i))).prefix ts
        prefix room ts (inl (inl a)) = inl (inl a)
        prefix room ts (inl (inr a)) = inr (inl a)
        prefix room ts (inr (x, y, v, e, inl s, a)) = inl (inr (x, y, v, e, s, a))
        prefix room ts (inr (x, y, v, e, inr s, a)) = inr (inr (x, y, v, e, s, a))

    pub seq_alt : Alike kind E (seq i (alt f g)) (alt (seq i f) (seq i g))
    seq_alt =
        both_below (record { holds = λ room. record { spells = λ ts v s. elim s.4 [ inl a ↦ inl (s.0, s.1, s.2, s.3, a) | inr b ↦ inr (s.0, s.1, s.2, s.3, b) ]; prefix = prefix room } })
        (either (below_seq (itself i) (at_first g (itself f))) (below_seq (itself i) (at_second f (itself g))))
      where
        prefix : (room : Room) (ts : List T) → (form_language kind E room (seq i (alt f g))).prefix ts → (form_language kind E room (alt (seq i f) (seq i g))).prefix ts
        prefix room ts (inl a) = inl (inl a)
        prefix room ts (inr (x, y, v, e, s, inl a)) = inl (inr (x, y, v, e, s, a))
        prefix room ts (inr (x, y, v, e, s, inr a)) = inr (inr (x, y, v, e, s, a))

  -- ---- numbers of tokens

  module _ {A B : Type 0} (f : Form T K N V A) (g : Form T K N V B) where
    pub counted_seq : Alike kind E (counted (seq f g)) (map counted_both (seq (counted f) (counted g)))
    counted_seq = record { there = λ room. record { spells = there room; prefix = there_prefix room }; back = λ room. record { spells = back room; prefix = back_prefix room } }
      where
        there : (room : Room) (ts : List T) (v : (A × B) × ℕ) → (form_language kind E room (counted (seq f g))).spells ts v → (form_language kind E room (map counted_both (seq (counted f) (counted g)))).spells ts v
        there room ts v ((x, y, e, s, r), n) =
            (((v.0.0, length x), (v.0.1, length y)), (x, y, e, (s, refl), (r, refl)), ap (λ z. (v.0, z)) (n ∙ (ap length e ∙ length-append x y)))

        there_prefix : (room : Room) (ts : List T) → (form_language kind E room (seq f g)).prefix ts → (form_language kind E room (seq (counted f) (counted g))).prefix ts
        there_prefix room ts (inl a) = inl a
        there_prefix room ts (inr (x, y, v, e, s, a)) = inr (x, y, (v, length x), e, (s, refl), a)

        back : (room : Room) (ts : List T) (v : (A × B) × ℕ) → (form_language kind E room (map counted_both (seq (counted f) (counted g)))).spells ts v → (form_language kind E room (counted (seq f g))).spells ts v
        back room ts v (u, (x, y, e, (s, m), (r, n)), i) =
            subst ((form_language kind E room (counted (seq f g))).spells ts) (sym i) ((x, y, e, s, r), sum)
          where
            sum : u.0.1 + u.1.1 ≡ length ts
            sum = omega (arith, m, n, ap length e, length-append x y)

        back_prefix : (room : Room) (ts : List T) → (form_language kind E room (seq (counted f) (counted g))).prefix ts → (form_language kind E room (seq f g)).prefix ts
        back_prefix room ts (inl a) = inl a
        back_prefix room ts (inr (x, y, v, e, s, a)) = inr (x, y, v.0, e, s.0, a)

  pub counted_map : {A B : Type 0} (h : A → B) (f : Form T K N V A) → Alike kind E (counted (map h f)) (map (λ p. (h p.0, p.1)) (counted f))
  counted_map h f = record {
    there = λ room. record { spells = λ ts v s. ((s.0.0, v.1), (s.0.1, s.1), ap (λ z. (z, v.1)) s.0.2); prefix = λ ts a. a };
    back = λ room. record {
      spells = λ ts v s. subst ((form_language kind E room (counted (map h f))).spells ts) (sym s.2) ((s.0.0, s.1.0, refl), s.1.1);
      prefix = λ ts a. a;
    };
  }

  pub counted_alt : {A : Type 0} (f g : Form T K N V A) → Alike kind E (counted (alt f g)) (alt (counted f) (counted g))
  counted_alt f g =
      both_below (record { holds = λ room. record { spells = λ ts v s. elim s.0 [ inl a ↦ inl (a, s.1) | inr b ↦ inr (b, s.1) ]; prefix = λ ts a. a } })
      (either (below_counted (at_first g (itself f))) (below_counted (at_second f (itself g))))

  -- ---- levels

  pub nest_map : {A B : Type 0} (h : A → B) (f : Form T K N V A) → Alike kind E (nest (map h f)) (map h (nest f))
  nest_map h f = record { there = there; back = back }
    where
      there : Under kind E (nest (map h f)) (map h (nest f))
      there None = includes_itself _
      there (Some zero) = record { spells = λ ts v s. absurd s; prefix = λ ts a. a }
      there (Some (suc levels)) = includes_itself _

      back : Under kind E (map h (nest f)) (nest (map h f))
      back None = includes_itself _
      back (Some zero) = record { spells = λ ts v s. s.1; prefix = λ ts a. a }
      back (Some (suc levels)) = includes_itself _

  pub nest_alt : {A : Type 0} (f g : Form T K N V A) → Alike kind E (nest (alt f g)) (alt (nest f) (nest g))
  nest_alt f g = both_below (record { holds = there }) (either (below_nest (at_first g (itself f))) (below_nest (at_second f (itself g))))
    where
      there : Under kind E (nest (alt f g)) (alt (nest f) (nest g))
      there None = includes_itself _
      there (Some zero) = record { spells = λ ts v s. absurd s; prefix = λ ts a. inl a }
      there (Some (suc levels)) = includes_itself _

  -- (f, g), and then i: the values of all three by one function
  pub flattened : {A B C D X : Type 0} (h : D × C → X) (k : A × B → D) (f : Form T K N V A) (g : Form T K N V B) (i : Form T K N V C)
      → Alike kind E (map h (seq (map k (seq f g)) i)) (map (λ p. h (k (p.0, p.1.0), p.1.1)) (seq f (seq g i)))
  flattened h k f g i =
      chain (alike_map h (seq_map k (seq f g) i))
      (chain (map_map h (λ p. (k p.0, p.1)) (seq (seq f g) i))
      (chain (alike_map (λ p. h (k p.0, p.1)) (seq_seq f g i))
      (map_map (λ p. h (k p.0, p.1)) regrouped (seq f (seq g i)))))

  -- what follows takes the value of the first
  pub applied : {A B X : Type 0} (k : B → A → X) (f : Form T K N V A) (g : Form T K N V B)
      → Alike kind E (map (λ (p : A × (A → X)). p.1 p.0) (seq f (map k g))) (map (λ p. k p.1 p.0) (seq f g))
  applied {A = A} {X = X} k f g =
      chain (alike_map (λ (p : A × (A → X)). p.1 p.0) (seq_with_map k g f)) (map_map (λ (p : A × (A → X)). p.1 p.0) (λ p. (p.0, k p.1)) (seq f g))

  pub alt_alt : {A : Type 0} (f g h : Form T K N V A) → Alike kind E (alt f (alt g h)) (alt (alt f g) h)
  alt_alt f g h =
      both_below (either (at_first h (at_first g (itself f))) (either (at_first h (at_second f (itself g))) (at_second (alt f g) (itself h))))
      (either (either (at_first (alt g h) (itself f)) (at_second f (at_first h (itself g)))) (at_second f (at_second g (itself h))))
