-- Two texts that begin with the same tokens and go on with chosen ones are read alike up to there: where one token decides, the values of
-- their parts are the same before the place where the prefix ends, and behind it they are values of chosen tokens.
use Rattle.std.proofs.Common.{◌≡◌, ℕ, zero, suc, Bool, true, List, [], ◌∷◌, ◌++◌, ◌⊎◌, inl, inr, refl, sym, ◌∙◌, ap, subst, append_assoc, Option, None}
use Rattle.std.proofs.lemmas.List.{append-nil}
use Rattle.std.specs.List.{list_all}
use Rattle.grammar.specs.Language.{Language, Concatenates}
use Rattle.grammar.specs.Form.{Form, Room, empty, token, seq, alt, star, nest, map, only, nonempty, counted, fork, ref, form_language, language, language_within}
use Rattle.grammar.specs.Lookahead.{Lookahead, PredictiveGrammar, either_lookahead, is_predictive, lookahead}
use Rattle.grammar.proofs.readers.Completing.{first_chosen, second_chosen}
use Rattle.grammar.proofs.languages.Cut.{Cut, longer, same, shorter, cut}
use Rattle.grammar.proofs.languages.Heights.{prefixes_within, in_name, spelled_at, spelled_both}
use Rattle.grammar.proofs.languages.Known.{Apart, Known, Parted, narrowed, star_known, star_first}
use Rattle.grammar.proofs.readers.Predictions.{named}
use Rattle.grammar.proofs.languages.Sets.{and_left, or_left, or_right}
use Rattle.grammar.proofs.languages.Tables.{alt_decides, fork_decides, form_known, seq_decides, star_decides}

abbrev pub Each : {A : Type 0} → (A → Type 0) → List A → Type 0
Each R [] = Unit {0}
Each R (v ∷ vs) = R v × Each R vs

-- lists that are the same before the prefix ends, which it does in S, and hold only R behind
abbrev pub AlikeLists : {A : Type 0} → (A → A → Type 0) → (A → Type 0) → (A → Type 0) → List A → List A → Type 0
AlikeLists S R Q [] ws = ⊥
AlikeLists S R Q (v ∷ vs) [] = ⊥
AlikeLists S R Q (v ∷ vs) (w ∷ ws) = (S v w × (Each R vs × Each Q ws)) ⊎ ((v ≡ w) × AlikeLists S R Q vs ws)

-- what a value of either sort is made into by what follows
abbrev pub Ends : {A B C : Type 0} → ((A → C) → Type 0) → ((B → C) → Type 0) → A ⊎ B → C → Type 0
Ends R Q (inl a) c = (k : _) × R k × (c ≡ k a)
Ends R Q (inr b) c = (k : _) × Q k × (c ≡ k b)

-- how two texts are cut where a prefix of both ends: within what stands first, or behind it, and then the same stands first
pub data Parting {T A : Type 0} (x y z p q p2 q2 : List T) (v w : A) : Type 0 where
  within : (k l : List T) → p ≡ x ++ k → y ≡ k ++ q → p2 ≡ x ++ l → z ≡ l ++ q2 → Parting x y z p q p2 q2 v w
  behind : (t : T) (k : List T) → v ≡ w → x ≡ p ++ t ∷ k → q ≡ t ∷ (k ++ y) → q2 ≡ t ∷ (k ++ z) → Parting x y z p q p2 q2 v w

data End {T : Type 0} (x y p q : List T) : Type 0 where
  inside : (k : List T) → p ≡ x ++ k → y ≡ k ++ q → End x y p q
  beyond : (t : T) (k : List T) → x ≡ p ++ t ∷ k → q ≡ t ∷ (k ++ y) → End x y p q

end_of : {T : Type 0} (a x y p q : List T) → a ≡ x ++ y → a ≡ p ++ q → End x y p q
end_of a x y p q i j = go (cut x y p q (sym i ∙ j))
  where
    go : Cut x y p q → End x y p q
    go (longer t k l m) = inside (t ∷ k) l m
    go (same l m) = inside [] (l ∙ sym (append-nil x)) (sym m)
    go (shorter t k l m) = beyond t k l m

module _ {T K : Type 0} (kind : T → K) {A : Type 0} (L : Language T A) (a : Lookahead K) (l : Known kind L a) (next : K → Bool) (parted : (k : K) → a.last k ≡ true → next k ≡ true → ⊥) where
  -- the first part goes on with a token that begins what follows
  clash : (p q : List T) (t : T) (k : List T) (v w : A) → q ≡ p ++ t ∷ k → L.spells p v → L.spells q w → next (kind t) ≡ true → ⊥
  clash p q t k v w i s r n = parted (kind t) (l.ahead.last p v t k s (subst L.prefix i (l.prefixes.spelled q w r))) n

  same_token : (t u : T) (x y : List T) → t ∷ x ≡ u ∷ y → u ≡ t
  same_token t u x y e = cc

  same_rest : (t u : T) (x y : List T) → t ∷ x ≡ u ∷ y → x ≡ y
  same_rest t u x y e = cc

  pub part : (b c x y z p q p2 q2 : List T) (v w : A) → b ≡ x ++ y → c ≡ x ++ z → b ≡ p ++ q → c ≡ p2 ++ q2 → L.spells p v → L.spells p2 w
      → ((t : T) (k : List T) → q ≡ t ∷ k → next (kind t) ≡ true) → ((t : T) (k : List T) → q2 ≡ t ∷ k → next (kind t) ≡ true) → Parting x y z p q p2 q2 v w
  part b c x y z p q p2 q2 v w i j m n s r f g = go (end_of b x y p q i m) (end_of c x z p2 q2 j n)
    where
      go : End x y p q → End x z p2 q2 → Parting x y z p q p2 q2 v w
      go (inside k d e) (inside k2 d2 e2) = within k k2 d e d2 e2
      go (inside k d e) (beyond t2 k2 d2 e2) =
          absurd (clash p2 p t2 (k2 ++ k) w v (d ∙ (ap (λ u. u ++ k) d2 ∙ append_assoc p2 (t2 ∷ k2) k)) r s (g t2 (k2 ++ z) e2))
      go (beyond t k d e) (inside k2 d2 e2) =
          absurd (clash p p2 t (k ++ k2) v w (d2 ∙ (ap (λ u. u ++ k2) d ∙ append_assoc p (t ∷ k) k2)) s r (f t (k ++ y) e))
      go (beyond t k d e) (beyond t2 k2 d2 e2) = both (cut p (t ∷ k) p2 (t2 ∷ k2) (sym d ∙ d2))
        where
          both : Cut p (t ∷ k) p2 (t2 ∷ k2) → Parting x y z p q p2 q2 v w
          both (longer u o h o2) = absurd (clash p p2 u o v w h s r (subst (λ c. next (kind c) ≡ true) (sym (same_token t u k (o ++ t2 ∷ k2) o2)) (f t (k ++ y) e)))
          both (same h o) = behind t k (l.unique p v w s (subst (λ u. L.spells u w) h r)) d e
              (e2 ∙ (ap (λ u. u ∷ (k2 ++ z)) (same_token t t2 k k2 (sym o)) ∙ ap (λ u. t ∷ (u ++ z)) (same_rest t2 t k2 k o)))
          both (shorter u o h o2) = absurd (clash p2 p u o w v h r s (subst (λ c. next (kind c) ≡ true) (sym (same_token t2 u k2 (o ++ t ∷ k) o2)) (g t2 (k2 ++ z) e2)))

module _ {T K N : Type 0} {V : N → Type 0} (g : PredictiveGrammar T K N V) (chosen : T → Bool) (Still : (n : N) → V n → Type 0) where
  -- the value is one of chosen tokens
  abbrev pub StillOf : {A : Type 0} → Form T K N V A → A → Type 0
  StillOf empty v = Unit {0}
  StillOf (token p) v = (chosen v ≡ true) × (p (g.kind v) ≡ true)
  StillOf (seq f e) v = StillOf f v.0 × StillOf e v.1
  StillOf (alt f e) v = StillOf f v ⊎ StillOf e v
  StillOf (star most f) vs = Each (StillOf f) vs
  StillOf (nest f) v = StillOf f v
  StillOf (map h f) v = (u : _) × StillOf f u × (v ≡ h u)
  StillOf (only q f) v = StillOf f v
  StillOf (nonempty f) v = StillOf f v
  StillOf (counted f) v = StillOf f v.0
  StillOf (fork f e i) v = (u : _) × StillOf f u × Ends (StillOf e) (StillOf i) u v
  StillOf (ref n) v = Still n v

  module _ (E : Room → (n : N) → Language T (V n)) (still_name : (n : N) (ts : List T) (v : V n) → list_all chosen ts ≡ true → (E None n).spells ts v → Still n v) where
    abbrev in_form : {A : Type 0} → Form T K N V A → Language T A
    in_form f = form_language g.kind E None f

    each_still : {A : Type 0} (S : List T → A → Type 0) (R : A → Type 0) → ((ts : List T) (v : A) → list_all chosen ts ≡ true → S ts v → R v)
        → (ts : List T) (vs : List A) → list_all chosen ts ≡ true → Concatenates S ts vs → Each R vs
    each_still S R m ts [] c s = tt
    each_still S R m ts (v ∷ vs) c (x, y, i, s, r) = (m x v (first_chosen chosen ts x y i c) s, each_still S R m y vs (second_chosen chosen ts x y i c) r)

    pub still_of : {A : Type 0} (f : Form T K N V A) (ts : List T) (v : A) → list_all chosen ts ≡ true → (in_form f).spells ts v → StillOf f v
    still_of empty ts v c s = tt
    still_of (token p) ts v c s = (and_left (chosen v) true (subst (λ z. list_all chosen z ≡ true) s.0 c), s.1)
    still_of (seq f e) ts v c (x, y, i, s, r) = (still_of f x v.0 (first_chosen chosen ts x y i c) s, still_of e y v.1 (second_chosen chosen ts x y i c) r)
    still_of (alt f e) ts v c (inl s) = inl (still_of f ts v c s)
    still_of (alt f e) ts v c (inr s) = inr (still_of e ts v c s)
    still_of (star most f) ts v c s = each_still (in_form f).spells (StillOf f) (still_of f) ts v c s
    still_of (nest f) ts v c s = still_of f ts v c s
    still_of (map h f) ts v c (u, s, i) = (u, still_of f ts u c s, i)
    still_of (only q f) ts v c (s, i) = still_of f ts v c s
    still_of (nonempty f) ts v c (s, i) = still_of f ts v c s
    still_of (counted f) ts v c (s, i) = still_of f ts v.0 c s
    still_of (fork f e i) ts v c (x, y, inl a, j, s, (k, r, o)) = (inl a, still_of f x (inl a) (first_chosen chosen ts x y j c) s, (k, still_of e y k (second_chosen chosen ts x y j c) r, o))
    still_of (fork f e i) ts v c (x, y, inr a, j, s, (k, r, o)) = (inr a, still_of f x (inr a) (first_chosen chosen ts x y j c) s, (k, still_of i y k (second_chosen chosen ts x y j c) r, o))
    still_of (ref n) ts v c s = still_name n ts v c s

module _ {T K N : Type 0} {V : N → Type 0} (g : PredictiveGrammar T K N V) (chosen others : T → Bool) (Same : (n : N) → V n → V n → Type 0) (Still Loose : (n : N) → V n → Type 0) where
  abbrev St : {A : Type 0} → Form T K N V A → A → Type 0
  St f v = StillOf g chosen Still f v

  abbrev Lo : {A : Type 0} → Form T K N V A → A → Type 0
  Lo f v = StillOf g others Loose f v

  -- the values are the same up to where a prefix of both ends
  abbrev pub SameOf : {A : Type 0} → Form T K N V A → A → A → Type 0
  SameOf empty v w = Unit {0}
  SameOf (token p) v w = v ≡ w
  SameOf (seq f e) v w = (SameOf f v.0 w.0 × (St e v.1 × Lo e w.1)) ⊎ ((v.0 ≡ w.0) × SameOf e v.1 w.1)
  SameOf (alt f e) v w = SameOf f v w ⊎ SameOf e v w
  SameOf (star most f) vs ws = AlikeLists (SameOf f) (St f) (Lo f) vs ws
  SameOf (nest f) v w = SameOf f v w
  SameOf (map h f) v w = (a b : _) × SameOf f a b × (v ≡ h a) × (w ≡ h b)
  SameOf (only q f) v w = SameOf f v w
  SameOf (nonempty f) v w = SameOf f v w
  SameOf (counted f) v w = SameOf f v.0 w.0
  SameOf (fork f e i) v w =
      ((a b : _) × SameOf f a b × Ends (St e) (St i) a v × Ends (Lo e) (Lo i) b w)
      ⊎ (((a : _) × (k l : _) × SameOf e k l × (v ≡ k a) × (w ≡ l a)) ⊎ ((b : _) × (k l : _) × SameOf i k l × (v ≡ k b) × (w ≡ l b)))
  SameOf (ref n) v w = Same n v w

  module _ (E : Room → (n : N) → Language T (V n)) (known : (room : Room) (n : N) → Known g.kind (E room n) (g.table n))
      (still_name : (n : N) (ts : List T) (v : V n) → list_all chosen ts ≡ true → (E None n).spells ts v → Still n v)
      (loose_name : (n : N) (ts : List T) (v : V n) → list_all others ts ≡ true → (E None n).spells ts v → Loose n v) where
    abbrev of : {A : Type 0} → Form T K N V A → Language T A
    of f = form_language g.kind E None f

    st : {A : Type 0} (f : Form T K N V A) (ts : List T) (v : A) → list_all chosen ts ≡ true → (of f).spells ts v → St f v
    st f ts v c s = still_of g chosen Still E still_name f ts v c s

    lo : {A : Type 0} (f : Form T K N V A) (ts : List T) (v : A) → list_all others ts ≡ true → (of f).spells ts v → Lo f v
    lo f ts v c s = still_of g others Loose E loose_name f ts v c s

    module _ (same_name : (n : N) (b c x y z : List T) (v w : V n) → b ≡ x ++ y → c ≡ x ++ z → (x ≡ [] → ⊥) → list_all chosen y ≡ true → list_all others z ≡ true → (E None n).spells b v → (E None n).spells c w → Same n v w) where
      abbrev ok : {A : Type 0} → Form T K N V A → Bool
      ok f = is_predictive g.kinds g.table f

      abbrev la : {A : Type 0} → Form T K N V A → Lookahead K
      la f = lookahead g.table f

      known_of : {A : Type 0} (f : Form T K N V A) → ok f ≡ true → Known g.kind (of f) (la f)
      known_of f o = form_known g.kind g.kinds g.every g.table E known f None o

      abbrev IsAlike : {A : Type 0} → Form T K N V A → Type 0
      IsAlike f = ok f ≡ true → (b c x y z : List T) (v w : _) → b ≡ x ++ y → c ≡ x ++ z → (x ≡ [] → ⊥) → list_all chosen y ≡ true → list_all others z ≡ true → (of f).spells b v → (of f).spells c w → SameOf f v w

      begins_with : {A : Type 0} (f : Form T K N V A) (o : ok f ≡ true) (q : List T) (v : A) → (of f).spells q v → (t : T) (k : List T) → q ≡ t ∷ k → (la f).first (g.kind t) ≡ true
      begins_with f o q v s t k i = (known_of f o).ahead.first t k (subst (of f).prefix i ((known_of f o).prefixes.spelled q v s))

      seq_alike : {A B : Type 0} (f : Form T K N V A) (e : Form T K N V B) → IsAlike f → IsAlike e → IsAlike (seq f e)
      seq_alike f e mf me o b c x y z v w i j n cy cz (p, q, d1, s, r) (p2, q2, d2, s2, r2) =
          go (part g.kind (of f) (la f) (known_of f d.0) (la e).first d.2 b c x y z p q p2 q2 v.0 w.0 i j d1 d2 s s2 (begins_with e d.1 q v.1 r) (begins_with e d.1 q2 w.1 r2))
        where
          d : (ok f ≡ true) × (ok e ≡ true) × Parted (la f) (la e)
          d = seq_decides g.kinds g.every g.table f e o

          go : Parting x y z p q p2 q2 v.0 w.0 → SameOf (seq f e) v w
          go (within k l h h1 h2 h3) = inl (
            mf d.0 p p2 x k l v.0 w.0 h h2 n (first_chosen chosen y k q h1 cy) (first_chosen others z l q2 h3 cz) s s2,
            (st e q v.1 (second_chosen chosen y k q h1 cy) r, lo e q2 w.1 (second_chosen others z l q2 h3 cz) r2),
          )
          go (behind t k u h h1 h2) = inr (u, me d.1 q q2 (t ∷ k) y z v.1 w.1 h1 h2 (λ a. cc) cy cz r r2)

      alt_alike : {A : Type 0} (f e : Form T K N V A) → IsAlike f → IsAlike e → IsAlike (alt f e)
      alt_alike f e mf me o b c x y z v w i j n cy cz s r = go x i j n s r
        where
          d : (ok f ≡ true) × (ok e ≡ true) × Apart (la f) (la e) × ((la f).nullable ≡ true → (la e).nullable ≡ true → ⊥)
          d = alt_decides g.kinds g.every g.table f e o

          go : (u : List T) → b ≡ u ++ y → c ≡ u ++ z → (u ≡ [] → ⊥) → (of (alt f e)).spells b v → (of (alt f e)).spells c w → SameOf (alt f e) v w
          go u i j n (inl s) (inl r) = inl (mf d.0 b c u y z v w i j n cy cz s r)
          go u i j n (inr s) (inr r) = inr (me d.1 b c u y z v w i j n cy cz s r)
          go [] i j n (inl s) (inr r) = absurd (n refl)
          go [] i j n (inr s) (inl r) = absurd (n refl)
          go (t ∷ u) i j n (inl s) (inr r) = absurd (d.2 (g.kind t) (begins_with f d.0 b v s t (u ++ y) i) (begins_with e d.1 c w r t (u ++ z) j))
          go (t ∷ u) i j n (inr s) (inl r) = absurd (d.2 (g.kind t) (begins_with f d.0 c w r t (u ++ z) j) (begins_with e d.1 b v s t (u ++ y) i))

      star_alike : {A : Type 0} (most : Option ℕ) (f : Form T K N V A) → IsAlike f → IsAlike (star most f)
      star_alike {A = A} most f m o = go
        where
          d : (ok f ≡ true) × ((la f).nullable ≡ true → ⊥) × Parted (la f) (la f)
          d = star_decides g.kinds g.every g.table most f o

          list_begins : (q : List T) (vs : List A) → Concatenates (of f).spells q vs → (t : T) (k : List T) → q ≡ t ∷ k → (la f).first (g.kind t) ≡ true
          list_begins q vs s t k i =
              let h = star_first g.kind (of f) (la f) (known_of f d.0) d.1 d.2 t k
              (subst (of (star most f)).prefix i ((star_known g.kind (of f) (la f) (known_of f d.0) d.1 d.2).prefixes.spelled q vs s)) in
              (known_of f d.0).ahead.first t h.0 h.1

          no_first : (u v : List T) → (u ≡ [] → ⊥) → u ++ v ≡ [] → ⊥
          no_first [] v n e = n refl
          no_first (t ∷ u) v n e = cc

          go : (b c x y z : List T) (vs ws : List A) → b ≡ x ++ y → c ≡ x ++ z → (x ≡ [] → ⊥) → list_all chosen y ≡ true → list_all others z ≡ true
              → Concatenates (of f).spells b vs → Concatenates (of f).spells c ws → AlikeLists (SameOf f) (St f) (Lo f) vs ws
          go b c x y z [] ws i j n cy cz s r = no_first x y n (sym i ∙ s)
          go b c x y z (v ∷ vs) [] i j n cy cz s r = no_first x z n (sym j ∙ r)
          go b c x y z (v ∷ vs) (w ∷ ws) i j n cy cz (p, q, d1, s, r) (p2, q2, d2, s2, r2) =
              parts (part g.kind (of f) (la f) (known_of f d.0) (la f).first d.2 b c x y z p q p2 q2 v w i j d1 d2 s s2 (list_begins q vs r) (list_begins q2 ws r2))
              (λ t k h1 h2. go q q2 (t ∷ k) y z vs ws h1 h2 (λ a. cc) cy cz r r2)
            where
              parts : Parting x y z p q p2 q2 v w → ((t : T) (k : List T) → q ≡ t ∷ (k ++ y) → q2 ≡ t ∷ (k ++ z) → AlikeLists (SameOf f) (St f) (Lo f) vs ws)
                  → AlikeLists (SameOf f) (St f) (Lo f) (v ∷ vs) (w ∷ ws)
              parts (within k l h h1 h2 h3) ih = inl (
                m d.0 p p2 x k l v w h h2 n (first_chosen chosen y k q h1 cy) (first_chosen others z l q2 h3 cz) s s2,
                (each_still g chosen Still E still_name (of f).spells (St f) (st f) q vs (second_chosen chosen y k q h1 cy) r, each_still g others Loose E loose_name (of f).spells (Lo f) (lo f) q2 ws (second_chosen others z l q2 h3 cz) r2),
              )
              parts (behind t k u h h1 h2) ih = inr (u, ih t k h1 h2)

      module _ {A B C : Type 0} (f : Form T K N V (A ⊎ B)) (e : Form T K N V (A → C)) (h : Form T K N V (B → C)) (mf : IsAlike f) (me : IsAlike e) (mh : IsAlike h) (o : ok (fork f e h) ≡ true) where
        abbrev either : Lookahead K
        either = either_lookahead (la e) (la h)

        decided : (ok f ≡ true) × (ok e ≡ true) × (ok h ≡ true) × Parted (la f) either
        decided = fork_decides g.kinds g.every g.table f e h o

        -- what follows a value of either sort
        abbrev Behind : A ⊎ B → List T → C → Type 0
        Behind (inl a) q v = (k : A → C) × (of e).spells q k × (v ≡ k a)
        Behind (inr a) q v = (k : B → C) × (of h).spells q k × (v ≡ k a)

        behind_begins : (u : A ⊎ B) (q : List T) (v : C) → Behind u q v → (t : T) (k : List T) → q ≡ t ∷ k → either.first (g.kind t) ≡ true
        behind_begins (inl a) q v (k, s, i) t r j = or_left _ _ (begins_with e decided.1 q k s t r j)
        behind_begins (inr a) q v (k, s, i) t r j = or_right _ _ (begins_with h decided.2 q k s t r j)

        behind_still : (u : A ⊎ B) (q : List T) (v : C) → list_all chosen q ≡ true → Behind u q v → Ends (St e) (St h) u v
        behind_still (inl a) q v c (k, s, i) = (k, st e q k c s, i)
        behind_still (inr a) q v c (k, s, i) = (k, st h q k c s, i)

        behind_loose : (u : A ⊎ B) (q : List T) (v : C) → list_all others q ≡ true → Behind u q v → Ends (Lo e) (Lo h) u v
        behind_loose (inl a) q v c (k, s, i) = (k, lo e q k c s, i)
        behind_loose (inr a) q v c (k, s, i) = (k, lo h q k c s, i)

        behind_alike : (u : A ⊎ B) (q q2 x y z : List T) (v w : C) → q ≡ x ++ y → q2 ≡ x ++ z → (x ≡ [] → ⊥) → list_all chosen y ≡ true → list_all others z ≡ true
            → Behind u q v → Behind u q2 w → SameOf (fork f e h) v w
        behind_alike (inl a) q q2 x y z v w i j n cy cz (k, s, d1) (l, r, d2) = inr (inl (a, k, l, me decided.1 q q2 x y z k l i j n cy cz s r, d1, d2))
        behind_alike (inr a) q q2 x y z v w i j n cy cz (k, s, d1) (l, r, d2) = inr (inr (a, k, l, mh decided.2 q q2 x y z k l i j n cy cz s r, d1, d2))

        record Split (b : List T) (v : C) : Type 0 where
          first : List T
          second : List T
          value : A ⊎ B
          in_order : b ≡ first ++ second
          spelled : (of f).spells first value
          follows : Behind value second v

        split : (b : List T) (v : C) → (of (fork f e h)).spells b v → Split b v
        split b v (p, q, inl a, i, s, r) = record { first = p; second = q; value = inl a; in_order = i; spelled = s; follows = r }
        split b v (p, q, inr a, i, s, r) = record { first = p; second = q; value = inr a; in_order = i; spelled = s; follows = r }

        fork_alike : (b c x y z : List T) (v w : C) → b ≡ x ++ y → c ≡ x ++ z → (x ≡ [] → ⊥) → list_all chosen y ≡ true → list_all others z ≡ true
            → (of (fork f e h)).spells b v → (of (fork f e h)).spells c w → SameOf (fork f e h) v w
        fork_alike b c x y z v w i j n cy cz s r = go (split b v s) (split c w r)
          where
            go : Split b v → Split c w → SameOf (fork f e h) v w
            go l m =
                parts (part g.kind (of f) (la f) (known_of f decided.0) either.first decided.3 b c x y z l.first l.second m.first m.second l.value m.value i j l.in_order m.in_order l.spelled m.spelled
                (behind_begins l.value l.second v l.follows) (behind_begins m.value m.second w m.follows))
              where
                parts : Parting x y z l.first l.second m.first m.second l.value m.value → SameOf (fork f e h) v w
                parts (within k k2 h1 h2 h3 h4) = inl (
                  l.value,
                  m.value,
                  mf decided.0 l.first m.first x k k2 l.value m.value h1 h3 n (first_chosen chosen y k l.second h2 cy) (first_chosen others z k2 m.second h4 cz) l.spelled m.spelled,
                  behind_still l.value l.second v (second_chosen chosen y k l.second h2 cy) l.follows,
                  behind_loose m.value m.second w (second_chosen others z k2 m.second h4 cz) m.follows,
                )
                parts (behind t k u h1 h2 h3) = behind_alike m.value l.second m.second (t ∷ k) y z v w h2 h3 (λ a. cc) cy cz (subst (λ a. Behind a l.second v) u l.follows) m.follows

      token_alike : (p : K → Bool) → IsAlike (token p)
      token_alike p o b c x y z v w i j n cy cz s r = go x n i j
        where
          heads : (t u v : T) (k l : List T) → t ∷ k ≡ v ∷ [] → t ∷ l ≡ u ∷ [] → v ≡ u
          heads t u v k l i j = cc

          go : (x : List T) → (x ≡ [] → ⊥) → b ≡ x ++ y → c ≡ x ++ z → v ≡ w
          go [] n i j = absurd (n refl)
          go (t ∷ x) n i j = heads t w v (x ++ y) (x ++ z) (sym i ∙ s.0) (sym j ∙ r.0)

      pub alike : {A : Type 0} (f : Form T K N V A) → IsAlike f
      alike empty o b c x y z v w i j n cy cz s r = tt
      alike (token p) o b c x y z v w i j n cy cz s r = token_alike p o b c x y z v w i j n cy cz s r
      alike (seq f e) o b c x y z v w i j n cy cz s r = seq_alike f e (alike f) (alike e) o b c x y z v w i j n cy cz s r
      alike (alt f e) o b c x y z v w i j n cy cz s r = alt_alike f e (alike f) (alike e) o b c x y z v w i j n cy cz s r
      alike (star most f) o b c x y z v w i j n cy cz s r = star_alike most f (alike f) o b c x y z v w i j n cy cz s r
      alike (nest f) o b c x y z v w i j n cy cz s r = alike f o b c x y z v w i j n cy cz s r
      alike (map h f) o b c x y z v w i j n cy cz (u, s, d) (u2, r, d2) = (u, u2, alike f o b c x y z u u2 i j n cy cz s r, d, d2)
      alike (only q f) o b c x y z v w i j n cy cz s r = alike f o b c x y z v w i j n cy cz s.0 r.0
      alike (nonempty f) o b c x y z v w i j n cy cz s r = alike f o b c x y z v w i j n cy cz s.0 r.0
      alike (counted f) o b c x y z v w i j n cy cz s r = alike f o b c x y z v.0 w.0 i j n cy cz s.0 r.0
      alike (fork f e h) o b c x y z v w i j n cy cz s r = fork_alike f e h (alike f) (alike e) (alike h) o b c x y z v w i j n cy cz s r
      alike (ref m) o b c x y z v w i j n cy cz s r = same_name m b c x y z v w i j n cy cz s r

  -- ---- at all heights

  module _ (still_rule : (n : N) (v : V n) → St (g.rules n) v → Still n v) (loose_rule : (n : N) (v : V n) → Lo (g.rules n) v → Loose n v) (same_rule : (n : N) (v w : V n) → SameOf (g.rules n) v w → Same n v w) where
    abbrev At : ℕ → Room → (n : N) → Language T (V n)
    At h = language_within g.kind g.rules h

    known_at : (h : ℕ) (room : Room) (n : N) → Known g.kind (At h room n) (g.table n)
    known_at h room n = narrowed g.kind (At h room n) (language g.kind g.rules room n) (g.table n) (in_name g.kind g.rules h room n) (prefixes_within g.kind g.rules h room n) (named g room n)

    still_at : (h : ℕ) (n : N) (ts : List T) (v : V n) → list_all chosen ts ≡ true → (At h None n).spells ts v → Still n v
    still_at zero n ts v c s = absurd s
    still_at (suc h) n ts v c s = still_rule n v (still_of g chosen Still (At h) (still_at h) (g.rules n) ts v c s)

    loose_at : (h : ℕ) (n : N) (ts : List T) (v : V n) → list_all others ts ≡ true → (At h None n).spells ts v → Loose n v
    loose_at zero n ts v c s = absurd s
    loose_at (suc h) n ts v c s = loose_rule n v (still_of g others Loose (At h) (loose_at h) (g.rules n) ts v c s)

    right_at : (n : N) → is_predictive g.kinds g.table (g.rules n) ≡ true
    right_at n = and_left (is_predictive g.kinds g.table (g.rules n)) _ (g.right n)

    same_at : (h : ℕ) (n : N) (b c x y z : List T) (v w : V n) → b ≡ x ++ y → c ≡ x ++ z → (x ≡ [] → ⊥) → list_all chosen y ≡ true → list_all others z ≡ true
        → (At h None n).spells b v → (At h None n).spells c w → Same n v w
    same_at zero n b c x y z v w i j m cy cz s r = absurd s
    same_at (suc h) n b c x y z v w i j m cy cz s r =
        same_rule n v w (alike (At h) (known_at h) (still_at h) (loose_at h) (same_at h) (g.rules n) (right_at n) b c x y z v w i j m cy cz s r)

    -- two texts of a name that begin with the same tokens, and go on with chosen ones
    pub same_prefixes : (n : N) (x y z : List T) (v w : V n) → (x ≡ [] → ⊥) → list_all chosen y ≡ true → list_all others z ≡ true
        → (language g.kind g.rules None n).spells (x ++ y) v → (language g.kind g.rules None n).spells (x ++ z) w → Same n v w
    same_prefixes n x y z v w m cy cz s r =
        let t = spelled_both g.kind g.rules None n (x ++ y) (x ++ z) v w s r in
        same_at t.height n (x ++ y) (x ++ z) x y z v w refl refl m cy cz t.left t.right

    -- a text of chosen tokens
    pub still_texts : (n : N) (ts : List T) (v : V n) → list_all chosen ts ≡ true → (language g.kind g.rules None n).spells ts v → Still n v
    still_texts n ts v c s = let t = spelled_at g.kind g.rules None n ts v s in still_at t.0 n ts v c t.1
