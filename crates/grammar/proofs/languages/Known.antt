-- What is known of a language: it has prefixes, its lookahead, and one value for a list of tokens. Each way to put languages together keeps
-- this where no token both goes on with a part and begins the next.
use Rattle.std.proofs.Common.{◌≡◌, Bool, true, List, [], ◌∷◌, ◌++◌, ◌⊎◌, inl, inr, refl, sym, ◌∙◌, ap, subst, append_assoc}
use Rattle.grammar.specs.Language.{Language, Includes, HasPrefixes, IsUnambiguous, Concatenates, empty_language, token_language, seq_language, alt_language, star_language, map_language, only_language, nonempty_language, counted_language, bind_language, branch, no_language}
use Rattle.grammar.specs.Lookahead.{Lookahead, HasLookahead, empty_lookahead, token_lookahead, seq_lookahead, alt_lookahead, star_lookahead, nonempty_lookahead, either_lookahead}
use Rattle.grammar.proofs.languages.Cut.{Cut, longer, same, shorter, cut, nil_left, nil_right, not_nil}
use Rattle.grammar.proofs.languages.Sets.{or_left, or_right, and_both}
use Rattle.grammar.proofs.languages.Prefixes.{empty_prefixes, token_prefixes, seq_prefixes, alt_prefixes, star_prefixes, map_prefixes, only_prefixes, nonempty_prefixes, counted_prefixes, bind_prefixes, no_prefixes}

pub record Known {T K A : Type 0} (kind : T → K) (L : Language T A) (a : Lookahead K) : Type 0 where
  pub prefixes : HasPrefixes L
  pub ahead : HasLookahead kind L a
  pub unique : IsUnambiguous L

-- no token both goes on with the first and begins the second
abbrev pub Parted : {K : Type 0} → Lookahead K → Lookahead K → Type 0
Parted a b = (k : _) → a.last k ≡ true → b.first k ≡ true → ⊥

-- no token begins both
abbrev pub Apart : {K : Type 0} → Lookahead K → Lookahead K → Type 0
Apart a b = (k : _) → a.first k ≡ true → b.first k ≡ true → ⊥

module _ {T K : Type 0} (kind : T → K) where
  -- ---- smaller languages

  pub narrowed : {A : Type 0} (L M : Language T A) (a : Lookahead K) → Includes M L → HasPrefixes L → Known kind M a → Known kind L a
  narrowed L M a i f m = record {
    prefixes = f;
    ahead = record {
      nullable = λ v s. m.ahead.nullable v (i.spells [] v s);
      first = λ t x g. m.ahead.first t x (i.prefix (t ∷ x) g);
      last = λ x v t y s g. m.ahead.last x v t y (i.spells x v s) (i.prefix (x ++ t ∷ y) g);
    };
    unique = λ x v w s r. m.unique x v w (i.spells x v s) (i.spells x w r);
  }

  pub no_known : {A : Type 0} (a : Lookahead K) → Known kind (no_language {T = T} {A = A}) a
  no_known a = record {
    prefixes = no_prefixes;
    ahead = record { nullable = λ v s. absurd s; first = λ t x e. cc; last = λ x v t y s f. absurd s };
    unique = λ x v w s r. absurd s;
  }

  -- ---- nothing, and one token

  pub empty_known : Known kind empty_language empty_lookahead
  empty_known = record {
    prefixes = empty_prefixes;
    ahead = record { nullable = λ v s. refl; first = λ t x f. cc; last = λ x v t y s f. absurd (not_nil x y t f) };
    unique = λ x v w s r. refl;
  }

  module _ (p : K → Bool) where
    token_first : (t : T) (x : List T) → (token_language kind p).prefix (t ∷ x) → p (kind t) ≡ true
    token_first t x (inl e) = cc
    token_first t x (inr (s, e, q)) = let f : s ≡ t = cc in subst (λ z. p (kind z) ≡ true) f q

    token_last : (x : List T) (v t : T) (y : List T) → x ≡ v ∷ [] → (token_language kind p).prefix (x ++ t ∷ y) → ⊥
    token_last x v t y e (inl f) = not_nil x y t f
    token_last x v t y e (inr (s, f, q)) = let g : (v ∷ []) ++ t ∷ y ≡ s ∷ [] = subst (λ z. z ++ t ∷ y ≡ s ∷ []) e f in cc

    pub token_known : Known kind (token_language kind p) (token_lookahead p)
    token_known = record {
      prefixes = token_prefixes kind p;
      ahead = record {
        nullable = λ v s. let e = s.0 in cc;
        first = token_first;
        last = λ x v t y s f. absurd (token_last x v t y s.0 f);
      };
      unique = λ x v w s r. let e = s.0 in let f = r.0 in cc;
    }

  -- ---- other values

  module _ {A : Type 0} (L : Language T A) (a : Lookahead K) (l : Known kind L a) where
    pub map_known : {B : Type 0} (h : A → B) → Known kind (map_language h L) a
    map_known h = record {
      prefixes = map_prefixes h L l.prefixes;
      ahead = record {
        nullable = λ v s. l.ahead.nullable s.0 s.1;
        first = l.ahead.first;
        last = λ x v t y s f. l.ahead.last x s.0 t y s.1 f;
      };
      unique = λ x v w s r. s.2 ∙ (ap h (l.unique x s.0 r.0 s.1 r.1) ∙ sym r.2);
    }

    pub only_known : (p : A → Bool) → Known kind (only_language p L) a
    only_known p = narrowed (only_language p L) L a (record { spells = λ ts v s. s.0; prefix = λ ts f. f }) (only_prefixes L l.prefixes p) l

    pub nonempty_known : Known kind (nonempty_language L) (nonempty_lookahead a)
    nonempty_known = record {
      prefixes = nonempty_prefixes L l.prefixes;
      ahead = record {
        nullable = λ v s. absurd (s.1 refl);
        first = l.ahead.first;
        last = λ x v t y s f. l.ahead.last x v t y s.0 f;
      };
      unique = λ x v w s r. l.unique x v w s.0 r.0;
    }

    paired : {B C : Type 0} (v w : B × C) → v.0 ≡ w.0 → v.1 ≡ w.1 → v ≡ w
    paired v w e f = let g : _ → _ × _ = λ b. (b, v.1) in let h : _ → _ × _ = λ c. (w.0, c) in ap g e ∙ ap h f

    pub counted_known : Known kind (counted_language L) a
    counted_known = record {
      prefixes = counted_prefixes L l.prefixes;
      ahead = record {
        nullable = λ v s. l.ahead.nullable v.0 s.0;
        first = l.ahead.first;
        last = λ x v t y s f. l.ahead.last x v.0 t y s.0 f;
      };
      unique = λ x v w s r. paired v w (l.unique x v.0 w.0 s.0 r.0) (s.1 ∙ sym r.1);
    }

  -- ---- one after the other

  module _ {A B : Type 0} (L : Language T A) (M : A → Language T B) (a b : Lookahead K) (l : Known kind L a) (m : (v : A) → Known kind (M v) b) (parted : Parted a b) where
    -- M does not begin where L goes on
    pub at_odds : (x : List T) (v : A) (t : T) (y z : List T) (w : A) → L.spells x v → L.prefix (x ++ t ∷ y) → (M w).prefix (t ∷ z) → ⊥
    at_odds x v t y z w s f g = parted (kind t) (l.ahead.last x v t y s f) ((m w).ahead.first t z g)

    bind_first : (t : T) (x : List T) → (bind_language L M).prefix (t ∷ x) → (seq_lookahead a b).first (kind t) ≡ true
    bind_first t x (inl f) = or_left _ _ (l.ahead.first t x f)
    bind_first t x (inr ([], y, v, e, s, f)) = or_right _ _ (and_both _ _ (l.ahead.nullable v s) ((m v).ahead.first t x (subst (M v).prefix (sym e) f)))
    bind_first t x (inr (c ∷ z, y, v, e, s, f)) =
        let p : c ≡ t = cc in
        or_left _ _ (subst (λ u. a.first (kind u) ≡ true) p (l.ahead.first c z (l.prefixes.spelled _ v s)))

    -- after the spelled x ++ y, where the prefix goes on in the first
    bind_goes : (x y : List T) (v : A) (w : B) (t : T) (z : List T) → L.spells x v → (M v).spells y w → L.prefix (x ++ (y ++ t ∷ z)) → (seq_lookahead a b).last (kind t) ≡ true
    bind_goes x [] v w t z s r f = or_right _ _ (and_both _ _ ((m v).ahead.nullable w r) (l.ahead.last x v t z s f))
    bind_goes x (c ∷ y) v w t z s r f = absurd (at_odds x v c (y ++ t ∷ z) y v s f ((m v).prefixes.spelled _ w r))

    bind_last : (x y : List T) (v : A) (w : B) (t : T) (z : List T) → L.spells x v → (M v).spells y w → (bind_language L M).prefix (x ++ (y ++ t ∷ z)) → (seq_lookahead a b).last (kind t) ≡ true
    bind_last x y v w t z s r (inl f) = bind_goes x y v w t z s r f
    bind_last x y v w t z s r (inr (x', y', v', e, s', f)) = go (cut x (y ++ t ∷ z) x' y' e)
      where
        go : Cut x (y ++ t ∷ z) x' y' → (seq_lookahead a b).last (kind t) ≡ true
        go (longer c k p q) = beyond y r q
          where
            here : L.prefix (x ++ c ∷ k)
            here = subst L.prefix p (l.prefixes.spelled x' v' s')

            beyond : (y : List T) → (M v).spells y w → y ++ t ∷ z ≡ c ∷ (k ++ y') → (seq_lookahead a b).last (kind t) ≡ true
            beyond [] r q = let i : c ≡ t = cc in or_right _ _ (and_both _ _ ((m v).ahead.nullable w r) (subst (λ u. a.last (kind u) ≡ true) i (l.ahead.last x v c k s here)))
            beyond (d ∷ y) r q = let i : d ≡ c = cc in absurd (at_odds x v c k y v s here (subst (λ u. (M v).prefix (u ∷ y)) i ((m v).prefixes.spelled _ w r)))
        go (same p q) =
            let i : v' ≡ v = l.unique x v' v (subst (λ u. L.spells u v') p s') s in
            or_left _ _ ((m v).ahead.last y w t z r (subst (λ u. (M u).prefix (y ++ t ∷ z)) i (subst (M v').prefix q f)))
        go (shorter c k p q) = absurd (at_odds x' v' c k (k ++ (y ++ t ∷ z)) v' s' (subst L.prefix p (l.prefixes.spelled x v s)) (subst (M v').prefix q f))

    bind_unique : (x y x' y' : List T) (v v' : A) (w w' : B) → x ++ y ≡ x' ++ y' → L.spells x v → (M v).spells y w → L.spells x' v' → (M v').spells y' w' → w ≡ w'
    bind_unique x y x' y' v v' w w' e s r s' r' = go (cut x y x' y' e)
      where
        go : Cut x y x' y' → w ≡ w'
        go (longer c k p q) = absurd (at_odds x v c k (k ++ y') v s (subst L.prefix p (l.prefixes.spelled x' v' s')) (subst (M v).prefix q ((m v).prefixes.spelled y w r)))
        go (same p q) =
            let i : v' ≡ v = l.unique x v' v (subst (λ u. L.spells u v') p s') s in
            (m v).unique y w w' r (subst (λ u. (M u).spells y w') i (subst (λ u. (M v').spells u w') q r'))
        go (shorter c k p q) = absurd (at_odds x' v' c k (k ++ y) v' s' (subst L.prefix p (l.prefixes.spelled x v s)) (subst (M v').prefix q ((m v').prefixes.spelled y' w' r')))

    pub bind_known : Known kind (bind_language L M) (seq_lookahead a b)
    bind_known = record {
      prefixes = bind_prefixes L M l.prefixes (λ v. (m v).prefixes);
      ahead = record {
        nullable = λ w s. and_both _ _ (l.ahead.nullable s.2 (subst (λ u. L.spells u s.2) (nil_left s.0 s.1 s.3) s.4)) ((m s.2).ahead.nullable w (subst (λ u. (M s.2).spells u w) (nil_right s.0 s.1 s.3) s.5));
        first = bind_first;
        last = λ x w t y s f. bind_last s.0 s.1 s.2 w t y s.4 s.5 (subst (bind_language L M).prefix (ap (λ u. u ++ t ∷ y) s.3 ∙ append_assoc s.0 s.1 (t ∷ y)) f);
      };
      unique = λ x v w s r. bind_unique s.0 s.1 r.0 r.1 s.2 r.2 v w (sym s.3 ∙ r.3) s.4 s.5 r.4 r.5;
    }

  -- a sequence goes by the first's value, which it keeps
  module _ {A B : Type 0} (L : Language T A) (M : Language T B) where
    abbrev pub kept : A → Language T (A × B)
    kept v = map_language (λ w. (v, w)) M

    pub bind_includes_seq : Includes (bind_language L kept) (seq_language L M)
    bind_includes_seq = record {
      spells = λ ts v s. (s.0, s.1, v.0, s.2, s.3, (v.1, s.4, refl));
      prefix = λ ts f. f;
    }

    pub seq_includes_bind : Includes (seq_language L M) (bind_language L kept)
    seq_includes_bind = record {
      spells = λ ts v s. subst ((seq_language L M).spells ts) (sym s.5.2) (s.0, s.1, s.3, s.4, s.5.1);
      prefix = λ ts f. f;
    }

  module _ {A B : Type 0} (L : Language T A) (M : Language T B) (a b : Lookahead K) (l : Known kind L a) (m : Known kind M b) (parted : Parted a b) where
    pub seq_known : Known kind (seq_language L M) (seq_lookahead a b)
    seq_known =
        narrowed (seq_language L M) (bind_language L (kept L M)) (seq_lookahead a b) (bind_includes_seq L M) (seq_prefixes L M l.prefixes m.prefixes)
        (bind_known L (kept L M) a b l (λ v. map_known M b m (λ w. (v, w))) parted)

  -- ---- one or the other

  module _ {A : Type 0} (L M : Language T A) (a b : Lookahead K) (l : Known kind L a) (m : Known kind M b) (apart : Apart a b) (one_null : a.nullable ≡ true → b.nullable ≡ true → ⊥) where
    left_right : (t : T) (x y : List T) → L.prefix (t ∷ x) → M.prefix (t ∷ y) → ⊥
    left_right t x y f g = apart (kind t) (l.ahead.first t x f) (m.ahead.first t y g)

    alt_null : (v : A) → (alt_language L M).spells [] v → (alt_lookahead a b).nullable ≡ true
    alt_null v (inl s) = or_left _ _ (l.ahead.nullable v s)
    alt_null v (inr s) = or_right _ _ (m.ahead.nullable v s)

    alt_first : (t : T) (x : List T) → (alt_language L M).prefix (t ∷ x) → (alt_lookahead a b).first (kind t) ≡ true
    alt_first t x (inl f) = or_left _ _ (l.ahead.first t x f)
    alt_first t x (inr f) = or_right _ _ (m.ahead.first t x f)

    alt_last : (x : List T) (v : A) (t : T) (y : List T) → (alt_language L M).spells x v → (alt_language L M).prefix (x ++ t ∷ y) → (alt_lookahead a b).last (kind t) ≡ true
    alt_last x v t y (inl s) (inl f) = or_left _ _ (or_left _ _ (l.ahead.last x v t y s f))
    alt_last x v t y (inr s) (inr f) = or_left _ _ (or_right _ _ (m.ahead.last x v t y s f))
    alt_last [] v t y (inl s) (inr f) = or_right _ _ (or_left _ _ (and_both _ _ (l.ahead.nullable v s) (m.ahead.first t y f)))
    alt_last (c ∷ x) v t y (inl s) (inr f) = absurd (left_right c x _ (l.prefixes.spelled _ v s) f)
    alt_last [] v t y (inr s) (inl f) = or_right _ _ (or_right _ _ (and_both _ _ (m.ahead.nullable v s) (l.ahead.first t y f)))
    alt_last (c ∷ x) v t y (inr s) (inl f) = absurd (left_right c _ x f (m.prefixes.spelled _ v s))

    alt_unique : (x : List T) (v w : A) → (alt_language L M).spells x v → (alt_language L M).spells x w → v ≡ w
    alt_unique x v w (inl s) (inl r) = l.unique x v w s r
    alt_unique x v w (inr s) (inr r) = m.unique x v w s r
    alt_unique [] v w (inl s) (inr r) = absurd (one_null (l.ahead.nullable v s) (m.ahead.nullable w r))
    alt_unique (c ∷ x) v w (inl s) (inr r) = absurd (left_right c x x (l.prefixes.spelled _ v s) (m.prefixes.spelled _ w r))
    alt_unique [] v w (inr s) (inl r) = absurd (one_null (l.ahead.nullable w r) (m.ahead.nullable v s))
    alt_unique (c ∷ x) v w (inr s) (inl r) = absurd (left_right c x x (l.prefixes.spelled _ w r) (m.prefixes.spelled _ v s))

    pub alt_known : Known kind (alt_language L M) (alt_lookahead a b)
    alt_known = record {
      prefixes = alt_prefixes L M l.prefixes m.prefixes;
      ahead = record { nullable = alt_null; first = alt_first; last = alt_last };
      unique = alt_unique;
    }

  -- what follows a value of either sort
  module _ {A B C : Type 0} (L : Language T (A → C)) (M : Language T (B → C)) (a b : Lookahead K) (l : Known kind L a) (m : Known kind M b) where
    pub branch_known : (v : A ⊎ B) → Known kind (branch L M v) (either_lookahead a b)
    branch_known (inl x) = let h = map_known L a l (λ f. f x) in record {
      prefixes = h.prefixes;
      ahead = record {
        nullable = λ v s. or_left _ _ (h.ahead.nullable v s);
        first = λ t x f. or_left _ _ (h.ahead.first t x f);
        last = λ x v t y s f. or_left _ _ (h.ahead.last x v t y s f);
      };
      unique = h.unique;
    }
    branch_known (inr x) = let h = map_known M b m (λ f. f x) in record {
      prefixes = h.prefixes;
      ahead = record {
        nullable = λ v s. or_right _ _ (h.ahead.nullable v s);
        first = λ t x f. or_right _ _ (h.ahead.first t x f);
        last = λ x v t y s f. or_right _ _ (h.ahead.last x v t y s f);
      };
      unique = h.unique;
    }

  -- ---- any number of times

  module _ {A : Type 0} (L : Language T A) (a : Lookahead K) (l : Known kind L a) (never_null : a.nullable ≡ true → ⊥) (parted : Parted a a) where
    -- no spelling is empty
    some : (v : A) → L.spells [] v → ⊥
    some v s = never_null (l.ahead.nullable v s)

    next : (x : List T) (v : A) (t : T) (y z : List T) → L.spells x v → L.prefix (x ++ t ∷ y) → L.prefix (t ∷ z) → ⊥
    next x v t y z s f g = parted (kind t) (l.ahead.last x v t y s f) (l.ahead.first t z g)

    -- what the first of them is: nothing, a prefix of one, or one and a prefix of the rest
    pub data Split (x : List T) : Type 0 where
      none : x ≡ [] → Split x
      one : L.prefix x → Split x
      more : (y z : List T) (v : A) → x ≡ y ++ z → L.spells y v → (star_language L).prefix z → Split x

    pub star_split : (x : List T) → (star_language L).prefix x → Split x
    star_split x (inl e) = none e
    star_split x (inr (y, z, [], e, r, f)) = one (subst L.prefix (sym (e ∙ ap (λ u. u ++ z) r)) f)
    star_split x (inr (y, z, v ∷ vs, e, (p, q, i, s, r), f)) =
        more p (q ++ z) v (e ∙ (ap (λ u. u ++ z) i ∙ append_assoc p q z)) s (inr (q, z, vs, refl, r, f))

    -- a spelling with tokens begins with one of L
    each_first : (t : T) (x : List T) (vs : List A) → Concatenates L.spells (t ∷ x) vs → (z : List T) × L.prefix (t ∷ z)
    each_first t x [] e = cc
    each_first t x (v ∷ vs) ([], y, e, s, r) = absurd (some v s)
    each_first t x (v ∷ vs) (c ∷ z, y, e, s, r) = let i : c ≡ t = cc in (z, subst (λ u. L.prefix (u ∷ z)) i (l.prefixes.spelled _ v s))

    pub star_first : (t : T) (x : List T) → (star_language L).prefix (t ∷ x) → (z : List T) × L.prefix (t ∷ z)
    star_first t x f = go (star_split (t ∷ x) f)
      where
        go : Split (t ∷ x) → (z : List T) × L.prefix (t ∷ z)
        go (none e) = cc
        go (one g) = (x, g)
        go (more [] y v e s g) = absurd (some v s)
        go (more (c ∷ z) y v e s g) = let i : c ≡ t = cc in (z, subst (λ u. L.prefix (u ∷ z)) i (l.prefixes.spelled _ v s))

    -- one is spelled, and the prefix goes on in it
    star_goes : (x y : List T) (v : A) (vs : List A) (t : T) (z : List T) → L.spells x v → Concatenates L.spells y vs → L.prefix (x ++ (y ++ t ∷ z)) → a.last (kind t) ≡ true
    star_goes x [] v vs t z s r f = l.ahead.last x v t z s f
    star_goes x (c ∷ y) v vs t z s r f = absurd (next x v c (y ++ t ∷ z) _ s f (each_first c y vs r).1)

    star_last : (x : List T) (vs : List A) (t : T) (y : List T) → Concatenates L.spells x vs → (star_language L).prefix (x ++ t ∷ y) → (star_lookahead a).last (kind t) ≡ true
    star_last x [] t y e f = or_right _ _ (l.ahead.first t _ (star_first t y (subst (λ z. (star_language L).prefix (z ++ t ∷ y)) e f)).1)
    star_last x (v ∷ vs) t y (c, b, e, s, r) f =
        go (star_split (c ++ (b ++ t ∷ y)) (subst (star_language L).prefix (ap (λ z. z ++ t ∷ y) e ∙ append_assoc c b (t ∷ y)) f)) (star_last b vs t y r)
      where
        go : Split (c ++ (b ++ t ∷ y)) → ((star_language L).prefix (b ++ t ∷ y) → (star_lookahead a).last (kind t) ≡ true) → (star_lookahead a).last (kind t) ≡ true
        go (none i) ih = absurd (not_nil (c ++ b) y t (append_assoc c b (t ∷ y) ∙ i))
        go (one g) ih = or_left _ _ (star_goes c b v vs t y s r g)
        go (more c' b' v' i s' g) ih = by_cut (cut c (b ++ t ∷ y) c' b' i)
          where
            by_cut : Cut c (b ++ t ∷ y) c' b' → (star_lookahead a).last (kind t) ≡ true
            by_cut (longer d k p q) = beyond b r q
              where
                here : L.prefix (c ++ d ∷ k)
                here = subst L.prefix p (l.prefixes.spelled c' v' s')

                beyond : (b : List T) → Concatenates L.spells b vs → b ++ t ∷ y ≡ d ∷ (k ++ b') → (star_lookahead a).last (kind t) ≡ true
                beyond [] r q = let j : d ≡ t = cc in or_left _ _ (subst (λ z. a.last (kind z) ≡ true) j (l.ahead.last c v d k s here))
                beyond (h ∷ b) r q = let j : h ≡ d = cc in absurd (next c v d k _ s here (subst (λ z. L.prefix (z ∷ (each_first h b vs r).0)) j (each_first h b vs r).1))
            by_cut (same p q) = ih (subst (star_language L).prefix q g)
            by_cut (shorter d k p q) = absurd (next c' v' d k _ s' (subst L.prefix p (l.prefixes.spelled c v s)) (star_first d _ (subst (star_language L).prefix q g)).1)

    star_unique : (x : List T) (vs ws : List A) → Concatenates L.spells x vs → Concatenates L.spells x ws → vs ≡ ws
    star_unique x [] [] e f = refl
    star_unique x [] (w ∷ ws) e (y, z, i, s, r) = absurd (some w (subst (λ u. L.spells u w) (nil_left y z (sym e ∙ i)) s))
    star_unique x (w ∷ ws) [] (y, z, i, s, r) e = absurd (some w (subst (λ u. L.spells u w) (nil_left y z (sym e ∙ i)) s))
    star_unique x (v ∷ vs) (w ∷ ws) (y, z, i, s, r) (y', z', i', s', r') =
        go (cut y z y' z' (sym i ∙ i')) (λ q. star_unique z vs ws r q)
      where
        go : Cut y z y' z' → (Concatenates L.spells z ws → vs ≡ ws) → v ∷ vs ≡ w ∷ ws
        go (longer c k p q) ih = absurd (next y v c k _ s (subst L.prefix p (l.prefixes.spelled y' w s')) (each_first c _ vs (subst (λ u. Concatenates L.spells u vs) q r)).1)
        go (same p q) ih =
            let e : v ≡ w = l.unique y v w s (subst (λ u. L.spells u w) p s') in
            let f : vs ≡ ws = ih (subst (λ u. Concatenates L.spells u ws) q r') in
            cc
        go (shorter c k p q) ih = absurd (next y' w c k _ s' (subst L.prefix p (l.prefixes.spelled y v s)) (each_first c _ ws (subst (λ u. Concatenates L.spells u ws) q r')).1)

    pub star_known : Known kind (star_language L) (star_lookahead a)
    star_known = record {
      prefixes = star_prefixes L l.prefixes;
      ahead = record { nullable = λ v s. refl; first = λ t x f. l.ahead.first t _ (star_first t x f).1; last = star_last };
      unique = star_unique;
    }
