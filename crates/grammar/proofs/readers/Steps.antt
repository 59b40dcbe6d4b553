-- How readings of parts make a reading of the whole. Each lemma speaks of a pair of languages: one with no limits, and the same within them.
use Rattle.std.proofs.Common.{◌≡◌, ℕ, ◌+◌, Bool, true, false, List, [], ◌∷◌, ◌++◌, length, length-append, inl, inr, refl, sym, ◌∙◌, ap, subst, append_assoc, arith}
use Rattle.std.proofs.lemmas.List.{append-nil}
use Rattle.grammar.specs.Language.{Language, Includes, HasPrefixes, empty_language, token_language, seq_language, map_language, nonempty_language, counted_language, bind_language, no_language}
use Rattle.grammar.specs.Lookahead.{Lookahead}
use Rattle.grammar.specs.Reading.{Stops, Passes, Took, Failed, Exceeded, Residual}
use Rattle.grammar.proofs.languages.Cut.{Cut, longer, same, shorter, cut}
use Rattle.grammar.proofs.languages.Forms.{includes_itself}
use Rattle.grammar.proofs.languages.Known.{Known, Parted, map_known, kept, bind_includes_seq, seq_includes_bind}

-- B is U within the limits
pub record IsWithin {T A : Type 0} (U B : Language T A) : Type 0 where
  pub includes : Includes U B
  pub prefixes : HasPrefixes B

-- ---- behind what was taken

-- Behind the tokens x, where mid is still to come: what M and M' say of tokens that come next, N and N' say of x and these.
pub record Behind {T C D : Type 0} (M M' : Language T C) (N N' : Language T D) (x mid : List T) : Type 0 where
  pub begun : (y rest : List T) → mid ≡ y ++ rest → M'.prefix y → N'.prefix (x ++ y)
  -- where M stops, N spells no more than it
  pub spelled : (y rest : List T) → mid ≡ y ++ rest → Stops M y rest → M'.prefix y → (w : D) → N.spells (x ++ y) w → (v : C) × M.spells y v
  -- of one more token
  pub there : (y : List T) (t : T) (rest : List T) → mid ≡ y ++ t ∷ rest → M.prefix (y ++ t ∷ []) → N.prefix (x ++ (y ++ t ∷ []))
  pub back : (y : List T) (t : T) (rest : List T) → mid ≡ y ++ t ∷ rest → N.prefix (x ++ (y ++ t ∷ [])) → M.prefix (y ++ t ∷ [])
  pub within : (y : List T) (t : T) (rest : List T) → mid ≡ y ++ t ∷ rest → N'.prefix (x ++ (y ++ t ∷ [])) → M'.prefix (y ++ t ∷ [])

module _ {T C D : Type 0} {M M' : Language T C} {N N' : Language T D} {x mid here : List T} (b : Behind M M' N N' x mid) (e : here ≡ x ++ mid) where
  whole : (y rest : List T) → mid ≡ y ++ rest → here ≡ (x ++ y) ++ rest
  whole y rest i = e ∙ (ap (λ z. x ++ z) i ∙ sym (append_assoc x y rest))

  stops : (y rest : List T) → mid ≡ y ++ rest → Stops M y rest → Stops N (x ++ y) rest
  stops y [] i s = tt
  stops y (t ∷ rest) i s = λ f. s (b.back y t rest i (subst N.prefix (append_assoc x y (t ∷ [])) f))

  passes : (y rest : List T) → mid ≡ y ++ rest → Passes M M' y rest → Passes N N' (x ++ y) rest
  passes y [] i p = p
  passes y (t ∷ rest) i p =
      (subst N.prefix (sym (append_assoc x y (t ∷ []))) (b.there y t rest i p.0), λ f. p.1 (b.within y t rest i (subst N'.prefix (append_assoc x y (t ∷ [])) f)))

  pub took_behind : (v : C) (w : D) (rest : List T) (r : Took M M' mid v rest) → N'.spells (x ++ r.taken) w → Took N N' here w rest
  took_behind v w rest r s = record { taken = x ++ r.taken; whole = whole r.taken rest r.whole; spelled = s; stops = stops r.taken rest r.whole r.stops }

  pub failed_behind : (rest : List T) → Failed M M' mid rest → Failed N N' here rest
  failed_behind rest r = record {
    taken = x ++ r.taken;
    whole = whole r.taken rest r.whole;
    begun = b.begun r.taken rest r.whole r.begun;
    unspelled = λ w s. let p = b.spelled r.taken rest r.whole r.stops r.begun w s in r.unspelled p.0 p.1;
    stops = stops r.taken rest r.whole r.stops;
  }

  pub exceeded_behind : (rest : List T) → Exceeded M M' mid rest → Exceeded N N' here rest
  exceeded_behind rest r = record {
    taken = x ++ r.taken;
    whole = whole r.taken rest r.whole;
    begun = b.begun r.taken rest r.whole r.begun;
    passes = passes r.taken rest r.whole r.passes;
  }

  -- so M remains to be read of N
  pub residual_behind : {A : Type 0} {L L' : Language T A} {start : List T} {h : D → A} (k : C → D) → ((y : List T) (v : C) → M'.spells y v → N'.spells (x ++ y) (k v))
      → Residual N N' here L L' start h → Residual M M' mid L L' start (λ v. h (k v))
  residual_behind k m l = record {
    took = λ v rest r. l.took (k v) rest (took_behind v (k v) rest r (m r.taken v r.spelled));
    failed = λ rest r. l.failed rest (failed_behind rest r);
    exceeded = λ rest r. l.exceeded rest (exceeded_behind rest r);
    began = λ rest r. l.began rest (record { taken = x ++ r.taken; whole = whole r.taken rest r.whole; begun = b.begun r.taken rest r.whole r.begun });
  }

-- ---- languages that are the same

pub record Same {T A : Type 0} (L M : Language T A) : Type 0 where
  pub there : Includes M L
  pub back : Includes L M

module _ {T A : Type 0} (U B W C : Language T A) (u : Same U W) (b : Same B C) (ts : List T) where
  pub same_behind : Behind U B W C [] ts
  same_behind = record {
    begun = λ y rest e f. b.there.prefix y f;
    spelled = λ y rest e p f w s. (w, u.back.spells y w s);
    there = λ y t rest e f. u.there.prefix (y ++ t ∷ []) f;
    back = λ y t rest e f. u.back.prefix (y ++ t ∷ []) f;
    within = λ y t rest e f. b.back.prefix (y ++ t ∷ []) f;
  }

  pub took_in : (v : A) (rest : List T) → Took U B ts v rest → Took W C ts v rest
  took_in v rest r = took_behind same_behind refl v v rest r (b.there.spells r.taken v r.spelled)

  pub failed_in : (rest : List T) → Failed U B ts rest → Failed W C ts rest
  failed_in = failed_behind same_behind refl

  pub exceeded_in : (rest : List T) → Exceeded U B ts rest → Exceeded W C ts rest
  exceeded_in = exceeded_behind same_behind refl

-- ---- nothing, and one token

stops_none : {T : Type 0} (rest : List T) → Stops empty_language [] rest
stops_none [] = tt
stops_none (t ∷ rest) = λ f. cc

pub empty_took : {T : Type 0} (ts : List T) → Took empty_language empty_language ts tt ts
empty_took ts = record { taken = []; whole = refl; spelled = refl; stops = stops_none ts }

module _ {T K : Type 0} (kind : T → K) (p : K → Bool) where
  one_only : (t : T) (rest : List T) → Stops (token_language kind p) (t ∷ []) rest
  one_only t [] = tt
  one_only t (s ∷ rest) = λ f. no f
    where
      no : (token_language kind p).prefix (t ∷ s ∷ []) → ⊥
      no (inl e) = cc
      no (inr (u, e, q)) = cc

  pub token_took : (t : T) (rest : List T) → p (kind t) ≡ true → Took (token_language kind p) (token_language kind p) (t ∷ rest) t rest
  token_took t rest q = record { taken = t ∷ []; whole = refl; spelled = (refl, q); stops = one_only t rest }

  pub token_ended : Failed (token_language kind p) (token_language kind p) [] []
  token_ended = record { taken = []; whole = refl; begun = inl refl; unspelled = λ v s. let e = s.0 in cc; stops = tt }

  pub token_failed : (t : T) (rest : List T) → p (kind t) ≡ false → Failed (token_language kind p) (token_language kind p) (t ∷ rest) (t ∷ rest)
  token_failed t rest q = record { taken = []; whole = refl; begun = inl refl; unspelled = λ v s. let e = s.0 in cc; stops = λ f. no f }
    where
      no : (token_language kind p).prefix (t ∷ []) → ⊥
      no (inl e) = cc
      no (inr (u, e, r)) = let i : u ≡ t = cc in let j : p (kind t) ≡ true = subst (λ z. p (kind z) ≡ true) i r in cc

-- ---- other values

module _ {T A : Type 0} (U B : Language T A) where
  module _ {C : Type 0} (h : A → C) (ts : List T) where
    pub map_behind : Behind U B (map_language h U) (map_language h B) [] ts
    map_behind = record {
      begun = λ y rest e f. f;
      spelled = λ y rest e p f w s. (s.0, s.1);
      there = λ y t rest e f. f;
      back = λ y t rest e f. f;
      within = λ y t rest e f. f;
    }

    pub map_took : (v : A) (rest : List T) → Took U B ts v rest → Took (map_language h U) (map_language h B) ts (h v) rest
    map_took v rest r = took_behind map_behind refl v (h v) rest r (v, r.spelled, refl)

  module _ (ts : List T) where
    -- with the number of tokens that were taken
    counted_behind : Behind U B (counted_language U) (counted_language B) [] ts
    counted_behind = record {
      begun = λ y rest e f. f;
      spelled = λ y rest e p f w s. (w.0, s.0);
      there = λ y t rest e f. f;
      back = λ y t rest e f. f;
      within = λ y t rest e f. f;
    }

    pub counted_took : (v : A) (rest : List T) (count : ℕ) → length ts ≡ count + length rest → Took U B ts v rest → Took (counted_language U) (counted_language B) ts (v, count) rest
    counted_took v rest count e r = took_behind counted_behind refl v (v, count) rest r (r.spelled, omega (arith, e, ap length r.whole, length-append r.taken rest))

    pub counted_failed : (rest : List T) → Failed U B ts rest → Failed (counted_language U) (counted_language B) ts rest
    counted_failed = failed_behind counted_behind refl

    pub counted_exceeded : (rest : List T) → Exceeded U B ts rest → Exceeded (counted_language U) (counted_language B) ts rest
    counted_exceeded = exceeded_behind counted_behind refl

    -- where a token was taken
    nonempty_behind : Behind U B (nonempty_language U) (nonempty_language B) [] ts
    nonempty_behind = record {
      begun = λ y rest e f. f;
      spelled = λ y rest e p f w s. (w, s.0);
      there = λ y t rest e f. f;
      back = λ y t rest e f. f;
      within = λ y t rest e f. f;
    }

    pub nonempty_took : (v : A) (rest : List T) → (ts ≡ rest → ⊥) → Took U B ts v rest → Took (nonempty_language U) (nonempty_language B) ts v rest
    nonempty_took v rest n r = took_behind nonempty_behind refl v v rest r (r.spelled, λ e. n (r.whole ∙ ap (λ z. z ++ rest) e))

    pub nonempty_failed : (rest : List T) → Failed U B ts rest → Failed (nonempty_language U) (nonempty_language B) ts rest
    nonempty_failed = failed_behind nonempty_behind refl

    pub nonempty_exceeded : (rest : List T) → Exceeded U B ts rest → Exceeded (nonempty_language U) (nonempty_language B) ts rest
    nonempty_exceeded = exceeded_behind nonempty_behind refl

-- ---- no room for one more level

-- what begins here is one level too deep
pub no_room : {T A : Type 0} (U : Language T A) (t : T) (rest : List T) → U.prefix (t ∷ []) → Exceeded U no_language (t ∷ rest) (t ∷ rest)
no_room U t rest f = record { taken = []; whole = refl; begun = refl; passes = (f, λ e. cc) }

-- ---- one after the other

module _ {T K : Type 0} (kind : T → K) where
  module _ {A C : Type 0} (U : Language T A) (W : A → Language T C) (a b : Lookahead K) (u : Known kind U a) (w : (v : A) → Known kind (W v) b) (parted : Parted a b) where
    clash : (x : List T) (v v' : A) (t : T) (y z : List T) → U.spells x v → U.prefix (x ++ t ∷ y) → (W v').prefix (t ∷ z) → ⊥
    clash x v v' t y z s f g = parted (kind t) (u.ahead.last x v t y s f) ((w v').ahead.first t z g)

    -- no prefix is longer than one that stops
    no_longer : (x : List T) (t : T) (y z : List T) → Stops U x (t ∷ z) → U.prefix (x ++ t ∷ y) → ⊥
    no_longer x t y z s f = s (u.prefixes.shorter (x ++ t ∷ []) y (subst U.prefix (sym (append_assoc x (t ∷ []) y)) f))

    module _ (x : List T) (v : A) (s : U.spells x v) where
      -- the first part does not go on into what follows
      no_further : (y rest : List T) (c : T) (k z : List T) → Stops U x (y ++ rest) → y ++ rest ≡ c ∷ z → U.prefix (x ++ c ∷ k) → ⊥
      no_further [] [] c k z stop e f = cc
      no_further [] (t ∷ rest) c k z stop e f = let i : c ≡ t = cc in no_longer x t k rest stop (subst (λ o. U.prefix (x ++ o ∷ k)) i f)
      no_further (d ∷ y) rest c k z stop e f = let i : c ≡ d = cc in no_longer x d k (y ++ rest) stop (subst (λ o. U.prefix (x ++ o ∷ k)) i f)

      -- any spelling of the whole that is x ++ y is one of the second part behind x
      second_spelled : (y rest : List T) → Stops U x (y ++ rest) → (o : C) → (bind_language U W).spells (x ++ y) o → (W v).spells y o
      second_spelled y rest stop o (p, q, v', e, r, g) = go (cut x y p q e)
        where
          go : Cut x y p q → (W v).spells y o
          go (longer c k i j) = absurd (no_further y rest c k _ stop (ap (λ z. z ++ rest) j) (subst U.prefix i (u.prefixes.spelled p v' r)))
          go (same i j) =
              let h : v' ≡ v = u.unique x v' v (subst (λ z. U.spells z v') i r) s in
              subst (λ z. (W z).spells y o) h (subst (λ z. (W v').spells z o) j g)
          go (shorter c k i j) = absurd (clash p v' v' c k _ r (subst U.prefix i (u.prefixes.spelled x v s)) (subst (W v').prefix j ((w v').prefixes.spelled q o g)))

    -- of U and W as they are, or within limits
    module _ (B : Language T A) (D : A → Language T C) (l : IsWithin U B) (m : (v : A) → IsWithin (W v) (D v)) where
      -- where the first part is begun and the second cannot go on, it is the first that goes on
      first_goes : (x : List T) (t : T) → B.prefix x → ((v : A) → B.spells x v → (D v).prefix (t ∷ []) → ⊥) → (bind_language B D).prefix (x ++ t ∷ []) → B.prefix (x ++ t ∷ [])
      first_goes x t f none (inl g) = g
      first_goes x t f none (inr (y, z, v, e, s, g)) = go (cut x (t ∷ []) y z e)
        where
          go : Cut x (t ∷ []) y z → B.prefix (x ++ t ∷ [])
          go (longer c k p q) =
              let i : c ≡ t = cc in
              l.prefixes.shorter (x ++ t ∷ []) k (subst B.prefix (p ∙ (ap (λ o. x ++ o ∷ k) i ∙ sym (append_assoc x (t ∷ []) k))) (l.prefixes.spelled y v s))
          go (same p q) = absurd (none v (subst (λ o. B.spells o v) p s) (subst (D v).prefix q g))
          go (shorter c k p q) = absurd (clash y v v c k _ (l.includes.spells y v s) (subst U.prefix p (l.includes.prefix x f)) (subst (W v).prefix q ((m v).includes.prefix z g)))

      -- where the first part took x and stops, it is the second that goes on
      second_goes : (x : List T) (v : A) → U.spells x v → (y : List T) (t : T) (rest : List T) → Stops U x (y ++ t ∷ rest) → (bind_language B D).prefix (x ++ (y ++ t ∷ [])) → (D v).prefix (y ++ t ∷ [])
      second_goes x v s y t rest stop (inl f) = absurd (goes_in y stop (l.includes.prefix _ f))
        where
          goes_in : (y : List T) → Stops U x (y ++ t ∷ rest) → U.prefix (x ++ (y ++ t ∷ [])) → ⊥
          goes_in [] stop f = no_longer x t [] rest stop f
          goes_in (c ∷ y) stop f = no_longer x c (y ++ t ∷ []) (y ++ t ∷ rest) stop f
      second_goes x v s y t rest stop (inr (p, q, v', e, r, g)) = go (cut x (y ++ t ∷ []) p q e)
        where
          r' : U.spells p v'
          r' = l.includes.spells p v' r

          go : Cut x (y ++ t ∷ []) p q → (D v).prefix (y ++ t ∷ [])
          go (longer c k i j) =
              absurd (no_further x v s y (t ∷ rest) c k _ stop (sym (append_assoc y (t ∷ []) rest) ∙ ap (λ z. z ++ rest) j) (subst U.prefix i (u.prefixes.spelled p v' r')))
          go (same i j) =
              let h : v' ≡ v = u.unique x v' v (subst (λ o. U.spells o v') i r') s in
              subst (λ o. (D o).prefix (y ++ t ∷ [])) h (subst (D v').prefix j g)
          go (shorter c k i j) = absurd (clash p v' v' c k _ r' (subst U.prefix i (u.prefixes.spelled x v s)) (subst (W v').prefix j ((m v').includes.prefix q g)))

    itself : {X : Type 0} (L : Language T X) → HasPrefixes L → IsWithin L L
    itself L f = record { includes = includes_itself L; prefixes = f }

    module _ (B : Language T A) (D : A → Language T C) (l : IsWithin U B) (m : (v : A) → IsWithin (W v) (D v)) where
      -- ---- where the first part is all that was begun

      first_unspelled : (x : List T) → U.prefix x → ((v : A) → U.spells x v → ⊥) → (o : C) → (bind_language U W).spells x o → ⊥
      first_unspelled x f un o (y, [], v, e, s, r) = un v (subst (λ z. U.spells z v) (sym (e ∙ append-nil y)) s)
      first_unspelled x f un o (y, c ∷ z, v, e, s, r) = clash y v v c z z s (subst U.prefix e f) ((w v).prefixes.spelled _ o r)

      pub bind_first_failed : (ts rest : List T) → Failed U B ts rest → Failed (bind_language U W) (bind_language B D) ts rest
      bind_first_failed ts rest r = record {
        taken = r.taken;
        whole = r.whole;
        begun = inl r.begun;
        unspelled = first_unspelled r.taken (l.includes.prefix r.taken r.begun) r.unspelled;
        stops = go rest r.stops;
      }
        where
          go : (rest : List T) → Stops U r.taken rest → Stops (bind_language U W) r.taken rest
          go [] s = tt
          go (t ∷ rest) s = λ f. s (first_goes U W (itself U u.prefixes) (λ v. itself (W v) (w v).prefixes) r.taken t (l.includes.prefix r.taken r.begun) (λ v i g. r.unspelled v i) f)

      pub bind_first_exceeded : (ts rest : List T) → Exceeded U B ts rest → Exceeded (bind_language U W) (bind_language B D) ts rest
      bind_first_exceeded ts rest r = record { taken = r.taken; whole = r.whole; begun = inl r.begun; passes = go rest r.passes }
        where
          go : (rest : List T) → Passes U B r.taken rest → Passes (bind_language U W) (bind_language B D) r.taken rest
          go [] p = p
          go (t ∷ rest) p =
              (inl p.0, λ f. p.1 (first_goes B D l m r.taken t r.begun (λ v s g. clash r.taken v v t [] [] (l.includes.spells r.taken v s) p.0 ((m v).includes.prefix (t ∷ []) g)) f))

      -- ---- where the first part took x with v

      module _ (x : List T) (v : A) (s : B.spells x v) (mid : List T) (stop : Stops U x mid) where
        stops_at : (y : List T) → mid ≡ y → Stops U x y
        stops_at y e = subst (λ z. Stops U x z) e stop

        pub bind_behind : Behind (W v) (D v) (bind_language U W) (bind_language B D) x mid
        bind_behind = record {
          begun = λ y rest e f. inr (x, y, v, refl, s, f);
          spelled = λ y rest e p f o q. (o, second_spelled x v (l.includes.spells x v s) y rest (stops_at (y ++ rest) e) o q);
          there = λ y t rest e f. inr (x, y ++ t ∷ [], v, refl, l.includes.spells x v s, f);
          back = λ y t rest e f. second_goes U W (itself U u.prefixes) (λ v. itself (W v) (w v).prefixes) x v (l.includes.spells x v s) y t rest (stops_at (y ++ t ∷ rest) e) f;
          within = λ y t rest e f. second_goes B D l m x v (l.includes.spells x v s) y t rest (stops_at (y ++ t ∷ rest) e) f;
        }

  -- a sequence goes by the first's value, which it keeps

  pub map_within : {A C : Type 0} (h : A → C) (U B : Language T A) → IsWithin U B → IsWithin (map_language h U) (map_language h B)
  map_within h U B l = record {
    includes = record { spells = λ ts v s. (s.0, l.includes.spells ts s.0 s.1, s.2); prefix = l.includes.prefix };
    prefixes = record { empty = l.prefixes.empty; shorter = l.prefixes.shorter; spelled = λ ts v s. l.prefixes.spelled ts s.0 s.1 };
  }

  module _ {A C : Type 0} (U B : Language T A) (W D : Language T C) (a b : Lookahead K) (u : Known kind U a) (w : Known kind W b) (l : IsWithin U B) (m : IsWithin W D) (parted : Parted a b) where
    as_seq : {X Y : Type 0} (L : Language T X) (M : Language T Y) → Same (bind_language L (kept kind L M)) (seq_language L M)
    as_seq L M = record { there = seq_includes_bind kind L M; back = bind_includes_seq kind L M }

    second_known : (v : A) → Known kind (kept kind U W v) b
    second_known v = map_known kind W b w (λ o. (v, o))

    second_within : (v : A) → IsWithin (kept kind U W v) (kept kind B D v)
    second_within v = map_within (λ o. (v, o)) W D m

    pub seq_first_failed : (ts rest : List T) → Failed U B ts rest → Failed (seq_language U W) (seq_language B D) ts rest
    seq_first_failed ts rest r =
        failed_in _ _ _ _ (as_seq U W) (as_seq B D) ts rest (bind_first_failed U (kept kind U W) a b u second_known parted B (kept kind B D) l second_within ts rest r)

    pub seq_first_exceeded : (ts rest : List T) → Exceeded U B ts rest → Exceeded (seq_language U W) (seq_language B D) ts rest
    seq_first_exceeded ts rest r =
        exceeded_in _ _ _ _ (as_seq U W) (as_seq B D) ts rest (bind_first_exceeded U (kept kind U W) a b u second_known parted B (kept kind B D) l second_within ts rest r)

    pub seq_behind : (x : List T) (v : A) → B.spells x v → (mid : List T) → Stops U x mid → Behind W D (seq_language U W) (seq_language B D) x mid
    seq_behind x v s mid stop = record {
      begun = both.begun;
      spelled = λ y rest e p f o q.
          let r = second_spelled U (kept kind U W) a b u second_known parted x v (l.includes.spells x v s) y rest (subst (λ z. Stops U x z) e stop) o ((bind_includes_seq kind U W).spells (x ++ y) o q) in (r.0, r.1);
      there = both.there;
      back = both.back;
      within = both.within;
    }
      where
        both : Behind (kept kind U W v) (kept kind B D v) (bind_language U (kept kind U W)) (bind_language B (kept kind B D)) x mid
        both = bind_behind U (kept kind U W) a b u second_known parted B (kept kind B D) l second_within x v s mid stop
