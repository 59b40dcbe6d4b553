-- How a reading of one member makes a reading of a choice: by what cannot begin here, or by the next token.
use Rattle.std.proofs.Common.{◌≡◌, Bool, true, not, ◌&&◌, List, [], ◌∷◌, ◌++◌, inl, inr, refl, sym, ap, subst}
use Rattle.grammar.specs.Language.{Language, alt_language}
use Rattle.grammar.specs.Lookahead.{Lookahead}
use Rattle.grammar.specs.Reading.{Stops, Failed}
use Rattle.grammar.proofs.languages.Cut.{not_nil}
use Rattle.grammar.proofs.languages.Sets.{and_left, and_right, not_both}
use Rattle.grammar.proofs.languages.Known.{Known, Apart}
use Rattle.grammar.proofs.readers.Steps.{Behind, IsWithin}

-- nothing with this lookahead is spelled from here on, and no prefix but the empty one begins here
abbrev pub is_absent : {T K : Type 0} → (T → K) → Lookahead K → List T → Bool
is_absent kind a [] = not a.nullable
is_absent kind a (t ∷ ts) = not a.nullable && not (a.first (kind t))

module _ {T K : Type 0} (kind : T → K) where
  module _ {A : Type 0} (W : Language T A) (b : Lookahead K) (w : Known kind W b) where
    absent_null : (ts : List T) → is_absent kind b ts ≡ true → (v : A) → W.spells [] v → ⊥
    absent_null [] d v s = not_both b.nullable d (w.ahead.nullable v s)
    absent_null (t ∷ ts) d v s = not_both b.nullable (and_left (not b.nullable) (not (b.first (kind t))) d) (w.ahead.nullable v s)

    pub absent_prefix : (t : T) (ts : List T) → is_absent kind b (t ∷ ts) ≡ true → (y : List T) → W.prefix (t ∷ y) → ⊥
    absent_prefix t ts d y f = not_both (b.first (kind t)) (and_right (not b.nullable) (not (b.first (kind t))) d) (w.ahead.first t y f)

    -- where x was taken of the tokens, none is x and the next token
    pub absent_next : (ts x rest : List T) (t : T) (y : List T) → is_absent kind b ts ≡ true → ts ≡ x ++ t ∷ rest → W.prefix (x ++ t ∷ y) → ⊥
    absent_next [] x rest t y d e f = not_nil x rest t (sym e)
    absent_next (s ∷ ts) [] rest t y d e f = let i : t ≡ s = cc in absent_prefix s ts d y (subst (λ z. W.prefix (z ∷ y)) i f)
    absent_next (s ∷ ts) (c ∷ x) rest t y d e f = let i : c ≡ s = cc in absent_prefix s ts d (x ++ t ∷ y) (subst (λ z. W.prefix (z ∷ (x ++ t ∷ y))) i f)

    pub absent_spelled : (ts x rest : List T) (v : A) → is_absent kind b ts ≡ true → ts ≡ x ++ rest → W.spells x v → ⊥
    absent_spelled ts [] rest v d e s = absent_null ts d v s
    absent_spelled [] (c ∷ x) rest v d e s = cc
    absent_spelled (t ∷ ts) (c ∷ x) rest v d e s = let i : c ≡ t = cc in absent_prefix t ts d x (subst (λ z. W.prefix (z ∷ x)) i (w.prefixes.spelled _ v s))

    -- where it cannot begin and nothing is to be taken, it fails
    pub absent_failed : (D : Language T A) → IsWithin W D → (ts : List T) → is_absent kind b ts ≡ true → Failed W D ts ts
    absent_failed D m ts d = record { taken = []; whole = refl; begun = m.prefixes.empty; unspelled = absent_null ts d; stops = go ts d }
      where
        go : (ts : List T) → is_absent kind b ts ≡ true → Stops W [] ts
        go [] d = tt
        go (t ∷ ts) d = λ f. absent_prefix t ts d [] f

  -- ---- one member cannot begin here

  module _ {A : Type 0} (U B W D : Language T A) (b : Lookahead K) (w : Known kind W b) (m : IsWithin W D) (ts : List T) (d : is_absent kind b ts ≡ true) where
    pub first_behind : Behind U B (alt_language U W) (alt_language B D) [] ts
    first_behind = record {
      begun = λ y rest e f. inl f;
      spelled = λ y rest e p f v s. elim s [ inl r ↦ (v, r) | inr r ↦ absurd (absent_spelled W b w ts y rest v d e r) ];
      there = λ y t rest e f. inl f;
      back = λ y t rest e f. elim f [ inl g ↦ g | inr g ↦ absurd (absent_next W b w ts y rest t [] d e g) ];
      within = λ y t rest e f. elim f [ inl g ↦ g | inr g ↦ absurd (absent_next W b w ts y rest t [] d e (m.includes.prefix (y ++ t ∷ []) g)) ];
    }

    pub second_behind : Behind U B (alt_language W U) (alt_language D B) [] ts
    second_behind = record {
      begun = λ y rest e f. inr f;
      spelled = λ y rest e p f v s. elim s [ inl r ↦ absurd (absent_spelled W b w ts y rest v d e r) | inr r ↦ (v, r) ];
      there = λ y t rest e f. inr f;
      back = λ y t rest e f. elim f [ inl g ↦ absurd (absent_next W b w ts y rest t [] d e g) | inr g ↦ g ];
      within = λ y t rest e f. elim f [ inl g ↦ absurd (absent_next W b w ts y rest t [] d e (m.includes.prefix (y ++ t ∷ []) g)) | inr g ↦ g ];
    }

  -- ---- the next token begins the first member

  module _ {A : Type 0} (U B W D : Language T A) (a b : Lookahead K) (u : Known kind U a) (w : Known kind W b) (m : IsWithin W D) (apart : Apart a b) where
    not_second : (t : T) (y : List T) → U.prefix (t ∷ []) → W.prefix (t ∷ y) → ⊥
    not_second t y f g = apart (kind t) (u.ahead.first t [] f) (w.ahead.first t y g)

    -- a part of the tokens with one more begins with the next token
    begun_by : (t : T) (ts x : List T) (c : T) (rest : List T) → t ∷ ts ≡ x ++ c ∷ rest → (y : List T) × (x ++ c ∷ [] ≡ t ∷ y)
    begun_by t ts [] c rest e = ([], cc)
    begun_by t ts (d ∷ x) c rest e = let i : d ≡ t = cc in (x ++ c ∷ [], ap (λ z. z ∷ (x ++ c ∷ [])) i)

    begins_not : (t : T) (ts x : List T) (c : T) (rest : List T) → U.prefix (t ∷ []) → t ∷ ts ≡ x ++ c ∷ rest → W.prefix (x ++ c ∷ []) → ⊥
    begins_not t ts x c rest f e g = let p = begun_by t ts x c rest e in not_second t p.0 f (subst W.prefix p.1 g)

    -- the second spells none of what was taken
    not_spelled : (t : T) (ts x rest : List T) (v : A) → U.prefix (t ∷ []) → t ∷ ts ≡ x ++ rest → Stops U x rest → W.spells x v → ⊥
    not_spelled t ts [] [] v f e s r = cc
    not_spelled t ts [] (c ∷ rest) v f e s r = let i : t ≡ c = cc in s (subst (λ z. U.prefix (z ∷ [])) i f)
    not_spelled t ts (c ∷ x) rest v f e s r = let i : c ≡ t = cc in not_second t x f (subst (λ z. W.prefix (z ∷ x)) i (w.prefixes.spelled _ v r))

    pub by_token_behind : (t : T) (more : List T) → U.prefix (t ∷ []) → Behind U B (alt_language U W) (alt_language B D) [] (t ∷ more)
    by_token_behind t more f = record {
      begun = λ y rest e g. inl g;
      spelled = λ y rest e p g v s. elim s [ inl r ↦ (v, r) | inr r ↦ absurd (not_spelled t more y rest v f e p r) ];
      there = λ y c rest e g. inl g;
      back = λ y c rest e g. elim g [ inl h ↦ h | inr h ↦ absurd (begins_not t more y c rest f e h) ];
      within = λ y c rest e g. elim g [ inl h ↦ h | inr h ↦ absurd (begins_not t more y c rest f e (m.includes.prefix (y ++ c ∷ []) h)) ];
    }
