-- A reading has one outcome, at one place.
use Rattle.std.proofs.Common.{◌≡◌, List, [], ◌∷◌, ◌++◌, append_assoc, sym, ◌∙◌, subst}
use Rattle.grammar.specs.Language.{Language, HasPrefixes, IsUnambiguous, Includes}
use Rattle.grammar.specs.Reading.{Stops, Passes, Took, Failed, Exceeded}
use Rattle.grammar.proofs.languages.Cut.{Cut, longer, same, shorter, cut}
use Rattle.grammar.proofs.readers.Longest.{no_longer}

module _ {T A : Type 0} (U B : Language T A) (u : HasPrefixes U) (b : HasPrefixes B) (includes : Includes U B) where
  ends_once : (ts x y rest other : List T) → ts ≡ x ++ rest → ts ≡ y ++ other → U.prefix x → U.prefix y → Stops U x rest → Stops U y other → (x ≡ y) × (rest ≡ other)
  ends_once ts x y rest other e i f g s r = go (cut x rest y other (sym e ∙ i))
    where
      go : Cut x rest y other → (x ≡ y) × (rest ≡ other)
      go (longer t k p q) = absurd (no_longer U u x rest t (k ++ other) s q k (subst U.prefix p g))
      go (same p q) = (sym p, sym q)
      go (shorter t k p q) = absurd (no_longer U u y other t (k ++ rest) r q k (subst U.prefix p f))

  -- what stops within the limits passes none
  ends_within : (ts x y rest other : List T) → ts ≡ x ++ rest → ts ≡ y ++ other → B.prefix x → U.prefix y → Stops U x rest → Passes U B y other → ⊥
  ends_within ts x y rest other e i f g s p = go (cut x rest y other (sym e ∙ i))
    where
      passed : (rest other : List T) → x ≡ y → rest ≡ other → Stops U x rest → Passes U B y other → ⊥
      passed rest [] h j s p = p
      passed [] (t ∷ other) h j s p = cc
      passed (c ∷ rest) (t ∷ other) h j s p =
          let l : c ≡ t = cc in s (subst (λ z. U.prefix (x ++ z ∷ [])) (sym l) (subst (λ z. U.prefix (z ++ t ∷ [])) (sym h) p.0))

      inner : (other : List T) (t : T) (k : List T) → x ≡ y ++ t ∷ k → other ≡ t ∷ (k ++ rest) → Passes U B y other → ⊥
      inner [] t k h j p = p
      inner (c ∷ other) t k h j p =
          let l : t ≡ c = cc in
          p.1 (subst (λ z. B.prefix (y ++ z ∷ [])) l (b.shorter (y ++ t ∷ []) k (subst B.prefix (h ∙ sym (append_assoc y (t ∷ []) k)) f)))

      go : Cut x rest y other → ⊥
      go (longer t k h j) = no_longer U u x rest t (k ++ other) s j k (subst U.prefix h g)
      go (same h j) = passed rest other (sym h) (sym j) s p
      go (shorter t k h j) = inner other t k h j p

  passes_once : (ts x y rest other : List T) → ts ≡ x ++ rest → ts ≡ y ++ other → B.prefix x → B.prefix y → Passes U B x rest → Passes U B y other → rest ≡ other
  passes_once ts x y rest other e i f g p q = go (cut x rest y other (sym e ∙ i))
    where
      beyond : (x y rest other : List T) (t : T) (k : List T) → B.prefix y → Passes U B x rest → y ≡ x ++ t ∷ k → rest ≡ t ∷ (k ++ other) → ⊥
      beyond x y [] other t k g p h j = p
      beyond x y (c ∷ rest) other t k g p h j =
          let l : t ≡ c = cc in
          p.1 (subst (λ z. B.prefix (x ++ z ∷ [])) l (b.shorter (x ++ t ∷ []) k (subst B.prefix (h ∙ sym (append_assoc x (t ∷ []) k)) g)))

      go : Cut x rest y other → rest ≡ other
      go (longer t k h j) = absurd (beyond x y rest other t k g p h j)
      go (same h j) = sym j
      go (shorter t k h j) = absurd (beyond y x other rest t k f q h j)

  took_prefix : (ts : List T) (v : A) (rest : List T) (r : Took U B ts v rest) → B.prefix r.taken
  took_prefix ts v rest r = b.spelled r.taken v r.spelled

  pub took_once : IsUnambiguous U → (ts : List T) (v w : A) (rest other : List T) → Took U B ts v rest → Took U B ts w other → (v ≡ w) × (rest ≡ other)
  took_once one ts v w rest other r q =
      let p = ends_once ts r.taken q.taken rest other r.whole q.whole (includes.prefix _ (took_prefix ts v rest r)) (includes.prefix _ (took_prefix ts w other q)) r.stops q.stops in
      (one q.taken v w (subst (λ z. U.spells z v) p.0 (includes.spells r.taken v r.spelled)) (includes.spells q.taken w q.spelled), p.1)

  pub took_not_failed : (ts : List T) (v : A) (rest other : List T) → Took U B ts v rest → Failed U B ts other → ⊥
  took_not_failed ts v rest other r q =
      let p = ends_once ts r.taken q.taken rest other r.whole q.whole (includes.prefix _ (took_prefix ts v rest r)) (includes.prefix _ q.begun) r.stops q.stops in
      q.unspelled v (subst (λ z. U.spells z v) p.0 (includes.spells r.taken v r.spelled))

  pub took_not_exceeded : (ts : List T) (v : A) (rest other : List T) → Took U B ts v rest → Exceeded U B ts other → ⊥
  took_not_exceeded ts v rest other r q = ends_within ts r.taken q.taken rest other r.whole q.whole (took_prefix ts v rest r) (includes.prefix _ q.begun) r.stops q.passes

  pub failed_once : (ts rest other : List T) → Failed U B ts rest → Failed U B ts other → rest ≡ other
  failed_once ts rest other r q = (ends_once ts r.taken q.taken rest other r.whole q.whole (includes.prefix _ r.begun) (includes.prefix _ q.begun) r.stops q.stops).1

  pub failed_not_exceeded : (ts rest other : List T) → Failed U B ts rest → Exceeded U B ts other → ⊥
  failed_not_exceeded ts rest other r q = ends_within ts r.taken q.taken rest other r.whole q.whole r.begun (includes.prefix _ q.begun) r.stops q.passes

  pub exceeded_once : (ts rest other : List T) → Exceeded U B ts rest → Exceeded U B ts other → rest ≡ other
  exceeded_once ts rest other r q = passes_once ts r.taken q.taken rest other r.whole q.whole r.begun q.begun r.passes q.passes
