-- Two ways to cut one list.
use Rattle.std.proofs.Common.{◌≡◌, List, [], ◌∷◌, ◌++◌, refl, sym}

-- two cuts of one list, by which first part is longer
pub data Cut {T : Type 0} (a b c d : List T) : Type 0 where
  longer : (t : T) (k : List T) → c ≡ a ++ t ∷ k → b ≡ t ∷ (k ++ d) → Cut a b c d
  same : c ≡ a → d ≡ b → Cut a b c d
  shorter : (t : T) (k : List T) → a ≡ c ++ t ∷ k → d ≡ t ∷ (k ++ b) → Cut a b c d

module _ {T : Type 0} where
  under : (s : T) (a b c d : List T) → Cut a b c d → (t : T) → t ≡ s → Cut (s ∷ a) b (t ∷ c) d
  under s a b c d (longer x k e f) t p = longer x k (cc) f
  under s a b c d (same e f) t p = same (cc) f
  under s a b c d (shorter x k e f) t p = shorter x k (cc) f

  tails : (s t : T) (a b : List T) → s ∷ a ≡ t ∷ b → a ≡ b
  tails s t a b e = cc

  heads : (s t : T) (a b : List T) → s ∷ a ≡ t ∷ b → t ≡ s
  heads s t a b e = cc

  pub cut : (a b c d : List T) → a ++ b ≡ c ++ d → Cut a b c d
  cut [] b [] d e = same refl (sym e)
  cut [] b (t ∷ k) d e = longer t k refl e
  cut (t ∷ k) b [] d e = shorter t k refl (sym e)
  cut (s ∷ a) b (t ∷ c) d e = under s a b c d (cut a b c d (tails s t _ _ e)) t (heads s t _ _ e)

  pub nil_left : (a b : List T) → [] ≡ a ++ b → a ≡ []
  nil_left [] b e = refl
  nil_left (t ∷ a) b e = cc

  pub nil_right : (a b : List T) → [] ≡ a ++ b → b ≡ []
  nil_right [] b e = sym e
  nil_right (t ∷ a) b e = cc

  pub not_nil : (a b : List T) (t : T) → a ++ t ∷ b ≡ [] → ⊥
  not_nil [] b t e = cc
  not_nil (s ∷ a) b t e = cc
