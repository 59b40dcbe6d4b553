-- Each limit of a case is passed at one token of a text.
use Rattle.std.proofs.Common.{◌≡◌, ℕ, ◌+◌, List, ◌∷◌, ◌++◌, sym, ◌∙◌, ap, subst}
use Rattle.grammar.proofs.languages.Cut.{Cut, cut, longer, same, shorter}
use Rattle.grammar.proofs.languages.Limits.{passed_once}
use Rattle.sql_lex.specs.Lexemes.{Lexeme}
use Rattle.sql_read.specs.ReadingTexts.{Passes, PassesDepth, TextLimit, depth_limit, keeping}
use Rattle.case_core.specs.Cases.{cases, texts}
use Rattle.case_core.proofs.CaseCopies.{closed}

-- ---- of a whole text

-- of two of its tokens the one stands before the other, or they are one, or it stands behind
pub data Order (x y : List Lexeme) (t u : Lexeme) : Type 0 where
  before : (k : List Lexeme) → y ≡ x ++ t ∷ k → Order x y t u
  one : x ≡ y → t ≡ u → Order x y t u
  behind : (k : List Lexeme) → x ≡ y ++ u ∷ k → Order x y t u

pub order : (ts x y r s : List Lexeme) (t u : Lexeme) → ts ≡ x ++ t ∷ r → ts ≡ y ++ u ∷ s → Order x y t u
order ts x y r s t u e f = of (cut x (t ∷ r) y (u ∷ s) (sym e ∙ f))
  where
    of : Cut x (t ∷ r) y (u ∷ s) → Order x y t u
    of (longer v k i j) = let w : v ≡ t = cc in before k (subst (λ z. y ≡ x ++ z ∷ k) w i)
    of (same i j) = one (sym i) (cc)
    of (shorter v k i j) = let w : v ≡ u = cc in behind k (subst (λ z. x ≡ y ++ z ∷ k) w i)

module _ (copied : ℕ) (ts : List Lexeme) where
  pub once : (which : TextLimit) (a b : Passes texts copied ts which) → (a.taken ≡ b.taken) × (a.token ≡ b.token)
  once which a b = passed_once cases (keeping texts copied which) (closed copied which) a.taken a.rest b.taken b.rest a.token b.token a.beyond b.beyond (sym a.parts ∙ b.parts)

  pub one_place : (at place : ℕ) → PassesDepth texts copied ts at → PassesDepth texts copied ts place → at ≡ place
  one_place at place a b = sym a.place ∙ (ap (λ t. t.start) (once depth_limit a.passes b.passes).1 ∙ b.place)
