-- What a tree among others gives, over what those before it give.
use Rattle.std.proofs.Common.{◌≡◌, ℕ, zero, suc, ◌+◌, ◌<◌, ◌≤◌, List, [], ◌∷◌, ◌++◌, length, take, get_or, refl, ap, sym, ◌∙◌, arith}
use Rattle.scope_core.specs.Syntax.{RQuery}
use Rattle.scope_core.proofs.basics.Lists.{longer, get-between, get-before}
use Rattle.sql_to_u.specs.Answer.{over_earlier}
use Rattle.sql_to_u.proofs.terms.Places.{past-end}

module _ (X : Type 0) (step : List X → RQuery → X) where
  long : (earlier : List X) (trees : List RQuery) → length (over_earlier step earlier trees) ≡ length earlier + length trees
  long earlier [] = omega arith
  long earlier (t ∷ trees) = long (earlier ++ step earlier t ∷ []) trees ∙ (let e = longer earlier (step earlier t) in omega (arith, e))

  -- what is there stays where it is
  front : (earlier : List X) (trees : List RQuery) (place : ℕ) (d : X) → place < length earlier → get_or (over_earlier step earlier trees) place d ≡ get_or earlier place d
  front earlier [] place d h = refl
  front earlier (t ∷ trees) place d h =
      front (earlier ++ step earlier t ∷ []) trees place d (let e = longer earlier (step earlier t) in omega (arith, e, h)) ∙ get-before earlier (step earlier t) d place h

  behind : (earlier : List X) (trees : List RQuery) (place : ℕ) (tree : RQuery) (d : X) → place < length trees → tree ≡ get_or trees place tree
      → get_or (over_earlier step earlier trees) (length earlier + place) d ≡ step (over_earlier step earlier (take place trees)) tree
  behind earlier [] place tree d h is = absurd (omega (arith, h))
  behind earlier (t ∷ trees) zero tree d h is =
      let e : length earlier + 0 ≡ length earlier = omega arith in
      let l = longer earlier (step earlier t) in
      ap (λ i. get_or (over_earlier step (earlier ++ step earlier t ∷ []) trees) i d) e
      ∙ front (earlier ++ step earlier t ∷ []) trees (length earlier) d (omega (arith, l))
      ∙ get-between earlier (step earlier t) [] d
      ∙ ap (step earlier) (sym is)
  behind earlier (t ∷ trees) (suc place) tree d h is =
      let l = longer earlier (step earlier t) in
      let e : length earlier + suc place ≡ length (earlier ++ step earlier t ∷ []) + place = omega (arith, l) in
      ap (λ i. get_or (over_earlier step (earlier ++ step earlier t ∷ []) trees) i d) e
      ∙ behind (earlier ++ step earlier t ∷ []) trees place tree d (omega (arith, h)) is

  pub at-place : (trees : List RQuery) (place : ℕ) (tree : RQuery) (d : X) → place < length trees → tree ≡ get_or trees place tree
      → get_or (over_earlier step [] trees) place d ≡ step (over_earlier step [] (take place trees)) tree
  at-place trees place tree d h is =
      let e : place ≡ 0 + place = omega arith in
      ap (λ i. get_or (over_earlier step [] trees) i d) e ∙ behind [] trees place tree d h is

  pub past-last : (trees : List RQuery) (place : ℕ) (d : X) → length trees ≤ place → get_or (over_earlier step [] trees) place d ≡ d
  past-last trees place d h = past-end (over_earlier step [] trees) place d (let l = long [] trees in omega (arith, l, h))
