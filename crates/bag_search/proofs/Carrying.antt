-- Lists of points that are carried, and lists of places.
use Rattle.std.specs.Prelude.{◌&&◌}
use Rattle.std.proofs.Common.{◌≡◌, ◌≢◌, Bool, true, false, length, refl, ℕ, suc, ◌+◌, ◌-◌, ◌<◌, List, [], ◌∷◌, ◌++◌, map, ap, sym, ◌∙◌, append_assoc, arith}
use Rattle.shapes.specs.Shapes.{Point, Shape, turned}
use Rattle.shapes.specs.Tests.{both, equal, carried, points_equal, place_of, back_from}
use Rattle.shapes.proofs.Listed.{both-map, map-turned}

pub carried-points : (t : Shape) (l : List ℕ) (ps qs : List Point) → points_equal t (map (carried l) ps) qs ≡ both (λ p q. equal t (carried l p) q) ps qs
carried-points t l ps qs = both-map (equal t) (carried l) ps qs

pub turned-points : (t : Shape) (l : List ℕ) (ps qs : List Point) → points_equal t (turned (map (carried l) ps)) qs ≡ points_equal t (map (carried l) (turned ps)) qs
turned-points t l ps qs = ap (λ (k : List Point). points_equal t k qs) (map-turned (carried l) ps)

pub ruleset carrying = (carried-points, turned-points)

-- ---- the inverse of a list
pub next-back : (l old new : List ℕ) (x many place : ℕ) (whole : List ℕ) → x < many → place ≡ place_of x 0 l → new ≡ old ++ place ∷ []
    → old ++ back_from x (many - x) l ≡ whole → new ++ back_from (x + 1) (many - (x + 1)) l ≡ whole
next-back l old new x many place whole less is pushed h =
    let n : many - x ≡ suc (many - (x + 1)) = omega (arith, less) in
    ap (λ (k : List ℕ). k ++ back_from (x + 1) (many - (x + 1)) l) (pushed ∙ ap (λ y. old ++ y ∷ []) is)
    ∙ append_assoc old (place_of x 0 l ∷ []) (back_from (x + 1) (many - (x + 1)) l)
    ∙ ap (λ n. old ++ back_from x n l) (sym n) ∙ h

-- ---- one by one
pub both-lengths : {A B : Type 0} (test : A → B → Bool) (as' : List A) (bs : List B) → length as' ≢ length bs → both test as' bs ≡ false
both-lengths test [] [] h = absurd (h refl)
both-lengths test [] (b ∷ bs) h = refl
both-lengths test (a ∷ as') [] h = refl
both-lengths test (a ∷ as') (b ∷ bs) h = ap (λ x. test a b && x) (both-lengths test as' bs (λ e. h (ap suc e))) ∙ and-false (test a b)
  where
    and-false : (x : Bool) → (x && false) ≡ false
    and-false true = refl
    and-false false = refl

pub ruleset one_by_one = (both-lengths)
