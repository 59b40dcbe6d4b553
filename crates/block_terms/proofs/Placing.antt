-- The places of a block's columns, the last of which is the innermost, and the points that the atoms give them.
use Rattle.std.proofs.Common.{◌≡◌, ◌≢◌, ℕ, zero, suc, ◌+◌, ◌-◌, ◌<◌, ◌≤◌, List, [], ◌∷◌, length, Option, Some, None, refl, ap, ◌∙◌, arith}
use Rattle.std.specs.Prelude.{slice_get, slice_set, option_and_then}
use Rattle.u_terms.specs.declared.term.Val.TheVariants as v
use Rattle.u_terms.specs.Syntax.{Val}
use Rattle.shapes.specs.Shapes.{Point, column}
use Rattle.term_shapes.specs.TermShape.{Points, placed}
use Rattle.term_shapes.proofs.Reading.{pointed-empty}

-- the places from `top - 1` downwards
abbrev pub places_below : ℕ → ℕ → List Val
places_below top zero = []
places_below top (suc many) = v.Bound (top - 1) ∷ places_below (top - 1) many

-- ---- a place that gets a point
set-same : (points : Points) (p : ℕ) (x : Option Point) → p < length points → slice_get (slice_set points p x) p ≡ Some x
set-same [] p x less = absurd (omega arith)
set-same (y ∷ points) zero x less = refl
set-same (y ∷ points) (suc p) x less = set-same points p x (omega (arith, less))

pub set-other : (points : Points) (p q : ℕ) (x : Option Point) → p ≢ q → slice_get (slice_set points p x) q ≡ slice_get points q
set-other [] p q x apart = refl
set-other (y ∷ points) zero zero x apart = absurd (apart refl)
set-other (y ∷ points) zero (suc q) x apart = refl
set-other (y ∷ points) (suc p) zero x apart = refl
set-other (y ∷ points) (suc p) (suc q) x apart = set-other points p q x (λ e. apart (ap suc e))

within : (points : Points) (p : ℕ) (x : Option Point) → slice_get points p ≡ Some x → p < length points
within [] zero x h = absurd (grind (arith, h))
within [] (suc p) x h = absurd (grind (arith, h))
within (y ∷ points) zero x h = omega arith
within (y ∷ points) (suc p) x h = let k = within points p x h in omega (arith, k)

-- the places below `free` have no point
abbrev pub AreFree : ℕ → Points → Type 0
AreFree free points = (p : ℕ) → p < free → slice_get points p ≡ Some None

placed-next : (e c place : ℕ) (rest : List Val) (points : Points) → slice_get points place ≡ Some None
    → placed e c (v.Bound place ∷ rest) points ≡ placed e (c + 1) rest (slice_set points place (Some (column e c)))
placed-next e c place rest points h = ap (option_and_then (placed e (c + 1) rest)) (pointed-empty points place (column e c) h)

-- what placing so many columns, from column c of entry e on, at the places below `top` comes to
pub record ArePlaced (e c top many : ℕ) (before after : Points) : Type 0 where
  pub free : AreFree (top - many) after
  pub new : (d : ℕ) → d < many → slice_get after (top - 1 - d) ≡ Some (Some (column e (c + d)))
  pub kept : (p : ℕ) → top ≤ p → slice_get after p ≡ slice_get before p

pub record PlacedTo (e c top many : ℕ) (before : Points) : Type 0 where
  pub after : Points
  pub is : placed e c (places_below top many) before ≡ Some after
  pub placed_so : ArePlaced e c top many before after

pub places-go : (e c top many : ℕ) (before : Points) → many ≤ top → AreFree top before → PlacedTo e c top many before
places-go e c top zero before most free = record {
  after = before;
  is = refl;
  placed_so = record {
    free = λ p less. free p (omega (arith, less));
    new = λ d less. absurd (omega (arith, less));
    kept = λ p low. refl;
  };
}
places-go e c top (suc many) before most free =
    let here : slice_get before (top - 1) ≡ Some None = free (top - 1) (omega (arith, most)) in
    let next : Points = slice_set before (top - 1) (Some (column e c)) in
    let rest = places-go e (c + 1) (top - 1) many (slice_set before (top - 1) (Some (column e c))) (omega (arith, most))
    (λ p less. set-other before (top - 1) p (Some (column e c)) (omega (arith, less)) ∙ free p (omega (arith, less))) in
    record {
      after = rest.after;
      is = placed-next e c (top - 1) (places_below (top - 1) many) before here ∙ rest.is;
      placed_so = record {
        free = λ p less. rest.placed_so.free p (omega (arith, less));
        new = λ d less. new_at d less rest.placed_so here;
        kept = λ p low. rest.placed_so.kept p (omega (arith, low)) ∙ set-other before (top - 1) p (Some (column e c)) (omega (arith, low, most));
      };
    }
  where
    new_at : (d : ℕ) → d < suc many → {after : Points} → ArePlaced e (c + 1) (top - 1) many (slice_set before (top - 1) (Some (column e c))) after → slice_get before (top - 1) ≡ Some None
        → slice_get after (top - 1 - d) ≡ Some (Some (column e (c + d)))
    new_at zero less {after = after} rest here =
        let place : top - 1 - 0 ≡ top - 1 = omega arith in
        let col : c ≡ c + 0 = omega arith in
        ap (slice_get after) place ∙ rest.kept (top - 1) (omega arith) ∙ set-same before (top - 1) (Some (column e c)) (within before (top - 1) None here) ∙ ap (λ n. Some (Some (column e n))) col
    new_at (suc d) less {after = after} rest here =
        let place : top - 1 - suc d ≡ top - 1 - 1 - d = omega arith in
        let col : c + 1 + d ≡ c + suc d = omega arith in
        ap (slice_get after) place ∙ rest.new d (omega (arith, less)) ∙ ap (λ n. Some (Some (column e n))) col
