-- A term has as many sums as its shape's entries have columns: each column of an atom gives a point to one place that had none, and at the
-- end each place has one.
use Rattle.std.proofs.Common.{◌≡◌, ℕ, zero, suc, ◌+◌, true, List, [], ◌∷◌, ◌++◌, length, Some, None, refl, ap, sym, ◌∙◌, arith}
use Rattle.std.specs.Prelude.{slice_get, slice_set, replicate}
use Rattle.std.specs.List.{list_all}
use Rattle.std.proofs.lemmas.Option.{same_Some, none-some}
use Rattle.u_terms.specs.Syntax.{U, Val, Bound, Free, Lit, Fun, Agg}
use Rattle.shapes.specs.Shapes.{Entry, Point, column, Shape}
use Rattle.shapes.specs.Small.{columns_of}
use Rattle.term_shapes.specs.Factors.{Factor, atom, equality, difference, truth, falsehood, other, factors, sum_count, under_sums}
use Rattle.term_shapes.specs.TermShape.{folded, Points, pointed, placed, Atoms, entry_with, with_entry, with_atom, no_atoms, has_point, HasShape}
use Rattle.term_shapes.proofs.Walked.{map-some, then-some, pointed-written}
use Rattle.term_shapes.proofs.Walked.{read-of}

-- the places without a point
abbrev unplaced : Points → ℕ
unplaced [] = 0
unplaced (None ∷ points) = suc (unplaced points)
unplaced (Some p ∷ points) = unplaced points

one-fewer : (points : Points) (place : ℕ) (p : Point) → slice_get points place ≡ Some None → suc (unplaced (slice_set points place (Some p))) ≡ unplaced points
one-fewer [] place p had = absurd (none-some None had)
one-fewer (None ∷ points) zero p had = refl
one-fewer (Some q ∷ points) zero p had = absurd cc
one-fewer (None ∷ points) (suc place) p had = ap suc (one-fewer points place p had)
one-fewer (Some q ∷ points) (suc place) p had = one-fewer points place p had

values-placed : (e c : ℕ) (values : List Val) (points after : Points) → placed e c values points ≡ Some after → unplaced after + length values ≡ unplaced points
values-placed e c [] points after h = omega (arith, ap unplaced (same_Some points after h))
values-placed e c (Bound place ∷ values) points after h =
    let one = then-some (placed e (c + 1) values) (pointed points place (column e c)) after h in
    let w = pointed-written points one.x place (column e c) one.from in
    omega (arith, values-placed e (c + 1) values one.x after one.is, ap unplaced w.is, one-fewer points place (column e c) w.had)
values-placed e c (Free name ∷ values) points after h = absurd (none-some after h)
values-placed e c (Lit a ∷ values) points after h = absurd (none-some after h)
values-placed e c (Fun symbol s args ∷ values) points after h = absurd (none-some after h)
values-placed e c (Agg aggregate body ∷ values) points after h = absurd (none-some after h)

pub columns-more : (entries : List Entry) (entry : Entry) → columns_of (entries ++ entry ∷ []) ≡ columns_of entries + entry.columns
columns-more [] entry = omega arith
columns-more (first ∷ entries) entry = omega (arith, columns-more entries entry)

abbrev counted : Atoms → ℕ
counted a = unplaced a.points + columns_of a.entries

factor-counted : (a b : Atoms) (f : Factor) → with_atom a f ≡ Some b → counted b ≡ counted a
factor-counted a b (atom table values) h =
    let one = map-some (with_entry a.entries (entry_with table values)) (placed (length a.entries) 0 values a.points) b h in
    omega (arith, ap counted one.is, values-placed (length a.entries) 0 values a.points one.x one.from, columns-more a.entries (entry_with table values))
factor-counted a b (equality x y) h = ap counted (sym (same_Some a b h))
factor-counted a b (difference x y) h = ap counted (sym (same_Some a b h))
factor-counted a b (truth symbol values) h = ap counted (sym (same_Some a b h))
factor-counted a b (falsehood symbol values) h = ap counted (sym (same_Some a b h))
factor-counted a b other h = ap counted (sym (same_Some a b h))

factors-counted : (a b : Atoms) (fs : List Factor) → folded with_atom a fs ≡ Some b → counted b ≡ counted a
factors-counted a b [] h = ap counted (sym (same_Some a b h))
factors-counted a b (f ∷ fs) h =
    let one = then-some (λ more. folded with_atom more fs) (with_atom a f) b h in
    factors-counted one.x b fs one.is ∙ factor-counted a one.x f one.from

none-placed : (n : ℕ) → unplaced (replicate n None) ≡ n
none-placed zero = refl
none-placed (suc n) = ap suc (none-placed n)

all-placed : (points : Points) → list_all has_point points ≡ true → unplaced points ≡ 0
all-placed [] full = refl
all-placed (None ∷ points) full = absurd cc
all-placed (Some p ∷ points) full = all-placed points full

pub sums-columns : (outs : ℕ) (w : U) (s : Shape) → HasShape outs w s → sum_count w ≡ columns_of s.entries
sums-columns outs w s h =
    let r = read-of outs w s h in
    omega (
      arith,
      factors-counted (no_atoms (sum_count w)) r.atoms (factors (under_sums w)) r.placed,
      none-placed (sum_count w),
      all-placed r.atoms.points r.full,
      ap (λ (t : Shape). columns_of t.entries) r.is,
    )

pub ruleset laws = (sums-columns)
