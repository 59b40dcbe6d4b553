-- Values that are there, by how they came to be, and what both walks over the factors of a term that has a shape came to.
use Rattle.std.proofs.Common.{◌≡◌, ℕ, Bool, true, false, List, Option, Some, None, refl}
use Rattle.std.specs.Prelude.{slice_get, slice_set, option_map, option_and_then, if◌then◌else◌}
use Rattle.std.specs.List.{list_all}
use Rattle.std.proofs.lemmas.Option.{same_Some, none-some}
use Rattle.u_terms.specs.Syntax.{U}
use Rattle.shapes.specs.Options.{both_of}
use Rattle.shapes.specs.Shapes.{Point, Shape}
use Rattle.term_shapes.specs.Factors.{factors, sum_count, under_sums}
use Rattle.term_shapes.specs.TermShape.{Points, pointed, Atoms, no_atoms, with_atom, Said, nothing_said, with_factor, folded, has_point, all_points, shape_said, shape_of_atoms, term_shape, HasShape}

-- ---- options
pub record Both {X Y Z : Type 0} (f : X → Y → Z) (a : Option X) (b : Option Y) (z : Z) : Type 0 where
  pub x : X
  pub y : Y
  pub left : a ≡ Some x
  pub right : b ≡ Some y
  pub is : f x y ≡ z

pub both-some : {X Y Z : Type 0} (f : X → Y → Z) (a : Option X) (b : Option Y) (z : Z) → both_of f a b ≡ Some z → Both f a b z
both-some f (Some x) (Some y) z e = record { x = x; y = y; left = refl; right = refl; is = same_Some (f x y) z e }
both-some f None b z e = absurd (none-some z e)
both-some f (Some x) None z e = absurd (none-some z e)

pub record From {X Z : Type 0} (f : X → Z) (a : Option X) (z : Z) : Type 0 where
  pub x : X
  pub from : a ≡ Some x
  pub is : f x ≡ z

pub map-some : {X Z : Type 0} (f : X → Z) (a : Option X) (z : Z) → option_map f a ≡ Some z → From f a z
map-some f (Some x) z e = record { x = x; from = refl; is = same_Some (f x) z e }
map-some f None z e = absurd (none-some z e)

pub then-some : {X Z : Type 0} (f : X → Option Z) (a : Option X) (z : Z) → option_and_then f a ≡ Some z → From f a (Some z)
then-some f (Some x) z e = record { x = x; from = refl; is = e }
then-some f None z e = absurd (none-some z e)

-- a place that got its point had none
pub record Written (points after : Points) (place : ℕ) (p : Point) : Type 0 where
  pub had : slice_get points place ≡ Some None
  pub is : slice_set points place (Some p) ≡ after

pub pointed-written : (points after : Points) (place : ℕ) (p : Point) → pointed points place p ≡ Some after → Written points after place p
pointed-written points after place p h = at (slice_get points place) refl h
  where
    at : (o : Option (Option Point)) → slice_get points place ≡ o → (elim o as (λ _. Option Points) [ None ↦ None | Some (Some q) ↦ None | Some None ↦ Some (slice_set points place (Some p)) ]) ≡ Some after
        → Written points after place p
    at None e g = absurd (none-some after g)
    at (Some (Some q)) e g = absurd (none-some after g)
    at (Some None) e g = record { had = e; is = same_Some (slice_set points place (Some p)) after g }

-- ---- a term that has a shape
if-some : {X : Type 0} (b : Bool) (o : Option X) (x : X) → (if b then o else None) ≡ Some x → o ≡ Some x
if-some true o x h = h
if-some false o x h = absurd (none-some x h)

if-true : {X : Type 0} (b : Bool) (o : Option X) (x : X) → (if b then o else None) ≡ Some x → b ≡ true
if-true true o x h = refl
if-true false o x h = absurd (none-some x h)

-- both walks over the factors of a term
pub record IsRead (outs : ℕ) (w : U) (s : Shape) : Type 0 where
  pub atoms : Atoms
  pub said : Said
  pub outputs : List Point
  pub full : list_all has_point atoms.points ≡ true
  pub placed : folded with_atom (no_atoms (sum_count w)) (factors (under_sums w)) ≡ Some atoms
  pub told : folded (with_factor atoms.points) (nothing_said outs) (factors (under_sums w)) ≡ Some said
  pub all : all_points said.outputs ≡ Some outputs
  pub is : shape_said atoms.entries said outputs ≡ s

pub read-of : (outs : ℕ) (w : U) (s : Shape) → HasShape outs w s → IsRead outs w s
unfolding term_shape
read-of outs w s h =
    let one = then-some (shape_of_atoms outs (factors (under_sums w))) (folded with_atom (no_atoms (sum_count w)) (factors (under_sums w))) s h in
    let two = then-some (λ (said : Said). option_map (shape_said one.x.entries said) (all_points said.outputs)) (folded (with_factor one.x.points) (nothing_said outs) (factors (under_sums w))) s
    (if-some (list_all has_point one.x.points) _ s one.is) in
    let three = map-some (shape_said one.x.entries two.x) (all_points two.x.outputs) s two.is in
    record { atoms = one.x; said = two.x; outputs = three.x; full = if-true (list_all has_point one.x.points) _ s one.is; placed = one.from; told = two.from; all = three.from; is = three.is }
