-- How many entries, columns, equalities, marks and outputs the walks over a product's factors find, and that no value in a factor has parts.
use Rattle.std.proofs.Common.{◌≡◌, ℕ, zero, suc, ◌+◌, ◌*◌, List, [], ◌∷◌, length, Some, None, refl, ap, sym, subst, ◌∙◌, arith}
use Rattle.std.specs.Prelude.{slice_get, slice_set, option_map, replicate, sum_by}
use Rattle.std.proofs.lemmas.List.{length-append}
use Rattle.std.proofs.lemmas.List.Sums.{sum_by_push}
use Rattle.std.proofs.lemmas.Option.{same_Some, none-some}
use Rattle.data_model.specs.Lists.{Each}
use Rattle.u_terms.specs.Syntax.{U, Val, Bound, Free, Lit, Fun, Agg}
use Rattle.shapes.specs.Options.{both_of}
use Rattle.shapes.specs.Shapes.{Point, column, Kind, holds, fails, differ, Mark, Shape}
use Rattle.shapes.specs.Small.{columns_of}
use Rattle.term_shapes.specs.Factors.{Factor, atom, equality, difference, truth, falsehood, other, factors, sum_count, under_sums}
use Rattle.term_shapes.specs.TermShape.{folded, Points, pointed, placed, Atoms, entry_with, with_entry, with_atom, no_atoms, value_point, value_points, Said, nothing_said, with_equality, with_mark, with_outputs, said_output, said_equality, said_difference, said_mark, with_factor, all_points, HasShape}
use Rattle.term_shapes.proofs.Walked.{both-some, map-some, then-some, pointed-written, read-of}
use Rattle.term_shapes.proofs.Columns.{columns-more}

-- ---- factors whose values have no parts
abbrev pub IsSingle : Val → Type 0
IsSingle (Bound place) = Unit {0}
IsSingle (Free name) = Unit {0}
IsSingle (Lit number) = Unit {0}
IsSingle _ = ⊥

abbrev pub IsFlat : Factor → Type 0
IsFlat (atom table values) = Each IsSingle values
IsFlat (equality a b) = IsSingle a × IsSingle b
IsFlat (difference a b) = IsSingle a × IsSingle b
IsFlat (truth symbol values) = Each IsSingle values
IsFlat (falsehood symbol values) = Each IsSingle values
IsFlat other = ⊥

-- the nodes that such a factor has at most, and one product
abbrev pub room : Factor → ℕ
room (atom table values) = 2 + length values
room (equality a b) = 4
room (difference a b) = 5
room (truth symbol values) = 3 + length values
room (falsehood symbol values) = 3 + length values
room other = 0

abbrev pub rooms : List Factor → ℕ
rooms [] = 0
rooms (f ∷ fs) = room f + rooms fs

-- ---- what was found, and the room for it
abbrev filled : Points → ℕ
filled [] = 0
filled (None ∷ points) = filled points
filled (Some p ∷ points) = suc (filled points)

abbrev point_count : List Mark → ℕ
point_count marks = sum_by (λ mark. length mark.points) marks

abbrev atoms_room : Atoms → ℕ
atoms_room a = 2 * length a.entries + columns_of a.entries

abbrev said_room : Said → ℕ
said_room said = 4 * (length said.equalities + filled said.outputs) + 3 * length said.marks + point_count said.marks

abbrev said_many : Said → ℕ
said_many said = length said.equalities + filled said.outputs + length said.marks

record Grew (r : ℕ) (said more : Said) : Type 0 where
  by_room : r + said_room said ≡ said_room more
  by_one : 1 + said_many said ≡ said_many more

record Counted (r n : ℕ) (a b : Atoms) (said more : Said) : Type 0 where
  by_room : r + atoms_room a + said_room said ≡ atoms_room b + said_room more
  by_many : n + length a.entries + said_many said ≡ length b.entries + said_many more

-- ---- places
one-filled : (points : Points) (place : ℕ) (p : Point) → slice_get points place ≡ Some None → filled (slice_set points place (Some p)) ≡ suc (filled points)
one-filled [] place p had = absurd (none-some None had)
one-filled (None ∷ points) zero p had = refl
one-filled (Some q ∷ points) zero p had = absurd cc
one-filled (None ∷ points) (suc place) p had = one-filled points place p had
one-filled (Some q ∷ points) (suc place) p had = ap suc (one-filled points place p had)

values-placed : (e c : ℕ) (values : List Val) (points after : Points) → placed e c values points ≡ Some after → Each IsSingle values
values-placed e c [] points after h = tt
values-placed e c (Bound place ∷ values) points after h =
    let one = then-some (placed e (c + 1) values) (pointed points place (column e c)) after h in (tt, values-placed e (c + 1) values one.x after one.is)
values-placed e c (Free name ∷ values) points after h = absurd (none-some after h)
values-placed e c (Lit a ∷ values) points after h = absurd (none-some after h)
values-placed e c (Fun symbol s args ∷ values) points after h = absurd (none-some after h)
values-placed e c (Agg aggregate body ∷ values) points after h = absurd (none-some after h)

-- ---- values
value-single : (points : Points) (x : Val) (p : Point) → value_point points x ≡ Some p → IsSingle x
value-single points (Bound place) p h = tt
value-single points (Free name) p h = tt
value-single points (Lit a) p h = tt
value-single points (Fun symbol s args) p h = none-some p h
value-single points (Agg aggregate body) p h = none-some p h

values-single : (points : Points) (xs : List Val) (ps : List Point) → value_points points xs ≡ Some ps → Each IsSingle xs × (length ps ≡ length xs)
values-single points [] ps h = (tt, sym (ap length (same_Some [] ps h)))
values-single points (x ∷ xs) ps h =
    let b = both-some (λ p qs. p ∷ qs) (value_point points x) (value_points points xs) ps h in
    let rest = values-single points xs b.y b.right in
    ((value-single points x b.x b.left, rest.0), sym (ap length b.is) ∙ ap suc rest.1)

-- ---- what a factor says
module _ (points : Points) where
  output-grew : (said more : Said) (name : ℕ) (x : Val) → said_output points said name x ≡ Some more → IsSingle x × Grew 4 said more
  output-grew said more name x h =
      let one = then-some (λ p. option_map (with_outputs said) (pointed said.outputs name p)) (value_point points x) more h in
      let two = map-some (with_outputs said) (pointed said.outputs name one.x) more one.is in
      let w = pointed-written said.outputs two.x name one.x two.from in
      let e : filled two.x ≡ suc (filled said.outputs) = sym (ap filled w.is) ∙ one-filled said.outputs name one.x w.had in
      (value-single points x one.x one.from, subst (Grew 4 said) two.is (record { by_room = omega (arith, e); by_one = omega (arith, e) }))

  points-grew : (said more : Said) (x y : Val) → both_of (with_equality said) (value_point points x) (value_point points y) ≡ Some more → (IsSingle x × IsSingle y) × Grew 4 said more
  points-grew said more x y h =
      let b = both-some (with_equality said) (value_point points x) (value_point points y) more h in
      let e = length-append said.equalities ((b.x, b.y) ∷ []) in
      ((value-single points x b.x b.left, value-single points y b.y b.right), subst (Grew 4 said) b.is (record { by_room = omega (arith, e); by_one = omega (arith, e) }))

  mark-more : (said : Said) (kind : Kind) (ps : List Point) (n : ℕ) → length ps ≡ n → Grew (3 + n) said (with_mark said kind ps)
  mark-more said kind ps n long =
      let m : Mark = record { kind = kind; points = ps } in
      let e = length-append said.marks (m ∷ []) in
      record { by_room = omega (arith, e, long, sum_by_push (λ (mark : Mark). length mark.points) said.marks m); by_one = omega (arith, e) }

  equality-grew : (said more : Said) (x y : Val) → said_equality points said x y ≡ Some more → (IsSingle x × IsSingle y) × Grew 4 said more
  equality-grew said more (Free name) y h = let k = output-grew said more name y h in ((tt, k.0), k.1)
  equality-grew said more x (Free name) h = let k = output-grew said more name x h in ((k.0, tt), k.1)
  equality-grew said more x y h = points-grew said more x y h

  difference-grew : (said more : Said) (x y : Val) → said_difference points said x y ≡ Some more → (IsSingle x × IsSingle y) × Grew 5 said more
  difference-grew said more x y h =
      let b = both-some (λ p q. with_mark said differ (p ∷ q ∷ [])) (value_point points x) (value_point points y) more h in
      ((value-single points x b.x b.left, value-single points y b.y b.right), subst (Grew 5 said) b.is (mark-more said differ (b.x ∷ b.y ∷ []) 2 refl))

  mark-grew : (said more : Said) (kind : Kind) (xs : List Val) → said_mark points said kind xs ≡ Some more → Each IsSingle xs × Grew (3 + length xs) said more
  mark-grew said more kind xs h =
      let m = map-some (with_mark said kind) (value_points points xs) more h in
      let v = values-single points xs m.x m.from in
      (v.0, subst (Grew (3 + length xs) said) m.is (mark-more said kind m.x (length xs) v.1))

  -- ---- a factor, and all
  by-saying : (r : ℕ) (a b : Atoms) (said more : Said) → Some a ≡ Some b → Grew r said more → Counted r 1 a b said more
  by-saying r a b said more e g =
      subst (λ (x : Atoms). Counted r 1 a x said more) (same_Some a b e) (record { by_room = omega (arith, g.by_room); by_many = omega (arith, g.by_one) })

  factor-counted : (a b : Atoms) (said more : Said) (f : Factor) → with_atom a f ≡ Some b → with_factor points said f ≡ Some more → IsFlat f × Counted (room f) 1 a b said more
  factor-counted a b said more (atom table values) h g =
      let one = map-some (with_entry a.entries (entry_with table values)) (placed (length a.entries) 0 values a.points) b h in
      let e = length-append a.entries (entry_with table values ∷ []) in (
        values-placed (length a.entries) 0 values a.points one.x one.from,
        subst (λ (x : Said). Counted (2 + length values) 1 a b said x) (same_Some said more g)
            (subst (λ (x : Atoms). Counted (2 + length values) 1 a x said said) one.is
            (record { by_room = omega (arith, e, columns-more a.entries (entry_with table values)); by_many = omega (arith, e) })),
      )
  factor-counted a b said more (equality x y) h g = let k = equality-grew said more x y g in (k.0, by-saying 4 a b said more h k.1)
  factor-counted a b said more (difference x y) h g = let k = difference-grew said more x y g in (k.0, by-saying 5 a b said more h k.1)
  factor-counted a b said more (truth symbol values) h g = let k = mark-grew said more (holds symbol) values g in (k.0, by-saying (3 + length values) a b said more h k.1)
  factor-counted a b said more (falsehood symbol values) h g = let k = mark-grew said more (fails symbol) values g in (k.0, by-saying (3 + length values) a b said more h k.1)
  factor-counted a b said more other h g = absurd (none-some more g)

  factors-counted : (a b : Atoms) (said more : Said) (fs : List Factor) → folded with_atom a fs ≡ Some b → folded (with_factor points) said fs ≡ Some more
      → Each IsFlat fs × Counted (rooms fs) (length fs) a b said more
  factors-counted a b said more [] h g = (
    tt,
    subst (λ (x : Said). Counted 0 0 a b said x) (same_Some said more g)
        (subst (λ (x : Atoms). Counted 0 0 a x said said) (same_Some a b h) (record { by_room = omega arith; by_many = omega arith })),
  )
  factors-counted a b said more (f ∷ fs) h g =
      let one = then-some (λ m. folded with_atom m fs) (with_atom a f) b h in
      let two = then-some (λ m. folded (with_factor points) m fs) (with_factor points said f) more g in
      let first = factor-counted a one.x said two.x f one.from two.from in
      let rest = factors-counted one.x b two.x more fs one.is two.is in
      ((first.0, rest.0), record { by_room = omega (arith, first.1.by_room, rest.1.by_room); by_many = omega (arith, first.1.by_many, rest.1.by_many) })

-- ---- outputs
none-filled : (n : ℕ) → filled (replicate n None) ≡ 0
none-filled zero = refl
none-filled (suc n) = none-filled n

all-filled : (points : Points) (ps : List Point) → all_points points ≡ Some ps → filled points ≡ length ps
all-filled [] ps h = ap length (same_Some [] ps h)
all-filled (None ∷ points) ps h = absurd (none-some ps h)
all-filled (Some p ∷ points) ps h =
    let b = both-some (λ q qs. q ∷ qs) (Some p) (all_points points) ps h in ap suc (all-filled points b.y b.right) ∙ ap length b.is

-- ---- a term that has a shape
pub record IsCounted (fs : List Factor) (s : Shape) : Type 0 where
  pub flat : Each IsFlat fs
  pub by_room : rooms fs ≡ 2 * length s.entries + columns_of s.entries + 4 * (length s.equalities + length s.outputs) + 3 * length s.marks + sum_by (λ mark. length mark.points) s.marks
  pub by_many : length fs ≡ length s.entries + (length s.equalities + length s.outputs) + length s.marks

pub counted : (outs : ℕ) (w : U) (s : Shape) → HasShape outs w s → IsCounted (factors (under_sums w)) s
counted outs w s h =
    let r = read-of outs w s h in
    let k = factors-counted r.atoms.points (no_atoms (sum_count w)) r.atoms (nothing_said outs) r.said (factors (under_sums w)) r.placed r.told in
    let none : filled (replicate outs None) ≡ 0 = none-filled outs in
    let all = all-filled r.said.outputs r.outputs r.all in
    subst (IsCounted (factors (under_sums w))) r.is (record { flat = k.0; by_room = omega (arith, k.1.by_room, none, all); by_many = omega (arith, k.1.by_many, none, all) })
