-- The points of a shape that a term has are columns of its entries, or literals.
use Rattle.std.proofs.Common.{◌≡◌, ℕ, zero, suc, ◌+◌, ◌<◌, Bool, true, false, List, [], ◌∷◌, ◌++◌, length, Option, Some, None, refl, ap, sym, subst, arith}
use Rattle.std.specs.Prelude.{slice_get, slice_set, replicate, option_map, option_and_then, unwrap_or, if◌then◌else◌}
use Rattle.std.proofs.lemmas.List.{length-append}
use Rattle.std.specs.List.{list_all}
use Rattle.u_terms.specs.Syntax.{U, Val, Bound, Free, Lit, Fun, Agg}
use Rattle.shapes.specs.Options.{both_of}
use Rattle.shapes.specs.Shapes.{Entry, Point, column, literal, Kind, Mark, Shape, entry_of, sides, differ, holds, fails, IsPoint, IsIn, AllIn, MarkIn, here, there, In, first, later, IsWhole}
use Rattle.term_shapes.specs.Factors.{Factor, atom, equality, difference, truth, falsehood, other, factors, sum_count, under_sums}
use Rattle.term_shapes.specs.TermShape.{folded, Points, pointed, placed, Atoms, entry_with, with_entry, with_atom, no_atoms, at_place, value_point, value_points, Said, nothing_said, with_equality, with_mark, with_outputs, said_output, said_equality, said_difference, said_mark, with_factor, all_points, shape_said, shape_of_atoms, term_shape, has_point}

some-same : {X : Type 0} (x y : X) → (let o : Option X = Some x in o) ≡ Some y → x ≡ y
some-same x y e = ap (λ o. unwrap_or o y) e

abbrev IsSome : {X : Type 0} → Option X → Type 0
IsSome None = ⊥
IsSome (Some x) = Unit {0}

none-some : {X : Type 0} {A : Type 0} (x : X) → (let o : Option X = None in o) ≡ Some x → A
none-some x e = absurd (subst IsSome (sym e) tt)

-- ---- lists of points
abbrev All : List Entry → List Point → Type 0
All es [] = Unit {0}
All es (p ∷ ps) = IsPoint es p × All es ps

entry-more : (es : List Entry) (e : Entry) (i : ℕ) → i < length es → entry_of (es ++ e ∷ []) i ≡ entry_of es i
entry-more [] e i less = absurd (omega arith)
entry-more (d ∷ es) e zero less = refl
entry-more (d ∷ es) e (suc i) less = entry-more es e i (omega (arith, less))

entry-last : (es : List Entry) (e : Entry) → entry_of (es ++ e ∷ []) (length es) ≡ e
entry-last [] e = refl
entry-last (d ∷ es) e = entry-last es e

point-more : (es : List Entry) (e : Entry) (p : Point) → IsPoint es p → IsPoint (es ++ e ∷ []) p
point-more es e (column i c) h = (omega (arith, h.0, length-append es (e ∷ [])), subst (λ (d : Entry). c < d.columns) (sym (entry-more es e i h.0)) h.1)
point-more es e (literal a) h = tt

-- ---- tables of points
abbrev AreIn : List Entry → Points → Type 0
AreIn es points = (k : ℕ) (p : Point) → slice_get points k ≡ Some (Some p) → IsPoint es p

set-cases : (es : List Entry) (points : Points) (at : ℕ) (x : Point) → IsPoint es x → AreIn es points → AreIn es (slice_set points at (Some x))
set-cases es [] at x i all k p e = all k p e
set-cases es (y ∷ points) zero x i all zero p e = subst (IsPoint es) (some-same x p (some-same (Some x) (Some p) e)) i
set-cases es (y ∷ points) zero x i all (suc k) p e = all (suc k) p e
set-cases es (y ∷ points) (suc at) x i all zero p e = all zero p e
set-cases es (y ∷ points) (suc at) x i all (suc k) p e = set-cases es points at x i (λ j q d. all (suc j) q d) k p e

none-in : (es : List Entry) (n : ℕ) → AreIn es (replicate n None)
none-in es zero zero p e = none-some (Some p) e
none-in es zero (suc k) p e = none-some (Some p) e
none-in es (suc n) zero p e = none-some p (some-same None (Some p) e)
none-in es (suc n) (suc k) p e = none-in es n k p e

-- one point more
pointed-in : (es : List Entry) (points after : Points) (place : ℕ) (x : Point) → pointed points place x ≡ Some after → IsPoint es x → AreIn es points → AreIn es after
pointed-in es points after place x h i all = at (slice_get points place) h
  where
    at : (o : Option (Option Point)) → (elim o as (λ _. Option Points) [ None ↦ None | Some (Some p) ↦ None | Some None ↦ Some (slice_set points place (Some x)) ]) ≡ Some after → AreIn es after
    at None g = none-some after g
    at (Some (Some p)) g = none-some after g
    at (Some None) g = subst (AreIn es) (some-same (slice_set points place (Some x)) after g) (set-cases es points place x i all)

placed-in : (es : List Entry) (e c : ℕ) (values : List Val) (before after : Points) → placed e c values before ≡ Some after
    → ((d : ℕ) → d < length values → IsPoint es (column e (c + d))) → AreIn es before → AreIn es after
placed-in es e c [] before after h new all = subst (AreIn es) (some-same before after h) all
placed-in es e c (Bound place ∷ values) before after h new all = at (pointed before place (column e c)) refl h (λ more g k. placed-in es e (c + 1) values more after g
    (λ d less. let col : c + suc d ≡ c + 1 + d = omega arith in subst (λ n. IsPoint es (column e n)) col (new (suc d) (omega (arith, less)))) k)
  where
    first_in : IsPoint es (column e c)
    first_in = let col : c + 0 ≡ c = omega arith in subst (λ n. IsPoint es (column e n)) col (new 0 (omega arith))

    at : (o : Option Points) → pointed before place (column e c) ≡ o → option_and_then (placed e (c + 1) values) o ≡ Some after
        → ((more : Points) → placed e (c + 1) values more ≡ Some after → AreIn es more → AreIn es after) → AreIn es after
    at None d g next = none-some after g
    at (Some more) d g next = next more g (pointed-in es before more place (column e c) d first_in all)
placed-in es e c (Free name ∷ values) before after h new all = none-some after h
placed-in es e c (Lit a ∷ values) before after h new all = none-some after h
placed-in es e c (Fun symbol s args ∷ values) before after h new all = none-some after h
placed-in es e c (Agg aggregate body ∷ values) before after h new all = none-some after h

abbrev AtomsIn : Atoms → Type 0
AtomsIn a = AreIn a.entries a.points

atom-in : (a b : Atoms) (f : Factor) → with_atom a f ≡ Some b → AtomsIn a → AtomsIn b
atom-in a b (atom table values) h all = at (placed (length a.entries) 0 values a.points) refl h
  where
    at : (o : Option Points) → placed (length a.entries) 0 values a.points ≡ o → option_map (with_entry a.entries (entry_with table values)) o ≡ Some b → AtomsIn b
    at None e g = none-some b g
    at (Some after) e g =
        subst AtomsIn (some-same (with_entry a.entries (entry_with table values) after) b g)
        (placed-in (a.entries ++ (entry_with table values) ∷ []) (length a.entries) 0 values a.points after e
        (λ d less. (omega (arith, length-append a.entries ((entry_with table values) ∷ [])), subst (λ (x : Entry). 0 + d < x.columns) (sym (entry-last a.entries (entry_with table values))) (omega (arith, less))))
        (λ k p e'. point-more a.entries (entry_with table values) p (all k p e')))
atom-in a b (equality x y) h all = subst AtomsIn (some-same a b h) all
atom-in a b (difference x y) h all = subst AtomsIn (some-same a b h) all
atom-in a b (truth symbol values) h all = subst AtomsIn (some-same a b h) all
atom-in a b (falsehood symbol values) h all = subst AtomsIn (some-same a b h) all
atom-in a b other h all = subst AtomsIn (some-same a b h) all

-- what each step keeps, the fold keeps
fold-keeps : {S X : Type 0} (step : S → X → Option S) (P : S → Type 0) → ((s t : S) (x : X) → step s x ≡ Some t → P s → P t) → (s t : S) (xs : List X) → folded step s xs ≡ Some t → P s → P t
fold-keeps step P keep s t [] h p = subst P (some-same s t h) p
fold-keeps {S = S} step P keep s t (x ∷ xs) h p = fold-on step P s x xs t (λ m e q. fold-keeps step P keep m t xs e q) (λ m e. keep s m x e p) (step s x) refl h
  where
    fold-on : {S X : Type 0} (step : S → X → Option S) (P : S → Type 0) (s : S) (x : X) (xs : List X) (t : S) → ((m : S) → folded step m xs ≡ Some t → P m → P t) → ((m : S) → step s x ≡ Some m → P m)
        → (o : Option S) → step s x ≡ o → option_and_then (λ more. folded step more xs) o ≡ Some t → P t
    fold-on step P s x xs t rest one None e h = none-some t h
    fold-on step P s x xs t rest one (Some m) e h = rest m h (one m e)

-- ---- values
value-in : (es : List Entry) (points : Points) → AreIn es points → (x : Val) (p : Point) → value_point points x ≡ Some p → IsPoint es p
value-in es points all (Bound place) p h = at (slice_get points place) refl h
  where
    at : (o : Option (Option Point)) → slice_get points place ≡ o → at_place o ≡ Some p → IsPoint es p
    at None e g = none-some p g
    at (Some None) e g = none-some p g
    at (Some (Some q)) e g = subst (IsPoint es) (some-same q p g) (all place q e)
value-in es points all (Free name) p h = none-some p h
value-in es points all (Lit a) p h = subst (IsPoint es) (some-same (literal a) p h) tt
value-in es points all (Fun symbol s args) p h = none-some p h
value-in es points all (Agg aggregate body) p h = none-some p h

values-in : (es : List Entry) (points : Points) → AreIn es points → (xs : List Val) (ps : List Point) → value_points points xs ≡ Some ps → All es ps
values-in es points all [] ps h = subst (All es) (some-same [] ps h) tt
values-in es points all (x ∷ xs) ps h = at (value_point points x) (value_points points xs) refl refl h (λ qs e. values-in es points all xs qs e)
  where
    at : (o : Option Point) (l : Option (List Point)) → value_point points x ≡ o → value_points points xs ≡ l → both_of (λ p qs. p ∷ qs) o l ≡ Some ps → ((qs : List Point) → value_points points xs ≡ Some qs → All es qs) → All es ps
    at None l e d g rest = none-some ps g
    at (Some p) None e d g rest = none-some ps g
    at (Some p) (Some qs) e d g rest = subst (All es) (some-same (p ∷ qs) ps g) (value-in es points all x p e, rest qs d)

-- ---- what the factors say
abbrev EqualitiesIn : List Entry → List (Point × Point) → Type 0
EqualitiesIn es [] = Unit {0}
EqualitiesIn es (e ∷ equalities) = IsPoint es e.0 × IsPoint es e.1 × EqualitiesIn es equalities

abbrev MarksIn : List Entry → List Mark → Type 0
MarksIn es [] = Unit {0}
MarksIn es (m ∷ ms) = All es m.points × MarksIn es ms

abbrev SaidIn : List Entry → Said → Type 0
SaidIn es said = EqualitiesIn es said.equalities × MarksIn es said.marks × AreIn es said.outputs

equality-more : (es : List Entry) (l : List (Point × Point)) (p q : Point) → EqualitiesIn es l → IsPoint es p → IsPoint es q → EqualitiesIn es (l ++ (p, q) ∷ [])
equality-more es [] p q all i j = (i, j, tt)
equality-more es (e ∷ l) p q all i j = (all.0, all.1, equality-more es l p q all.2 i j)

mark-more : (es : List Entry) (l : List Mark) (m : Mark) → MarksIn es l → All es m.points → MarksIn es (l ++ m ∷ [])
mark-more es [] m all i = (i, tt)
mark-more es (n ∷ l) m all i = (all.0, mark-more es l m all.1 i)

module _ (es : List Entry) (points : Points) (all : AreIn es points) where
  output-in : (said more : Said) (name : ℕ) (x : Val) → said_output points said name x ≡ Some more → SaidIn es said → SaidIn es more
  output-in said more name x h k = at (value_point points x) refl h
    where
      set : (p : Point) → IsPoint es p → (o : Option Points) → pointed said.outputs name p ≡ o → option_map (with_outputs said) o ≡ Some more → SaidIn es more
      set p i None e g = none-some more g
      set p i (Some after) e g = subst (SaidIn es) (some-same (with_outputs said after) more g) (k.0, k.1, pointed-in es said.outputs after name p e i k.2)

      at : (o : Option Point) → value_point points x ≡ o → option_and_then (λ p. option_map (with_outputs said) (pointed said.outputs name p)) o ≡ Some more → SaidIn es more
      at None e g = none-some more g
      at (Some p) e g = set p (value-in es points all x p e) (pointed said.outputs name p) refl g

  both-in : (said more : Said) (x y : Val) → both_of (with_equality said) (value_point points x) (value_point points y) ≡ Some more → SaidIn es said → SaidIn es more
  both-in said more x y h k = at (value_point points x) (value_point points y) refl refl h
    where
      at : (o o' : Option Point) → value_point points x ≡ o → value_point points y ≡ o' → both_of (with_equality said) o o' ≡ Some more → SaidIn es more
      at None o' e d g = none-some more g
      at (Some p) None e d g = none-some more g
      at (Some p) (Some q) e d g =
          subst (SaidIn es) (some-same (with_equality said p q) more g) (equality-more es said.equalities p q k.0 (value-in es points all x p e) (value-in es points all y q d), k.1, k.2)

  difference-in : (said more : Said) (x y : Val) → said_difference points said x y ≡ Some more → SaidIn es said → SaidIn es more
  difference-in said more x y h k = at (value_point points x) (value_point points y) refl refl h
    where
      at : (o o' : Option Point) → value_point points x ≡ o → value_point points y ≡ o' → both_of (λ p q. with_mark said differ (p ∷ q ∷ [])) o o' ≡ Some more → SaidIn es more
      at None o' e d g = none-some more g
      at (Some p) None e d g = none-some more g
      at (Some p) (Some q) e d g =
          subst (SaidIn es) (some-same (with_mark said differ (p ∷ q ∷ [])) more g)
          (k.0, mark-more es said.marks (record { kind = differ; points = p ∷ q ∷ [] }) k.1 (value-in es points all x p e, (value-in es points all y q d, tt)), k.2)

  mark-in : (said more : Said) (kind : Kind) (xs : List Val) → said_mark points said kind xs ≡ Some more → SaidIn es said → SaidIn es more
  mark-in said more kind xs h k = at (value_points points xs) refl h
    where
      at : (o : Option (List Point)) → value_points points xs ≡ o → option_map (with_mark said kind) o ≡ Some more → SaidIn es more
      at None e g = none-some more g
      at (Some ps) e g =
          subst (SaidIn es) (some-same (with_mark said kind ps) more g) (k.0, mark-more es said.marks (record { kind = kind; points = ps }) k.1 (values-in es points all xs ps e), k.2)

  equality-in : (said more : Said) (x y : Val) → said_equality points said x y ≡ Some more → SaidIn es said → SaidIn es more
  equality-in said more (Free name) y h k = output-in said more name y h k
  equality-in said more (Bound a) (Free name) h k = output-in said more name (Bound a) h k
  equality-in said more (Lit a) (Free name) h k = output-in said more name (Lit a) h k
  equality-in said more (Fun f s args) (Free name) h k = output-in said more name (Fun f s args) h k
  equality-in said more (Agg f body) (Free name) h k = output-in said more name (Agg f body) h k
  equality-in said more (Bound a) (Bound b) h k = both-in said more (Bound a) (Bound b) h k
  equality-in said more (Bound a) (Lit b) h k = both-in said more (Bound a) (Lit b) h k
  equality-in said more (Bound a) (Fun g s' args') h k = both-in said more (Bound a) (Fun g s' args') h k
  equality-in said more (Bound a) (Agg g body') h k = both-in said more (Bound a) (Agg g body') h k
  equality-in said more (Lit a) (Bound b) h k = both-in said more (Lit a) (Bound b) h k
  equality-in said more (Lit a) (Lit b) h k = both-in said more (Lit a) (Lit b) h k
  equality-in said more (Lit a) (Fun g s' args') h k = both-in said more (Lit a) (Fun g s' args') h k
  equality-in said more (Lit a) (Agg g body') h k = both-in said more (Lit a) (Agg g body') h k
  equality-in said more (Fun f s args) (Bound b) h k = both-in said more (Fun f s args) (Bound b) h k
  equality-in said more (Fun f s args) (Lit b) h k = both-in said more (Fun f s args) (Lit b) h k
  equality-in said more (Fun f s args) (Fun g s' args') h k = both-in said more (Fun f s args) (Fun g s' args') h k
  equality-in said more (Fun f s args) (Agg g body') h k = both-in said more (Fun f s args) (Agg g body') h k
  equality-in said more (Agg f body) (Bound b) h k = both-in said more (Agg f body) (Bound b) h k
  equality-in said more (Agg f body) (Lit b) h k = both-in said more (Agg f body) (Lit b) h k
  equality-in said more (Agg f body) (Fun g s' args') h k = both-in said more (Agg f body) (Fun g s' args') h k
  equality-in said more (Agg f body) (Agg g body') h k = both-in said more (Agg f body) (Agg g body') h k

  factor-in : (said more : Said) (f : Factor) → with_factor points said f ≡ Some more → SaidIn es said → SaidIn es more
  factor-in said more (atom table xs) h k = subst (SaidIn es) (some-same said more h) k
  factor-in said more (equality x y) h k = equality-in said more x y h k
  factor-in said more (difference x y) h k = difference-in said more x y h k
  factor-in said more (truth symbol xs) h k = mark-in said more (holds symbol) xs h k
  factor-in said more (falsehood symbol xs) h k = mark-in said more (fails symbol) xs h k
  factor-in said more other h k = none-some more h

-- ---- outputs
outputs-in : (es : List Entry) (points : Points) (ps : List Point) → all_points points ≡ Some ps → AreIn es points → All es ps
outputs-in es [] ps h all = subst (All es) (some-same [] ps h) tt
outputs-in es (o ∷ points) ps h all = at o (all_points points) refl h (λ p e. all 0 p (ap Some e)) (λ qs e. outputs-in es points qs e (λ k. all (suc k)))
  where
    at : (o' : Option Point) (l : Option (List Point)) → all_points points ≡ l → both_of (λ p qs. p ∷ qs) o' l ≡ Some ps → ((p : Point) → o' ≡ Some p → IsPoint es p)
        → ((qs : List Point) → all_points points ≡ Some qs → All es qs) → All es ps
    at None l d g one rest = none-some ps g
    at (Some p) None d g one rest = none-some ps g
    at (Some p) (Some qs) d g one rest = subst (All es) (some-same (p ∷ qs) ps g) (one p refl, rest qs d)

-- ---- the shape
inside : (es : List Entry) (p : Point) → IsPoint es p → IsIn (length es) p
inside es (column e c) h = h.0
inside es (literal a) h = tt

all-inside : (es : List Entry) (ps : List Point) → All es ps → AllIn (length es) ps
all-inside es [] h = tt
all-inside es (p ∷ ps) h = (inside es p h.0, all-inside es ps h.1)

marks-inside : (es : List Entry) (ms : List Mark) → MarksIn es ms → (m : Mark) → MarkIn m ms → AllIn (length es) m.points
marks-inside es ms h m i = go ms h i
  where
    go : (ms : List Mark) → MarksIn es ms → MarkIn m ms → AllIn (length es) m.points
    go [] h i = elim i [ ]
    go (n ∷ ms) h here = all-inside es m.points h.0
    go (n ∷ ms) h (there i) = go ms h.1 i

sides-inside : (es : List Entry) (l : List (Point × Point)) → EqualitiesIn es l → (p : Point) → In p (sides l) → IsPoint es p
sides-inside es [] h p i = elim i [ ]
sides-inside es (e ∷ l) h p first = h.0
sides-inside es (e ∷ l) h p (later first) = h.1
sides-inside es (e ∷ l) h p (later (later i)) = sides-inside es l h.2 p i

shape-whole : (es : List Entry) (said : Said) (ps : List Point) → SaidIn es said → All es ps → IsWhole (shape_said es said ps)
shape-whole es said ps k all = record {
  shape = record { outputs_in = all-inside es ps all; marks_in = marks-inside es said.marks k.1 };
  sides_in = sides-inside es said.equalities k.0;
}

atoms-whole : (outs : ℕ) (fs : List Factor) (a : Atoms) (s : Shape) → shape_of_atoms outs fs a ≡ Some s → AtomsIn a → IsWhole s
atoms-whole outs fs a s h all = at (list_all has_point a.points) (folded (with_factor a.points) (nothing_said outs) fs) refl h
  where
    ends : (said : Said) (o : Option (List Point)) → all_points said.outputs ≡ o → SaidIn a.entries said → option_map (shape_said a.entries said) o ≡ Some s → IsWhole s
    ends said None e k g = none-some s g
    ends said (Some ps) e k g = subst IsWhole (some-same (shape_said a.entries said ps) s g) (shape-whole a.entries said ps k (outputs-in a.entries said.outputs ps e k.2))

    at : (b : Bool) (o : Option Said) → folded (with_factor a.points) (nothing_said outs) fs ≡ o
        → (if b then option_and_then (λ said. option_map (shape_said a.entries said) (all_points said.outputs)) o else None) ≡ Some s → IsWhole s
    at false o e g = none-some s g
    at true None e g = none-some s g
    at true (Some said) e g =
        ends said (all_points said.outputs) refl (fold-keeps (with_factor a.points) (SaidIn a.entries) (factor-in a.entries a.points all) (nothing_said outs) said fs e (tt, tt, none-in a.entries outs)) g

pub shapes-whole : (outs : ℕ) (w : U) (s : Shape) → term_shape outs w ≡ Some s → IsWhole s
unfolding term_shape
shapes-whole outs w s h = at (folded with_atom (no_atoms (sum_count w)) (factors (under_sums w))) refl h
  where
    at : (o : Option Atoms) → folded with_atom (no_atoms (sum_count w)) (factors (under_sums w)) ≡ o → option_and_then (shape_of_atoms outs (factors (under_sums w))) o ≡ Some s → IsWhole s
    at None e g = none-some s g
    at (Some a) e g = atoms-whole outs (factors (under_sums w)) a s g (fold-keeps with_atom AtomsIn atom-in (no_atoms (sum_count w)) a (factors (under_sums w)) e (none-in [] (sum_count w)))

pub ruleset laws = (shapes-whole)
