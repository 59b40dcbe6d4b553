-- The laws, in the forms of src/laws.rt.
use Rattle.std.proofs.Common.{◌≡◌, true, List, [], ◌∷◌, refl, subst, sym, inl}
use Rattle.std.specs.Prelude.{◌↔◌}
use Rattle.shapes.specs.Shapes.{Point, column, literal, Kind, holds, fails, differ, Mark, Shape, MarkIn}
use Rattle.shapes.specs.Tests.{equal}
use Rattle.shapes.specs.Alike.{Equal, itself, moved, Pairwise, none, one_more, SamePoints, FoundMark, Pairing, Alike}
use Rattle.shapes.proofs.Least.{tested, shown}
use Rattle.shapes.proofs.Equivalence.{alike-back, alike-through}
use Rattle.shapes.proofs.Decides as decides

moved-same : (p : Point) → moved (λ e. e) p ≡ p
moved-same (column e c) = refl
moved-same (literal a) = refl

all-same : (s : Shape) (ps : List Point) → Pairwise (λ p q. Equal s (moved (λ e. e) p) q) ps ps
all-same s [] = none
all-same s (p ∷ ps) = one_more (subst (λ (q : Point). Equal s q p) (sym (moved-same p)) (itself p)) (all-same s ps)

points-same : (s : Shape) (kind : Kind) (ps : List Point) → SamePoints kind (λ p q. Equal s (moved (λ e. e) p) q) ps ps
points-same s (holds p) ps = all-same s ps
points-same s (fails p) ps = all-same s ps
points-same s differ ps = inl (all-same s ps)

found-same : (s : Shape) (m : Mark) → MarkIn m s.marks → FoundMark s s (λ e. e) m
found-same s m i = record { mark = m; is_in = i; kind = refl; same = points-same s m.kind m.points }

paired-itself : (s : Shape) → Pairing s s (λ e. e) (λ e. e)
paired-itself s = record {
  as_many = refl;
  forth_in = λ e less. less;
  back_in = λ e less. less;
  back_forth = λ e less. refl;
  forth_back = λ e less. refl;
  tables = λ e less. refl;
  classes = λ p q i j. (
    λ h. subst (λ (x : Point). Equal s x (moved (λ e. e) q)) (sym (moved-same p)) (subst (λ (y : Point). Equal s p y) (sym (moved-same q)) h),
    λ h. subst (λ (x : Point). Equal s x q) (moved-same p) (subst (λ (y : Point). Equal s (moved (λ e. e) p) y) (moved-same q) h),
  );
  outputs = all-same s s.outputs;
  marks_forth = found-same s;
  marks_back = found-same s;
}

pub alike-itself : (s : Shape) → Alike s s
alike-itself s = record { forth = λ e. e; back = λ e. e; paired = paired-itself s }

pub equal-points : (s : Shape) (p q : Point) → (equal s p q ≡ true) ↔ Equal s p q
equal-points s p q = (shown s p q, tested s p q)

pub ruleset laws = (equal-points, alike-itself, alike-back, alike-through, decides.found, decides.nothing, decides.tried-bounded)
