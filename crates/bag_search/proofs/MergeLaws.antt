-- What stands for a point after all merges is what stands for its class.
use Rattle.std.proofs.Common.{◌≡◌, List, [], ◌∷◌, ◌++◌, refl, ap, ◌∙◌}
use Rattle.std.specs.Prelude.{if◌then◌else◌}
use Rattle.shapes.specs.Shapes.{Point, Shape}
use Rattle.shapes.specs.Tests.{same_point, stands_for, equal}
use Rattle.bag_search.specs.declared.points.Merge.{Merge}
use Rattle.bag_search.specs.Merges.{representative, merges_of}

one-more : (ms : List Merge) (m : Merge) (p : Point) → representative (ms ++ m ∷ []) p ≡ (if same_point (representative ms p) m.from then m.to else representative ms p)
one-more [] m p = refl
one-more (n ∷ ms) m p = one-more ms m (if same_point p n.from then n.to else p)

stands : (es : List (Point × Point)) (p : Point) → representative (merges_of es) p ≡ stands_for es p
stands [] p = refl
stands (e ∷ es) p =
    one-more (merges_of es) (record { from = representative (merges_of es) e.1; to = representative (merges_of es) e.0 }) p
    ∙ ap (λ (q : Point). if same_point q (representative (merges_of es) e.1) then representative (merges_of es) e.0 else q) (stands es p)
    ∙ ap (λ (q : Point). if same_point (stands_for es p) q then representative (merges_of es) e.0 else stands_for es p) (stands es e.1)
    ∙ ap (λ (q : Point). if same_point (stands_for es p) (stands_for es e.1) then q else stands_for es p) (stands es e.0)

pub merged-equal : (s : Shape) (p q : Point) → same_point (representative (merges_of s.equalities) p) (representative (merges_of s.equalities) q) ≡ equal s p q
merged-equal s p q =
    ap (λ (x : Point). same_point x (representative (merges_of s.equalities) q)) (stands s.equalities p)
    ∙ ap (λ (y : Point). same_point (stands_for s.equalities p) y) (stands s.equalities q)

pub ruleset laws = (merged-equal)
