-- The literals that equalities hold, one equality after the other.
use Rattle.std.proofs.Common.{◌≡◌, List, [], ◌∷◌, ◌++◌, refl, ap, sym, ◌∙◌, append_assoc}
use Rattle.std.specs.List.{filter}
use Rattle.shapes.specs.Shapes.{Point, column, literal, Shape, sides}
use Rattle.shapes.specs.Tests.{literals, is_literal}

filter-append : (ps qs : List Point) → filter is_literal (ps ++ qs) ≡ filter is_literal ps ++ filter is_literal qs
filter-append [] qs = refl
filter-append (column e c ∷ ps) qs = filter-append ps qs
filter-append (literal a ∷ ps) qs = ap (λ (l : List Point). literal a ∷ l) (filter-append ps qs)

pub sides-step : (found f g : List Point) (e : Point × Point) (es : List (Point × Point)) → f ≡ found ++ filter is_literal (e.0 ∷ []) → g ≡ f ++ filter is_literal (e.1 ∷ [])
    → g ++ filter is_literal (sides es) ≡ found ++ filter is_literal (sides (e ∷ es))
sides-step found f g e es h k =
    ap (λ (l : List Point). l ++ filter is_literal (sides es)) (k ∙ ap (λ (l : List Point). l ++ filter is_literal (e.1 ∷ [])) h)
    ∙ append_assoc (found ++ filter is_literal (e.0 ∷ [])) (filter is_literal (e.1 ∷ [])) (filter is_literal (sides es))
    ∙ append_assoc found (filter is_literal (e.0 ∷ [])) (filter is_literal (e.1 ∷ []) ++ filter is_literal (sides es))
    ∙ ap (λ (l : List Point). found ++ l) (ap (λ (l : List Point). filter is_literal (e.0 ∷ []) ++ l) (sym (filter-append (e.1 ∷ []) (sides es))) ∙ sym (filter-append (e.0 ∷ []) (e.1 ∷ sides es)))

pub ruleset one_more = (sides-step)

pub sides-both : (s t : Shape) (f g : List Point) → f ≡ [] ++ filter is_literal (sides s.equalities) → g ≡ f ++ filter is_literal (sides t.equalities) → g ≡ literals s t
sides-both s t f g h k = k ∙ ap (λ (l : List Point). l ++ filter is_literal (sides t.equalities)) h ∙ sym (filter-append (sides s.equalities) (sides t.equalities))

pub ruleset of_both = (sides-both)
