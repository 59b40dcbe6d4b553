-- The tests of a list of entries, taken apart: into tests of one entry, and of two.
use Rattle.std.specs.Prelude.{◌≡◌, ℕ, ◌+◌, Bool, true, ◌&&◌, List, [], ◌∷◌, length}
use Rattle.std.specs.Bool.{beq}
use Rattle.std.specs.List.{list_all}
use Rattle.shapes.specs.Shapes.{Point, column, literal, Shape, entry_of}
use Rattle.shapes.specs.Tests.{same_entry, equal, columns_from, literals}
use Rattle.bag_search.specs.Merges.{IsSide}
use Rattle.bag_search.specs.declared.sides.Sides.{Sides}

abbrev pub AreSides : Sides → Type 0
AreSides sides = IsSide sides.left × IsSide sides.right × (sides.literals.now ≡ literals sides.left.shape.now sides.right.shape.now)

-- the point of the same column, where its entry goes to x
abbrev pub moved_to : ℕ → Point → Point
moved_to x (column e c) = column x c
moved_to x (literal a) = literal a

-- p and q are equal in s exactly where p' and q' are in t
abbrev pub like : Shape → Shape → Point → Point → Point → Point → Bool
like s t p p' q q' = beq (equal s p q) (equal t p' q')

-- a point of s that goes to p', with all columns of entry j of s, which goes to y
abbrev pub point_fits : Shape → Shape → Point → Point → ℕ → ℕ → Bool
point_fits s t p p' j y = list_all (λ q. like s t p p' q (moved_to y q)) (columns_from j 0 (entry_of s.entries j).columns)

-- i goes to x, and j to y
abbrev pub pair_fits : Shape → Shape → ℕ → ℕ → ℕ → ℕ → Bool
pair_fits s t i x j y = list_all (λ p. point_fits s t p (moved_to x p) j y) (columns_from i 0 (entry_of s.entries i).columns)

abbrev pub literals_fit : Shape → Shape → Point → Point → Bool
literals_fit s t p p' = list_all (λ a. like s t p p' a a) (literals s t)

abbrev pub entry_fits : Shape → Shape → ℕ → ℕ → Bool
entry_fits s t i x =
    same_entry (entry_of s.entries i) (entry_of t.entries x)
    && list_all (λ p. literals_fit s t p (moved_to x p)) (columns_from i 0 (entry_of s.entries i).columns) && pair_fits s t i x i x

-- the entries from i on go to those of the list, and n to x
abbrev pub fits_with : Shape → Shape → ℕ → List ℕ → ℕ → ℕ → Bool
fits_with s t i [] n x = true
fits_with s t i (y ∷ l) n x = pair_fits s t i y n x && fits_with s t (i + 1) l n x

-- a list that fits still does with x after it
abbrev pub fits_next : Shape → Shape → List ℕ → ℕ → Bool
fits_next s t l x = entry_fits s t (length l) x && fits_with s t 0 l (length l) x

-- the empty list fits
abbrev pub literals_alike : Shape → Shape → Bool
literals_alike s t = list_all (λ a. literals_fit s t a a) (literals s t)
