-- When two shapes are alike.
use Rattle.std.specs.Prelude.{◌≡◌, ℕ, ◌<◌, ◌↔◌, ◌⊎◌, List, [], ◌∷◌, length}
use Rattle.shapes.specs.Shapes.{Point, column, literal, Kind, differ, Mark, Shape, entry_of, turned, MarkIn, IsIn}

pub data Given : List (Point × Point) → Point → Point → Type 0 where
  given_first : {e : Point × Point} {es : List (Point × Point)} → Given (e ∷ es) e.0 e.1
  given_later : {e : Point × Point} {es : List (Point × Point)} {p q : Point} → Given es p q → Given (e ∷ es) p q

-- the least equivalence that holds the equalities
pub data EqualBy (equalities : List (Point × Point)) : Point → Point → Type 0 where
  itself : (p : Point) → EqualBy equalities p p
  given : (p q : Point) → Given equalities p q → EqualBy equalities p q
  other_way : (p q : Point) → EqualBy equalities p q → EqualBy equalities q p
  through : (p q r : Point) → EqualBy equalities p q → EqualBy equalities q r → EqualBy equalities p r

abbrev pub Equal : Shape → Point → Point → Type 0
Equal s = EqualBy s.equalities

-- the same column of another entry; literals stay
abbrev pub moved : (ℕ → ℕ) → Point → Point
moved f (column e c) = column (f e) c
moved f (literal a) = literal a

-- one by one, and as many
pub data Pairwise (P : Point → Point → Type 0) : List Point → List Point → Type 0 where
  none : Pairwise P [] []
  one_more : {p q : Point} {ps qs : List Point} → P p q → Pairwise P ps qs → Pairwise P (p ∷ ps) (q ∷ qs)

-- one by one, or for a negated equality in either order
abbrev pub SamePoints : Kind → (Point → Point → Type 0) → List Point → List Point → Type 0
SamePoints differ P ps qs = Pairwise P ps qs ⊎ Pairwise P (turned ps) qs
SamePoints kind P ps qs = Pairwise P ps qs

-- a mark of t of the same sign and symbol, whose points are equal to those of a mark of s, moved
pub record FoundMark (s t : Shape) (f : ℕ → ℕ) (m : Mark) : Type 0 where
  pub mark : Mark
  pub is_in : MarkIn mark t.marks
  pub kind : mark.kind ≡ m.kind
  pub same : SamePoints m.kind (λ p q. Equal t (moved f p) q) m.points mark.points

-- A bijection of entries, `forth` with its inverse `back`, that keeps tables, carries equal points onto equal points, and outputs and marks to
-- equal ones.
pub record Pairing (s t : Shape) (forth back : ℕ → ℕ) : Type 0 where
  pub as_many : length s.entries ≡ length t.entries
  pub forth_in : (e : ℕ) → e < length s.entries → forth e < length t.entries
  pub back_in : (e : ℕ) → e < length t.entries → back e < length s.entries
  pub back_forth : (e : ℕ) → e < length s.entries → back (forth e) ≡ e
  pub forth_back : (e : ℕ) → e < length t.entries → forth (back e) ≡ e
  pub tables : (e : ℕ) → e < length s.entries → entry_of t.entries (forth e) ≡ entry_of s.entries e
  pub classes : (p q : Point) → IsIn (length s.entries) p → IsIn (length s.entries) q → Equal s p q ↔ Equal t (moved forth p) (moved forth q)
  pub outputs : Pairwise (λ p q. Equal t (moved forth p) q) s.outputs t.outputs
  pub marks_forth : (m : Mark) → MarkIn m s.marks → FoundMark s t forth m
  pub marks_back : (m : Mark) → MarkIn m t.marks → FoundMark t s back m

pub record Alike (s t : Shape) : Type 0 where
  pub forth : ℕ → ℕ
  pub back : ℕ → ℕ
  pub paired : Pairing s t forth back
