-- Numbers, each at most once: contracts of private functions cite this.
use Rattle.std.specs.Prelude.{◌≡◌, ℕ, Bool, true, false, List, get_or}
use Rattle.u_equal.specs.Standing.{EachOnce, IsIn}

-- the number is there, and so are the others
pub record IsAdded (number : ℕ) (before after : List ℕ) : Type 0 where
  pub here : IsIn number after
  pub still : (other : ℕ) → IsIn other before → IsIn other after

-- ---- marks
-- a number without a place has none
abbrev pub mark_at : List Bool → ℕ → Bool
mark_at marks number = get_or marks number false

abbrev pub SameMarks : List Bool → List Bool → Type 0
SameMarks before after = (number : ℕ) → mark_at after number ≡ mark_at before number

-- those with a mark are there, each once
pub record AreMarked (numbers : List ℕ) (marks : List Bool) : Type 0 where
  pub once : EachOnce numbers
  pub there : (number : ℕ) → mark_at marks number ≡ true → IsIn number numbers
  pub marked : (number : ℕ) → IsIn number numbers → mark_at marks number ≡ true
