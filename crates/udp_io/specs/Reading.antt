-- What reading does to what is left of the selected text, in a store that tells its texts. Of a store that does not
-- tell what was left these facts say nothing.
use Rattle.std.specs.Prelude.{◌≡◌, ℕ, ◌≤◌, ◌⊎◌, ◌↔◌, List, [], Option, Result, IfOk, IfSome, MatchResult, length, take}
use Rattle.std.specs.Io.KnownBytes.{Keeps, Consumes}

-- the whole of the text is left
abbrev pub IsAllLeft : Option (List ℕ) → Option (List ℕ) → Type 0
IsAllLeft text left = Keeps text left

-- `take(buf)` moved the first n bytes of what was left to the front of `buf` at `Ok(n)`, and nothing at `Err`
abbrev pub TakesFirst : {E : Type 0} → Option (List ℕ) → Option (List ℕ) → Result ℕ E → List ℕ → Type 0
TakesFirst old new result buf = MatchResult result (λ n. Consumes old new (take n buf)) (λ _. Keeps old new)

-- `take(buf)` answered 0 exactly where `buf` had no room or nothing was left
abbrev pub IsZeroAtEnd : {E : Type 0} → Option (List ℕ) → Result ℕ E → List ℕ → Type 0
IsZeroAtEnd left result buf = IfOk result (λ n. IfSome left (λ rest. (n ≡ 0) ↔ ((length buf ≡ 0) ⊎ (rest ≡ []))))

-- the first bytes of what was left were taken, and at most this many
pub record TakesAtMost (old new : Option (List ℕ)) (most : ℕ) : Type 0 where
  pub piece : List ℕ
  pub taken : Consumes old new piece
  pub within : length piece ≤ most
