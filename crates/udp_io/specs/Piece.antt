-- A piece of a text that is taken from a store.
use Rattle.std.specs.Prelude.{◌≡◌, ℕ, List, ◌++◌, Option, length}
use Rattle.std.specs.Io.KnownBytes.{Consumes, IsAtEnd}

-- count bytes were taken from what was left and put at the end of a text that grows; none were only where none was left
pub record TakesPiece (left_old left_new : Option (List ℕ)) (old new : List ℕ) (count : ℕ) : Type 0 where
  pub piece : List ℕ
  pub grown : new ≡ old ++ piece
  pub taken : Consumes left_old left_new piece
  pub counted : length piece ≡ count
  pub end : count ≡ 0 → IsAtEnd left_old
