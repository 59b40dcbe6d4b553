-- The lines of a text: each ends with a line feed, but for a last one that is not empty.
use Rattle.std.specs.Prelude.{ℕ, ◌+◌, ◌≡◌, Bool, true, false, List, [], ◌∷◌, ◌++◌}
use Rattle.data_model.specs.Lists.{Each}

-- a line with its line feed, where it has one
abbrev pub fed : List ℕ → Bool → List ℕ
fed bytes true = bytes ++ 10 ∷ []
fed bytes false = bytes

-- the text that is left, and how many lines were before
pub record Unread : Type 0 where
  pub number : ℕ
  pub text : List ℕ

pub record IsNextLine (before : Unread) (bytes : List ℕ) (number : ℕ) (ended : Bool) (after : Unread) : Type 0 where
  pub some : before.text ≡ [] → ⊥
  pub text : before.text ≡ fed bytes ended ++ after.text
  pub unbroken : Each (λ byte. byte ≡ 10 → ⊥) bytes
  pub last : ended ≡ false → after.text ≡ []
  pub counted : number ≡ before.number + 1
  pub count : after.number ≡ number

-- The lines of a text, in order, each with its line feed. The last one may have none, and is then not empty.
pub data AreLines : List ℕ → List (List ℕ) → Type 0 where
  none : AreLines [] []
  first : (bytes : List ℕ) {text : List ℕ} {lines : List (List ℕ)} → Each (λ byte. byte ≡ 10 → ⊥) bytes → AreLines text lines
      → AreLines (fed bytes true ++ text) (fed bytes true ∷ lines)
  last : {bytes : List ℕ} → Each (λ byte. byte ≡ 10 → ⊥) bytes → (bytes ≡ [] → ⊥) → AreLines bytes (fed bytes false ∷ [])

-- the lines of a text that end in it, in order, and the bytes behind the last of them
pub data AreEnded : List ℕ → List (List ℕ) → List ℕ → Type 0 where
  nothing : {rest : List ℕ} → AreEnded rest [] rest
  line : (bytes : List ℕ) {text : List ℕ} {lines : List (List ℕ)} {rest : List ℕ} → Each (λ byte. byte ≡ 10 → ⊥) bytes → AreEnded text lines rest
      → AreEnded (fed bytes true ++ text) (fed bytes true ∷ lines) rest
